use Rattle.print_laws.proofs.Reading.{types_read_back, patterns_read_back, declarations_read_back}
use Rattle.print_laws.proofs.laws.printed_parts_read_back.Goals as goal

pub returns-clause-types : goal.returns-clause-types
returns-clause-types c = λ v ts us x h d e. types_read_back v ts us x h d e

pub returns-clause-patterns : goal.returns-clause-patterns
returns-clause-patterns c = λ ts us x h d e. patterns_read_back ts us x h d e

pub returns-clause-declarations : goal.returns-clause-declarations
returns-clause-declarations c = λ i ts us x h d e. declarations_read_back i ts us x h d e
