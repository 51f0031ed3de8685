use Rattle.print_laws.proofs.Reading.{expressions_read_back}
use Rattle.print_laws.proofs.laws.printed_expressions_read_back.Goals as goal

pub returns : goal.returns
returns c = λ o ts us x h d e. expressions_read_back o ts us x h d e
