use Rattle.print_laws.proofs.Reading.{programs_read_back}
use Rattle.print_laws.proofs.laws.printed_programs_have_their_tree.Goals as goal

pub returns : goal.returns
returns c = λ ts us x h d e. programs_read_back ts us x h d e
