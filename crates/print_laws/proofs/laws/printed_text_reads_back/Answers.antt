use Rattle.print_laws.proofs.FitKept.{reads_back}
use Rattle.print_laws.proofs.laws.printed_text_reads_back.Goals as goal

pub returns : goal.returns
returns c = λ script x h. reads_back script x h
