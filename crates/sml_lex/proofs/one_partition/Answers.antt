use Rattle.sml_lex.proofs.Unique.{one-partition}
use Rattle.sml_lex.proofs.one_partition.Goals as goal

pub returns : goal.returns
returns c = λ script ts us d e. one-partition d e
