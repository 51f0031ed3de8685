use Rattle.sml_lex.proofs.Unique.{one-refusal}
use Rattle.sml_lex.proofs.one_refusal.Goals as goal

pub returns : goal.returns
returns c = λ script q r d e. one-refusal d e
