use Rattle.sml_lex.proofs.Unique.{not-both}
use Rattle.sml_lex.proofs.never_both.Goals as goal

pub returns : goal.returns
returns c = λ script ts r d e. not-both d e
