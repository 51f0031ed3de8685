use Rattle.std.proofs.Common.{◌≡◌, ◌++◌, ◌∷◌, [], take}
use Rattle.std.specs.Prelude.{codes}
use Rattle.sml_syntax.specs.declared.token.TokenForm.TheVariants as f
use Rattle.print_laws.specs.Printing.{behind_mark}
use Rattle.sml_print.proofs.definitions.print_more_vars.Given as goal

abbrev pub invariant-loop-name : goal.invariant-loop-name
invariant-loop-name l = l.forms ≡ l.fn.forms ++ behind_mark (codes ",") (λ name. f.TyVar name ∷ []) (take l.name-index l.names)
