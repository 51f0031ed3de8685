use Rattle.std.proofs.Common.{◌≡◌, ◌++◌, ◌∷◌, take}
use Rattle.std.specs.Prelude.{codes, flat_map}
use Rattle.sml_syntax.specs.declared.token.TokenForm.TheVariants as f
use Rattle.print_laws.specs.Printing.{behind_mark, ty_forms, put_ty}
use Rattle.sml_print.proofs.types.+printed_types.Given as goal

abbrev pub invariant-print_con-loop-ty : goal.invariant-print_con-loop-ty
invariant-print_con-loop-ty l = l.forms ≡ l.initial.forms ++ behind_mark (codes ",") ty_forms (take l.ty-index l.more)

abbrev pub invariant-print_starred-loop-ty : goal.invariant-print_starred-loop-ty
invariant-print_starred-loop-ty l = l.forms ≡ l.initial.forms ++ flat_map (λ t. f.Name (codes "*") ∷ put_ty 2 t) (take l.ty-index l.more)
