-- The items on top of the values that acts make.
use Rattle.std.proofs.Common.{◌≡◌, List, [], ◌∷◌, refl, ap, sym}
use Rattle.sml_syntax.specs.declared.tree.Dec.{Dec}
use Rattle.sml_grammar.specs.declared.act.Made.{Made}
use Rattle.parse_values.specs.declared.value.Val.{Val}
use Rattle.parse_values.specs.declared.value.Val.TheVariants as v
use Rattle.parse_values.specs.declared.value.DecVal.TheVariants as dv
use Rattle.parse_values.specs.Values.{on_decs}
use Rattle.parse_build.specs.Building.{apply_all, items_of, program_of}

-- where nothing can be made of declarations on top, there are none
items_none : (vs : List Val) → ((f : List Dec → List Val → List Val) → on_decs f vs ≡ []) → [] ≡ items_of vs
unfolding on_decs
items_none (v.Dec (dv.Many ds) ∷ vs) h = absurd (cc (h (λ es ws. v.Dec (dv.Many es) ∷ ws)))
items_none _ h = refl

pub built_none : (acts : List Made) → ((f : List Dec → List Val → List Val) → on_decs f (apply_all acts []) ≡ []) → [] ≡ program_of acts
unfolding program_of
built_none acts h = items_none (apply_all acts []) h

pub built_some : (acts : List Made) (vs : List Val) (ds : List Dec) → apply_all acts [] ≡ v.Dec (dv.Many ds) ∷ vs → ds ≡ program_of acts
unfolding program_of
built_some acts vs ds e = sym (ap items_of e)
