-- Acts that build, one act more.
use Rattle.std.proofs.Common.{◌≡◌, List, [], ◌∷◌, ◌++◌, refl}
use Rattle.sml_grammar.specs.declared.act.Made.{Made}
use Rattle.parse_values.specs.declared.value.Val.{Val}
use Rattle.parse_build.specs.Building.{apply, apply_all}

pub apply_last : (ms : List Made) (m : Made) (vs : List Val) → apply_all (ms ++ m ∷ []) vs ≡ apply m.act m.to (apply_all ms vs)
unfolding apply_all
apply_last [] m vs = refl
apply_last (n ∷ ns) m vs = apply_last ns m (apply n.act n.to vs)
