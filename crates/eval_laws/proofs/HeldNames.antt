-- A function holds a variable that hides a constructor of the basis.
use Rattle.std.proofs.Common.{◌≡◌, List, [], ◌∷◌, codes, ap}
use Rattle.sml_syntax.specs.declared.tree.Span.{Span}
use Rattle.sml_evaluation.specs.declared.value.Value.{Value}
use Rattle.sml_evaluation.specs.declared.value.Bound.{roll-Bound}
use Rattle.sml_evaluation.specs.declared.value.Bound.TheOpen.{Bound-F}
use Rattle.sml_evaluation.specs.Values.{Env}
use Rattle.sml_evaluation.specs.Evaluation.{held_names, held_by}
use Rattle.eval_laws.specs.Examples as x
use Rattle.eval_laws.proofs.StandingNames.{everything}
use Rattle.eval_laws.proofs.StandingNames as k

module _ (at : Span) (v : Value) where
  abbrev hidden : Env
  hidden = (codes "NONE", roll-Bound (Bound-F.Variable v)) ∷ []

  abbrev rules : List (k.KnownRule at)
  rules = k.rule at (k.variable at (codes "NONE")) (k.text at (codes "any")) ∷ k.rule at (k.any at) (k.text at (codes "other")) ∷ []

  pub holds : held_by hidden (x.any_or_other at) ≡ hidden
  unfolding everything
  holds = ap (λ ns. held_names ns hidden) (k.stand_in at rules)
