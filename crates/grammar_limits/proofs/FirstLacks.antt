-- The first lack of a program.
use Rattle.std.proofs.Common.{◌≡◌, ℕ, List, [], ◌∷◌, ◌++◌, None, refl, ap, sym, ◌∙◌, subst}
use Rattle.sml_syntax.specs.declared.tree.Program.{Program}
use Rattle.sml_syntax.specs.declared.token.Token.{Token}
use Rattle.sml_syntax.specs.NestedTypes.{Found}
use Rattle.sml_grammar.specs.declared.act.Made.{Made}
use Rattle.parse_limits.specs.Lacks.{first_lack, lack_from, lack_of, begins_datatypes, ends_datatypes}
use Rattle.grammar_rules.specs.Grammar.{items, decs_tree}
use Rattle.grammar_trees.specs.Tells.{Tells}
use Rattle.grammar_limits.specs.Finds.{lowest, Finds}
use Rattle.grammar_limits.specs.Laws.{whole, LackAs, TellsLacks}
use Rattle.grammar_limits.proofs.Lowest.{f-act, lowest-found}
use Rattle.grammar_limits.proofs.Found.{finds}
use Rattle.grammar_limits.proofs.Datatypes.{datatypes-find}
use Rattle.grammar_limits.proofs.LookBack.{arguments-told}

append_nil : (ms : List Made) → ms ++ [] ≡ ms
append_nil [] = refl
append_nil (m ∷ ms) = ap (λ z. m ∷ z) (append_nil ms)

by-lowest : (lacks : List Found) → LackAs lacks (lowest None lacks)
by-lowest [] = refl
by-lowest (l ∷ ls) = let r = lowest-found l ls in subst (λ z. LackAs (l ∷ ls) z) (sym r.1) r.2

lowest-of : {new : List Made} {lacks : List Found} → Finds new lacks → first_lack new ≡ lowest None lacks
unfolding first_lack lack_from
lowest-of {new} {lacks} p = ap (λ z. lack_from None [] [] z) (sym (append_nil new)) ∙ p.finds None [] []

-- the search over the acts of a program finds the lowest of its lacks
pub lowest_lack : (tokens : List Token) (program : Program) (lacks : List Found) (new : List Made) (to : ℕ) → Tells items 0 tokens (decs_tree program.items) lacks new → first_lack (whole to new) ≡ lowest None lacks
unfolding lack_of begins_datatypes ends_datatypes
lowest_lack tokens program lacks new to d = lowest-of (f-act (λ b. refl) (λ m. refl) (finds (datatypes-find arguments-told) d))

pub tells_lacks : TellsLacks
tells_lacks tokens program lacks new to d = subst (λ z. LackAs lacks z) (sym (lowest_lack tokens program lacks new to d)) (by-lowest lacks)
