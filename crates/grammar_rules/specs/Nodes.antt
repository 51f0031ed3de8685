-- Nodes of trees with their spans, and the derived form of a function of several patterns.
-- The Definition of Standard ML, appendix A: derived forms.
use Rattle.std.specs.Prelude.{ℕ, zero, suc, ◌+◌, ◌-◌, nat_lt, cond, List, [], ◌∷◌, codes}
use Rattle.std.specs.Fmt.{decimal}
use Rattle.sml_syntax.specs.declared.token.Token.{Token}
use Rattle.sml_syntax.specs.declared.tree.Span.{Span}
use Rattle.sml_syntax.specs.declared.tree.Exp.{Exp, roll-Exp}
use Rattle.sml_syntax.specs.declared.tree.ExpForm.{ExpForm}
use Rattle.sml_syntax.specs.declared.tree.ExpForm.TheVariants as e
use Rattle.sml_syntax.specs.declared.tree.Pat.{Pat, roll-Pat}
use Rattle.sml_syntax.specs.declared.tree.PatForm.{PatForm}
use Rattle.sml_syntax.specs.declared.tree.PatForm.TheVariants as p
use Rattle.sml_syntax.specs.declared.tree.Ty.{Ty, roll-Ty}
use Rattle.sml_syntax.specs.declared.tree.TyForm.{TyForm}
use Rattle.sml_syntax.specs.declared.tree.Dec.{Dec, roll-Dec}
use Rattle.sml_syntax.specs.declared.tree.DecForm.{DecForm}
use Rattle.sml_syntax.specs.declared.tree.DecForm.TheVariants as d
use Rattle.sml_syntax.specs.declared.tree.Rule.{Rule, roll-Rule}

abbrev pub span_of : ℕ → ℕ → Span
span_of from to = record { from = from; to = to }

abbrev pub exp_at : Span → ExpForm → Exp
exp_at span form = roll-Exp (record { span = span; form = form })

abbrev pub pat_at : Span → PatForm → Pat
pat_at span form = roll-Pat (record { span = span; form = form })

abbrev pub ty_at : Span → TyForm → Ty
ty_at span form = roll-Ty (record { span = span; form = form })

abbrev pub dec_at : Span → DecForm → Dec
dec_at span form = roll-Dec (record { span = span; form = form })

abbrev pub rule_of : Pat → Exp → Rule
rule_of pat body = roll-Rule (record { pat = pat; body = body })

-- the first byte of the first token, and the end of the last one
abbrev pub first_of : List Token → ℕ
first_of [] = 0
first_of (t ∷ ts) = t.span.from

abbrev pub last_after : ℕ → List Token → ℕ
last_after to [] = to
last_after to (t ∷ ts) = last_after t.span.to ts

abbrev pub last_of : List Token → ℕ
last_of ts = last_after 0 ts

-- where tokens stand, all of them
abbrev pub extent : List Token → Span
extent ts = span_of (first_of ts) (last_of ts)

-- the place of an antiquoted name, behind its `^`
unfoldable pub name_place : Span → ℕ
name_place span = cond (nat_lt span.from span.to) (span.from + 1) span.from

-- an infix application is that of the name to a pair
abbrev pub infix_exp : Span → Exp → Exp → Exp → Exp
infix_exp span operator left right = exp_at span (e.App operator (exp_at span (e.Tuple (left ∷ right ∷ []))))

-- the pattern `left :: right`
abbrev pub cons_pat : Span → Pat → Pat → Pat
cons_pat span left right = pat_at span (p.Con (codes "::") (pat_at span (p.Tuple (left ∷ right ∷ []))))

-- an expression as a declaration: `val it = exp`
abbrev pub it_dec : Span → Exp → Dec
it_dec span body = dec_at span (d.Val ((pat_at span (p.Name (codes "it")), body) ∷ []))

-- the names of numbers from `first` on, which no user can write
unfoldable pub numbers : Span → ℕ → ℕ → List Exp
numbers span first zero = []
numbers span first (suc count) = exp_at span (e.Name (decimal first)) ∷ numbers span (suc first) count

-- a rule whose pattern is the name of a number
abbrev pub number_rule : Span → ℕ → Exp → Rule
number_rule span number body = rule_of (pat_at span (p.Name (decimal number))) body

-- a function of the name of a number
abbrev pub number_fn : Span → ℕ → Exp → Exp
number_fn span number body = exp_at span (e.Fn (number_rule span number body ∷ []))

-- functions of the names of numbers from `first` on, one inside the other
unfoldable pub nested : Span → ℕ → ℕ → Exp → Exp
nested span first zero body = body
nested span first (suc count) body = number_fn span first (nested span (suc first) count body)

-- the one rule of a function of several patterns: a function of each name after the first, around a `case` on the tuple of all
unfoldable pub curried : Span → ℕ → List Rule → Rule
curried span count rules =
    number_rule span 1 (nested span 2 (count - 1) (exp_at span (e.Case (exp_at span (e.Tuple (numbers span 1 count))) rules)))

-- the rules of a function whose clauses have so many patterns
abbrev pub function_rules : Span → ℕ → List Rule → List Rule
function_rules span count rules = cond (nat_lt 1 count) (curried span count rules ∷ []) rules

-- the pattern of a clause: its only one, or the tuple of several
abbrev pub clause_pat : Span → Pat → List Pat → Pat
clause_pat span first [] = first
clause_pat span first (next ∷ more) = pat_at span (p.Tuple (first ∷ next ∷ more))
