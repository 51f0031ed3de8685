-- Heights of the forms that stand for several nodes at once.
use Rattle.std.proofs.Common.{◌≡◌, ℕ, zero, suc, ◌+◌, ◌-◌, ◌≤◌, max, min, List, [], ◌∷◌, codes, ap, sym, ◌∙◌, subst, arith}
use Rattle.std.specs.Fmt.{decimal}
use Rattle.sml_syntax.specs.declared.tree.Span.{Span}
use Rattle.sml_syntax.specs.declared.tree.Exp.{Exp}
use Rattle.sml_syntax.specs.declared.tree.ExpForm.TheVariants as e
use Rattle.sml_syntax.specs.declared.tree.Pat.{Pat}
use Rattle.sml_syntax.specs.declared.tree.PatForm.TheVariants as p
use Rattle.sml_syntax.specs.declared.tree.Rule.{Rule, out-roll-Rule}
use Rattle.sml_syntax.specs.declared.tree.Piece.{out-Piece, out-roll-Piece}
use Rattle.sml_syntax.specs.declared.tree.Piece.TheVariants as piece
use Rattle.sml_syntax.specs.declared.tree.DecForm.TheOpen.{Piece-F}
use Rattle.grammar_rules.specs.Nodes.{exp_at, pat_at, rule_of, infix_exp, cons_pat, numbers, number_rule, nested, curried}
use Rattle.grammar_rules.specs.Programs.{Each, PatFits, PatFormFits, ExpFits, ExpFormFits, DecFits, RuleFits, PieceFits, TyFits}
use Rattle.grammar_limits.specs.Grows.{Fit}
use Rattle.grammar_limits.proofs.Fits.{own, other, one, two, gathered, at-least, moved}
use Rattle.grammar_limits.proofs.Nodes as nodes

-- a rule
pub rule-to : (n : ℕ) (P : Exp → Type 0) (left : Pat) (body : Exp) → PatFits n left → P body → RuleFits n P (rule_of left body)
rule-to n P left body a b = subst (λ z. PatFits n z.pat × P z.body) (sym (out-roll-Rule (record { pat = left; body = body }))) (a, b)

pub rule-from : (n : ℕ) (P : Exp → Type 0) (left : Pat) (body : Exp) → RuleFits n P (rule_of left body) → PatFits n left × P body
rule-from n P left body a = subst (λ z. PatFits n z.pat × P z.body) (out-roll-Rule (record { pat = left; body = body })) a

-- pieces of a quotation
plain-opens : (text : List ℕ) → out-Piece (piece.Plain text) ≡ Piece-F.Plain text
plain-opens text = ap out-Piece (sym (piece.rolls-Plain text)) ∙ out-roll-Piece (Piece-F.Plain text)

anti-opens : (x : Exp) → out-Piece (piece.Anti x) ≡ Piece-F.Anti x
anti-opens x = ap out-Piece (sym (piece.rolls-Anti x)) ∙ out-roll-Piece (Piece-F.Anti x)

pub plain : (P : Exp → Type 0) (text : List ℕ) → PieceFits P (out-Piece (piece.Plain text))
plain P text = subst (λ z. PieceFits P z) (sym (plain-opens text)) tt

pub anti-to : (P : Exp → Type 0) (x : Exp) → P x → PieceFits P (out-Piece (piece.Anti x))
anti-to P x a = subst (λ z. PieceFits P z) (sym (anti-opens x)) a

pub anti-from : (P : Exp → Type 0) (x : Exp) → PieceFits P (out-Piece (piece.Anti x)) → P x
anti-from P x a = subst (λ z. PieceFits P z) (anti-opens x) a

-- names
pub pat-low : (n : ℕ) (x : Pat) → PatFits n x → 1 ≤ n
pat-low zero x a = absurd a
pat-low (suc n) x a = omega arith

pub exp-low : (n : ℕ) (x : Exp) → ExpFits n x → 1 ≤ n
exp-low zero x a = absurd a
exp-low (suc n) x a = omega arith

not-zero : 1 ≤ 0 → ⊥
not-zero e = omega (arith, e)

pub name-pat : (n : ℕ) (span : Span) (name : List ℕ) → 1 ≤ n → PatFits n (pat_at span (p.Name name))
name-pat zero span name l = absurd (not-zero l)
name-pat (suc n) span name l = subst (λ y. PatFormFits (PatFits n) (TyFits n) y) (sym (nodes.pat-opens (p.Name name) span (nodes.pat-name name))) tt

-- the name of an infix application and its operands
infix-height : (l r : ℕ) → 1 ≤ l → min (1 + max 0 (max (min (1 + max 0 (max r (max l 0))) 201) (max 1 0))) 201 ≡ min (2 + max 0 (max r (max 1 (max l 0)))) 201
infix-height l r e = omega (arith, e)

pub infix-fit : {l r : ℕ} (span place : Span) (name : List ℕ) (left right : Exp) → Fit l (λ n. ExpFits n left) → Fit r (λ n. ExpFits n right) → Fit (min (2 + max 0 (max r (max 1 (max l 0)))) 201) (λ n. ExpFits n (infix_exp span (exp_at place (e.Name name)) left right))
infix-fit {l} {r} span place name left right f h = moved
    (nodes.exp-node _ (nodes.exp-app (exp_at place (e.Name name)) (exp_at span (e.Tuple (left ∷ right ∷ []))))
    (two (nodes.exp-leaf _ (nodes.exp-name name) (λ n. tt)) (nodes.exp-node _ (nodes.exp-tuple (left ∷ right ∷ [])) (two f h) (λ n z. (z.0, (z.1, tt))) (λ n z. (z.0, z.1.0))))
    (λ n z. z) (λ n z. z))
    (infix-height l r (at-least f (λ z. z)))

cons-height : (l r : ℕ) → min (1 + max 0 (max (min (1 + max 0 (max r (max l 0))) 201) 0)) 201 ≡ min (2 + max 0 (max r (max l 0))) 201
cons-height l r = omega arith

pub cons-fit : {l r : ℕ} (span : Span) (left right : Pat) → Fit l (λ n. PatFits n left) → Fit r (λ n. PatFits n right) → Fit (min (2 + max 0 (max r (max l 0))) 201) (λ n. PatFits n (cons_pat span left right))
cons-fit {l} {r} span left right f h = moved
    (nodes.pat-node _ (nodes.pat-con (codes "::") (pat_at span (p.Tuple (left ∷ right ∷ []))))
    (one (nodes.pat-node _ (nodes.pat-tuple (left ∷ right ∷ [])) (two f h) (λ n z. (z.0, (z.1, tt))) (λ n z. (z.0, z.1.0))))
    (λ n z. z) (λ n z. z))
    (cons-height l r)

-- functions of several patterns
pub name-exp : (n : ℕ) (span : Span) (name : List ℕ) → 1 ≤ n → ExpFits n (exp_at span (e.Name name))
name-exp zero span name l = absurd (not-zero l)
name-exp (suc n) span name l = subst (λ y. ExpFormFits n (ExpFits n) (DecFits n) y) (sym (nodes.exp-opens (e.Name name) span (nodes.exp-name name))) tt

numbers-to : (n : ℕ) (span : Span) (first count : ℕ) → 1 ≤ n → Each (ExpFits n) (numbers span first count)
unfolding numbers
numbers-to n span first zero l = tt
numbers-to n span first (suc count) l = (name-exp n span (decimal first) l, numbers-to n span (suc first) count l)

numbers-from : (n : ℕ) (span : Span) (first count : ℕ) → Each (ExpFits n) (numbers span first (suc count)) → 1 ≤ n
unfolding numbers
numbers-from n span first count z = exp-low n _ z.0

numbers-fit : (span : Span) (count : ℕ) → Fit 1 (λ n. Each (ExpFits n) (numbers span 1 (suc count)))
numbers-fit span count = other (own 1) (λ n l. numbers-to n span 1 (suc count) l) (λ n z. numbers-from n span 1 count z)

number-rule-fit : {h : ℕ} (span : Span) (number : ℕ) (body : Exp) → Fit h (λ n. ExpFits n body) → Fit (max h (max 1 0)) (λ n. RuleFits n (ExpFits n) (number_rule span number body))
number-rule-fit span number body f = other (two (own 1) f)
    (λ n z. rule-to n (ExpFits n) (pat_at span (p.Name (decimal number))) body (name-pat n span (decimal number) z.0) z.1)
    (λ n z. let y = rule-from n (ExpFits n) (pat_at span (p.Name (decimal number))) body z in (pat-low n _ y.0, y.1))

nested-none : (h : ℕ) → min (0 + max 0 h) 201 ≡ min (0 + h) 201
nested-none h = omega arith

nested-height : (c h : ℕ) → 1 ≤ h → min (1 + max 0 (max (max (min (c + h) 201) (max 1 0)) 0)) 201 ≡ min (suc c + h) 201
nested-height c h l = omega (arith, l)

nested-fit : {h : ℕ} (span : Span) (first count : ℕ) (body : Exp) → 1 ≤ h → Fit h (λ n. ExpFits n body) → Fit (min (count + h) 201) (λ n. ExpFits n (nested span first count body))
unfolding nested
nested-fit {h} span first zero body l f = moved (gathered f) (nested-none h)
nested-fit {h} span first (suc count) body l f = moved
    (nodes.exp-node _ (nodes.exp-fn (number_rule span first (nested span (suc first) count body) ∷ []))
    (one (number-rule-fit span first (nested span (suc first) count body) (nested-fit span (suc first) count body l f)))
    (λ n z. (z, tt)) (λ n z. z.0))
    (nested-height count h l)

case-least : (k : ℕ) → 1 ≤ min (1 + max 0 (max k (max 2 0))) 201
case-least k = omega arith

curried-height : (c k : ℕ) → max (min (suc c + min (1 + max 0 (max k (max 2 0))) 201) 201) (max 1 0) ≡ min (suc (suc c) + max 2 (max k 0)) 201
curried-height c k = omega arith

curried-least : (c : ℕ) → suc (suc c) - 1 ≡ suc c
curried-least c = omega arith

pub curried-fit : {k : ℕ} (span : Span) (count : ℕ) (rules : List Rule) → Fit k (λ n. Each (RuleFits n (ExpFits n)) rules) → Fit (min (suc (suc count) + max 2 (max k 0)) 201) (λ n. RuleFits n (ExpFits n) (curried span (suc (suc count)) rules))
unfolding curried
curried-fit {k} span count rules f =
    let body : Exp = exp_at span (e.Case (exp_at span (e.Tuple (numbers span 1 (suc (suc count))))) rules) in
    let case_ : Fit (min (1 + max 0 (max k (max 2 0))) 201) (λ n. ExpFits n body) =
    nodes.exp-node _ (nodes.exp-case (exp_at span (e.Tuple (numbers span 1 (suc (suc count))))) rules)
    (two (nodes.exp-node _ (nodes.exp-tuple (numbers span 1 (suc (suc count)))) (one (numbers-fit span (suc count))) (λ n z. z) (λ n z. z)) f)
    (λ n z. z) (λ n z. z)
    in moved (number-rule-fit span 1 (nested span 2 (suc (suc count) - 1) body)
    (subst (λ c. Fit (min (suc count + min (1 + max 0 (max k (max 2 0))) 201) 201) (λ n. ExpFits n (nested span 2 c body))) (sym (curried-least count))
    (nested-fit span 2 (suc count) body (case-least k) case_)))
    (curried-height count k)
