-- Heights at the ends of clauses and functions, and of local declarations.
use Rattle.std.proofs.Common.{◌≡◌, ℕ, zero, suc, ◌<◌, nat_lt, cond, List, [], ◌∷◌, ◌++◌, length, Bool, true, false, refl, ap, arith, lt-ltb, ltb-true}
use Rattle.sml_syntax.specs.declared.token.Token.{Token}
use Rattle.sml_syntax.specs.declared.tree.Span.{Span}
use Rattle.sml_syntax.specs.declared.tree.Pat.{Pat}
use Rattle.sml_syntax.specs.declared.tree.PatForm.TheVariants as p
use Rattle.sml_syntax.specs.declared.tree.Rule.{Rule}
use Rattle.sml_syntax.specs.NestedTypes.{Found}
use Rattle.grammar_rules.specs.Nodes.{function_rules, curried, clause_pat, pat_at}
use Rattle.grammar_rules.specs.Programs.{Each, PatFits, ExpFits, RuleFits}
use Rattle.grammar_rules.specs.Grammar as g
use Rattle.sml_grammar.specs.declared.act.Made.{Made}
use Rattle.sml_grammar.specs.declared.act.Act.TheVariants as a
use Rattle.sml_grammar.specs.declared.act.PatAct.TheVariants as q
use Rattle.sml_grammar.specs.declared.act.DecAct.TheVariants as b
use Rattle.sml_grammar.specs.Machine.{made}
use Rattle.parse_limits.specs.Heights.{growth_of, pat_growth, dec_growth, grown, too_high}
use Rattle.grammar_trees.specs.Tells as t
use Rattle.grammar_trees.specs.Tells.{Tells, local_acts, tupled_acts, end_acts}
use Rattle.grammar_limits.specs.Grows.{Fit, Grows, RecFits}
use Rattle.grammar_limits.proofs.Fits.{other, one, two, gathered, end, g-act}
use Rattle.grammar_limits.proofs.Nodes as nodes
use Rattle.grammar_limits.proofs.Parts.{curried-fit}

-- a lack changes no heights
pub g-local : (i : Bool) (word : Token) {new : List Made} {old below : List ℕ} {P : ℕ → Type 0} → Grows new old below P → Grows (local_acts i word ++ new) old below P
unfolding growth_of too_high
g-local false word p = p
g-local true word p = g-act refl refl p

-- as many patterns as are counted
pub counted : {count next : ℕ} {ts : List Token} {ps : List Pat} {ls : List Found} {new : List Made} → Tells (g.atpats count) next ts (g.pats_tree ps) ls new → length ps ≡ count
counted t.atpats_none = refl
counted (t.atpats_more d f) = ap suc (counted f)

two-below : (n : ℕ) → nat_lt 1 (suc (suc n)) ≡ true
two-below n = lt-ltb 1 (suc (suc n)) (omega arith)

suc-same : (m n : ℕ) → suc m ≡ suc n → m ≡ n
suc-same m n e = omega (arith, e)

-- the pattern of a clause
g-several : {h : ℕ} {hs : List ℕ} (span : Span) (first next : Pat) (more : List Pat) (to : ℕ) (w : Bool) → w ≡ true → Fit h (λ n. Each (PatFits n) (first ∷ next ∷ more)) →
    Grows (cond w (made (a.Pat q.Tupled) to ∷ []) []) (h ∷ hs) hs (λ n. PatFits n (pat_at span (p.Tuple (first ∷ next ∷ more))))
unfolding growth_of pat_growth grown too_high
g-several span first next more to true e f = g-act refl refl (end (nodes.pat-node _ (nodes.pat-tuple (first ∷ next ∷ more)) (one f) (λ n z. z) (λ n z. z)))
g-several span first next more to false e f = cc

pub g-tupled : {h : ℕ} {hs : List ℕ} (span : Span) (first : Pat) (more : List Pat) (count to : ℕ) → length (first ∷ more) ≡ suc count → Fit h (λ n. Each (PatFits n) (first ∷ more)) →
    Grows (tupled_acts (suc count) to) (h ∷ hs) hs (λ n. PatFits n (clause_pat span first more))
g-tupled span first [] zero to e f = end (other f (λ n z. z.0) (λ n z. (z, tt)))
g-tupled span first [] (suc count) to e f = absurd (zero-suc count (suc-same 0 (suc count) e))
  where
    zero-suc : (n : ℕ) → 0 ≡ suc n → ⊥
    zero-suc n h = omega (arith, h)
g-tupled span first (next ∷ more) zero to e f = absurd (suc-zero (length more) (suc-same (suc (length more)) 0 e))
  where
    suc-zero : (n : ℕ) → suc n ≡ 0 → ⊥
    suc-zero n h = omega (arith, h)
g-tupled span first (next ∷ more) (suc count) to e f = g-several span first next more to (nat_lt 1 (suc (suc count))) (two-below count) f

-- a function is done
g-rounded : {h k : ℕ} {hs : List ℕ} {Q : ℕ → Type 0} (w : Bool) (from : ℕ) (name : List ℕ) (count to : ℕ) (span : Span) (rules : List Rule) → nat_lt 1 count ≡ w → Fit h Q → Fit k (λ n. Each (RuleFits n (ExpFits n)) rules) →
    Grows (cond w (made (a.Dec (b.Curry from count)) to ∷ made (a.Dec (b.AddRec name)) to ∷ []) (made (a.Dec (b.AddRec name)) to ∷ [])) (k ∷ h ∷ hs) hs
    (λ n. Q n × RecFits n (name, cond w (curried span count rules ∷ []) rules))
unfolding growth_of dec_growth grown too_high
g-rounded false from name count to span rules e p f = g-act refl refl (end (gathered (two p f)))
g-rounded true from name zero to span rules e p f = absurd (low (ltb-true 1 0 e))
  where
    low : 1 < 0 → ⊥
    low l = omega (arith, l)
g-rounded true from name (suc zero) to span rules e p f = absurd (low (ltb-true 1 1 e))
  where
    low : 1 < 1 → ⊥
    low l = omega (arith, l)
g-rounded true from name (suc (suc count)) to span rules e p f =
    g-act refl refl (g-act refl refl (end (gathered (two p (other (curried-fit span count rules f) (λ n z. (z, tt)) (λ n z. z.0))))))

pub g-function : {h k : ℕ} {hs : List ℕ} {Q : ℕ → Type 0} (from : ℕ) (name : List ℕ) (count to : ℕ) (span : Span) (rules : List Rule) → Fit h Q → Fit k (λ n. Each (RuleFits n (ExpFits n)) rules) →
    Grows (end_acts from name count to) (k ∷ h ∷ hs) hs (λ n. Q n × RecFits n (name, function_rules span count rules))
g-function from name count to span rules p f = g-rounded (nat_lt 1 count) from name count to span rules refl p f
