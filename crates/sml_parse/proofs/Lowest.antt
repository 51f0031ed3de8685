-- The lowest of lacks, as a fold and as a relation.
use Rattle.std.proofs.Common.{◌≡◌, ℕ, ◌<◌, ◌≤◌, List, [], ◌∷◌, ◌++◌, Bool, true, false, cond, nat_lt, Option, Some, None, refl, ap, sym, ◌∙◌, subst, arith}
use Rattle.std.proofs.lemmas.Bool.{lt-ltb, le-ltb, ltb-true, ltb-false}
use Rattle.sml_syntax.specs.NestedTypes.{Found}
use Rattle.grammar_rules.specs.Programs.{Each}
use Rattle.parse_limits.specs.Lacks.{lower, lower_found}
use Rattle.grammar_limits.specs.Finds.{lowest}
use Rattle.sml_parse.specs.Parses.{IsLowestLack}

le-lt : (a b c : ℕ) → a ≤ b → b < c → a ≤ c
le-lt a b c h k = omega arith

-- a lack that stands before others of no lower place stays
pub kept : (found : Found) (ls : List Found) → Each (λ (other : Found). found.0 ≤ other.0) ls → lowest (Some found) ls ≡ Some found
kept found [] h = refl
kept found (l ∷ ls) (h, hs) = ap (λ w. lowest (Some (cond w l found)) ls) (le-ltb l.0 found.0 h) ∙ kept found ls hs

-- behind one of a higher place, or none, the lowest is found
pub reached : (first : Found) (before after : List Found) (found : Found) → found.0 < first.0 → Each (λ (other : Found). found.0 < other.0) before → Each (λ (other : Found). found.0 ≤ other.0) after →
    lowest (Some first) (before ++ found ∷ after) ≡ Some found
reached first [] after found h b a = ap (λ w. lowest (Some (cond w found first)) after) (lt-ltb found.0 first.0 h) ∙ kept found after a
reached first (l ∷ before) after found h (k, b) a = go (nat_lt l.0 first.0) (reached l before after found k b a) (reached first before after found h b a)
  where
    go : (w : Bool) → lowest (Some l) (before ++ found ∷ after) ≡ Some found → lowest (Some first) (before ++ found ∷ after) ≡ Some found → lowest (Some (cond w l first)) (before ++ found ∷ after) ≡ Some found
    go true p q = p
    go false p q = q

found-first : (lacks before after : List Found) (found : Found) → lacks ≡ before ++ found ∷ after → Each (λ (other : Found). found.0 < other.0) before → Each (λ (other : Found). found.0 ≤ other.0) after → lowest None lacks ≡ Some found
found-first lacks [] after found e b a = ap (lowest None) e ∙ kept found after a
found-first lacks (l ∷ before) after found e (k, b) a = ap (lowest None) e ∙ reached l before after found k b a

pub lowest-is : (lacks : List Found) (found : Found) → IsLowestLack lacks found → lowest None lacks ≡ Some found
lowest-is lacks found r = found-first lacks r.before r.after found r.split r.higher r.none_lower

-- what the fold finds behind a first lack
data Least (first : Found) (ls : List Found) (found : Found) : Type 0 where
  stays : found ≡ first → Each (λ (other : Found). first.0 ≤ other.0) ls → Least first ls found
  later : (before after : List Found) → ls ≡ before ++ found ∷ after → found.0 < first.0 → Each (λ (other : Found). found.0 < other.0) before → Each (λ (other : Found). found.0 ≤ other.0) after → Least first ls found

least : (first : Found) (ls : List Found) (found : Found) → lowest (Some first) ls ≡ Some found → Least first ls found
least first [] found e = stays (sym (same e)) tt
  where
    same : {a b : Found} → Some a ≡ Some b → a ≡ b
    same h = cc
least first (l ∷ ls) found e = go (nat_lt l.0 first.0) refl (λ k. least l ls found k) (λ k. least first ls found k) e
  where
    over : l.0 < first.0 → Least l ls found → Least first (l ∷ ls) found
    over h (stays q a) = later [] ls (ap (λ z. z ∷ ls) (sym q)) (subst (λ (z : Found). z.0 < first.0) (sym q) h) tt (subst (λ (z : Found). Each (λ (other : Found). z.0 ≤ other.0) ls) (sym q) a)
    over h (later before after s k b a) = later (l ∷ before) after (ap (λ z. l ∷ z) s) (below found.0 l.0 first.0 k h) (k, b) a
      where
        below : (a b c : ℕ) → a < b → b < c → a < c
        below a b c h k = omega arith

    under : first.0 ≤ l.0 → Least first ls found → Least first (l ∷ ls) found
    under h (stays q a) = stays q (h, a)
    under h (later before after s k b a) = later (l ∷ before) after (ap (λ z. l ∷ z) s) k (less found.0 first.0 l.0 k h, b) a
      where
        less : (a b c : ℕ) → a < b → b ≤ c → a < c
        less a b c h k = omega arith

    go : (w : Bool) → nat_lt l.0 first.0 ≡ w → (lowest (Some l) ls ≡ Some found → Least l ls found) → (lowest (Some first) ls ≡ Some found → Least first ls found) → lowest (Some (cond w l first)) ls ≡ Some found → Least first (l ∷ ls) found
    go true h a b e = over (ltb-true l.0 first.0 h) (a e)
    go false h a b e = under (ltb-false l.0 first.0 h) (b e)

pub is-lowest : (lacks : List Found) (found : Found) → lowest None lacks ≡ Some found → IsLowestLack lacks found
is-lowest [] found e = cc
is-lowest (l ∷ ls) found e = go (least l ls found e)
  where
    go : Least l ls found → IsLowestLack (l ∷ ls) found
    go (stays q a) = record { before = []; after = ls; split = ap (λ z. z ∷ ls) (sym q); higher = tt; none_lower = subst (λ (z : Found). Each (λ (other : Found). z.0 ≤ other.0) ls) (sym q) a }
    go (later before after s k b a) = record { before = l ∷ before; after = after; split = ap (λ z. l ∷ z) s; higher = (k, b); none_lower = a }
