-- A table in solved form: its solutions are the choices at its variables.
use Rattle.std.proofs.Common.{◌≡◌, ℕ, zero, suc, ◌<◌, List, [], ◌∷◌, length, Bool, true, false, refl, sym, ◌∙◌, subst, arith, ◌&&◌}
use Rattle.type_terms.specs.TypeTerms.{variable, made, admits, all_admit, of_flag, IsOver, AllOver, by_parts, count_of}
use Rattle.hm_types.specs.declared.node.Node.{Node}
use Rattle.hm_types.specs.declared.node.Node.TheVariants.{Variable, Made, Link}
use Rattle.hm_types.specs.declared.node.Asked.{Asked}
use Rattle.hm_types.specs.declared.node.TypeName.{TypeName}
use Rattle.hm_types.specs.declared.node.Equality.{Equality}
use Rattle.hm_types.specs.declared.node.Equality.TheVariants.{Never, Always, Parts}
use Rattle.hm_types.specs.Classes.{Assign, at, asked_at, name_at, part_list, terms_of, Respects, Holds, Allows, Takes, equality_of, equality_by, TypeGraph}
use Rattle.hm_types.specs.Joining.{Fine, IsFine, IsIn, Within}
use Rattle.hm_types.specs.Asking.{AsksParts, Closes, Closed}
use Rattle.hm_types.specs.Searching.{Child, Ranked}
use Rattle.hm_types.specs.Kept.{Sorted, IsSettled}
use Rattle.hm_types.specs.Solving.{Solves, Solved}
use Rattle.hm_types.proofs.Steps.{part-length}
use Rattle.hm_types.proofs.Asking.{over-mono, allows-below}
use Rattle.hm_types.proofs.Ranks.{child-in}
use Rattle.hm_types.proofs.Solved.{solution, solvable, at-variable, unique, Reaches, itself, through}

count-terms : (s : Assign) (xs : List ℕ) → count_of (terms_of s xs) ≡ length xs
unfolding count_of terms_of
count-terms s [] = refl
count-terms s (x ∷ xs) = let h = count-terms s xs in omega (arith, h)

both-true : (a b : Bool) → a ≡ true → b ≡ true → a && b ≡ true
both-true true b p q = q
both-true false b p q = p

all-admitted : (names : List TypeName) (s : Assign) (xs : List ℕ) → ((d : ℕ) → IsIn d xs → admits (equality_of names) of_flag (s d) ≡ true) → all_admit (equality_of names) of_flag (terms_of s xs) ≡ true
unfolding all_admit terms_of
all-admitted names s [] h = refl
all-admitted names s (x ∷ xs) h = both-true (admits (equality_of names) of_flag (s x)) (all_admit (equality_of names) of_flag (terms_of s xs)) (h x (0, omega arith, refl)) (all-admitted names s xs (λ d i. h d (suc (i.0), (let l = i.1 in omega (arith, l)), i.2)))

all-over : (names : List TypeName) (b : ℕ) (s : Assign) (xs : List ℕ) → ((d : ℕ) → IsIn d xs → IsOver (Takes names b) (s d)) → AllOver (Takes names b) (terms_of s xs)
unfolding AllOver terms_of
all-over names b s [] h = tt
all-over names b s (x ∷ xs) h = (h x (0, omega arith, refl), all-over names b s xs (λ d i. h d (suc (i.0), (let l = i.1 in omega (arith, l)), i.2)))

-- a type whose parts have what is asked of them has what is asked of it
pub allows-made : (names : List TypeName) (pool : List ℕ) (A : List Asked) (own : Asked) (f i k : ℕ) (s : Assign) → Closes names pool A own (Made f i k) → f < length names → k ≡ (name_at names f).arity → length (part_list pool i k) ≡ k
    → ((d : ℕ) → IsIn d (part_list pool i k) → Allows names (asked_at A d) (s d)) → Allows names own (made f (terms_of s (part_list pool i k)))
unfolding admits IsOver
allows-made names pool A own f i k s (b, p, e) lf ar lk h = (
  λ q. equal ((name_at names f).equality) (e q),
  (
    (lf, b, count-terms s (part_list pool i k) ∙ lk ∙ ar),
    all-over names own.birth s (part_list pool i k) (λ d y. over-mono names _ _ (p d y) (s d) ((h d y).1)),
  ),
)
  where
    equal : (kind : Equality) → AsksParts kind ((d : ℕ) → IsIn d (part_list pool i k) → (asked_at A d).equality ≡ true) → by_parts (equality_by kind) (all_admit (equality_of names) of_flag (terms_of s (part_list pool i k))) ≡ true
    equal Never x = absurd x
    equal Always x = refl
    equal Parts x = all-admitted names s (part_list pool i k) (λ d y. (h d y).0 (x d y))

-- one class, where its parts have what is asked of them
meets-step : (names : List TypeName) (pool : List ℕ) (T : List Node) (A : List Asked) (s : Assign) → IsFine pool T → Sorted names T → Closed names pool T A → Respects pool T s → (c : ℕ) → c < length T
    → (at T c ≡ Variable → Allows names (asked_at A c) (s c)) → ((d : ℕ) → Child pool (at T c) d → Allows names (asked_at A d) (s d)) → Allows names (asked_at A c) (s c)
meets-step names pool T A s fi so cl re c m v below = go (at T c) refl
  where
    go : (w : Node) → at T c ≡ w → Allows names (asked_at A c) (s c)
    go Variable q = v q
    go (Made f i j) q = subst (Allows names (asked_at A c)) (sym (subst (Holds pool s c) q (re c)))
        (allows-made names pool A (asked_at A c) f i j s (subst (Closes names pool A (asked_at A c)) q (cl c m)) ((so c f i j q).0) ((so c f i j q).1) (part-length pool i j (subst (Fine pool c) q (fi c)))
        (λ d y. below d (subst (λ z. Child pool z d) (sym q) y)))
    go (Link d) q = subst (Allows names (asked_at A c)) (sym (subst (Holds pool s c) q (re c)))
        (allows-below names (asked_at A c) (asked_at A d) (s d) (subst (Closes names pool A (asked_at A c)) q (cl c m)) (below d (subst (λ z. Child pool z d) (sym q) refl)))

-- what the variables have, all classes have
meets-by : (names : List TypeName) (pool : List ℕ) (T : List Node) (A : List Asked) (r : ℕ → ℕ) (s : Assign) → IsFine pool T → Within (length T) pool → Sorted names T → Closed names pool T A → Ranked pool T r → Respects pool T s
    → ((c : ℕ) → c < length T → at T c ≡ Variable → Allows names (asked_at A c) (s c)) → (n c : ℕ) → r c < n → c < length T → Allows names (asked_at A c) (s c)
meets-by names pool T A r s fi wi so cl k re v zero c l m = absurd (omega (arith, l))
meets-by names pool T A r s fi wi so cl k re v (suc n) c l m = meets-step names pool T A s fi so cl re c m (v c m)
    (λ d i. meets-by names pool T A r s fi wi so cl k re v n d (let x = k c d i in omega (arith, x, l)) (child-in pool T c d fi wi m i))

reaches-in : (pool : List ℕ) (T : List Node) (c d : ℕ) → IsFine pool T → Within (length T) pool → Reaches pool T c d → c < length T → d < length T
reaches-in pool T c d fi wi (itself c') l = l
reaches-in pool T c e fi wi (through {d = d} i p) l = reaches-in pool T d e fi wi p (child-in pool T c d fi wi l i)

free-allowed : (names : List TypeName) (a : Asked) (c : ℕ) → Allows names a (variable a.equality c)
unfolding admits IsOver
free-allowed names a c = (λ q. q, tt)

pub is-solved : (g : TypeGraph) → g.clashed ≡ false → IsFine g.parts g.nodes → Within (length g.nodes) g.parts → Sorted g.names g.nodes → length g.asked ≡ length g.nodes → IsSettled g.names g.parts g.nodes g.asked → Solved g
is-solved g sound fi wi so len S = record {
  each = λ v h. (by v, solves v h, λ c l q. at-variable g.parts g.nodes v r k c q);
  only = λ s u a b h c l. unique g.parts g.nodes r s u k a.holds b.holds c (λ d p q. h d (reaches-in g.parts g.nodes c d fi wi p l) q);
  some = (by free, solves free (λ c l q. free-allowed g.names (asked_at g.asked c) c));
}
  where
    r : ℕ → ℕ
    r = S.ranks.0

    k : Ranked g.parts g.nodes r
    k = S.ranks.1

    by : Assign → Assign
    by v = solution g.parts g.nodes r v

    solves : (v : Assign) → ((c : ℕ) → c < length g.nodes → at g.nodes c ≡ Variable → Allows g.names (asked_at g.asked c) (v c)) → Solves g (by v)
    solves v h = record {
      sound = sound;
      holds = solvable g.parts g.nodes v r k;
      meets = λ c l. meets-by g.names g.parts g.nodes g.asked r (by v) fi wi so S.closed k (solvable g.parts g.nodes v r k)
          (λ d m q. subst (Allows g.names (asked_at g.asked d)) (sym (at-variable g.parts g.nodes v r k d q)) (h d m q)) (suc (r c)) c (omega arith) (omega (arith, len, l));
    }

    free : Assign
    free c = variable ((asked_at g.asked c).equality) c
