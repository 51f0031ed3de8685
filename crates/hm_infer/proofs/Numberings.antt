-- Numbers of nodes, along lists and through single trees.
use Rattle.std.proofs.Common.{◌≡◌, sym, ◌∙◌, ap, subst, ℕ, ◌+◌, ◌<◌, ◌≤◌, List, [], ◌∷◌, ◌++◌, length, map, take, get_or, Result, Ok, Err}
use Rattle.std.specs.Prelude.{OnOk}
use Rattle.std.proofs.lemmas.List.{take_more, take_all}
use Rattle.hm_infer.specs.Numbering.{Tree, trees_in, behind, Numbered, AllNumbered, numbered, numbered_end, numbered_more}

-- one list after the other
pub numbered-append : (ts us : List Tree) (a b c : ℕ) → AllNumbered ts a b → AllNumbered us b c → AllNumbered (ts ++ us) a c
numbered-append [] us a b c numbered_end h = h
numbered-append (x ∷ xs) us a b c (numbered_more {middle} n ns) h = numbered_more n (numbered-append xs us middle b c ns h)

-- one tree, and two and three
pub numbered-one : {t : Tree} {a b : ℕ} → Numbered t a b → AllNumbered (t ∷ []) a b
numbered-one n = numbered_more n numbered_end

pub numbered-two : {t u : Tree} {a b c : ℕ} → Numbered t a b → Numbered u b c → AllNumbered (t ∷ u ∷ []) a c
numbered-two n m = numbered_more n (numbered-one m)

pub numbered-three : {t u v : Tree} {a b c d : ℕ} → Numbered t a b → Numbered u b c → Numbered v c d → AllNumbered (t ∷ u ∷ v ∷ []) a d
numbered-three n m k = numbered_more n (numbered-two m k)

numbered-last : {A : Type 0} (f : A → Tree) (xs : List A) (x : A) (a b c : ℕ) → AllNumbered (map f xs) a b → Numbered (f x) b c → AllNumbered (map f (xs ++ x ∷ [])) a c
numbered-last f [] x a b c numbered_end t = numbered-one t
numbered-last f (y ∷ ys) x a b c (numbered_more {middle} n ns) t = numbered_more n (numbered-last f ys x middle b c ns t)

-- a loop over a list: the next of it, and all of it
pub numbered-next : {A : Type 0} (f : A → Tree) (xs : List A) (i : ℕ) (d x : A) (a b c : ℕ) → x ≡ get_or xs i d → i < length xs → AllNumbered (map f (take i xs)) a b → Numbered (f x) b c
    → AllNumbered (map f (take (i + 1) xs)) a c
numbered-next f xs i d x a b c e h s t =
    subst (λ l. AllNumbered (map f l) a c) (ap (λ y. take i xs ++ y ∷ []) e ∙ sym (take_more xs i d h)) (numbered-last f (take i xs) x a b c s t)

pub numbered-whole : {A : Type 0} (f : A → Tree) (xs : List A) (i : ℕ) (a b : ℕ) → length xs ≤ i → AllNumbered (map f (take i xs)) a b → AllNumbered (map f xs) a b
numbered-whole f xs i a b h s = subst (λ l. AllNumbered (map f l) a b) (take_all i xs h) s

-- a fact that holds in any case
pub on_ok-of : {T E P : Type 0} (r : Result T E) → P → OnOk r P
on_ok-of (Ok x) p = p
on_ok-of (Err e) p = tt

-- there is one count at most
mutual
  pub numbered-once : (t : Tree) {a d b c : ℕ} → a ≡ d → Numbered t a b → Numbered t d c → b ≡ c
  numbered-once t e (numbered h) (numbered k) = all-once (trees_in t) (ap (behind t) e) h k

  pub all-once : (ts : List Tree) {a d b c : ℕ} → a ≡ d → AllNumbered ts a b → AllNumbered ts d c → b ≡ c
  all-once [] e numbered_end numbered_end = e
  all-once (t ∷ ts) e (numbered_more n ns) (numbered_more m ms) = all-once ts (numbered-once t e n m) ns ms

-- a tree from its parts, where its own node is opened before them and closed behind them
pub numbered-tree : (t : Tree) (a b c d : ℕ) → b ≡ behind t a → AllNumbered (trees_in t) b c → d ≡ c → Numbered t a d
numbered-tree t a b c d first h last = numbered (subst (λ n. AllNumbered (trees_in t) n d) first (subst (λ n. AllNumbered (trees_in t) b n) (sym last) h))

-- in other words
pub numbered-as : {ts us : List Tree} (a b : ℕ) → ts ≡ us → AllNumbered us a b → AllNumbered ts a b
numbered-as a b e h = subst (λ l. AllNumbered l a b) (sym e) h
