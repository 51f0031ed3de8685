-- The longest piece at a place, byte by byte.
use Rattle.std.proofs.Common.{◌≡◌, ◌≢◌, ◌⊎◌, inl, inr, ℕ, suc, ◌+◌, ◌-◌, ◌<◌, ◌≤◌, List, [], ◌∷◌, ◌++◌, length, drop, take, get_or, Bool, true, false, ◌&&◌, Option, Some, None, Result, Ok, Err, refl, ap, sym, ◌∙◌, subst, arith, append_assoc, length-append, add-one}
use Rattle.std.proofs.Math.Seq.{drop-cons, take-add}
use Rattle.std.proofs.lemmas.List.{drop_all, take_at, drop-drop}
use Rattle.std.specs.List.{list_all, slice_range}
use Rattle.grammar_rules.specs.Spelling.{Reading, Good, Refused, Refusal, is_nil, only}
use Rattle.sml_lex.specs.declared.bytes.Found.{Found}
use Rattle.sml_lex.specs.declared.refusal.LexRefusal.{LexRefusal}
use Rattle.sml_lex.specs.declared.refusal.LexRefusal.TheVariants as refusal
use Rattle.sml_lex.specs.Ends.{Ends, EndsBadly}
use Rattle.sml_lex.specs.Coded.{IfRefused, refusal_of, piece_of, GivesPiece, GivesEnd, RunTo, run_none, run_stop, run_more}

shift : (n l : ℕ) → suc n + l ≡ n + suc l
shift n l = omega arith

none-behind : (n : ℕ) → n ≡ n + 0
none-behind n = omega arith

-- a byte is taken
pub step : (A B : List ℕ → Option Reading) (n b : ℕ) (bs : List ℕ) (r : Reading) (to : ℕ) → ((q : List ℕ) → A (b ∷ q) ≡ B q) → Ends B (suc n) bs r to → Ends A n (b ∷ bs) r to
step A B n b bs r to law e = record {
  front = b ∷ e.front;
  back = e.back;
  whole = ap (λ w. b ∷ w) e.whole;
  is = law e.front ∙ e.is;
  most = λ y ys zs h. law (e.front ++ y ∷ ys) ∙ e.most y ys zs h;
  place = e.place ∙ shift n (length e.front);
}

-- nothing more is taken
pub halt : (A : List ℕ → Option Reading) (n : ℕ) (bs : List ℕ) (r : Reading) → A [] ≡ Some r → ((y : ℕ) (ys zs : List ℕ) → bs ≡ y ∷ (ys ++ zs) → A (y ∷ ys) ≡ None) → Ends A n bs r n
halt A n bs r h dead = record { front = []; back = bs; whole = refl; is = h; most = dead; place = none-behind n }

-- the last byte is taken
pub last : (A : List ℕ → Option Reading) (n b : ℕ) (bs : List ℕ) (r : Reading) → ((q : List ℕ) → A (b ∷ q) ≡ only (is_nil q) r) → Ends A n (b ∷ bs) r (suc n)
last A n b bs r law = step A (λ q. only (is_nil q) r) n b bs r (suc n) law (halt (λ q. only (is_nil q) r) (suc n) bs r refl (λ y ys zs h. refl))

-- the same at a place of the bytes
pub step_at : (A B : List ℕ → Option Reading) (bs : List ℕ) (i : ℕ) (r : Reading) (to : ℕ) → i < length bs → ((q : List ℕ) → A (get_or bs i 0 ∷ q) ≡ B q) →
    Ends B (i + 1) (drop (i + 1) bs) r to → Ends A i (drop i bs) r to
step_at A B bs i r to h law e =
    subst (λ w. Ends A i w r to) (sym (drop-cons bs i 0 h)) (step A B i (get_or bs i 0) (drop (suc i) bs) r to law (subst (λ n. Ends B n (drop n bs) r to) (add-one i) e))

pub last_at : (A : List ℕ → Option Reading) (bs : List ℕ) (i : ℕ) (r : Reading) → i < length bs → ((q : List ℕ) → A (get_or bs i 0 ∷ q) ≡ only (is_nil q) r) → Ends A i (drop i bs) r (i + 1)
last_at A bs i r h law =
    subst (λ n. Ends A i (drop i bs) r n) (sym (add-one i)) (subst (λ w. Ends A i w r (suc i)) (sym (drop-cons bs i 0 h)) (last A i (get_or bs i 0) (drop (suc i) bs) r law))

head-is : {a b : ℕ} {xs ys : List ℕ} → a ∷ xs ≡ b ∷ ys → a ≡ b
head-is h = cc

-- nothing more is taken, since the next byte goes on to no piece
pub dead_at : (A : List ℕ → Option Reading) (bs : List ℕ) (i : ℕ) (r : Reading) → A [] ≡ Some r → i < length bs → ((q : List ℕ) → A (get_or bs i 0 ∷ q) ≡ None) → Ends A i (drop i bs) r i
dead_at A bs i r h l law = halt A i (drop i bs) r h (λ y ys zs e. subst (λ w. A (w ∷ ys) ≡ None) (head-is (sym (drop-cons bs i 0 l) ∙ e)) (law ys))

nil-cons : {y : ℕ} {ys : List ℕ} → [] ≡ y ∷ ys → ⊥
nil-cons h = cc

pub end_at : (A : List ℕ → Option Reading) (bs : List ℕ) (i : ℕ) (r : Reading) → A [] ≡ Some r → length bs ≤ i → Ends A i (drop i bs) r i
end_at A bs i r h l = halt A i (drop i bs) r h (λ y ys zs e. absurd (nil-cons (sym (drop_all i bs l) ∙ e)))

-- the bytes of a piece, as a slice
pub slice-front : (bs front back : List ℕ) (i to : ℕ) → drop i bs ≡ front ++ back → to ≡ i + length front → slice_range bs i to ≡ front
slice-front bs front back i to h e =
    let l : length front ≡ to - i = omega arith in
    ap (λ w. take (to - i) w) h ∙ take_at front back (to - i) l

-- what is found behind the first byte is found from it on
pub gives_step : (A B : List ℕ → Option Reading) (bs : List ℕ) (i : ℕ) (x : Result Found LexRefusal) → i < length bs → ((q : List ℕ) → A (get_or bs i 0 ∷ q) ≡ B q) →
    GivesPiece B (i + 1) (drop (i + 1) bs) x → GivesPiece A i (drop i bs) x
gives_step A B bs i (Ok found) h law g = step_at A B bs i (Good (piece_of found.form)) found.to h law g
gives_step A B bs i (Err e) h law g = go (refusal_of e) g
  where
    go : (o : Option Refusal) → IfRefused o (EndsBadly B (i + 1) (drop (i + 1) bs)) → IfRefused o (EndsBadly A i (drop i bs))
    go None g = tt
    go (Some r) g = (g.0, step_at A B bs i (Refused r) g.0 h law g.1)

-- two readings that agree on the beginnings of the bytes
pub same_ends : (A B : List ℕ → Option Reading) (n : ℕ) (bs : List ℕ) (r : Reading) (to : ℕ) → ((q zs : List ℕ) → bs ≡ q ++ zs → A q ≡ B q) → Ends B n bs r to → Ends A n bs r to
same_ends A B n bs r to law e = record {
  front = e.front;
  back = e.back;
  whole = e.whole;
  is = law e.front e.back e.whole ∙ e.is;
  most = λ y ys zs h. law (e.front ++ y ∷ ys) zs (e.whole ∙ (ap (λ w. e.front ++ w) h ∙ sym (append_assoc e.front (y ∷ ys) zs))) ∙ e.most y ys zs h;
  place = e.place;
}

pub same_gives : (A B : List ℕ → Option Reading) (n : ℕ) (bs : List ℕ) (x : Result Found LexRefusal) → ((q zs : List ℕ) → bs ≡ q ++ zs → A q ≡ B q) → GivesPiece B n bs x → GivesPiece A n bs x
same_gives A B n bs (Ok found) law g = same_ends A B n bs (Good (piece_of found.form)) found.to law g
same_gives A B n bs (Err e) law g = go (refusal_of e) g
  where
    go : (o : Option Refusal) → IfRefused o (EndsBadly B n bs) → IfRefused o (EndsBadly A n bs)
    go None g = tt
    go (Some r) g = (g.0, same_ends A B n bs (Refused r) g.0 law g.1)

-- a step to a place that is written otherwise
pub step_to : (A B : List ℕ → Option Reading) (bs : List ℕ) (i j : ℕ) (r : Reading) (to : ℕ) → j ≡ i + 1 → i < length bs → ((q : List ℕ) → A (get_or bs i 0 ∷ q) ≡ B q) →
    Ends B j (drop j bs) r to → Ends A i (drop i bs) r to
step_to A B bs i j r to g h law e = step_at A B bs i r to h law (subst (λ n. Ends B n (drop n bs) r to) g e)

pub bad_to : (A B : List ℕ → Option Reading) (bs : List ℕ) (i j : ℕ) (r : Refusal) → j ≡ i + 1 → i < length bs → ((q : List ℕ) → A (get_or bs i 0 ∷ q) ≡ B q) →
    EndsBadly B j (drop j bs) r → EndsBadly A i (drop i bs) r
bad_to A B bs i j r g h law e = (e.0, step_to A B bs i j (Refused r) e.0 g h law e.1)

-- want of memory says nothing
pub no_memory : (e : LexRefusal) (P : Refusal → Type 0) → e ≡ refusal.NoMemory → IfRefused (refusal_of e) P
no_memory e P h = subst (λ z. IfRefused (refusal_of z) P) (sym h) tt

pub if_refused : (o : Option Refusal) (P Q : Refusal → Type 0) → ((r : Refusal) → P r → Q r) → IfRefused o P → IfRefused o Q
if_refused None P Q law h = tt
if_refused (Some r) P Q law h = law r h

-- slices
pub slice_join : (xs : List ℕ) (a b c : ℕ) → a ≤ b → b ≤ c → slice_range xs a c ≡ slice_range xs a b ++ slice_range xs b c
slice_join xs a b c g h =
    let e : c - a ≡ (b - a) + (c - b) = omega arith in
    let f : a + (b - a) ≡ b = omega arith in
    ap (λ n. take n (drop a xs)) e
    ∙ (take-add (b - a) (c - b) (drop a xs) ∙ ap (λ w. take (b - a) (drop a xs) ++ take (c - b) w) (drop-drop (b - a) a xs ∙ ap (λ n. drop n xs) f))

pub slice_one : (xs : List ℕ) (i : ℕ) → i < length xs → slice_range xs i (i + 1) ≡ get_or xs i 0 ∷ []
slice_one xs i h =
    let e : i + 1 - i ≡ 1 = omega arith in
    ap (λ n. take n (drop i xs)) e ∙ ap (take 1) (drop-cons xs i 0 h)

pub slice_none : (xs : List ℕ) (i : ℕ) → slice_range xs i i ≡ []
slice_none xs i =
    let e : i - i ≡ 0 = omega arith in
    ap (λ n. take n (drop i xs)) e

-- from the first byte on
pub slice_first : (xs : List ℕ) (i m : ℕ) → i < m → i < length xs → slice_range xs i m ≡ get_or xs i 0 ∷ slice_range xs (i + 1) m
slice_first xs i m h l =
    slice_join xs i (i + 1) m (omega arith) (omega arith) ∙ ap (λ w. w ++ slice_range xs (i + 1) m) (slice_one xs i l)

-- up to the last byte
pub slice_last : (xs : List ℕ) (i m : ℕ) → i ≤ m → m < length xs → slice_range xs i (m + 1) ≡ slice_range xs i m ++ get_or xs m 0 ∷ []
slice_last xs i m h l =
    slice_join xs i m (m + 1) h (omega arith) ∙ ap (λ w. slice_range xs i m ++ w) (slice_one xs m l)
