-- Runs, a byte at a time, as the code goes over them, and as lists.
use Rattle.std.proofs.Common.{◌≡◌, ◌≢◌, ℕ, suc, ◌+◌, ◌-◌, ◌<◌, ◌≤◌, List, [], ◌∷◌, ◌++◌, length, drop, get_or, Bool, true, false, ◌&&◌, Option, Some, None, refl, ap, sym, ◌∙◌, subst, append_assoc, length-append, add-one, arith}
use Rattle.std.proofs.Math.Seq.{drop-cons, drop-append_seam}
use Rattle.std.proofs.lemmas.List.{drop_all, drop-drop}
use Rattle.std.specs.List.{list_all, slice_range}
use Rattle.grammar_rules.specs.Spelling.{Reading, only}
use Rattle.sml_lex.specs.Ends.{Ends}
use Rattle.sml_lex.specs.Coded.{RunTo, run_none, run_stop, run_more}
use Rattle.sml_lex.proofs.Steps.{step, slice-front}

pub go_on : (test : ℕ → Bool) (bs : List ℕ) (i m : ℕ) → i < length bs → test (get_or bs i 0) ≡ true → RunTo test (i + 1) (drop (i + 1) bs) m → RunTo test i (drop i bs) m
go_on test bs i m h t r =
    let r2 : RunTo test (suc i) (drop (suc i) bs) m = subst (λ n. RunTo test n (drop n bs) m) (add-one i) r in
    subst (λ w. RunTo test i w m) (sym (drop-cons bs i 0 h)) (run_more t r2)

pub run_halt : (test : ℕ → Bool) (bs : List ℕ) (i : ℕ) → i < length bs → test (get_or bs i 0) ≡ false → RunTo test i (drop i bs) i
run_halt test bs i h t = subst (λ w. RunTo test i w i) (sym (drop-cons bs i 0 h)) (run_stop t)

pub run_over : (test : ℕ → Bool) (bs : List ℕ) (i : ℕ) → length bs ≤ i → RunTo test i (drop i bs) i
run_over test bs i h = subst (λ w. RunTo test i w i) (sym (drop_all i bs h)) run_none

head-is : {a b : ℕ} {xs ys : List ℕ} → a ∷ xs ≡ b ∷ ys → a ≡ b
head-is h = cc

-- a run, as a list
pub record IsRun (test : ℕ → Bool) (n m : ℕ) (bs : List ℕ) : Type 0 where
  pub xs : List ℕ
  pub ys : List ℕ
  pub whole : bs ≡ xs ++ ys
  pub all : list_all test xs ≡ true
  pub stops : (y : ℕ) (zs : List ℕ) → ys ≡ y ∷ zs → test y ≡ false
  pub place : m ≡ n + length xs

cond-and : (test : ℕ → Bool) (b : ℕ) (xs : List ℕ) → test b ≡ true → list_all test xs ≡ true → list_all test (b ∷ xs) ≡ true
cond-and test b xs h g = ap (λ w. w && list_all test xs) h ∙ g

nil-cons : {y : ℕ} {ys : List ℕ} → [] ≡ y ∷ ys → ⊥
nil-cons h = cc

none-behind : (n : ℕ) → n ≡ n + 0
none-behind n = omega arith

shift : (n l : ℕ) → suc n + l ≡ n + suc l
shift n l = omega arith

pub run-split : {test : ℕ → Bool} {n m : ℕ} {bs : List ℕ} → RunTo test n bs m → IsRun test n m bs
run-split (run_none {n = n}) = record { xs = []; ys = []; whole = refl; all = refl; stops = λ y zs h. absurd (nil-cons h); place = none-behind n }
run-split {test} (run_stop {n = n} {b = b} {bs = bs} h) =
    record { xs = []; ys = b ∷ bs; whole = refl; all = refl; stops = λ y zs e. subst (λ w. test w ≡ false) (head-is e) h; place = none-behind n }
run-split {test} (run_more {n = n} {m = m} {b = b} {bs = bs} h r) =
    let w : IsRun test (suc n) m bs = run-split r in
    record { xs = b ∷ w.xs; ys = w.ys; whole = ap (λ z. b ∷ z) w.whole; all = cond-and test b w.xs h w.all; stops = w.stops; place = w.place ∙ shift n (length w.xs) }

pub all-stops : (test : ℕ → Bool) (xs : List ℕ) (y : ℕ) (ws : List ℕ) → test y ≡ false → list_all test (xs ++ y ∷ ws) ≡ false
all-stops test [] y ws h = ap (λ w. w && list_all test ws) h
all-stops test (x ∷ xs) y ws h = ap (λ w. test x && w) (all-stops test xs y ws h) ∙ and-no (test x)
  where
    and-no : (b : Bool) → (b && false) ≡ false
    and-no true = refl
    and-no false = refl

-- the run of a piece whose further bytes all pass a test
pub run_ends : (A : List ℕ → Option Reading) (test : ℕ → Bool) (f : List ℕ → Reading) (n m : ℕ) (bs : List ℕ) → ((q : List ℕ) → A q ≡ only (list_all test q) (f q)) →
    (w : IsRun test n m bs) → Ends A n bs (f w.xs) m
run_ends A test f n m bs law w = record {
  front = w.xs;
  back = w.ys;
  whole = w.whole;
  is = law w.xs ∙ ap (λ z. only z (f w.xs)) w.all;
  most = λ y ys zs h. law (w.xs ++ y ∷ ys) ∙ ap (λ z. only z (f (w.xs ++ y ∷ ys))) (all-stops test w.xs y ys (w.stops y (ys ++ zs) h));
  place = w.place;
}

split-and : (a b : Bool) → (a && b) ≡ true → (a ≡ true) × (b ≡ true)
split-and true b e = (refl, e)
split-and false b e = absurd (cc)

-- what a reading with the bytes taken so far says behind a run says it before the run
pub over_run : (A : List ℕ → List ℕ → Option Reading) (test : ℕ → Bool) (n : ℕ) (taken xs ys : List ℕ) (r : Reading) (to : ℕ) →
    ((taken : List ℕ) (b : ℕ) (q : List ℕ) → test b ≡ true → A taken (b ∷ q) ≡ A (taken ++ b ∷ []) q) → list_all test xs ≡ true →
    Ends (A (taken ++ xs)) (n + length xs) ys r to → Ends (A taken) n (xs ++ ys) r to
over_run A test n taken [] ys r to law all e = subst (λ m. Ends (A taken) m ys r to) (sym (none-behind n)) (subst (λ w. Ends (A w) (n + 0) ys r to) (append-none taken) e)
  where
    append-none : (g : List ℕ) → g ++ [] ≡ g
    append-none [] = refl
    append-none (x ∷ xs) = ap (λ w. x ∷ w) (append-none xs)
over_run A test n taken (x ∷ xs) ys r to law all e =
    let h : (test x ≡ true) × (list_all test xs ≡ true) = split-and (test x) (list_all test xs) all in
    step (A taken) (A (taken ++ x ∷ [])) n x (xs ++ ys) r to (λ q. law taken x q h.0)
    (over_run A test (suc n) (taken ++ x ∷ []) xs ys r to law h.1
    (subst (λ w. Ends (A w) (suc n + length xs) ys r to) (sym (append_assoc taken (x ∷ []) xs)) (subst (λ m. Ends (A (taken ++ x ∷ xs)) m ys r to) (sym (shift n (length xs))) e)))

behind-run : (bs xs ys : List ℕ) (i m : ℕ) → drop i bs ≡ xs ++ ys → m ≡ i + length xs → drop m bs ≡ ys
behind-run bs xs ys i m e h = ap (λ k. drop k bs) h ∙ (sym (drop-drop (length xs) i bs) ∙ (ap (drop (length xs)) e ∙ drop-append_seam xs ys))

-- the same, where the run was found in bytes: what was taken is a slice
pub past_run : (A : List ℕ → List ℕ → Option Reading) (test : ℕ → Bool) (bs : List ℕ) (i m : ℕ) (taken : List ℕ) (r : Reading) (to : ℕ) →
    ((taken : List ℕ) (b : ℕ) (q : List ℕ) → test b ≡ true → A taken (b ∷ q) ≡ A (taken ++ b ∷ []) q) → RunTo test i (drop i bs) m →
    Ends (A (taken ++ slice_range bs i m)) m (drop m bs) r to → Ends (A taken) i (drop i bs) r to
past_run A test bs i m taken r to law run e =
    let w : IsRun test i m (drop i bs) = run-split run in
    let f : slice_range bs i m ≡ w.xs = slice-front bs w.xs w.ys i m w.whole w.place in
    let b : drop m bs ≡ w.ys = behind-run bs w.xs w.ys i m w.whole w.place in
    let e1 : Ends (A (taken ++ w.xs)) m (drop m bs) r to = subst (λ z. Ends (A (taken ++ z)) m (drop m bs) r to) f e in
    let e2 : Ends (A (taken ++ w.xs)) m w.ys r to = subst (λ z. Ends (A (taken ++ w.xs)) m z r to) b e1 in
    let e3 : Ends (A (taken ++ w.xs)) (i + length w.xs) w.ys r to = subst (λ z. Ends (A (taken ++ w.xs)) z w.ys r to) w.place e2 in
    subst (λ z. Ends (A taken) i z r to) (sym w.whole) (over_run A test i taken w.xs w.ys r to law w.all e3)

-- behind a run stands no byte that passes its test
pub run_stops : (test : ℕ → Bool) (bs : List ℕ) (i m : ℕ) → RunTo test i (drop i bs) m → (y : ℕ) (zs : List ℕ) → drop m bs ≡ y ∷ zs → test y ≡ false
run_stops test bs i m run y zs e =
    let w : IsRun test i m (drop i bs) = run-split run in
    w.stops y zs (sym (behind-run bs w.xs w.ys i m w.whole w.place) ∙ e)

-- the run of a piece, where it was found in bytes
pub run_ends_at : (A : List ℕ → Option Reading) (test : ℕ → Bool) (f : List ℕ → Reading) (bs : List ℕ) (i m : ℕ) → ((q : List ℕ) → A q ≡ only (list_all test q) (f q)) →
    RunTo test i (drop i bs) m → Ends A i (drop i bs) (f (slice_range bs i m)) m
run_ends_at A test f bs i m law run =
    let w : IsRun test i m (drop i bs) = run-split run in
    subst (λ z. Ends A i (drop i bs) (f z) m) (sym (slice-front bs w.xs w.ys i m w.whole w.place)) (run_ends A test f i m (drop i bs) law w)
