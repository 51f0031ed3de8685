-- What a run of parts says of the bytes: they are the parts, or a front of them begins the parts.
use Rattle.std.proofs.Common.{◌≡◌, ◌⊎◌, inl, inr, ℕ, zero, suc, ◌+◌, ◌-◌, ◌<◌, ◌≤◌, List, [], ◌∷◌, ◌++◌, length, take, map, Bool, true, false, ◌&&◌, Option, Some, None, IfSome, refl, ap, sym, ◌∙◌, subst, append_assoc, length-append, arith}
use Rattle.std.specs.Prelude.{if◌then◌else◌, ◌==◌, nat_lt, nat_le}
use Rattle.std.specs.List.{list_all}
use Rattle.std.specs.Option.{option_map_or}
use Rattle.std.proofs.lemmas.Bool.Decides.{nat_tests}
use Rattle.sml_syntax.specs.ByteClasses.{is_letter}
use Rattle.web_data.specs.Statements.{is_space, is_table_byte, is_table_name, small, doubled}
use Rattle.web_data.specs.StatementReading.{Left, Spaces, Gap, Word, Name, More, Quoted, Inside, Shut, State, step, Whole, Stops, finish, run}

-- the bytes are what is left of the parts; the texts behind those so far are then these
abbrev pub Rel : List (List ℕ) → List Left → List (List ℕ) → List ℕ → Type 0
Rel vs [] ws bs = (vs ≡ ws) × (bs ≡ [])
Rel vs (Spaces ∷ ps) ws bs = (f : List ℕ) × (r : List ℕ) × (bs ≡ f ++ r) × (list_all is_space f ≡ true) × Rel vs ps ws r
Rel vs (Gap ∷ ps) ws bs = (f : List ℕ) × (r : List ℕ) × (bs ≡ f ++ r) × ((list_all is_space f ≡ true) × (0 < length f)) × Rel vs ps ws r
Rel vs (Word w ∷ ps) ws bs = (f : List ℕ) × (r : List ℕ) × (bs ≡ f ++ r) × (map small f ≡ w) × Rel vs ps ws r
Rel vs (Name ∷ ps) ws bs = (f : List ℕ) × (r : List ℕ) × (bs ≡ f ++ r) × (is_table_name f ≡ true) × Rel (vs ++ f ∷ []) ps ws r
Rel vs (More name ∷ ps) ws bs = (f : List ℕ) × (r : List ℕ) × (bs ≡ f ++ r) × ((list_all is_table_byte f ≡ true) × (length f ≤ 32 - length name)) × Rel (vs ++ (name ++ f) ∷ []) ps ws r
Rel vs (Quoted ∷ ps) ws bs = (t : List ℕ) × (r : List ℕ) × (bs ≡ 39 ∷ (doubled t ++ 39 ∷ r)) × Rel (vs ++ t ∷ []) ps ws r
Rel vs (Inside text ∷ ps) ws bs = (t : List ℕ) × (r : List ℕ) × (bs ≡ doubled t ++ 39 ∷ r) × Rel (vs ++ (text ++ t) ∷ []) ps ws r
Rel vs (Shut text ∷ ps) ws bs =
    Rel (vs ++ text ∷ []) ps ws bs
    ⊎ ((t : List ℕ) × (r : List ℕ) × (bs ≡ 39 ∷ (doubled t ++ 39 ∷ r)) × Rel (vs ++ ((text ++ 39 ∷ []) ++ t) ∷ []) ps ws r)

-- what is left behind a byte says what was left before it
abbrev pub Back : List (List ℕ) → List Left → ℕ → Option State → Type 0
Back vs ls b o = IfSome o (λ s. (ws : List (List ℕ)) (bs : List ℕ) → Rel s.texts s.left ws bs → Rel vs ls ws (b ∷ bs))

by-test : {A : Type 0} (P : A → Type 0) (t : Bool) (x y : A) → (t ≡ true → P x) → (t ≡ false → P y) → P (if t then x else y)
by-test P true x y f g = f refl
by-test P false x y f g = g refl

map-some : {A : Type 0} {P Q : A → Type 0} (o : Option A) → ((s : A) → P s → Q s) → IfSome o P → IfSome o Q
map-some None f h = tt
map-some (Some s) f h = f s h

-- the same, where what was left ends before the byte
wider : (vs us : List (List ℕ)) (ls ps : List Left) (b : ℕ) → ((ws : List (List ℕ)) (bs : List ℕ) → Rel us ps ws (b ∷ bs) → Rel vs ls ws (b ∷ bs)) → Back us ps b (step us ps b) → Back vs ls b (step us ps b)
wider vs us ls ps b f h = map-some (step us ps b) (λ s k ws bs d. f ws bs (k ws bs d)) h

pub both : (a c : Bool) → a ≡ true → c ≡ true → (a && c) ≡ true
both true true h g = refl
both true false h g = g
both false c h g = absurd (cc)

pub first-and : (a c : Bool) → (a && c) ≡ true → a ≡ true
first-and true c h = refl
first-and false c h = absurd (cc)

pub second-and : (a c : Bool) → (a && c) ≡ true → c ≡ true
second-and true c h = h
second-and false c h = absurd (cc)

pub append-nil : {A : Type 0} (xs : List A) → xs ++ [] ≡ xs
append-nil [] = refl
append-nil (x ∷ xs) = ap (λ w. x ∷ w) (append-nil xs)

at-most-31 : (n : ℕ) → n ≤ 31 → nat_le n 31 ≡ true
at-most-31 n h = grind (arith, nat_tests)

below-32 : (n : ℕ) → nat_lt n 32 ≡ true → n < 32
below-32 n h = grind (arith, nat_tests)

is-byte : (b c : ℕ) → (b == c) ≡ true → b ≡ c
is-byte b c h = grind (arith, nat_tests)

pub is-self : (b : ℕ) → (b == b) ≡ true
is-self b = grind (arith, nat_tests)

pub doubled-quote : (b : ℕ) (t : List ℕ) → (b == 39) ≡ true → doubled (b ∷ t) ≡ 39 ∷ 39 ∷ doubled t
doubled-quote b t h = ap (λ x. if x then 39 ∷ 39 ∷ doubled t else b ∷ doubled t) h

pub doubled-other : (b : ℕ) (t : List ℕ) → (b == 39) ≡ false → doubled (b ∷ t) ≡ b ∷ doubled t
doubled-other b t h = ap (λ x. if x then 39 ∷ 39 ∷ doubled t else b ∷ doubled t) h

one-less : (l n : ℕ) (name : List ℕ) (b : ℕ) → length name < 32 → l ≤ 32 - length (name ++ b ∷ []) → suc l ≤ 32 - length name
one-less l n name b h g = omega (arith, length-append name (b ∷ []))

pub back : (vs : List (List ℕ)) (ls : List Left) (b : ℕ) → Back vs ls b (step vs ls b)
back vs [] b = tt
back vs (Spaces ∷ ps) b =
    by-test (Back vs (Spaces ∷ ps) b) (is_space b) _ _
    (λ h ws bs d. (b ∷ d.0, d.1, ap (λ w. b ∷ w) d.2, both (is_space b) (list_all is_space d.0) h d.3, d.4))
    (λ h. wider vs vs (Spaces ∷ ps) ps b (λ ws bs d. ([], b ∷ bs, refl, refl, d)) (back vs ps b))
back vs (Gap ∷ ps) b =
    by-test (Back vs (Gap ∷ ps) b) (is_space b) _ _
    (λ h ws bs d. (b ∷ d.0, d.1, ap (λ w. b ∷ w) d.2, (both (is_space b) (list_all is_space d.0) h d.3, omega arith), d.4))
    (λ h. tt)
back vs (Word [] ∷ ps) b = wider vs vs (Word [] ∷ ps) ps b (λ ws bs d. ([], b ∷ bs, refl, refl, d)) (back vs ps b)
back vs (Word (c ∷ w) ∷ ps) b =
    by-test (Back vs (Word (c ∷ w) ∷ ps) b) (small b == c) _ _
    (λ h ws bs d. (b ∷ d.0, d.1, ap (λ z. b ∷ z) d.2, (λ i. is-byte (small b) c h i ∷ d.3 i), d.4))
    (λ h. tt)
back vs (Name ∷ ps) b =
    by-test (Back vs (Name ∷ ps) b) (is_letter b) _ _
    (λ h ws bs d.
    let l : length d.0 ≤ 31 = omega (arith, d.3.1) in
    (b ∷ d.0, d.1, ap (λ z. b ∷ z) d.2, both (is_letter b) _ h (both (list_all is_table_byte d.0) (nat_le (length d.0) 31) d.3.0 (at-most-31 (length d.0) l)), d.4))
    (λ h. tt)
back vs (More name ∷ ps) b =
    by-test (Back vs (More name ∷ ps) b) (is_table_byte b && nat_lt (length name) 32) _ _
    (λ h ws bs d.
    let l : length name < 32 = below-32 (length name) (second-and (is_table_byte b) (nat_lt (length name) 32) h) in (
      b ∷ d.0,
      d.1,
      ap (λ z. b ∷ z) d.2,
      (both (is_table_byte b) (list_all is_table_byte d.0) (first-and (is_table_byte b) (nat_lt (length name) 32) h) d.3.0, one-less (length d.0) 0 name b l d.3.1),
      subst (λ z. Rel (vs ++ z ∷ []) ps ws d.1) (append_assoc name (b ∷ []) d.0) d.4,
    ))
    (λ h. wider vs (vs ++ name ∷ []) (More name ∷ ps) ps b
    (λ ws bs d. ([], b ∷ bs, refl, (refl, omega arith), subst (λ z. Rel (vs ++ z ∷ []) ps ws (b ∷ bs)) (sym (append-nil name)) d))
    (back (vs ++ name ∷ []) ps b))
back vs (Quoted ∷ ps) b =
    by-test (Back vs (Quoted ∷ ps) b) (b == 39) _ _
    (λ h ws bs d. (d.0, d.1, (λ i. is-byte b 39 h i ∷ d.2 i), d.3))
    (λ h. tt)
back vs (Inside text ∷ ps) b =
    by-test (Back vs (Inside text ∷ ps) b) (b == 39) _ _
    (λ h ws bs d. behind-quote vs text ps b (is-byte b 39 h) ws bs d)
    (λ h ws bs d. (
      b ∷ d.0,
      d.1,
      ap (λ z. b ∷ z) d.2 ∙ ap (λ z. z ++ 39 ∷ d.1) (sym (doubled-other b d.0 h)),
      subst (λ z. Rel (vs ++ z ∷ []) ps ws d.1) (append_assoc text (b ∷ []) d.0) d.3,
    ))
  where
    behind-quote : (vs : List (List ℕ)) (text : List ℕ) (ps : List Left) (b : ℕ) → b ≡ 39 → (ws : List (List ℕ)) (bs : List ℕ) → Rel vs (Shut text ∷ ps) ws bs → Rel vs (Inside text ∷ ps) ws (b ∷ bs)
    behind-quote vs text ps b h ws bs (inl d) = ([], bs, ap (λ z. z ∷ bs) h, subst (λ z. Rel (vs ++ z ∷ []) ps ws bs) (sym (append-nil text)) d)
    behind-quote vs text ps b h ws bs (inr d) =
        (39 ∷ d.0, d.1, (λ i. h i ∷ d.2 i), subst (λ z. Rel (vs ++ z ∷ []) ps ws d.1) (append_assoc text (39 ∷ []) d.0) d.3)
back vs (Shut text ∷ ps) b =
    by-test (Back vs (Shut text ∷ ps) b) (b == 39) _ _
    (λ h ws bs d. inr (d.0, d.1, (λ i. is-byte b 39 h i ∷ d.2 i), d.3))
    (λ h. wider vs (vs ++ text ∷ []) (Shut text ∷ ps) ps b (λ ws bs d. inl d) (back (vs ++ text ∷ []) ps b))

-- at the end

finish-back : (vs : List (List ℕ)) (ls : List Left) (n : ℕ) (ws : List (List ℕ)) → finish vs ls n ≡ Whole ws → Rel vs ls ws []
finish-back vs [] n ws h = (cc, refl)
finish-back vs (Spaces ∷ ps) n ws h = ([], [], refl, refl, finish-back vs ps n ws h)
finish-back vs (Gap ∷ ps) n ws h = absurd (cc)
finish-back vs (Word [] ∷ ps) n ws h = ([], [], refl, refl, finish-back vs ps n ws h)
finish-back vs (Word (c ∷ w) ∷ ps) n ws h = absurd (cc)
finish-back vs (Name ∷ ps) n ws h = absurd (cc)
finish-back vs (More name ∷ ps) n ws h =
    ([], [], refl, (refl, omega arith), subst (λ z. Rel (vs ++ z ∷ []) ps ws []) (sym (append-nil name)) (finish-back (vs ++ name ∷ []) ps n ws h))
finish-back vs (Quoted ∷ ps) n ws h = absurd (cc)
finish-back vs (Inside text ∷ ps) n ws h = absurd (cc)
finish-back vs (Shut text ∷ ps) n ws h = inl (finish-back (vs ++ text ∷ []) ps n ws h)

abbrev Wholes : List ℕ → Type 0
Wholes bs = (vs : List (List ℕ)) (ls : List Left) (n : ℕ) (ws : List (List ℕ)) → run vs ls bs n ≡ Whole ws → Rel vs ls ws bs

-- bytes that a run takes whole are the parts
pub whole-back : (bs : List ℕ) → Wholes bs
whole-back [] vs ls n ws h = finish-back vs ls n ws h
whole-back (b ∷ bs) vs ls n ws h = by (step vs ls b) (back vs ls b) (whole-back bs) h
  where
    by : (o : Option State) → Back vs ls b o → Wholes bs → option_map_or (λ (s : State). run s.texts s.left bs (n + 1)) o (Stops n) ≡ Whole ws → Rel vs ls ws (b ∷ bs)
    by None k ih h = absurd (cc)
    by (Some s) k ih h = k ws bs (ih s.texts s.left (n + 1) ws h)

-- the words have small letters
abbrev pub SmallWords : List Left → Type 0
SmallWords [] = Unit {0}
SmallWords (Word w ∷ ps) = (map small w ≡ w) × SmallWords ps
SmallWords (_ ∷ ps) = SmallWords ps

tail-is : (c d : ℕ) (xs ys : List ℕ) → c ∷ xs ≡ d ∷ ys → xs ≡ ys
tail-is c d xs ys h = cc

small-step : (vs : List (List ℕ)) (ls : List Left) (b : ℕ) → SmallWords ls → IfSome (step vs ls b) (λ s. SmallWords s.left)
small-step vs [] b k = tt
small-step vs (Spaces ∷ ps) b k = by-test (λ o. IfSome o (λ s. SmallWords s.left)) (is_space b) _ _ (λ h. k) (λ h. small-step vs ps b k)
small-step vs (Gap ∷ ps) b k = by-test (λ o. IfSome o (λ s. SmallWords s.left)) (is_space b) _ _ (λ h. k) (λ h. tt)
small-step vs (Word [] ∷ ps) b k = small-step vs ps b k.1
small-step vs (Word (c ∷ w) ∷ ps) b k = by-test (λ o. IfSome o (λ s. SmallWords s.left)) (small b == c) _ _ (λ h. (tail-is (small c) c (map small w) w k.0, k.1)) (λ h. tt)
small-step vs (Name ∷ ps) b k = by-test (λ o. IfSome o (λ s. SmallWords s.left)) (is_letter b) _ _ (λ h. k) (λ h. tt)
small-step vs (More name ∷ ps) b k = by-test (λ o. IfSome o (λ s. SmallWords s.left)) (is_table_byte b && nat_lt (length name) 32) _ _ (λ h. k) (λ h. small-step (vs ++ name ∷ []) ps b k)
small-step vs (Quoted ∷ ps) b k = by-test (λ o. IfSome o (λ s. SmallWords s.left)) (b == 39) _ _ (λ h. k) (λ h. tt)
small-step vs (Inside text ∷ ps) b k = by-test (λ o. IfSome o (λ s. SmallWords s.left)) (b == 39) _ _ (λ h. k) (λ h. k)
small-step vs (Shut text ∷ ps) b k = by-test (λ o. IfSome o (λ s. SmallWords s.left)) (b == 39) _ _ (λ h. k) (λ h. small-step (vs ++ text ∷ []) ps b k)

-- some bytes are what is left
abbrev Live : List (List ℕ) → List Left → Type 0
Live vs ls = (ws : List (List ℕ)) × (bs : List ℕ) × Rel vs ls ws bs

live : (vs : List (List ℕ)) (ls : List Left) → SmallWords ls → Live vs ls
live vs [] k = (vs, [], (refl, refl))
live vs (Spaces ∷ ps) k = let x = live vs ps k in (x.0, x.1, ([], x.1, refl, refl, x.2))
live vs (Gap ∷ ps) k = let x = live vs ps k in (x.0, 32 ∷ x.1, (32 ∷ [], x.1, refl, (refl, omega arith), x.2))
live vs (Word w ∷ ps) k = let x = live vs ps k.1 in (x.0, w ++ x.1, (w, x.1, refl, k.0, x.2))
live vs (Name ∷ ps) k = let x = live (vs ++ (97 ∷ []) ∷ []) ps k in (x.0, 97 ∷ x.1, (97 ∷ [], x.1, refl, refl, x.2))
live vs (More name ∷ ps) k = let x = live (vs ++ (name ++ []) ∷ []) ps k in (x.0, x.1, ([], x.1, refl, (refl, omega arith), x.2))
live vs (Quoted ∷ ps) k = let x = live (vs ++ [] ∷ []) ps k in (x.0, 39 ∷ 39 ∷ x.1, ([], x.1, refl, x.2))
live vs (Inside text ∷ ps) k = let x = live (vs ++ (text ++ []) ∷ []) ps k in (x.0, 39 ∷ x.1, ([], x.1, refl, x.2))
live vs (Shut text ∷ ps) k = let x = live (vs ++ text ∷ []) ps k in (x.0, x.1, inl x.2)

finish-place : (vs : List (List ℕ)) (ls : List Left) (n p : ℕ) → finish vs ls n ≡ Stops p → p ≡ n
finish-place vs [] n p h = absurd (cc)
finish-place vs (Spaces ∷ ps) n p h = finish-place vs ps n p h
finish-place vs (Gap ∷ ps) n p h = cc
finish-place vs (Word [] ∷ ps) n p h = finish-place vs ps n p h
finish-place vs (Word (c ∷ w) ∷ ps) n p h = cc
finish-place vs (Name ∷ ps) n p h = cc
finish-place vs (More name ∷ ps) n p h = finish-place (vs ++ name ∷ []) ps n p h
finish-place vs (Quoted ∷ ps) n p h = cc
finish-place vs (Inside text ∷ ps) n p h = cc
finish-place vs (Shut text ∷ ps) n p h = finish-place (vs ++ text ∷ []) ps n p h

-- the bytes before the place at which a run stops begin the parts
pub record Begun (vs : List (List ℕ)) (ls : List Left) (bs : List ℕ) (n p : ℕ) : Type 0 where
  pub m : ℕ
  pub ws : List (List ℕ)
  pub rest : List ℕ
  pub place : p ≡ n + m
  pub within : m ≤ length bs
  pub rel : Rel vs ls ws (take m bs ++ rest)

abbrev Stopped : List ℕ → Type 0
Stopped bs = (vs : List (List ℕ)) (ls : List Left) (n p : ℕ) → SmallWords ls → run vs ls bs n ≡ Stops p → Begun vs ls bs n p

here : (n p : ℕ) → p ≡ n → p ≡ n + 0
here n p h = omega arith

stops-is : (n p : ℕ) → Stops n ≡ Stops p → p ≡ n
stops-is n p h = cc

begun-here : (vs : List (List ℕ)) (ls : List Left) (bs : List ℕ) (n p : ℕ) → SmallWords ls → p ≡ n → Begun vs ls bs n p
begun-here vs ls bs n p k h = let x = live vs ls k in record { m = 0; ws = x.0; rest = x.1; place = here n p h; within = omega arith; rel = x.2 }

pub stop-back : (bs : List ℕ) → Stopped bs
stop-back [] vs ls n p k h = begun-here vs ls [] n p k (finish-place vs ls n p h)
stop-back (b ∷ bs) vs ls n p k h = by (step vs ls b) (back vs ls b) (small-step vs ls b k) (stop-back bs) h
  where
    by : (o : Option State) → Back vs ls b o → IfSome o (λ s. SmallWords s.left) → Stopped bs →
        option_map_or (λ (s : State). run s.texts s.left bs (n + 1)) o (Stops n) ≡ Stops p → Begun vs ls (b ∷ bs) n p
    by None f g ih h = begun-here vs ls (b ∷ bs) n p k (stops-is n p h)
    by (Some s) f g ih h =
        let x : Begun s.texts s.left bs (n + 1) p = ih s.texts s.left (n + 1) p g h in
        record { m = suc x.m; ws = x.ws; rest = x.rest; place = x.place ∙ further n x.m; within = omega (arith, x.within); rel = f x.ws (take x.m bs ++ x.rest) x.rel }
      where
        further : (n m : ℕ) → (n + 1) + m ≡ n + suc m
        further n m = omega arith

-- no longer front of the bytes begins the parts
abbrev Bounded : List ℕ → Type 0
Bounded bs = (vs : List (List ℕ)) (ls : List Left) (n p q : ℕ) (rest : List ℕ) (ws : List (List ℕ)) →
    SmallWords ls → run vs ls bs n ≡ Stops p → q ≤ length bs → run vs ls (take q bs ++ rest) n ≡ Whole ws → n + q ≤ p

pub stop-bound : (bs : List ℕ) → Bounded bs
stop-bound [] vs ls n p q rest ws k h l w = let g : p ≡ n = finish-place vs ls n p h in omega (arith, g, l)
stop-bound (b ∷ bs) vs ls n p zero rest ws k h l w = let x : Begun vs ls (b ∷ bs) n p = stop-back (b ∷ bs) vs ls n p k h in omega (arith, x.place)
stop-bound (b ∷ bs) vs ls n p (suc q) rest ws k h l w = by (step vs ls b) (small-step vs ls b k) (stop-bound bs) h w
  where
    by : (o : Option State) → IfSome o (λ s. SmallWords s.left) → Bounded bs →
        option_map_or (λ (s : State). run s.texts s.left bs (n + 1)) o (Stops n) ≡ Stops p →
        option_map_or (λ (s : State). run s.texts s.left (take q bs ++ rest) (n + 1)) o (Stops n) ≡ Whole ws → n + suc q ≤ p
    by None g ih h w = absurd (cc)
    by (Some s) g ih h w = let e : (n + 1) + q ≤ p = ih s.texts s.left (n + 1) p q rest ws g h (omega (arith, l)) w in omega (arith, e)
