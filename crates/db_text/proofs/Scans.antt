-- A run over a part, as the code makes it.
use Rattle.std.proofs.Common.{◌≡◌, ◌⊎◌, inl, inr, ℕ, ◌+◌, ◌<◌, ◌≤◌, List, [], ◌∷◌, ◌++◌, length, drop, get_or, Bool, true, false, ◌&&◌, Some, None, refl, ap, sym, ◌∙◌, add-one, arith}
use Rattle.std.proofs.Math.Seq.{drop-cons}
use Rattle.std.proofs.lemmas.List.{drop_all}
use Rattle.std.specs.Prelude.{if◌then◌else◌, ◌==◌, nat_lt}
use Rattle.std.specs.Option.{option_map_or}
use Rattle.std.proofs.lemmas.Bool.Decides.{nat_tests}
use Rattle.sml_syntax.specs.ByteClasses.{is_letter}
use Rattle.web_data.specs.Statements.{is_space, is_table_byte, small}
use Rattle.web_data.specs.StatementReading.{Left, Spaces, Gap, Word, Name, More, Quoted, Inside, Shut, State, state, step, Whole, Stops, finish, run}
use Rattle.db_text.specs.Reading.{stands_at, is_quote, is_small}

at_byte : (bs : List ℕ) (i : ℕ) → i < length bs → drop i bs ≡ get_or bs i 0 ∷ drop (i + 1) bs
at_byte bs i h = drop-cons bs i 0 h ∙ ap (λ n. get_or bs i 0 ∷ drop n bs) (sym (add-one i))

pub run-step : (ts : List (List ℕ)) (ps : List Left) (b : ℕ) (bs : List ℕ) (n : ℕ) (s : State) → step ts ps b ≡ Some s → run ts ps (b ∷ bs) n ≡ run s.texts s.left bs (n + 1)
run-step ts ps b bs n s h = ap (λ o. option_map_or (λ (s : State). run s.texts s.left bs (n + 1)) o (Stops n)) h

pub run-stop : (ts : List (List ℕ)) (ps : List Left) (b : ℕ) (bs : List ℕ) (n : ℕ) → step ts ps b ≡ None → run ts ps (b ∷ bs) n ≡ Stops n
run-stop ts ps b bs n h = ap (λ o. option_map_or (λ (s : State). run s.texts s.left bs (n + 1)) o (Stops n)) h

pub run-same : (ts us : List (List ℕ)) (ps qs : List Left) (b : ℕ) (bs : List ℕ) (n : ℕ) → step ts ps b ≡ step us qs b → run ts ps (b ∷ bs) n ≡ run us qs (b ∷ bs) n
run-same ts us ps qs b bs n h = ap (λ o. option_map_or (λ (s : State). run s.texts s.left bs (n + 1)) o (Stops n)) h

module _ (ts : List (List ℕ)) (ps : List Left) (bs : List ℕ) (i : ℕ) (h : i < length bs) where
  pub over : (s : State) → step ts ps (get_or bs i 0) ≡ Some s → run ts ps (drop i bs) i ≡ run s.texts s.left (drop (i + 1) bs) (i + 1)
  over s e = ap (λ w. run ts ps w i) (at_byte bs i h) ∙ run-step ts ps (get_or bs i 0) (drop (i + 1) bs) i s e

  pub halts : step ts ps (get_or bs i 0) ≡ None → run ts ps (drop i bs) i ≡ Stops i
  halts e = ap (λ w. run ts ps w i) (at_byte bs i h) ∙ run-stop ts ps (get_or bs i 0) (drop (i + 1) bs) i e

  pub past : (us : List (List ℕ)) (qs : List Left) → step ts ps (get_or bs i 0) ≡ step us qs (get_or bs i 0) → run ts ps (drop i bs) i ≡ run us qs (drop i bs) i
  past us qs e =
      ap (λ w. run ts ps w i) (at_byte bs i h)
      ∙ (run-same ts us ps qs (get_or bs i 0) (drop (i + 1) bs) i e ∙ ap (λ w. run us qs w i) (sym (at_byte bs i h)))

pub at_end : (ts : List (List ℕ)) (ps : List Left) (bs : List ℕ) (i : ℕ) → length bs ≤ i → run ts ps (drop i bs) i ≡ finish ts ps i
at_end ts ps bs i h = ap (λ w. run ts ps w i) (drop_all i bs h)

-- both at the end and before a byte
pub past_any : (ts us : List (List ℕ)) (p : Left) (ps : List Left) (r : List ℕ) (n : ℕ) → finish ts (p ∷ ps) n ≡ finish us ps n → ((b : ℕ) → step ts (p ∷ ps) b ≡ step us ps b) → run ts (p ∷ ps) r n ≡ run us ps r n
past_any ts us p ps [] n f s = f
past_any ts us p ps (b ∷ bs) n f s = run-same ts us (p ∷ ps) ps b bs n (s b)

pub if_so : {A : Type 0} (t : Bool) (x y : A) → t ≡ true → (if t then x else y) ≡ x
if_so t x y h = ap (λ b. if b then x else y) h

pub if_not : {A : Type 0} (t : Bool) (x y : A) → t ≡ false → (if t then x else y) ≡ y
if_not t x y h = ap (λ b. if b then x else y) h

module _ (ts : List (List ℕ)) (ps : List Left) (bs : List ℕ) (i : ℕ) where
  -- spaces

  pub spaces_on : i < length bs → is_space (get_or bs i 0) ≡ true → run ts (Spaces ∷ ps) (drop i bs) i ≡ run ts (Spaces ∷ ps) (drop (i + 1) bs) (i + 1)
  spaces_on h e = over ts (Spaces ∷ ps) bs i h (state ts (Spaces ∷ ps)) (if_so _ _ _ e)

  pub spaces_halt : i < length bs → is_space (get_or bs i 0) ≡ false → run ts (Spaces ∷ ps) (drop i bs) i ≡ run ts ps (drop i bs) i
  spaces_halt h e = past ts (Spaces ∷ ps) bs i h ts ps (if_not _ _ _ e)

  pub spaces_end : length bs ≤ i → run ts (Spaces ∷ ps) (drop i bs) i ≡ run ts ps (drop i bs) i
  spaces_end h = at_end ts (Spaces ∷ ps) bs i h ∙ sym (at_end ts ps bs i h)

  pub gap_on : i < length bs → is_space (get_or bs i 0) ≡ true → run ts (Gap ∷ ps) (drop i bs) i ≡ run ts (Spaces ∷ ps) (drop (i + 1) bs) (i + 1)
  gap_on h e = over ts (Gap ∷ ps) bs i h (state ts (Spaces ∷ ps)) (if_so _ _ _ e)

  pub gap_halt : i < length bs → is_space (get_or bs i 0) ≡ false → run ts (Gap ∷ ps) (drop i bs) i ≡ Stops i
  gap_halt h e = halts ts (Gap ∷ ps) bs i h (if_not _ _ _ e)

  -- words

  pub word_on : (c : ℕ) (w : List ℕ) → i < length bs → (small (get_or bs i 0) == c) ≡ true → run ts (Word (c ∷ w) ∷ ps) (drop i bs) i ≡ run ts (Word w ∷ ps) (drop (i + 1) bs) (i + 1)
  word_on c w h e = over ts (Word (c ∷ w) ∷ ps) bs i h (state ts (Word w ∷ ps)) (if_so _ _ _ e)

  pub word_halt : (c : ℕ) (w : List ℕ) → i < length bs → (small (get_or bs i 0) == c) ≡ false → run ts (Word (c ∷ w) ∷ ps) (drop i bs) i ≡ Stops i
  word_halt c w h e = halts ts (Word (c ∷ w) ∷ ps) bs i h (if_not _ _ _ e)

  pub word_over : (r : List ℕ) → run ts (Word [] ∷ ps) r i ≡ run ts ps r i
  word_over r = past_any ts ts (Word []) ps r i refl (λ b. refl)

  -- names

  pub name_on : i < length bs → is_letter (get_or bs i 0) ≡ true → run ts (Name ∷ ps) (drop i bs) i ≡ run ts (More (get_or bs i 0 ∷ []) ∷ ps) (drop (i + 1) bs) (i + 1)
  name_on h e = over ts (Name ∷ ps) bs i h (state ts (More (get_or bs i 0 ∷ []) ∷ ps)) (if_so _ _ _ e)

  pub name_halt : i < length bs → is_letter (get_or bs i 0) ≡ false → run ts (Name ∷ ps) (drop i bs) i ≡ Stops i
  name_halt h e = halts ts (Name ∷ ps) bs i h (if_not _ _ _ e)

  pub more_on : (name : List ℕ) → i < length bs → (is_table_byte (get_or bs i 0) && nat_lt (length name) 32) ≡ true →
      run ts (More name ∷ ps) (drop i bs) i ≡ run ts (More (name ++ get_or bs i 0 ∷ []) ∷ ps) (drop (i + 1) bs) (i + 1)
  more_on name h e = over ts (More name ∷ ps) bs i h (state ts (More (name ++ get_or bs i 0 ∷ []) ∷ ps)) (if_so _ _ _ e)

  pub more_halt : (name : List ℕ) → i < length bs → (is_table_byte (get_or bs i 0) && nat_lt (length name) 32) ≡ false →
      run ts (More name ∷ ps) (drop i bs) i ≡ run (ts ++ name ∷ []) ps (drop i bs) i
  more_halt name h e = past ts (More name ∷ ps) bs i h (ts ++ name ∷ []) ps (if_not _ _ _ e)

  pub more_end : (name : List ℕ) → length bs ≤ i → run ts (More name ∷ ps) (drop i bs) i ≡ run (ts ++ name ∷ []) ps (drop i bs) i
  more_end name h = at_end ts (More name ∷ ps) bs i h ∙ sym (at_end (ts ++ name ∷ []) ps bs i h)

  -- texts

  pub quoted_on : i < length bs → (get_or bs i 0 == 39) ≡ true → run ts (Quoted ∷ ps) (drop i bs) i ≡ run ts (Inside [] ∷ ps) (drop (i + 1) bs) (i + 1)
  quoted_on h e = over ts (Quoted ∷ ps) bs i h (state ts (Inside [] ∷ ps)) (if_so _ _ _ e)

  pub quoted_halt : i < length bs → (get_or bs i 0 == 39) ≡ false → run ts (Quoted ∷ ps) (drop i bs) i ≡ Stops i
  quoted_halt h e = halts ts (Quoted ∷ ps) bs i h (if_not _ _ _ e)

  pub inside_on : (t : List ℕ) → i < length bs → (get_or bs i 0 == 39) ≡ false → run ts (Inside t ∷ ps) (drop i bs) i ≡ run ts (Inside (t ++ get_or bs i 0 ∷ []) ∷ ps) (drop (i + 1) bs) (i + 1)
  inside_on t h e = over ts (Inside t ∷ ps) bs i h (state ts (Inside (t ++ get_or bs i 0 ∷ []) ∷ ps)) (if_not _ _ _ e)

  pub inside_quote : (t : List ℕ) → i < length bs → (get_or bs i 0 == 39) ≡ true → run ts (Inside t ∷ ps) (drop i bs) i ≡ run ts (Shut t ∷ ps) (drop (i + 1) bs) (i + 1)
  inside_quote t h e = over ts (Inside t ∷ ps) bs i h (state ts (Shut t ∷ ps)) (if_so _ _ _ e)

  pub shut_quote : (t : List ℕ) → i < length bs → (get_or bs i 0 == 39) ≡ true → run ts (Shut t ∷ ps) (drop i bs) i ≡ run ts (Inside (t ++ 39 ∷ []) ∷ ps) (drop (i + 1) bs) (i + 1)
  shut_quote t h e = over ts (Shut t ∷ ps) bs i h (state ts (Inside (t ++ 39 ∷ []) ∷ ps)) (if_so _ _ _ e)

  pub shut_halt : (t : List ℕ) → i < length bs → (get_or bs i 0 == 39) ≡ false → run ts (Shut t ∷ ps) (drop i bs) i ≡ run (ts ++ t ∷ []) ps (drop i bs) i
  shut_halt t h e = past ts (Shut t ∷ ps) bs i h (ts ++ t ∷ []) ps (if_not _ _ _ e)

  pub shut_end : (t : List ℕ) → length bs ≤ i → run ts (Shut t ∷ ps) (drop i bs) i ≡ run (ts ++ t ∷ []) ps (drop i bs) i
  shut_end t h = at_end ts (Shut t ∷ ps) bs i h ∙ sym (at_end (ts ++ t ∷ []) ps bs i h)

-- the same by the tests of the code

split-and : (a b : Bool) → (a && b) ≡ true → (a ≡ true) × (b ≡ true)
split-and true b h = (refl, h)
split-and false b h = absurd (cc)

split-not : (a b : Bool) → (a && b) ≡ false → (a ≡ false) ⊎ ((a ≡ true) × (b ≡ false))
split-not true b h = inr (refl, h)
split-not false b h = inl refl

pub below : (a b : ℕ) → nat_lt a b ≡ true → a < b
below a b h = grind (arith, nat_tests)

pub not-below : (a b : ℕ) → nat_lt a b ≡ false → b ≤ a
not-below a b h = grind (arith, nat_tests)

below-is : (n : ℕ) → n < 32 → nat_lt n 32 ≡ true
below-is n h = grind (arith, nat_tests)

not-below-is : (n : ℕ) → 32 ≤ n → nat_lt n 32 ≡ false
not-below-is n h = grind (arith, nat_tests)

and-no : (a : Bool) → (a && false) ≡ false
and-no true = refl
and-no false = refl

module _ (test : ℕ → Bool) (bs : List ℕ) (i : ℕ) where
  pub stands : stands_at test bs i ≡ true → (i < length bs) × (test (get_or bs i 0) ≡ true)
  stands h = let g : (nat_lt i (length bs) ≡ true) × (test (get_or bs i 0) ≡ true) = split-and _ _ h in (below i (length bs) g.0, g.1)

  pub stands-not : stands_at test bs i ≡ false → (length bs ≤ i) ⊎ ((i < length bs) × (test (get_or bs i 0) ≡ false))
  stands-not h = by (split-not (nat_lt i (length bs)) (test (get_or bs i 0)) h)
    where
      by : (nat_lt i (length bs) ≡ false) ⊎ ((nat_lt i (length bs) ≡ true) × (test (get_or bs i 0) ≡ false)) → (length bs ≤ i) ⊎ ((i < length bs) × (test (get_or bs i 0) ≡ false))
      by (inl g) = inl (not-below i (length bs) g)
      by (inr g) = inr (below i (length bs) g.0, g.1)

module _ (ts : List (List ℕ)) (ps : List Left) (bs : List ℕ) (i : ℕ) where
  -- what stops at a byte that fails a test stops at the end too
  stop : (p : Left) (test : ℕ → Bool) → finish ts (p ∷ ps) i ≡ Stops i → (i < length bs → test (get_or bs i 0) ≡ false → run ts (p ∷ ps) (drop i bs) i ≡ Stops i) →
      stands_at test bs i ≡ false → run ts (p ∷ ps) (drop i bs) i ≡ Stops i
  stop p test f g h = by (stands-not test bs i h)
    where
      by : (length bs ≤ i) ⊎ ((i < length bs) × (test (get_or bs i 0) ≡ false)) → run ts (p ∷ ps) (drop i bs) i ≡ Stops i
      by (inl e) = at_end ts (p ∷ ps) bs i e ∙ f
      by (inr e) = g e.0 e.1

  leave : (p : Left) (us : List (List ℕ)) (test : ℕ → Bool) → finish ts (p ∷ ps) i ≡ finish us ps i → (i < length bs → test (get_or bs i 0) ≡ false → run ts (p ∷ ps) (drop i bs) i ≡ run us ps (drop i bs) i) →
      stands_at test bs i ≡ false → run ts (p ∷ ps) (drop i bs) i ≡ run us ps (drop i bs) i
  leave p us test f g h = by (stands-not test bs i h)
    where
      by : (length bs ≤ i) ⊎ ((i < length bs) × (test (get_or bs i 0) ≡ false)) → run ts (p ∷ ps) (drop i bs) i ≡ run us ps (drop i bs) i
      by (inl e) = at_end ts (p ∷ ps) bs i e ∙ (f ∙ sym (at_end us ps bs i e))
      by (inr e) = g e.0 e.1

  pub spaces_at : stands_at is_space bs i ≡ true → run ts (Spaces ∷ ps) (drop i bs) i ≡ run ts (Spaces ∷ ps) (drop (i + 1) bs) (i + 1)
  spaces_at h = let g = stands is_space bs i h in spaces_on ts ps bs i g.0 g.1

  pub spaces_over : stands_at is_space bs i ≡ false → run ts (Spaces ∷ ps) (drop i bs) i ≡ run ts ps (drop i bs) i
  spaces_over = leave Spaces ts is_space refl (spaces_halt ts ps bs i)

  pub gap_at : stands_at is_space bs i ≡ true → run ts (Gap ∷ ps) (drop i bs) i ≡ run ts (Spaces ∷ ps) (drop (i + 1) bs) (i + 1)
  gap_at h = let g = stands is_space bs i h in gap_on ts ps bs i g.0 g.1

  pub gap_stop : stands_at is_space bs i ≡ false → run ts (Gap ∷ ps) (drop i bs) i ≡ Stops i
  gap_stop = stop Gap is_space refl (gap_halt ts ps bs i)

  pub word_at : (c : ℕ) (w : List ℕ) → stands_at (is_small c) bs i ≡ true → run ts (Word (c ∷ w) ∷ ps) (drop i bs) i ≡ run ts (Word w ∷ ps) (drop (i + 1) bs) (i + 1)
  word_at c w h = let g = stands (is_small c) bs i h in word_on ts ps bs i c w g.0 g.1

  pub word_stop : (c : ℕ) (w : List ℕ) → stands_at (is_small c) bs i ≡ false → run ts (Word (c ∷ w) ∷ ps) (drop i bs) i ≡ Stops i
  word_stop c w = stop (Word (c ∷ w)) (is_small c) refl (word_halt ts ps bs i c w)

  pub name_at : stands_at is_letter bs i ≡ true → run ts (Name ∷ ps) (drop i bs) i ≡ run ts (More (get_or bs i 0 ∷ []) ∷ ps) (drop (i + 1) bs) (i + 1)
  name_at h = let g = stands is_letter bs i h in name_on ts ps bs i g.0 g.1

  pub name_stop : stands_at is_letter bs i ≡ false → run ts (Name ∷ ps) (drop i bs) i ≡ Stops i
  name_stop = stop Name is_letter refl (name_halt ts ps bs i)

  pub more_at : (name : List ℕ) → length name < 32 → stands_at is_table_byte bs i ≡ true → run ts (More name ∷ ps) (drop i bs) i ≡ run ts (More (name ++ get_or bs i 0 ∷ []) ∷ ps) (drop (i + 1) bs) (i + 1)
  more_at name l h =
      let g = stands is_table_byte bs i h in
      more_on ts ps bs i name g.0 (ap (λ z. z && nat_lt (length name) 32) g.1 ∙ below-is (length name) l)

  pub more_over : (name : List ℕ) → stands_at is_table_byte bs i ≡ false → run ts (More name ∷ ps) (drop i bs) i ≡ run (ts ++ name ∷ []) ps (drop i bs) i
  more_over name = leave (More name) (ts ++ name ∷ []) is_table_byte refl (λ l h. more_halt ts ps bs i name l (ap (λ z. z && nat_lt (length name) 32) h))

  pub more_full : (name : List ℕ) → 32 ≤ length name → run ts (More name ∷ ps) (drop i bs) i ≡ run (ts ++ name ∷ []) ps (drop i bs) i
  more_full name l =
      past_any ts (ts ++ name ∷ []) (More name) ps (drop i bs) i refl
      (λ b. if_not (is_table_byte b && nat_lt (length name) 32) _ _ (ap (λ z. is_table_byte b && z) (not-below-is (length name) l) ∙ and-no (is_table_byte b)))

  pub quoted_at : stands_at is_quote bs i ≡ true → run ts (Quoted ∷ ps) (drop i bs) i ≡ run ts (Inside [] ∷ ps) (drop (i + 1) bs) (i + 1)
  quoted_at h = let g = stands is_quote bs i h in quoted_on ts ps bs i g.0 g.1

  pub quoted_stop : stands_at is_quote bs i ≡ false → run ts (Quoted ∷ ps) (drop i bs) i ≡ Stops i
  quoted_stop = stop Quoted is_quote refl (quoted_halt ts ps bs i)

  pub shut_at : (t : List ℕ) → stands_at is_quote bs i ≡ true → run ts (Shut t ∷ ps) (drop i bs) i ≡ run ts (Inside (t ++ 39 ∷ []) ∷ ps) (drop (i + 1) bs) (i + 1)
  shut_at t h = let g = stands is_quote bs i h in shut_quote ts ps bs i t g.0 g.1

  pub shut_over : (t : List ℕ) → stands_at is_quote bs i ≡ false → run ts (Shut t ∷ ps) (drop i bs) i ≡ run (ts ++ t ∷ []) ps (drop i bs) i
  shut_over t = leave (Shut t) (ts ++ t ∷ []) is_quote refl (shut_halt ts ps bs i t)

  pub inside_at : (t : List ℕ) → stands_at is_quote bs i ≡ true → run ts (Inside t ∷ ps) (drop i bs) i ≡ run ts (Shut t ∷ ps) (drop (i + 1) bs) (i + 1)
  inside_at t h = let g = stands is_quote bs i h in inside_quote ts ps bs i t g.0 g.1

  pub inside_more : (t : List ℕ) → i < length bs → stands_at is_quote bs i ≡ false → run ts (Inside t ∷ ps) (drop i bs) i ≡ run ts (Inside (t ++ get_or bs i 0 ∷ []) ∷ ps) (drop (i + 1) bs) (i + 1)
  inside_more t l h = by (stands-not is_quote bs i h)
    where
      by : (length bs ≤ i) ⊎ ((i < length bs) × (is_quote (get_or bs i 0) ≡ false)) → run ts (Inside t ∷ ps) (drop i bs) i ≡ run ts (Inside (t ++ get_or bs i 0 ∷ []) ∷ ps) (drop (i + 1) bs) (i + 1)
      by (inl e) = absurd (omega arith)
      by (inr e) = inside_on ts ps bs i t e.0 e.1

  pub inside_stop : (t : List ℕ) → length bs ≤ i → run ts (Inside t ∷ ps) (drop i bs) i ≡ Stops i
  inside_stop t l = at_end ts (Inside t ∷ ps) bs i l

  pub stops_behind : i < length bs → run ts [] (drop i bs) i ≡ Stops i
  stops_behind h = halts ts [] bs i h refl

  pub whole_behind : length bs ≤ i → run ts [] (drop i bs) i ≡ Whole ts
  whole_behind h = at_end ts [] bs i h
