-- A run takes the bytes of parts whole.
use Rattle.std.proofs.Common.{◌≡◌, ℕ, suc, ◌+◌, ◌<◌, ◌≤◌, List, [], ◌∷◌, ◌++◌, length, map, Bool, true, false, ◌&&◌, refl, ap, sym, ◌∙◌, subst, append_assoc, length-append, arith}
use Rattle.std.specs.Prelude.{◌==◌, nat_lt, nat_le}
use Rattle.std.specs.List.{list_all}
use Rattle.std.proofs.lemmas.Bool.Decides.{nat_tests}
use Rattle.sml_syntax.specs.ByteClasses.{is_letter}
use Rattle.web_data.specs.Statements as statement
use Rattle.web_data.specs.Statements.{is_space, is_table_byte, is_table_name, small, doubled, AreParts}
use Rattle.web_data.specs.StatementReading.{Left, Spaces, Gap, Word, Name, More, Quoted, Inside, Shut, state, Whole, run}
use Rattle.db_text.specs.Reading.{is_quote}
use Rattle.db_text.specs.Answers.{parts_left}
use Rattle.db_text.proofs.Scans.{run-step, run-same, past_any, if_so, if_not}
use Rattle.db_text.proofs.Meaning.{both, first-and, second-and, append-nil, is-self, doubled-quote, doubled-other}

-- a run takes the bytes whole, with these texts, wherever they stand
abbrev pub Takes : List (List ℕ) → List Left → List ℕ → List (List ℕ) → Type 0
Takes vs ls bs ws = (n : ℕ) → run vs ls bs n ≡ Whole ws

-- the bytes don't begin with a byte that passes a test
abbrev pub NoFirst : (ℕ → Bool) → List ℕ → Type 0
NoFirst test [] = Unit {0}
NoFirst test (b ∷ bs) = test b ≡ false

-- bytes

module _ (b : ℕ) where
  space-small : is_space b ≡ true → small b ≡ b
  space-small h = grind (arith, nat_tests)

  pub small-space : is_space (small b) ≡ is_space b
  small-space = grind (arith, nat_tests)

  pub small-table : is_table_byte (small b) ≡ is_table_byte b
  small-table = grind (arith, nat_tests)

  pub small-quote : is_quote (small b) ≡ is_quote b
  small-quote = grind (arith, nat_tests)

  pub space-table : is_space b ≡ true → is_table_byte b ≡ false
  space-table h = grind (arith, nat_tests)

  pub space-quote : is_space b ≡ true → is_quote b ≡ false
  space-quote h = grind (arith, nat_tests)

  pub letter-space : is_letter b ≡ true → is_space b ≡ false
  letter-space h = grind (arith, nat_tests)

-- fronts

module _ (vs : List (List ℕ)) (ls : List Left) (ws : List (List ℕ)) where
  pub spaces-front : (f r : List ℕ) → list_all is_space f ≡ true → NoFirst is_space r → Takes vs ls r ws → Takes vs (Spaces ∷ ls) (f ++ r) ws
  spaces-front [] [] h g k n = k n
  spaces-front [] (b ∷ r) h g k n = run-same vs vs (Spaces ∷ ls) ls b r n (if_not (is_space b) _ _ g) ∙ k n
  spaces-front (x ∷ f) r h g k n =
      run-step vs (Spaces ∷ ls) x (f ++ r) n (state vs (Spaces ∷ ls)) (if_so (is_space x) _ _ (first-and (is_space x) (list_all is_space f) h))
      ∙ spaces-front f r (second-and (is_space x) (list_all is_space f) h) g k (n + 1)

  pub gap-front : (f r : List ℕ) → list_all is_space f ≡ true → 0 < length f → NoFirst is_space r → Takes vs ls r ws → Takes vs (Gap ∷ ls) (f ++ r) ws
  gap-front [] r h l g k n = absurd (omega arith)
  gap-front (x ∷ f) r h l g k n =
      run-step vs (Gap ∷ ls) x (f ++ r) n (state vs (Spaces ∷ ls)) (if_so (is_space x) _ _ (first-and (is_space x) (list_all is_space f) h))
      ∙ spaces-front f r (second-and (is_space x) (list_all is_space f) h) g k (n + 1)

  pub word-front : (f r : List ℕ) → Takes vs ls r ws → Takes vs (Word (map small f) ∷ ls) (f ++ r) ws
  word-front [] r k n = past_any vs vs (Word []) ls r n refl (λ b. refl) ∙ k n
  word-front (x ∷ f) r k n =
      run-step vs (Word (small x ∷ map small f) ∷ ls) x (f ++ r) n (state vs (Word (map small f) ∷ ls)) (if_so (small x == small x) _ _ (is-self (small x)))
      ∙ word-front f r k (n + 1)

below-is : (n : ℕ) → n < 32 → nat_lt n 32 ≡ true
below-is n h = grind (arith, nat_tests)

and-no : (a : Bool) → (a && false) ≡ false
and-no true = refl
and-no false = refl

module _ (vs : List (List ℕ)) (ls : List Left) (ws : List (List ℕ)) where
  more-front : (f r name : List ℕ) → list_all is_table_byte f ≡ true → length name + length f ≤ 32 → NoFirst is_table_byte r → Takes (vs ++ (name ++ f) ∷ []) ls r ws → Takes vs (More name ∷ ls) (f ++ r) ws
  more-front [] r name h l g k n = by r g (subst (λ z. Takes (vs ++ z ∷ []) ls r ws) (append-nil name) k)
    where
      by : (r : List ℕ) → NoFirst is_table_byte r → Takes (vs ++ name ∷ []) ls r ws → run vs (More name ∷ ls) r n ≡ Whole ws
      by [] g k = k n
      by (b ∷ r) g k = run-same vs (vs ++ name ∷ []) (More name ∷ ls) ls b r n (if_not (is_table_byte b && nat_lt (length name) 32) _ _ (ap (λ z. z && nat_lt (length name) 32) g)) ∙ k n
  more-front (x ∷ f) r name h l g k n =
      run-step vs (More name ∷ ls) x (f ++ r) n (state vs (More (name ++ x ∷ []) ∷ ls))
      (if_so (is_table_byte x && nat_lt (length name) 32) _ _ (both (is_table_byte x) (nat_lt (length name) 32) (first-and (is_table_byte x) (list_all is_table_byte f) h) (below-is (length name) (omega (arith, l)))))
      ∙ more-front f r (name ++ x ∷ []) (second-and (is_table_byte x) (list_all is_table_byte f) h) (one-more name x (length f) l) g
      (subst (λ z. Takes (vs ++ z ∷ []) ls r ws) (sym (append_assoc name (x ∷ []) f)) k) (n + 1)
    where
      one-more : (name : List ℕ) (x l : ℕ) → length name + suc l ≤ 32 → length (name ++ x ∷ []) + l ≤ 32
      one-more name x l h = omega (arith, length-append name (x ∷ []))

  pub name-front : (f r : List ℕ) → is_table_name f ≡ true → NoFirst is_table_byte r → Takes (vs ++ f ∷ []) ls r ws → Takes vs (Name ∷ ls) (f ++ r) ws
  name-front [] r h g k n = absurd (cc)
  name-front (x ∷ f) r h g k n =
      let t : (list_all is_table_byte f && nat_le (length f) 31) ≡ true = second-and (is_letter x) _ h in
      run-step vs (Name ∷ ls) x (f ++ r) n (state vs (More (x ∷ []) ∷ ls)) (if_so (is_letter x) _ _ (first-and (is_letter x) _ h))
      ∙ more-front f r (x ∷ []) (first-and (list_all is_table_byte f) _ t) (at-most (length f) (second-and (list_all is_table_byte f) _ t)) g k (n + 1)
    where
      at-most : (l : ℕ) → nat_le l 31 ≡ true → 1 + l ≤ 32
      at-most l h = grind (arith, nat_tests)

  inside-front : (t r text : List ℕ) → NoFirst is_quote r → Takes (vs ++ (text ++ t) ∷ []) ls r ws → Takes vs (Inside text ∷ ls) (doubled t ++ 39 ∷ r) ws
  inside-front [] r text g k n =
      run-step vs (Inside text ∷ ls) 39 r n (state vs (Shut text ∷ ls)) refl
      ∙ by r g (subst (λ z. Takes (vs ++ z ∷ []) ls r ws) (append-nil text) k)
    where
      by : (r : List ℕ) → NoFirst is_quote r → Takes (vs ++ text ∷ []) ls r ws → run vs (Shut text ∷ ls) r (n + 1) ≡ Whole ws
      by [] g k = k (n + 1)
      by (b ∷ r) g k = run-same vs (vs ++ text ∷ []) (Shut text ∷ ls) ls b r (n + 1) (if_not (is_quote b) _ _ g) ∙ k (n + 1)
  inside-front (x ∷ t) r text g k n = by (is_quote x) refl (λ u. inside-front t r u g)
    where
      by : (c : Bool) → is_quote x ≡ c → ((u : List ℕ) → Takes (vs ++ (u ++ t) ∷ []) ls r ws → Takes vs (Inside u ∷ ls) (doubled t ++ 39 ∷ r) ws) →
          run vs (Inside text ∷ ls) (doubled (x ∷ t) ++ 39 ∷ r) n ≡ Whole ws
      by true h ih =
          let k2 : Takes (vs ++ ((text ++ 39 ∷ []) ++ t) ∷ []) ls r ws = subst (λ z. Takes (vs ++ z ∷ []) ls r ws) (sym (append_assoc text (39 ∷ []) t)) (subst (λ z. Takes (vs ++ (text ++ z ∷ t) ∷ []) ls r ws) (quote-is x h) k) in
          ap (λ z. run vs (Inside text ∷ ls) (z ++ 39 ∷ r) n) (doubled-quote x t h)
          ∙ (run-step vs (Inside text ∷ ls) 39 (39 ∷ (doubled t ++ 39 ∷ r)) n (state vs (Shut text ∷ ls)) refl
          ∙ (run-step vs (Shut text ∷ ls) 39 (doubled t ++ 39 ∷ r) (n + 1) (state vs (Inside (text ++ 39 ∷ []) ∷ ls)) refl
          ∙ ih (text ++ 39 ∷ []) k2 (n + 1 + 1)))
        where
          quote-is : (b : ℕ) → is_quote b ≡ true → b ≡ 39
          quote-is b h = grind (arith, nat_tests)
      by false h ih =
          let k2 : Takes (vs ++ ((text ++ x ∷ []) ++ t) ∷ []) ls r ws = subst (λ z. Takes (vs ++ z ∷ []) ls r ws) (sym (append_assoc text (x ∷ []) t)) k in
          ap (λ z. run vs (Inside text ∷ ls) (z ++ 39 ∷ r) n) (doubled-other x t h)
          ∙ (run-step vs (Inside text ∷ ls) x (doubled t ++ 39 ∷ r) n (state vs (Inside (text ++ x ∷ []) ∷ ls)) (if_not (is_quote x) _ _ h)
          ∙ ih (text ++ x ∷ []) k2 (n + 1))

  pub quoted-front : (t r : List ℕ) → NoFirst is_quote r → Takes (vs ++ t ∷ []) ls r ws → Takes vs (Quoted ∷ ls) (39 ∷ (doubled t ++ 39 ∷ r)) ws
  quoted-front t r g k n = run-step vs (Quoted ∷ ls) 39 (doubled t ++ 39 ∷ r) n (state vs (Inside [] ∷ ls)) refl ∙ inside-front t r [] g k (n + 1)

-- where parts begin

-- no bytes of these parts begin with a byte that passes the test
abbrev pub NoStart : (ℕ → Bool) → List statement.Part → Type 0
NoStart test [] = Unit {0}
NoStart test (statement.Spaces ∷ ps) = ((b : ℕ) → is_space b ≡ true → test b ≡ false) × NoStart test ps
NoStart test (statement.Gap ∷ ps) = (b : ℕ) → is_space b ≡ true → test b ≡ false
NoStart test (statement.Word [] ∷ ps) = ⊥
NoStart test (statement.Word (c ∷ w) ∷ ps) = test c ≡ false
NoStart test (statement.Name t ∷ ps) = (b : ℕ) → is_letter b ≡ true → test b ≡ false
NoStart test (statement.Quoted t ∷ ps) = test 39 ≡ false

head-is : {a b : ℕ} {xs ys : List ℕ} → a ∷ xs ≡ b ∷ ys → a ≡ b
head-is h = cc

pub no-start : (test : ℕ → Bool) → ((b : ℕ) → test (small b) ≡ test b) → (ps : List statement.Part) (bs : List ℕ) → AreParts ps bs → NoStart test ps → NoFirst test bs
no-start test same [] bs d k = subst (NoFirst test) (sym d) tt
no-start test same (statement.Spaces ∷ ps) bs d k = subst (NoFirst test) (sym d.2) (by d.0 d.3 (no-start test same ps d.1 d.4 k.1))
  where
    by : (f : List ℕ) → list_all is_space f ≡ true → NoFirst test d.1 → NoFirst test (f ++ d.1)
    by [] h ih = ih
    by (x ∷ f) h ih = k.0 x (first-and (is_space x) (list_all is_space f) h)
no-start test same (statement.Gap ∷ ps) bs d k = subst (NoFirst test) (sym d.2) (by d.0 d.3.0 d.3.1)
  where
    by : (f : List ℕ) → list_all is_space f ≡ true → 0 < length f → NoFirst test (f ++ d.1)
    by [] h l = absurd (omega arith)
    by (x ∷ f) h l = k x (first-and (is_space x) (list_all is_space f) h)
no-start test same (statement.Word [] ∷ ps) bs d k = absurd k
no-start test same (statement.Word (c ∷ w) ∷ ps) bs d k = subst (NoFirst test) (sym d.2) (by d.0 d.3)
  where
    by : (f : List ℕ) → map small f ≡ c ∷ w → NoFirst test (f ++ d.1)
    by [] h = absurd (cc)
    by (x ∷ f) h = sym (same x) ∙ (ap test (head-is h) ∙ k)
no-start test same (statement.Name t ∷ ps) bs d k = subst (NoFirst test) (sym d.2) (subst (λ z. NoFirst test (z ++ d.1)) (sym d.3.0) (by t d.3.1))
  where
    by : (f : List ℕ) → is_table_name f ≡ true → NoFirst test (f ++ d.1)
    by [] h = absurd (cc)
    by (x ∷ f) h = k x (first-and (is_letter x) _ h)
no-start test same (statement.Quoted t ∷ ps) bs d k = subst (NoFirst test) (sym d.2) (subst (λ z. NoFirst test (z ++ d.1)) (sym d.3) k)

-- each part ends where the next begins
abbrev pub Parted : List statement.Part → Type 0
Parted [] = Unit {0}
Parted (statement.Spaces ∷ ps) = NoStart is_space ps × Parted ps
Parted (statement.Gap ∷ ps) = NoStart is_space ps × Parted ps
Parted (statement.Word w ∷ ps) = Parted ps
Parted (statement.Name t ∷ ps) = NoStart is_table_byte ps × Parted ps
Parted (statement.Quoted t ∷ ps) = NoStart is_quote ps × Parted ps

abbrev pub texts_of : List statement.Part → List (List ℕ)
texts_of [] = []
texts_of (statement.Spaces ∷ ps) = texts_of ps
texts_of (statement.Gap ∷ ps) = texts_of ps
texts_of (statement.Word w ∷ ps) = texts_of ps
texts_of (statement.Name t ∷ ps) = t ∷ texts_of ps
texts_of (statement.Quoted t ∷ ps) = t ∷ texts_of ps

pub takes-parts : (ps : List statement.Part) (bs : List ℕ) → AreParts ps bs → Parted ps → (vs : List (List ℕ)) → Takes vs (parts_left ps) bs (vs ++ texts_of ps)
takes-parts [] bs d k vs = λ n. ap (λ z. run vs [] z n) d ∙ ap Whole (sym (append-nil vs))
takes-parts (statement.Spaces ∷ ps) bs d k vs =
    subst (λ z. Takes vs (parts_left (statement.Spaces ∷ ps)) z (vs ++ texts_of ps)) (sym d.2)
    (spaces-front vs (parts_left ps) (vs ++ texts_of ps) d.0 d.1 d.3 (no-start is_space small-space ps d.1 d.4 k.0) (takes-parts ps d.1 d.4 k.1 vs))
takes-parts (statement.Gap ∷ ps) bs d k vs =
    subst (λ z. Takes vs (parts_left (statement.Gap ∷ ps)) z (vs ++ texts_of ps)) (sym d.2)
    (gap-front vs (parts_left ps) (vs ++ texts_of ps) d.0 d.1 d.3.0 d.3.1 (no-start is_space small-space ps d.1 d.4 k.0) (takes-parts ps d.1 d.4 k.1 vs))
takes-parts (statement.Word w ∷ ps) bs d k vs =
    subst (λ z. Takes vs (parts_left (statement.Word w ∷ ps)) z (vs ++ texts_of ps)) (sym d.2)
    (subst (λ z. Takes vs (Word z ∷ parts_left ps) (d.0 ++ d.1) (vs ++ texts_of ps)) d.3 (word-front vs (parts_left ps) (vs ++ texts_of ps) d.0 d.1 (takes-parts ps d.1 d.4 k vs)))
takes-parts (statement.Name t ∷ ps) bs d k vs =
    let rest : Takes (vs ++ t ∷ []) (parts_left ps) d.1 (vs ++ t ∷ texts_of ps) =
    subst (λ z. Takes (vs ++ t ∷ []) (parts_left ps) d.1 z) (append_assoc vs (t ∷ []) (texts_of ps)) (takes-parts ps d.1 d.4 k.1 (vs ++ t ∷ [])) in
    subst (λ z. Takes vs (Name ∷ parts_left ps) z (vs ++ t ∷ texts_of ps)) (sym d.2)
    (subst (λ z. Takes vs (Name ∷ parts_left ps) (z ++ d.1) (vs ++ t ∷ texts_of ps)) (sym d.3.0)
    (name-front vs (parts_left ps) (vs ++ t ∷ texts_of ps) t d.1 d.3.1 (no-start is_table_byte small-table ps d.1 d.4 k.0) rest))
takes-parts (statement.Quoted t ∷ ps) bs d k vs =
    let rest : Takes (vs ++ t ∷ []) (parts_left ps) d.1 (vs ++ t ∷ texts_of ps) =
    subst (λ z. Takes (vs ++ t ∷ []) (parts_left ps) d.1 z) (append_assoc vs (t ∷ []) (texts_of ps)) (takes-parts ps d.1 d.4 k.1 (vs ++ t ∷ [])) in
    subst (λ z. Takes vs (Quoted ∷ parts_left ps) z (vs ++ t ∷ texts_of ps)) (sym (d.2 ∙ (ap (λ z. z ++ d.1) d.3 ∙ ap (λ z. 39 ∷ z) (append_assoc (doubled t) (39 ∷ []) d.1))))
    (quoted-front vs (parts_left ps) (vs ++ t ∷ texts_of ps) t d.1 (no-start is_quote small-quote ps d.1 d.4 k.0) rest)
