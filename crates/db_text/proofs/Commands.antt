-- What reading by the forms says of the statements.
use Rattle.std.proofs.Common.{◌≡◌, ◌⊎◌, inl, inr, ℕ, ◌+◌, ◌<◌, ◌≤◌, List, [], ◌∷◌, ◌++◌, length, take, drop, map, Bool, true, false, Result, Ok, Err, refl, ap, sym, ◌∙◌, subst, append_assoc, arith}
use Rattle.std.specs.Prelude.{if◌then◌else◌, ◌==◌, codes, nat_lt}
use Rattle.std.specs.List.{list_all}
use Rattle.std.proofs.Math.Seq.{drop-append_seam}
use Rattle.std.proofs.lemmas.List.{length-map}
use Rattle.web_data.specs.declared.database.DbCmd.{DbCmd}
use Rattle.web_data.specs.declared.database.DbCmd.TheVariants as cmd
use Rattle.web_data.specs.Statements as statement
use Rattle.web_data.specs.Statements.{is_space, is_table_byte, small, doubled, AreParts, parts_of, Statement, BeginsStatement, LongestBeginning, NoStatement}
use Rattle.db_text.specs.declared.forms.Form.{Form}
use Rattle.db_text.specs.declared.forms.Form.TheVariants as form
use Rattle.db_text.specs.declared.refusal.DbRefusal.{DbRefusal}
use Rattle.db_text.specs.declared.refusal.DbRefusal.TheVariants as refusal
use Rattle.web_data.specs.StatementReading.{Whole, Stops, run}
use Rattle.db_text.specs.Answers.{parts_left, form_left, command_of, HasTexts, GivesCommand, GivesPlace}
use Rattle.db_text.proofs.Meaning.{Rel, SmallWords, Begun, whole-back, stop-back, stop-bound, append-nil, first-and, second-and}
use Rattle.db_text.proofs.Scans.{below, not-below}
use Rattle.db_text.proofs.Fronts.{NoFirst, Parted, no-start, small-space, letter-space, space-table, space-quote, texts_of, takes-parts}

-- from a command to its run

parted : (c : DbCmd) → Parted (parts_of c)
parted (cmd.Create t) = (refl, (refl, (letter-space, ((space-table, tt), (tt, tt)))))
parted (cmd.Insert t k v) =
    (refl, (refl, (letter-space, (space-table, (refl, (refl, (refl, ((space-quote, refl), (refl, (refl, ((space-quote, refl), (refl, (tt, tt)))))))))))))
parted (cmd.Delete t k) = (refl, (refl, (letter-space, (space-table, (refl, (refl, (refl, (refl, ((space-quote, tt), (tt, tt))))))))))
parted (cmd.One t k) = (refl, (refl, (refl, (letter-space, (space-table, (refl, (refl, (refl, (refl, ((space-quote, tt), (tt, tt)))))))))))
parted (cmd.All t) = (refl, (refl, (refl, (refl, (refl, (letter-space, (space-table, (refl, (refl, (refl, (tt, tt)))))))))))

abbrev pub form_of : DbCmd → Form
form_of (cmd.Create t) = form.Create
form_of (cmd.Insert t k v) = form.Insert
form_of (cmd.Delete t k) = form.Delete
form_of (cmd.One t k) = form.One
form_of (cmd.All t) = form.All

pub takes : (bs : List ℕ) (c : DbCmd) → Statement bs c → run [] (form_left (form_of c)) bs 0 ≡ Whole (texts_of (parts_of c))
takes bs (cmd.Create t) d = takes-parts (parts_of (cmd.Create t)) bs d (parted (cmd.Create t)) [] 0
takes bs (cmd.Insert t k v) d = takes-parts (parts_of (cmd.Insert t k v)) bs d (parted (cmd.Insert t k v)) [] 0
takes bs (cmd.Delete t k) d = takes-parts (parts_of (cmd.Delete t k)) bs d (parted (cmd.Delete t k)) [] 0
takes bs (cmd.One t k) d = takes-parts (parts_of (cmd.One t k)) bs d (parted (cmd.One t k)) [] 0
takes bs (cmd.All t) d = takes-parts (parts_of (cmd.All t)) bs d (parted (cmd.All t)) [] 0

made : (c : DbCmd) → command_of (form_of c) (texts_of (parts_of c)) ≡ c
made (cmd.Create t) = refl
made (cmd.Insert t k v) = refl
made (cmd.Delete t k) = refl
made (cmd.One t k) = refl
made (cmd.All t) = refl

-- from a run to a command

abbrev refill : List statement.Part → List (List ℕ) → List statement.Part
refill [] ts = []
refill (statement.Spaces ∷ ps) ts = statement.Spaces ∷ refill ps ts
refill (statement.Gap ∷ ps) ts = statement.Gap ∷ refill ps ts
refill (statement.Word w ∷ ps) ts = statement.Word w ∷ refill ps ts
refill (statement.Name t ∷ ps) [] = statement.Name t ∷ refill ps []
refill (statement.Name t ∷ ps) (u ∷ us) = statement.Name u ∷ refill ps us
refill (statement.Quoted t ∷ ps) [] = statement.Quoted t ∷ refill ps []
refill (statement.Quoted t ∷ ps) (u ∷ us) = statement.Quoted u ∷ refill ps us

abbrev Slots : List statement.Part → List (List ℕ) → Type 0
Slots [] ts = ts ≡ []
Slots (statement.Spaces ∷ ps) ts = Slots ps ts
Slots (statement.Gap ∷ ps) ts = Slots ps ts
Slots (statement.Word w ∷ ps) ts = Slots ps ts
Slots (statement.Name t ∷ ps) [] = ⊥
Slots (statement.Name t ∷ ps) (u ∷ us) = Slots ps us
Slots (statement.Quoted t ∷ ps) [] = ⊥
Slots (statement.Quoted t ∷ ps) (u ∷ us) = Slots ps us

record Refilled (vs : List (List ℕ)) (ps : List statement.Part) (ws : List (List ℕ)) (bs : List ℕ) : Type 0 where
  ts : List (List ℕ)
  whole : vs ++ ts ≡ ws
  slots : Slots ps ts
  parts : AreParts (refill ps ts) bs

refilled : (ps : List statement.Part) (vs ws : List (List ℕ)) (bs : List ℕ) → Rel vs (parts_left ps) ws bs → Refilled vs ps ws bs
refilled [] vs ws bs d = record { ts = []; whole = append-nil vs ∙ d.0; slots = refl; parts = d.1 }
refilled (statement.Spaces ∷ ps) vs ws bs d =
    let x : Refilled vs ps ws d.1 = refilled ps vs ws d.1 d.4 in record { ts = x.ts; whole = x.whole; slots = x.slots; parts = (d.0, d.1, d.2, d.3, x.parts) }
refilled (statement.Gap ∷ ps) vs ws bs d =
    let x : Refilled vs ps ws d.1 = refilled ps vs ws d.1 d.4 in record { ts = x.ts; whole = x.whole; slots = x.slots; parts = (d.0, d.1, d.2, d.3, x.parts) }
refilled (statement.Word w ∷ ps) vs ws bs d =
    let x : Refilled vs ps ws d.1 = refilled ps vs ws d.1 d.4 in record { ts = x.ts; whole = x.whole; slots = x.slots; parts = (d.0, d.1, d.2, d.3, x.parts) }
refilled (statement.Name t ∷ ps) vs ws bs d =
    let x : Refilled (vs ++ d.0 ∷ []) ps ws d.1 = refilled ps (vs ++ d.0 ∷ []) ws d.1 d.4 in
    record { ts = d.0 ∷ x.ts; whole = sym (append_assoc vs (d.0 ∷ []) x.ts) ∙ x.whole; slots = x.slots; parts = (d.0, d.1, d.2, (refl, d.3), x.parts) }
refilled (statement.Quoted t ∷ ps) vs ws bs d =
    let x : Refilled (vs ++ d.0 ∷ []) ps ws d.1 = refilled ps (vs ++ d.0 ∷ []) ws d.1 d.3 in
    record {
      ts = d.0 ∷ x.ts;
      whole = sym (append_assoc vs (d.0 ∷ []) x.ts) ∙ x.whole;
      slots = x.slots;
      parts = (39 ∷ (doubled d.0 ++ 39 ∷ []), d.1, d.2 ∙ ap (λ z. 39 ∷ z) (sym (append_assoc (doubled d.0) (39 ∷ []) d.1)), refl, x.parts);
    }

no-more : {u : List ℕ} {us : List (List ℕ)} → u ∷ us ≡ [] → ⊥
no-more h = cc

-- the texts and the command of a form
abbrev pub Sound : Form → List (List ℕ) → List ℕ → Type 0
Sound f ws bs = HasTexts f ws × Statement bs (command_of f ws)

module _ (ws : List (List ℕ)) (bs : List ℕ) where
  by-create : (ts : List (List ℕ)) → ts ≡ ws → Slots (parts_of (cmd.Create [])) ts → AreParts (refill (parts_of (cmd.Create [])) ts) bs → Sound form.Create ws bs
  by-create [] e s p = absurd s
  by-create (t ∷ []) e s p = ((t, sym e), subst (λ z. Statement bs (command_of form.Create z)) e p)
  by-create (t ∷ u ∷ ts) e s p = absurd (no-more s)

  by-all : (ts : List (List ℕ)) → ts ≡ ws → Slots (parts_of (cmd.All [])) ts → AreParts (refill (parts_of (cmd.All [])) ts) bs → Sound form.All ws bs
  by-all [] e s p = absurd s
  by-all (t ∷ []) e s p = ((t, sym e), subst (λ z. Statement bs (command_of form.All z)) e p)
  by-all (t ∷ u ∷ ts) e s p = absurd (no-more s)

  by-delete : (ts : List (List ℕ)) → ts ≡ ws → Slots (parts_of (cmd.Delete [] [])) ts → AreParts (refill (parts_of (cmd.Delete [] [])) ts) bs → Sound form.Delete ws bs
  by-delete [] e s p = absurd s
  by-delete (t ∷ []) e s p = absurd s
  by-delete (t ∷ k ∷ []) e s p = ((t, k, sym e), subst (λ z. Statement bs (command_of form.Delete z)) e p)
  by-delete (t ∷ k ∷ u ∷ ts) e s p = absurd (no-more s)

  by-one : (ts : List (List ℕ)) → ts ≡ ws → Slots (parts_of (cmd.One [] [])) ts → AreParts (refill (parts_of (cmd.One [] [])) ts) bs → Sound form.One ws bs
  by-one [] e s p = absurd s
  by-one (t ∷ []) e s p = absurd s
  by-one (t ∷ k ∷ []) e s p = ((t, k, sym e), subst (λ z. Statement bs (command_of form.One z)) e p)
  by-one (t ∷ k ∷ u ∷ ts) e s p = absurd (no-more s)

  by-insert : (ts : List (List ℕ)) → ts ≡ ws → Slots (parts_of (cmd.Insert [] [] [])) ts → AreParts (refill (parts_of (cmd.Insert [] [] [])) ts) bs → Sound form.Insert ws bs
  by-insert [] e s p = absurd s
  by-insert (t ∷ []) e s p = absurd s
  by-insert (t ∷ k ∷ []) e s p = absurd s
  by-insert (t ∷ k ∷ v ∷ []) e s p = ((t, k, v, sym e), subst (λ z. Statement bs (command_of form.Insert z)) e p)
  by-insert (t ∷ k ∷ v ∷ u ∷ ts) e s p = absurd (no-more s)

  pub sound : (f : Form) → run [] (form_left f) bs 0 ≡ Whole ws → Sound f ws bs
  sound form.Create h = let x : Refilled [] (parts_of (cmd.Create [])) ws bs = refilled (parts_of (cmd.Create [])) [] ws bs (whole-back bs [] (form_left form.Create) 0 ws h) in by-create x.ts x.whole x.slots x.parts
  sound form.Insert h = let x : Refilled [] (parts_of (cmd.Insert [] [] [])) ws bs = refilled (parts_of (cmd.Insert [] [] [])) [] ws bs (whole-back bs [] (form_left form.Insert) 0 ws h) in by-insert x.ts x.whole x.slots x.parts
  sound form.Delete h = let x : Refilled [] (parts_of (cmd.Delete [] [])) ws bs = refilled (parts_of (cmd.Delete [] [])) [] ws bs (whole-back bs [] (form_left form.Delete) 0 ws h) in by-delete x.ts x.whole x.slots x.parts
  sound form.One h = let x : Refilled [] (parts_of (cmd.One [] [])) ws bs = refilled (parts_of (cmd.One [] [])) [] ws bs (whole-back bs [] (form_left form.One) 0 ws h) in by-one x.ts x.whole x.slots x.parts
  sound form.All h = let x : Refilled [] (parts_of (cmd.All [])) ws bs = refilled (parts_of (cmd.All [])) [] ws bs (whole-back bs [] (form_left form.All) 0 ws h) in by-all x.ts x.whole x.slots x.parts

  -- bytes that are what is left of a form are a statement
  pub begun : (f : Form) → Rel [] (form_left f) ws bs → (c : DbCmd) × Statement bs c
  begun form.Create d = let x : Refilled [] (parts_of (cmd.Create [])) ws bs = refilled (parts_of (cmd.Create [])) [] ws bs d in (command_of form.Create ws, (by-create x.ts x.whole x.slots x.parts).1)
  begun form.Insert d = let x : Refilled [] (parts_of (cmd.Insert [] [] [])) ws bs = refilled (parts_of (cmd.Insert [] [] [])) [] ws bs d in (command_of form.Insert ws, (by-insert x.ts x.whole x.slots x.parts).1)
  begun form.Delete d = let x : Refilled [] (parts_of (cmd.Delete [] [])) ws bs = refilled (parts_of (cmd.Delete [] [])) [] ws bs d in (command_of form.Delete ws, (by-delete x.ts x.whole x.slots x.parts).1)
  begun form.One d = let x : Refilled [] (parts_of (cmd.One [] [])) ws bs = refilled (parts_of (cmd.One [] [])) [] ws bs d in (command_of form.One ws, (by-one x.ts x.whole x.slots x.parts).1)
  begun form.All d = let x : Refilled [] (parts_of (cmd.All [])) ws bs = refilled (parts_of (cmd.All [])) [] ws bs d in (command_of form.All ws, (by-all x.ts x.whole x.slots x.parts).1)

-- one command

abbrev skip : List ℕ → List ℕ
skip [] = []
skip (b ∷ bs) = if is_space b then skip bs else b ∷ bs

abbrev head-small : List ℕ → ℕ
head-small [] = 0
head-small (b ∷ bs) = small b

skip-here : (r : List ℕ) → NoFirst is_space r → skip r ≡ r
skip-here [] g = refl
skip-here (b ∷ r) g = ap (λ t. if t then skip r else b ∷ r) g

skip-over : (f r : List ℕ) → list_all is_space f ≡ true → NoFirst is_space r → skip (f ++ r) ≡ r
skip-over [] r h g = skip-here r g
skip-over (x ∷ f) r h g =
    ap (λ t. if t then skip (f ++ r) else x ∷ (f ++ r)) (first-and (is_space x) (list_all is_space f) h) ∙ skip-over f r (second-and (is_space x) (list_all is_space f) h) g

head-word : (c : ℕ) (w f r : List ℕ) → map small f ≡ c ∷ w → head-small (f ++ r) ≡ c
head-word c w [] r h = absurd (cc)
head-word c w (x ∷ f) r h = cc

first-letter : (c : ℕ) (w : List ℕ) (ps : List statement.Part) (bs : List ℕ) → is_space c ≡ false → AreParts (statement.Spaces ∷ statement.Word (c ∷ w) ∷ ps) bs → head-small (skip bs) ≡ c
first-letter c w ps bs h d =
    ap (λ z. head-small (skip z)) d.2
    ∙ (ap head-small (skip-over d.0 d.1 d.3 (no-start is_space small-space (statement.Word (c ∷ w) ∷ ps) d.1 d.4 h))
    ∙ (ap head-small d.4.2 ∙ head-word c w d.4.0 d.4.1 d.4.3))

second-letter : (c : ℕ) (w : List ℕ) (ps : List statement.Part) (bs : List ℕ) → is_space c ≡ false →
    AreParts (statement.Spaces ∷ statement.Word (codes "select") ∷ statement.Gap ∷ statement.Word (c ∷ w) ∷ ps) bs → head-small (skip (drop 6 (skip bs))) ≡ c
second-letter c w ps bs h d =
    let six : length d.4.0 ≡ 6 = sym (length-map d.4.0 small) ∙ ap length d.4.3 in
    let e : skip bs ≡ d.4.0 ++ d.4.1 = ap skip d.2 ∙ (skip-over d.0 d.1 d.3 (no-start is_space small-space (statement.Word (codes "select") ∷ statement.Gap ∷ statement.Word (c ∷ w) ∷ ps) d.1 d.4 refl) ∙ d.4.2) in
    let g : drop 6 (skip bs) ≡ d.4.1 = ap (drop 6) e ∙ (ap (λ n. drop n (d.4.0 ++ d.4.1)) (sym six) ∙ drop-append_seam d.4.0 d.4.1) in
    let r = d.4.4 in
    ap (λ z. head-small (skip z)) (g ∙ r.2)
    ∙ (ap head-small (skip-over r.0 r.1 r.3.0 (no-start is_space small-space (statement.Word (c ∷ w) ∷ ps) r.1 r.4 h))
    ∙ (ap head-small r.4.2 ∙ head-word c w r.4.0 r.4.1 r.4.3))

abbrev form_at : ℕ → ℕ → Form
form_at a b = if a == 99 then form.Create else if a == 105 then form.Insert else if a == 100 then form.Delete else if b == 118 then form.One else form.All

abbrev form_here : List ℕ → Form
form_here bs = form_at (head-small (skip bs)) (head-small (skip (drop 6 (skip bs))))

abbrev rest : List statement.Part → List statement.Part
rest [] = []
rest (p ∷ ps) = ps

is-form : (bs : List ℕ) (c : DbCmd) → Statement bs c → form_here bs ≡ form_of c
is-form bs (cmd.Create t) d = ap (λ a. form_at a (head-small (skip (drop 6 (skip bs))))) (first-letter 99 (codes "reate") (rest (rest (parts_of (cmd.Create t)))) bs refl d)
is-form bs (cmd.Insert t k v) d = ap (λ a. form_at a (head-small (skip (drop 6 (skip bs))))) (first-letter 105 (codes "nsert") (rest (rest (parts_of (cmd.Insert t k v)))) bs refl d)
is-form bs (cmd.Delete t k) d = ap (λ a. form_at a (head-small (skip (drop 6 (skip bs))))) (first-letter 100 (codes "elete") (rest (rest (parts_of (cmd.Delete t k)))) bs refl d)
is-form bs (cmd.One t k) d =
    λ i. form_at (first-letter 115 (codes "elect") (rest (rest (parts_of (cmd.One t k)))) bs refl d i) (second-letter 118 [] (rest (rest (rest (rest (parts_of (cmd.One t k)))))) bs refl d i)
is-form bs (cmd.All t) d =
    λ i. form_at (first-letter 115 (codes "elect") (rest (rest (parts_of (cmd.All t)))) bs refl d i) (second-letter 107 [] (rest (rest (rest (rest (parts_of (cmd.All t)))))) bs refl d i)

whole-is : {vs ws : List (List ℕ)} → Whole vs ≡ Whole ws → vs ≡ ws
whole-is h = cc

pub one_command : (bs : List ℕ) (c c' : DbCmd) → Statement bs c → Statement bs c' → c ≡ c'
one_command bs c c' d d' =
    let f : form_of c ≡ form_of c' = sym (is-form bs c d) ∙ is-form bs c' d' in
    let e : texts_of (parts_of c) ≡ texts_of (parts_of c') = whole-is (sym (takes bs c d) ∙ (ap (λ z. run [] (form_left z) bs 0) f ∙ takes bs c' d')) in
    sym (made c) ∙ ((λ i. command_of (f i) (e i)) ∙ made c')

-- no command

-- each form stops, and no farther than a place
abbrev pub AllStop : List ℕ → List Form → ℕ → Type 0
AllStop bs [] place = Unit {0}
AllStop bs (f ∷ fs) place = ((p : ℕ) × (run [] (form_left f) bs 0 ≡ Stops p) × (p ≤ place)) × AllStop bs fs place

-- a form stops there, or it is the start
abbrev pub SomeStops : List ℕ → ℕ → Type 0
SomeStops bs place = (place ≡ 0) ⊎ ((f : Form) × (run [] (form_left f) bs 0 ≡ Stops place))

small-words : (f : Form) → SmallWords (form_left f)
small-words form.Create = (refl, (refl, tt))
small-words form.Insert = (refl, (refl, (refl, (refl, (refl, (refl, tt))))))
small-words form.Delete = (refl, (refl, (refl, (refl, (refl, tt)))))
small-words form.One = (refl, (refl, (refl, (refl, (refl, (refl, tt))))))
small-words form.All = (refl, (refl, (refl, (refl, (refl, (refl, (refl, (refl, tt))))))))

abbrev pub forms : List Form
forms = form.Create ∷ form.Insert ∷ form.Delete ∷ form.One ∷ form.All ∷ []

module _ (bs : List ℕ) (place : ℕ) where
  stops-of : (c : DbCmd) → AllStop bs forms place → (p : ℕ) × (run [] (form_left (form_of c)) bs 0 ≡ Stops p) × (p ≤ place)
  stops-of (cmd.Create t) a = a.0
  stops-of (cmd.Insert t k v) a = a.1.0
  stops-of (cmd.Delete t k) a = a.1.1.0
  stops-of (cmd.One t k) a = a.1.1.1.0
  stops-of (cmd.All t) a = a.1.1.1.1.0

  pub none : AllStop bs forms place → (c : DbCmd) → Statement bs c → ⊥
  none a c d = let s = stops-of c a in clash (sym (takes bs c d) ∙ s.1)
    where
      clash : {ws : List (List ℕ)} {p : ℕ} → Whole ws ≡ Stops p → ⊥
      clash h = cc

  longest : AllStop bs forms place → (n : ℕ) → place < n → n ≤ length bs → BeginsStatement (take n bs) → ⊥
  longest a n l w b =
      let s = stops-of b.1 a in
      let h : 0 + n ≤ s.0 = stop-bound bs [] (form_left (form_of b.1)) 0 s.0 n b.0 (texts_of (parts_of b.1)) (small-words (form_of b.1)) s.1 w (takes (take n bs ++ b.0) b.1 b.2) in
      let g : s.0 ≤ place = s.2 in
      absurd (omega (arith, l, h, g))

  begins : SomeStops bs place → (place ≤ length bs) × BeginsStatement (take place bs)
  begins (inl z) =
      let x : Begun [] (form_left form.Create) [] 0 0 = stop-back [] [] (form_left form.Create) 0 0 (small-words form.Create) refl in
      let b = begun x.ws (take x.m [] ++ x.rest) form.Create x.rel in
      (omega (arith, z), subst (λ n. BeginsStatement (take n bs)) (sym z) (take x.m [] ++ x.rest, b.0, b.1))
  begins (inr s) =
      let x : Begun [] (form_left s.0) bs 0 place = stop-back bs [] (form_left s.0) 0 place (small-words s.0) s.1 in
      let b = begun x.ws (take x.m bs ++ x.rest) s.0 x.rel in
      let e : x.m ≡ place = omega (arith, x.place) in
      (omega (arith, x.place, x.within), subst (λ n. BeginsStatement (take n bs)) e (x.rest, b.0, b.1))

  pub no_statement : AllStop bs forms place → SomeStops bs place → NoStatement bs place
  no_statement a s =
      let b = begins s in
      record { none = none a; longest = record { within = b.0; begins = b.1; longest = longest a } }

pub one_place : (bs : List ℕ) (p q : ℕ) → LongestBeginning bs p → LongestBeginning bs q → p ≡ q
one_place bs p q x y = by (nat_lt p q) (nat_lt q p) refl refl
  where
    by : (a b : Bool) → nat_lt p q ≡ a → nat_lt q p ≡ b → p ≡ q
    by true b h g = absurd (x.longest q (below p q h) y.within y.begins)
    by false true h g = absurd (y.longest p (below q p g) x.within x.begins)
    by false false h g = let l = not-below p q h in let m = not-below q p g in omega (arith, l, m)

-- the answers of the reader

module _ (bs : List ℕ) (c : DbCmd) (d : Statement bs c) where
  pub found_refusal : (p : ℕ) → ◌≡◌ {A = Result DbCmd DbRefusal} (Ok c) (Err (refusal.BadStatement p)) → NoStatement bs p
  found_refusal p h = absurd (cc)

  pub found_command : (c' : DbCmd) → Statement bs c' → GivesCommand (Ok c) c'
  found_command c' d' = inl (ap Ok (one_command bs c c' d d'))

  pub found_place : (p : ℕ) → NoStatement bs p → GivesPlace (Ok c) p
  found_place p n = absurd (n.none c d)

place-is : {p q : ℕ} → ◌≡◌ {A = Result DbCmd DbRefusal} (Err (refusal.BadStatement p)) (Err (refusal.BadStatement q)) → p ≡ q
place-is h = cc

module _ (bs : List ℕ) (place : ℕ) (a : AllStop bs forms place) (s : SomeStops bs place) where
  pub none_refusal : (p : ℕ) → ◌≡◌ {A = Result DbCmd DbRefusal} (Err (refusal.BadStatement place)) (Err (refusal.BadStatement p)) → NoStatement bs p
  none_refusal p h = subst (NoStatement bs) (place-is h) (no_statement bs place a s)

  pub none_command : (c : DbCmd) → Statement bs c → GivesCommand (Err (refusal.BadStatement place)) c
  none_command c d = absurd (none bs place a c d)

  pub none_place : (p : ℕ) → NoStatement bs p → GivesPlace (Err (refusal.BadStatement place)) p
  none_place p n = let x : NoStatement bs place = no_statement bs place a s in inl (ap (λ z. Err (refusal.BadStatement z)) (one_place bs place p x.longest n.longest))

-- one form more stops
pub stops_more : (bs : List ℕ) (place p : ℕ) (f : Form) (fs gs : List Form) → gs ≡ f ∷ fs → run [] (form_left f) bs 0 ≡ Stops p → p ≤ place → AllStop bs fs place → AllStop bs gs place
stops_more bs place p f fs gs e h l a = subst (λ z. AllStop bs z place) (sym e) ((p, h, l), a)
