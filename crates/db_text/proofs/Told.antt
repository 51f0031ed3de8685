-- What a text is as a function says what it is as a statement.
use Rattle.std.proofs.Common.{◌≡◌, ◌↔◌, inl, inr, ℕ, ◌≤◌, List, [], ◌∷◌, map, Bool, true, false, refl, ap, sym, subst, arith}
use Rattle.std.specs.Prelude.{max, nat_lt}
use Rattle.std.proofs.Math.Nat.{max-eq_left, max-eq_right, le-max_left, le-max_right}
use Rattle.web_data.specs.declared.database.DbCmd.{DbCmd}
use Rattle.web_data.specs.Statements.{Statement, NoStatement}
use Rattle.web_data.specs.StatementReading.{Reading, Whole, Stops, run, Told, Command, Outside, by_form, by_forms, statement_of}
use Rattle.db_text.specs.declared.forms.Form.{Form}
use Rattle.db_text.specs.Answers.{form_left, command_of}
use Rattle.db_text.proofs.Scans.{below, not-below}
use Rattle.db_text.proofs.Commands.{AllStop, SomeStops, Sound, forms, sound, no_statement, one_command, one_place}

-- what trying these forms comes to: one of them takes all bytes, or all of them stop, no farther than the place
abbrev Tried : List ℕ → List Form → ℕ → Told → Type 0
Tried bs fs place (Command c) = (f : Form) × (ts : List (List ℕ)) × (run [] (form_left f) bs 0 ≡ Whole ts) × (c ≡ command_of f ts)
Tried bs fs place (Outside p) = AllStop bs fs p × SomeStops bs p × (place ≤ p)

farther : (bs : List ℕ) (f : Form) (place n : ℕ) → run [] (form_left f) bs 0 ≡ Stops n → SomeStops bs place → SomeStops bs (max place n)
farther bs f place n h s = by (nat_lt place n) refl
  where
    by : (b : Bool) → nat_lt place n ≡ b → SomeStops bs (max place n)
    by true l = let g = below place n l in subst (SomeStops bs) (sym (max-eq_right {n = place} {m = n} (omega (arith, g)))) (inr (f, h))
    by false l = let g = not-below place n l in subst (SomeStops bs) (sym (max-eq_left {n = place} {m = n} g)) s

one_more : (bs : List ℕ) (f : Form) (fs : List Form) (place n : ℕ) (told : Told) → run [] (form_left f) bs 0 ≡ Stops n → Tried bs fs (max place n) told → Tried bs (f ∷ fs) place told
one_more bs f fs place n (Command c) h t = t
one_more bs f fs place n (Outside p) h t =
    let left : place ≤ max place n = le-max_left place n in
    let right : n ≤ max place n = le-max_right place n in
    (((n, h, omega (arith, right, t.2)), t.0), t.1, omega (arith, left, t.2))

tried : (bs : List ℕ) (fs : List Form) (place : ℕ) → SomeStops bs place → Tried bs fs place (by_forms (map command_of fs) bs place)
tried bs [] place s = (tt, s, omega arith)
tried bs (f ∷ fs) place s = by (run [] (form_left f) bs 0) refl (λ n h. tried bs fs (max place n) (farther bs f place n h s))
  where
    by : (r : Reading) → run [] (form_left f) bs 0 ≡ r → ((n : ℕ) → run [] (form_left f) bs 0 ≡ Stops n → Tried bs fs (max place n) (by_forms (map command_of fs) bs (max place n)))
        → Tried bs (f ∷ fs) place (by_form (command_of f) r place (by_forms (map command_of fs) bs))
    by (Whole ts) h others = (f, ts, h, refl)
    by (Stops n) h others = one_more bs f fs place n (by_forms (map command_of fs) bs (max place n)) h (others n h)

-- what is told is so
abbrev Means : List ℕ → Told → Type 0
Means bs (Command c) = Statement bs c
Means bs (Outside p) = NoStatement bs p

meant : (bs : List ℕ) (told : Told) → Tried bs forms 0 told → Means bs told
meant bs (Command c) t = let d : Sound t.0 t.1 bs = sound t.1 bs t.0 t.2 in subst (Statement bs) (sym t.3) d.1
meant bs (Outside p) t = no_statement bs p t.0 t.1

means : (bs : List ℕ) → Means bs (statement_of bs)
means bs = meant bs (statement_of bs) (tried bs forms 0 (inl refl))

told_command : (bs : List ℕ) (c : DbCmd) (told : Told) → Means bs told → Statement bs c → told ≡ Command c
told_command bs c (Command c') m d = ap Command (one_command bs c' c m d)
told_command bs c (Outside p) m d = absurd (m.none c d)

told_place : (bs : List ℕ) (p : ℕ) (told : Told) → Means bs told → NoStatement bs p → told ≡ Outside p
told_place bs p (Command c) m n = absurd (n.none c m)
told_place bs p (Outside q) m n = ap Outside (one_place bs q p m.longest n.longest)

pub commands_told : (bs : List ℕ) (c : DbCmd) → (statement_of bs ≡ Command c) ↔ Statement bs c
commands_told bs c = (λ h. subst (Means bs) h (means bs), told_command bs c (statement_of bs) (means bs))

pub places_told : (bs : List ℕ) (p : ℕ) → (statement_of bs ≡ Outside p) ↔ NoStatement bs p
places_told bs p = (λ h. subst (Means bs) h (means bs), told_place bs p (statement_of bs) (means bs))
