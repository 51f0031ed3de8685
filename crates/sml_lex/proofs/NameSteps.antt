-- Names, long names and symbols.
use Rattle.std.proofs.Common.{◌≡◌, ◌≢◌, ◌⊎◌, inl, inr, ℕ, suc, ◌+◌, ◌-◌, ◌<◌, ◌≤◌, List, [], ◌∷◌, ◌++◌, length, drop, get_or, Bool, true, false, ◌&&◌, ◌||◌, cond, Option, Some, None, Result, Ok, Err, refl, ap, sym, ◌∙◌, subst, arith, add-one, ◌==◌}
use Rattle.std.proofs.lemmas.Bool.Decides.{nat_tests, leb_tells}
use Rattle.std.proofs.lemmas.List.{drop_all}
use Rattle.std.proofs.Math.Seq.{drop-cons}
use Rattle.std.specs.List.{list_all, slice_range}
use Rattle.sml_syntax.specs.declared.token.TokenForm.TheVariants as form
use Rattle.grammar_rules.specs.Spelling.{Reading, Good, Refused, Refusal, BadByte, is_name_byte, is_symbol_byte, is_plain, names, next_word, named, alone, symbols, symbol_kind, only, is}
use Rattle.sml_syntax.specs.ByteClasses.{is_letter}
use Rattle.sml_lex.specs.declared.bytes.Found.{Found}
use Rattle.sml_lex.specs.declared.refusal.LexRefusal.{LexRefusal}
use Rattle.sml_lex.specs.Ends.{Ends, EndsBadly}
use Rattle.sml_lex.specs.Coded.{RunTo, goes_on, GivesPiece, GivesReading, IfRefused, refusal_of, piece_of, variable}
use Rattle.sml_lex.proofs.Steps.{step, halt, step_to, slice_first, slice_join, slice_last, slice_one, if_refused}
use Rattle.sml_lex.proofs.Runs.{past_run, run_stops, run_ends_at}

name_takes : (n : ℕ) (before taken : List ℕ) (b : ℕ) (q : List ℕ) → is_name_byte b ≡ true → names n before taken (b ∷ q) ≡ names n before (taken ++ b ∷ []) q
unfolding names
name_takes n before taken b q h = ap (λ t. cond t (names n before (taken ++ b ∷ []) q) (cond (b == 46 && is_plain taken) (next_word n (before ++ taken ++ 46 ∷ []) q) None)) h

-- what goes on behind a word
data GoesOn (word rest : List ℕ) : Type 0 where
  goes : (c : ℕ) (more : List ℕ) → rest ≡ 46 ∷ c ∷ more → is_letter c ≡ true → is_plain word ≡ true → GoesOn word rest

split-and : (a b : Bool) → (a && b) ≡ true → (a ≡ true) × (b ≡ true)
split-and true b e = (refl, e)
split-and false b e = absurd (cc)

is-46 : (b : ℕ) → (b == 46) ≡ true → b ≡ 46
is-46 b h = grind (arith, nat_tests)

goes_on_is : (word rest : List ℕ) → goes_on word rest ≡ true → GoesOn word rest
goes_on_is word [] h = absurd (cc)
goes_on_is word (b ∷ []) h = absurd (cc)
goes_on_is word (b ∷ c ∷ bs) h =
    let w : ((b == 46 && is_letter c) ≡ true) × (is_plain word ≡ true) = split-and (b == 46 && is_letter c) (is_plain word) h in
    let v : ((b == 46) ≡ true) × (is_letter c ≡ true) = split-and (b == 46) (is_letter c) w.0 in
    goes c bs (ap (λ z. z ∷ c ∷ bs) (is-46 b v.0)) v.1 w.1

-- where nothing goes on, a name ends
name_halts : (n : ℕ) (before word rest : List ℕ) → goes_on word rest ≡ false → ((y : ℕ) (zs : List ℕ) → rest ≡ y ∷ zs → is_name_byte y ≡ false) →
    (y : ℕ) (ys zs : List ℕ) → rest ≡ y ∷ (ys ++ zs) → names n before word (y ∷ ys) ≡ None
unfolding names
name_halts n before word rest h stops y ys zs e =
    ap (λ t. cond t (names n before (word ++ y ∷ []) ys) (cond (y == 46 && is_plain word) (next_word n (before ++ word ++ 46 ∷ []) ys) None)) (stops y (ys ++ zs) e)
    ∙ go ys (y == 46 && is_plain word) refl (sym (ap (goes_on word) e) ∙ h)
  where
    both : (p q r : Bool) → (p && q) ≡ true → ((p && r) && q) ≡ false → r ≡ false
    both true true r f g = and-true r g
      where
        and-true : (r : Bool) → (r && true) ≡ false → r ≡ false
        and-true true h = h
        and-true false h = refl
    both true false r f g = absurd (cc)
    both false q r f g = absurd (cc)

    go : (ys : List ℕ) (t : Bool) → (y == 46 && is_plain word) ≡ t → goes_on word (y ∷ (ys ++ zs)) ≡ false → cond t (next_word n (before ++ word ++ 46 ∷ []) ys) None ≡ None
    go ys false f g = refl
    go [] true f g = refl
    go (c ∷ cs) true f g =
        ap (λ t. cond t (names n (before ++ word ++ 46 ∷ []) (c ∷ []) cs) None) (both (y == 46) (is_plain word) (is_letter c) f g)

-- a dot and a letter behind a plain word are taken
name_dots : (n : ℕ) (before word : List ℕ) (c : ℕ) (q : List ℕ) → is_letter c ≡ true → is_plain word ≡ true → next_word n (before ++ word ++ 46 ∷ []) (c ∷ q) ≡ names n (before ++ word ++ 46 ∷ []) (c ∷ []) q
unfolding names
name_dots n before word c q h g = ap (λ t. cond t (names n (before ++ word ++ 46 ∷ []) (c ∷ []) q) None) h

name_dot : (n : ℕ) (before word q : List ℕ) → is_plain word ≡ true → names n before word (46 ∷ q) ≡ next_word n (before ++ word ++ 46 ∷ []) q
unfolding names
name_dot n before word q g = ap (λ t. cond t (next_word n (before ++ word ++ 46 ∷ []) q) None) g

name_at_end : (n : ℕ) (before word : List ℕ) → names n before word [] ≡ Some (named n before word)
unfolding names
name_at_end n before word = refl

head-is : {a b : ℕ} {xs ys : List ℕ} → a ∷ xs ≡ b ∷ ys → a ≡ b
head-is h = cc

tail-is : {a b : ℕ} {xs ys : List ℕ} → a ∷ xs ≡ b ∷ ys → xs ≡ ys
tail-is h = cc

nil-cons : {y : ℕ} {ys : List ℕ} → [] ≡ y ∷ ys → ⊥
nil-cons h = cc

within : (bs : List ℕ) (i y : ℕ) (ys : List ℕ) → drop i bs ≡ y ∷ ys → i < length bs
within bs i y ys h = elim (leb_tells (length bs) i) [ inl w ↦ absurd (nil-cons (sym (drop_all i bs w.1) ∙ h)) | inr w ↦ w.1 ]

-- the first word of a name
pub first_word : (n i m : ℕ) (bs : List ℕ) → i < length bs → i + 1 ≤ m → RunTo is_name_byte (i + 1) (drop (i + 1) bs) m → (r : Reading) (to : ℕ) (before : List ℕ) →
    Ends (names n before (slice_range bs i m)) m (drop m bs) r to → Ends (names n before (get_or bs i 0 ∷ [])) (i + 1) (drop (i + 1) bs) r to
first_word n i m bs l g run r to before e =
    past_run (names n before) is_name_byte bs (i + 1) m (get_or bs i 0 ∷ []) r to (λ taken b q h. name_takes n before taken b q h) run
    (subst (λ w. Ends (names n before w) m (drop m bs) r to) (slice_first bs i m (omega arith) l) e)

two : (k : ℕ) → k + 2 ≡ k + 1 + 1
two k = omega arith

pub goes_within : (bs word : List ℕ) (end : ℕ) → goes_on word (drop end bs) ≡ true → end + 2 ≤ length bs
goes_within bs word end h = go (goes_on_is word (drop end bs) h)
  where
    go : GoesOn word (drop end bs) → end + 2 ≤ length bs
    go (goes c more f letter plain) =
        let l : end < length bs = within bs end 46 (c ∷ more) f in
        let rest : drop (end + 1) bs ≡ c ∷ more = ap (λ k. drop k bs) (add-one end) ∙ tail-is (sym (drop-cons bs end 0 l) ∙ f) in
        let l2 : end + 1 < length bs = within bs (end + 1) c more rest in
        omega arith

-- the next word of a long name, behind a dot
pub next_part : (n word end m : ℕ) (bs : List ℕ) → n ≤ word → word ≤ end → goes_on (slice_range bs word end) (drop end bs) ≡ true → end + 2 ≤ m → RunTo is_name_byte (end + 2) (drop (end + 2) bs) m →
    (r : Reading) (to : ℕ) → Ends (names n (slice_range bs n (end + 1)) (slice_range bs (end + 1) m)) m (drop m bs) r to →
    Ends (names n (slice_range bs n word) (slice_range bs word end)) end (drop end bs) r to
next_part n word end m bs first onward h g run r to e = go (goes_on_is (slice_range bs word end) (drop end bs) h)
  where
    go : GoesOn (slice_range bs word end) (drop end bs) → Ends (names n (slice_range bs n word) (slice_range bs word end)) end (drop end bs) r to
    go (goes c more f letter plain) =
        let l : end < length bs = within bs end 46 (c ∷ more) f in
        let b-is : get_or bs end 0 ≡ 46 = head-is (sym (drop-cons bs end 0 l) ∙ f) in
        let rest : drop (end + 1) bs ≡ c ∷ more = ap (λ k. drop k bs) (add-one end) ∙ tail-is (sym (drop-cons bs end 0 l) ∙ f) in
        let l2 : end + 1 < length bs = within bs (end + 1) c more rest in
        let c-is : get_or bs (end + 1) 0 ≡ c = head-is (sym (drop-cons bs (end + 1) 0 l2) ∙ rest) in
        let p : List ℕ = slice_range bs n word ++ slice_range bs word end ++ 46 ∷ [] in
        let p-is : slice_range bs n (end + 1) ≡ p =
        slice_last bs n end (omega arith) l ∙ (ap (λ w. w ++ get_or bs end 0 ∷ []) (slice_join bs n word end first onward) ∙ ap (λ z. slice_range bs n word ++ slice_range bs word end ++ z ∷ []) b-is) in
        let e1 : Ends (names n p (slice_range bs (end + 1) m)) m (drop m bs) r to = subst (λ w. Ends (names n w (slice_range bs (end + 1) m)) m (drop m bs) r to) p-is e in
        let run1 : RunTo is_name_byte (end + 1 + 1) (drop (end + 1 + 1) bs) m = subst (λ k. RunTo is_name_byte k (drop k bs) m) (two end) run in
        let e2 : Ends (names n p (get_or bs (end + 1) 0 ∷ [])) (end + 1 + 1) (drop (end + 1 + 1) bs) r to = first_word n (end + 1) m bs l2 (omega arith) run1 r to p e1 in
        step_to (names n (slice_range bs n word) (slice_range bs word end)) (next_word n p) bs end (end + 1) r to refl l
        (λ q. ap (λ z. names n (slice_range bs n word) (slice_range bs word end) (z ∷ q)) b-is ∙ name_dot n (slice_range bs n word) (slice_range bs word end) q plain)
        (step_to (next_word n p) (names n p (get_or bs (end + 1) 0 ∷ [])) bs (end + 1) (end + 1 + 1) r to refl l2
        (λ q. name_dots n (slice_range bs n word) (slice_range bs word end) (get_or bs (end + 1) 0) q (ap is_letter c-is ∙ letter) plain) e2)

-- a name ends where nothing goes on
pub name_ends : (n word end : ℕ) (bs : List ℕ) → goes_on (slice_range bs word end) (drop end bs) ≡ false → ((y : ℕ) (zs : List ℕ) → drop end bs ≡ y ∷ zs → is_name_byte y ≡ false) →
    Ends (names n (slice_range bs n word) (slice_range bs word end)) end (drop end bs) (named n (slice_range bs n word) (slice_range bs word end)) end
name_ends n word end bs h stops =
    halt (names n (slice_range bs n word) (slice_range bs word end)) end (drop end bs) (named n (slice_range bs n word) (slice_range bs word end)) (name_at_end n (slice_range bs n word) (slice_range bs word end))
    (name_halts n (slice_range bs n word) (slice_range bs word end) (drop end bs) h stops)

-- a piece whose reading was found
pub gives_reading : (A : List ℕ → Option Reading) (n to : ℕ) (bs : List ℕ) (r : Reading) (x : Result Found LexRefusal) → ((k : Reading) → r ≡ k → Ends A n bs k to) → GivesReading r to x → GivesPiece A n bs x
gives_reading A n to bs r (Ok found) law h = subst (λ m. Ends A n bs (Good (piece_of found.form)) m) (sym h.1) (law (Good (piece_of found.form)) h.0)
gives_reading A n to bs r (Err e) law h = if_refused (refusal_of e) (λ f. r ≡ Refused f) (EndsBadly A n bs) (λ f g. (to, law (Refused f) g)) h

-- symbols behind a first one
pub symbols_end : (n i m b : ℕ) (bs : List ℕ) → RunTo is_symbol_byte i (drop i bs) m → Ends (symbols n b) i (drop i bs) (alone n (b ∷ slice_range bs i m) (symbol_kind (b ∷ slice_range bs i m))) m
symbols_end n i m b bs run = run_ends_at (symbols n b) is_symbol_byte (λ q. alone n (b ∷ q) (symbol_kind (b ∷ q))) bs i m (λ q. refl) run

pub variable_end : (i m b : ℕ) (bs : List ℕ) → RunTo is_name_byte i (drop i bs) m → Ends (variable b) i (drop i bs) (is (form.TyVar (b ∷ slice_range bs i m))) m
variable_end i m b bs run = run_ends_at (variable b) is_name_byte (λ q. is (form.TyVar (b ∷ q))) bs i m (λ q. refl) run

-- a long name, whose earlier words are not empty
pub named_long : (bs : List ℕ) (n word end : ℕ) (name : List ℕ) → n < word → word ≤ end → n < length bs → is_plain (slice_range bs word end) ≡ true → name ≡ slice_range bs n end →
    named n (slice_range bs n word) (slice_range bs word end) ≡ is (form.Long name)
named_long bs n word end name h g l plain e =
    let w : List ℕ = slice_range bs word end in
    let f : slice_range bs n word ≡ get_or bs n 0 ∷ slice_range bs (n + 1) word = slice_first bs n word h l in
    ap (λ z. named n z w) f
    ∙ (ap (λ t. cond t (is (form.Long ((get_or bs n 0 ∷ slice_range bs (n + 1) word) ++ w))) (Refused (BadByte (n + length (slice_range bs (n + 1) word))))) plain
    ∙ ap (λ z. is (form.Long z)) (ap (λ z. z ++ w) (sym f) ∙ (sym (slice_join bs n word end (omega arith) g) ∙ sym e)))
