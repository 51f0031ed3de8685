-- The pieces of expressions, by their first bytes.
use Rattle.std.proofs.Common.{◌≡◌, ◌≢◌, ◌⊎◌, inl, inr, ℕ, suc, ◌+◌, ◌-◌, ◌<◌, ◌≤◌, List, [], ◌∷◌, ◌++◌, length, drop, get_or, Bool, true, false, ◌&&◌, cond, Option, Some, None, Result, Ok, Err, refl, ap, sym, ◌∙◌, subst, arith, add-one, ◌==◌}
use Rattle.std.proofs.lemmas.Bool.Decides.{nat_tests, leb_tells}
use Rattle.std.proofs.lemmas.List.{drop_all}
use Rattle.std.proofs.Math.Seq.{drop-cons}
use Rattle.sml_syntax.specs.declared.token.Lack.TheVariants as lack
use Rattle.sml_syntax.specs.declared.token.TokenForm.TheVariants as form
use Rattle.grammar_rules.specs.Spelling.{Reading, Good, Refused, Refusal, BadByte, Unsupported, Blank, Class, class, expression, expression_by, is, numbers, symbols, literal, Char, comment, Other_byte, behind_open, behind_hash, behind_tilde, behind_dot, is_nil, only}
use Rattle.sml_syntax.specs.ByteClasses.{is_digit}
use Rattle.sml_lex.specs.declared.bytes.Found.{Found}
use Rattle.sml_lex.specs.declared.refusal.LexRefusal.{LexRefusal}
use Rattle.sml_lex.specs.Ends.{Ends, EndsBadly}
use Rattle.sml_lex.specs.Coded.{NoDigitAt, first_is, has_two_dots, GivesPiece, GivesEnd, GivesReading, IfRefused, refusal_of, piece_of}
use Rattle.sml_lex.proofs.Steps.{step, halt, step_to, last_at, gives_step, same_gives, if_refused}
use Rattle.sml_lex.proofs.NameSteps.{gives_reading}

head-is : {a b : ℕ} {xs ys : List ℕ} → a ∷ xs ≡ b ∷ ys → a ≡ b
head-is h = cc

nil-cons : {y : ℕ} {ys : List ℕ} → [] ≡ y ∷ ys → ⊥
nil-cons h = cc

pub first_here : (b : ℕ) (bs : List ℕ) (i : ℕ) → first_is b (drop i bs) ≡ true → (i < length bs) × (get_or bs i 0 ≡ b)
first_here b bs i h = elim (leb_tells (length bs) i) [
  | inl w ↦ let e : first_is b [] ≡ true = sym (ap (first_is b) (drop_all i bs w.1)) ∙ h in absurd (cc)
  | inr w ↦ let e : (get_or bs i 0 == b) ≡ true = sym (ap (first_is b) (drop-cons bs i 0 w.1)) ∙ h in (w.1, grind (arith, nat_tests))
]

-- where a comment, a character or a digit does not follow
pub tilde_symbols : (n b : ℕ) (bs : List ℕ) (i : ℕ) (x : Result Found LexRefusal) → NoDigitAt bs i → GivesPiece (symbols n b) i (drop i bs) x → GivesPiece (behind_tilde n b) i (drop i bs) x
tilde_symbols n b bs i x none g = same_gives (behind_tilde n b) (symbols n b) i (drop i bs) x law g
  where
    law : (q zs : List ℕ) → drop i bs ≡ q ++ zs → behind_tilde n b q ≡ symbols n b q
    law [] zs e = refl
    law (c ∷ q) zs e = elim none [
      | inl l ↦ absurd (nil-cons (sym (drop_all i bs l) ∙ e))
      | inr w ↦ ap (λ t. cond t (numbers n (n + 1) true (c ∷ []) q) (symbols n b (c ∷ q))) (ap is_digit (head-is (sym e ∙ drop-cons bs i 0 w.0)) ∙ w.1)
    ]

pub tilde_number : (n b : ℕ) (bs : List ℕ) (i : ℕ) (x : Result Found LexRefusal) → i ≡ n + 1 → i < length bs → is_digit (get_or bs i 0) ≡ true →
    GivesPiece (numbers n i true (get_or bs i 0 ∷ [])) (i + 1) (drop (i + 1) bs) x → GivesPiece (behind_tilde n b) i (drop i bs) x
tilde_number n b bs i x e l h g =
    gives_step (behind_tilde n b) (numbers n i true (get_or bs i 0 ∷ [])) bs i x l
    (λ q. ap (λ t. cond t (numbers n (n + 1) true (get_or bs i 0 ∷ []) q) (symbols n b (get_or bs i 0 ∷ q))) h ∙ ap (λ k. numbers n k true (get_or bs i 0 ∷ []) q) (sym e)) g

pub hash_symbols : (n b : ℕ) (bs : List ℕ) (i : ℕ) (x : Result Found LexRefusal) → first_is 34 (drop i bs) ≡ false → GivesPiece (symbols n b) i (drop i bs) x → GivesPiece (behind_hash n b) i (drop i bs) x
hash_symbols n b bs i x none g = same_gives (behind_hash n b) (symbols n b) i (drop i bs) x law g
  where
    law : (q zs : List ℕ) → drop i bs ≡ q ++ zs → behind_hash n b q ≡ symbols n b q
    law [] zs e = refl
    law (c ∷ q) zs e = ap (λ t. cond t (literal n Char (n + 2) q) (symbols n b (c ∷ q))) (sym (ap (first_is 34) e) ∙ none)

pub hash_character : (n b : ℕ) (bs : List ℕ) (i j : ℕ) (x : Result Found LexRefusal) → j ≡ i + 1 → j ≡ n + 2 → first_is 34 (drop i bs) ≡ true → GivesPiece (literal n Char j) j (drop j bs) x → GivesPiece (behind_hash n b) i (drop i bs) x
hash_character n b bs i j x e f h g =
    let w : (i < length bs) × (get_or bs i 0 ≡ 34) = first_here 34 bs i h in
    gives_step (behind_hash n b) (literal n Char j) bs i x w.0
    (λ q. ap (λ c. behind_hash n b (c ∷ q)) w.1 ∙ ap (λ k. literal n Char k q) (sym f)) (subst (λ k. GivesPiece (literal n Char j) k (drop k bs) x) e g)

-- a comment, up to its end
pub open_comment : (n b : ℕ) (bs : List ℕ) (i j to : ℕ) → j ≡ i + 1 → first_is 42 (drop i bs) ≡ true → Ends (comment n Other_byte 0) j (drop j bs) (Good Blank) to → Ends (behind_open n b) i (drop i bs) (Good Blank) to
open_comment n b bs i j to e h g =
    let w : (i < length bs) × (get_or bs i 0 ≡ 42) = first_here 42 bs i h in
    step_to (behind_open n b) (comment n Other_byte 0) bs i j (Good Blank) to e w.0 (λ q. ap (λ c. behind_open n b (c ∷ q)) w.1) g

pub open_refused : (n b : ℕ) (bs : List ℕ) (i j : ℕ) (o : Option Refusal) → j ≡ i + 1 → first_is 42 (drop i bs) ≡ true → IfRefused o (EndsBadly (comment n Other_byte 0) j (drop j bs)) → IfRefused o (EndsBadly (behind_open n b) i (drop i bs))
open_refused n b bs i j o e h g =
    let w : (i < length bs) × (get_or bs i 0 ≡ 42) = first_here 42 bs i h in
    if_refused o (EndsBadly (comment n Other_byte 0) j (drop j bs)) (EndsBadly (behind_open n b) i (drop i bs))
    (λ r d. (d.0, step_to (behind_open n b) (comment n Other_byte 0) bs i j (Refused r) d.0 e w.0 (λ q. ap (λ c. behind_open n b (c ∷ q)) w.1) d.1)) g

pub open_mark : (n b : ℕ) (bs : List ℕ) (i : ℕ) (x : Result Found LexRefusal) → first_is 42 (drop i bs) ≡ false → GivesReading (is (form.Mark (b ∷ []))) i x → GivesPiece (behind_open n b) i (drop i bs) x
open_mark n b bs i x h g =
    gives_reading (behind_open n b) i i (drop i bs) (is (form.Mark (b ∷ []))) x
    (λ k q. halt (behind_open n b) i (drop i bs) k (ap Some q) (λ y ys zs e. ap (λ t. cond t (comment n Other_byte 0 ys) None) (sym (ap (first_is 42) e) ∙ h))) g

-- dots
pub dots_lack : (n e : ℕ) (rest : List ℕ) → has_two_dots rest ≡ true → EndsBadly (behind_dot n) e rest (Unsupported n lack.Records)
dots_lack n e [] h = absurd (cc)
dots_lack n e (b ∷ []) h = absurd (cc)
dots_lack n e (b ∷ c ∷ bs) h =
    let r : Reading = Refused (Unsupported n lack.Records) in (
      suc (suc e),
      step (behind_dot n) (λ q. behind_dot n (b ∷ q)) e b (c ∷ bs) r (suc (suc e)) (λ q. refl)
          (step (λ q. behind_dot n (b ∷ q)) (λ q. behind_dot n (b ∷ c ∷ q)) (suc e) c bs r (suc (suc e)) (λ q. refl)
          (halt (λ q. behind_dot n (b ∷ c ∷ q)) (suc (suc e)) bs r (ap (λ t. cond t (Some (Refused (Unsupported n lack.Records))) None) h) (λ y ys zs g. refl))),
    )

pub dot_bad : (n e : ℕ) (rest : List ℕ) → has_two_dots rest ≡ false → EndsBadly (behind_dot n) e rest (BadByte n)
dot_bad n e rest h = (e, halt (behind_dot n) e rest (Refused (BadByte n)) refl dead)
  where
    dead : (y : ℕ) (ys zs : List ℕ) → rest ≡ y ∷ (ys ++ zs) → behind_dot n (y ∷ ys) ≡ None
    dead y [] zs g = refl
    dead y (c ∷ []) zs g = ap (λ t. cond t (Some (Refused (Unsupported n lack.Records))) None) (sym (ap has_two_dots g) ∙ h)
    dead y (c ∷ d ∷ ys) zs g = refl

-- a piece by the class of its first byte
module _ (ends : Bool) (bs : List ℕ) (i : ℕ) (l : i < length bs) where
  pub by_class : (k : Class) (B : List ℕ → Option Reading) (x : Result Found LexRefusal) → class (get_or bs i 0) ≡ k → ((q : List ℕ) → expression_by ends i k (get_or bs i 0) q ≡ B q) →
      GivesPiece B (i + 1) (drop (i + 1) bs) x → GivesPiece (expression ends i) i (drop i bs) x
  by_class k B x e law g = gives_step (expression ends i) B bs i x l (λ q. ap (λ z. expression_by ends i z (get_or bs i 0) q) e ∙ law q) g

  pub by_byte : (k : Class) (r : Reading) (x : Result Found LexRefusal) → class (get_or bs i 0) ≡ k → ((q : List ℕ) → expression_by ends i k (get_or bs i 0) q ≡ only (is_nil q) r) →
      GivesReading r (i + 1) x → GivesPiece (expression ends i) i (drop i bs) x
  by_byte k r x e law g =
      gives_reading (expression ends i) i (i + 1) (drop i bs) r x
      (λ z q. last_at (expression ends i) bs i z l (λ w. ap (λ y. expression_by ends i y (get_or bs i 0) w) e ∙ (law w ∙ ap (only (is_nil w)) q))) g

  pub bad_byte : (k : Class) (r : Refusal) → class (get_or bs i 0) ≡ k → ((q : List ℕ) → expression_by ends i k (get_or bs i 0) q ≡ only (is_nil q) (Refused r)) → EndsBadly (expression ends i) i (drop i bs) r
  bad_byte k r e law = (i + 1, last_at (expression ends i) bs i (Refused r) l (λ w. ap (λ y. expression_by ends i y (get_or bs i 0) w) e ∙ law w))
