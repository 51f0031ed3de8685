-- Where reading stops: in a part of a whole, and behind parts that were read.
use Rattle.std.proofs.Common.{◌≡◌, ℕ, ◌<◌, List, [], ◌∷◌, ◌++◌, length, refl, sym, ap, subst, ◌∙◌, inl, inr, append_assoc, arith}
use Rattle.std.proofs.lemmas.Bool.{cases_lt}
use Rattle.std.proofs.lemmas.List.{append-nil, length-append}
use Rattle.sml_syntax.proofs.Lists.{cons_parts, front_of_front}
use Rattle.value_pickle.specs.Halting.{Stops}

abbrev pub Language : Type 1
Language = List ℕ → Type 0

-- no word begins another
abbrev pub IsPrefixFree : Language → Type 0
IsPrefixFree A = (w v x y : List ℕ) → A w → A v → w ++ x ≡ v ++ y → w ≡ v

-- each word of C begins with one of A
abbrev pub BeginsIn : Language → Language → Type 0
BeginsIn C A = (w : List ℕ) → C w → (a : List ℕ) × (b : List ℕ) × A a × (w ≡ a ++ b)

-- each word of A begins one of C
abbrev pub GoesOn : Language → Language → Type 0
GoesOn A C = (a : List ℕ) → A a → (b : List ℕ) × C (a ++ b)

pub same_rest : (a b c : List ℕ) → a ++ b ≡ a ++ c → b ≡ c
same_rest [] b c e = e
same_rest (x ∷ a) b c e = same_rest a b c (cons_parts x x (a ++ b) (a ++ c) e).1

-- a front of a word that wants some bytes doesn't begin with a word
shorter : (A : Language) (front wanting a more : List ℕ) → IsPrefixFree A → A (front ++ wanting) → A a → 0 < length wanting → front ≡ a ++ more → ⊥
shorter A front wanting a more free word other some e =
    let same = free (front ++ wanting) a [] (more ++ wanting) word other (append-nil (front ++ wanting) ∙ ap (λ z. z ++ wanting) e ∙ append_assoc a more wanting)
    in omega (arith, some, ap length same, ap length e, length-append front wanting, length-append a more)

-- a word that begins within a front and the next byte has all of them
longer : (A : Language) (front wanting a other rest : List ℕ) (b : ℕ) → IsPrefixFree A → A (front ++ wanting) → A a → 0 < length wanting
    → front ++ b ∷ rest ≡ a ++ other → (more : List ℕ) × (a ≡ front ++ b ∷ more)
longer A front wanting a other rest b free word h some e =
    elim (cases_lt (length front) (length a)) [
      | inl lt ↦ at_byte (front_of_front front (b ∷ rest) a other e (omega (arith, lt)))
      | inr le ↦ let p = front_of_front a other front (b ∷ rest) (sym e) le in absurd (shorter A front wanting a p.0 free word h some p.1)
    ]
  where
    at_byte : (more : List ℕ) × (a ≡ front ++ more) × (b ∷ rest ≡ more ++ other) → (more : List ℕ) × (a ≡ front ++ b ∷ more)
    at_byte ([], same, e) = absurd (shorter A front wanting a [] free word h some (sym (append-nil front) ∙ sym same ∙ sym (append-nil a)))
    at_byte (c ∷ more, same, e) = (more, same ∙ ap (λ z. front ++ z ∷ more) (sym (cons_parts b c rest (more ++ other) e).0))

-- in the first part of a whole
pub stops_first : (A C : Language) (bytes : List ℕ) (left : ℕ) → IsPrefixFree A → BeginsIn C A → GoesOn A C → Stops A bytes left → Stops C bytes left
stops_first A C bytes left free parts goes stop =
    let on = goes (stop.front ++ stop.wanting) stop.begins
    in record {
      front = stop.front;
      back = stop.back;
      parts = stop.parts;
      left_is = stop.left_is;
      wanting = stop.wanting ++ on.0;
      some = omega (arith, stop.some, length-append stop.wanting on.0);
      begins = subst C (append_assoc stop.front stop.wanting on.0) on.1;
      ends = λ b tail rest is c.
          let p = parts (stop.front ++ b ∷ rest) c
          in let q = longer A stop.front stop.wanting p.0 p.1 rest b free stop.begins p.2 stop.some p.3
          in stop.ends b tail q.0 is (subst A q.1 p.2);
    }

-- in what follows a part
pub stops_behind : (B C : Language) (a bytes : List ℕ) (left : ℕ) → ((b : List ℕ) → C (a ++ b) → B b) → ((b : List ℕ) → B b → C (a ++ b)) → Stops B bytes left → Stops C (a ++ bytes) left
stops_behind B C a bytes left off on stop = record {
  front = a ++ stop.front;
  back = stop.back;
  parts = ap (λ z. a ++ z) stop.parts ∙ sym (append_assoc a stop.front stop.back);
  left_is = stop.left_is;
  wanting = stop.wanting;
  some = stop.some;
  begins = subst C (sym (append_assoc a stop.front stop.wanting)) (on (stop.front ++ stop.wanting) stop.begins);
  ends = λ b tail rest is c. stop.ends b tail rest is (off (stop.front ++ b ∷ rest) (subst C (append_assoc a stop.front (b ∷ rest)) c));
}

-- the same words
pub stops_same : (A C : Language) (bytes : List ℕ) (left : ℕ) → ((w : List ℕ) → C w → A w) → ((w : List ℕ) → A w → C w) → Stops A bytes left → Stops C bytes left
stops_same A C bytes left off on stop = record {
  front = stop.front;
  back = stop.back;
  parts = stop.parts;
  left_is = stop.left_is;
  wanting = stop.wanting;
  some = stop.some;
  begins = on (stop.front ++ stop.wanting) stop.begins;
  ends = λ b tail rest is c. stop.ends b tail rest is (off (stop.front ++ b ∷ rest) c);
}

-- before the first byte
pub stops_at_once : (C : Language) (bytes word : List ℕ) → C word → 0 < length word → ((b : ℕ) (tail rest : List ℕ) → bytes ≡ b ∷ tail → C (b ∷ rest) → ⊥) → Stops C bytes (length bytes)
stops_at_once C bytes word h some wrong = record {
  front = [];
  back = bytes;
  parts = refl;
  left_is = refl;
  wanting = word;
  some = some;
  begins = h;
  ends = wrong;
}

-- a word of A, and then one of B
abbrev pub Seq : Language → Language → Language
Seq A B w = (a : List ℕ) × (b : List ℕ) × A a × B b × (w ≡ a ++ b)

pub seq_first : (A B : Language) (bytes : List ℕ) (left : ℕ) → IsPrefixFree A → (w : List ℕ) → B w → Stops A bytes left → Stops (Seq A B) bytes left
seq_first A B bytes left free w word stop =
    stops_first A (Seq A B) bytes left free (λ v (a, b, first, second, e). (a, b, first, e)) (λ a first. (w, (a, w, first, word, refl))) stop

pub seq_second : (A B : Language) (a bytes : List ℕ) (left : ℕ) → IsPrefixFree A → A a → Stops B bytes left → Stops (Seq A B) (a ++ bytes) left
seq_second A B a bytes left free word stop =
    stops_behind B (Seq A B) a bytes left
    (λ b (c, d, first, second, e).
    let same = free c a d b first word (sym e)
    in subst B (same_rest a d b (ap (λ z. z ++ d) (sym same) ∙ sym e)) second)
    (λ b second. (a, b, word, second, refl)) stop
