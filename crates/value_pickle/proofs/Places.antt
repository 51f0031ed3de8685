-- The place at which bytes are no pickle.
use Rattle.std.proofs.Common.{◌≡◌, ℕ, ◌-◌, ◌<◌, ◌≤◌, List, [], ◌∷◌, ◌++◌, length, take, drop, Ok, refl, sym, ap, subst, ◌∙◌, append_assoc, inl, arith}
use Rattle.std.proofs.lemmas.List.{append-nil, length-append, take_at, take-append-drop, length-take-le}
use Rattle.sml_syntax.proofs.Lists.{front_of_front}
use Rattle.web_data.specs.declared.datum.Datum.{Datum}
use Rattle.web_data.specs.declared.datum.Desc.{Desc}
use Rattle.web_data.specs.Pickles.{pickle, IsPickle, BeginsPickle}
use Rattle.value_pickle.specs.declared.refusal.Halt.{Halt}
use Rattle.value_pickle.specs.declared.refusal.Halt.TheVariants as halt
use Rattle.value_pickle.specs.Reading.{NoPickle, LongestBeginning, GivesDatum}
use Rattle.value_pickle.specs.Halting.{Halts, HaltsWhole, IsWhole, Reads}
use Rattle.value_pickle.proofs.OneForm.{one_form, equal_pickles}
use Rattle.value_pickle.proofs.Wholes.{whole_free}

-- no pickle goes on with the next byte
abbrev Ends : Desc → List ℕ → List ℕ → Type 0
Ends desc front back = (b : ℕ) (tail rest : List ℕ) → back ≡ b ∷ tail → IsWhole desc (front ++ b ∷ rest) → ⊥

past : (desc : Desc) (bytes front back : List ℕ) (n : ℕ) → bytes ≡ front ++ back → Ends desc front back → length front < n → n ≤ length bytes → BeginsPickle desc (take n bytes) → ⊥
past desc bytes front back n parts ends more within begins =
    let len = length-take-le n bytes within
    in let p = front_of_front front back (take n bytes) (drop n bytes) (sym parts ∙ sym (take-append-drop n bytes)) (omega (arith, len, more))
    in at_byte p.0 p.1 p.2 len
  where
    at_byte : (others : List ℕ) → take n bytes ≡ front ++ others → back ≡ others ++ drop n bytes → length (take n bytes) ≡ n → ⊥
    at_byte [] same rest len = omega (arith, more, len, ap length same, length-append front [])
    at_byte (b ∷ others) same rest len =
        ends b (others ++ drop n bytes) (others ++ begins.rest) rest
        (begins.datum, subst (λ z. IsPickle desc begins.datum z) (ap (λ z. z ++ begins.rest) same ∙ append_assoc front (b ∷ others) begins.rest) begins.whole)

no_pickle : (desc : Desc) (bytes front back : List ℕ) (left : ℕ) → bytes ≡ front ++ back → left ≡ length back → BeginsPickle desc front → ((x : Datum) → IsPickle desc x bytes → ⊥) → Ends desc front back
    → HaltsWhole desc bytes (halt.Left left)
no_pickle desc bytes front back left parts is begins none ends =
    let len = ap length parts ∙ length-append front back
    in let place : length bytes - left ≡ length front = omega (arith, len, is)
    in let longest : LongestBeginning desc bytes (length front) = record {
      within = omega (arith, len);
      begins = subst (BeginsPickle desc) (sym (ap (take (length front)) parts ∙ take_at front back (length front) refl)) begins;
      longest = λ n more within later. past desc bytes front back n parts ends more within later;
    }
    in (omega (arith, len, is), subst (NoPickle desc bytes) (sym place) (record { none = none; longest = longest }))

none_there : (desc : Desc) (bytes front back wanting : List ℕ) → bytes ≡ front ++ back → 0 < length wanting → IsWhole desc (front ++ wanting) → Ends desc front back → (x : Datum) → IsPickle desc x bytes → ⊥
none_there desc bytes front [] wanting parts some begins ends x is =
    let same = whole_free desc (front ++ wanting) bytes [] wanting begins (x, is) (append-nil (front ++ wanting) ∙ ap (λ z. z ++ wanting) (sym (parts ∙ append-nil front)))
    in omega (arith, some, ap length same, ap length parts, length-append front wanting, length-append front [])
none_there desc bytes front (b ∷ tail) wanting parts some begins ends x is = ends b tail tail refl (x, subst (IsPickle desc x) parts is)

pub halts_whole : (desc : Desc) (bytes : List ℕ) (e : Halt) → Halts (IsWhole desc) bytes e → HaltsWhole desc bytes e
halts_whole desc bytes (halt.Left left) stop =
    no_pickle desc bytes stop.front stop.back left stop.parts stop.left_is (record { datum = stop.begins.0; rest = stop.wanting; whole = stop.begins.1 })
    (none_there desc bytes stop.front stop.back stop.wanting stop.parts stop.some stop.begins stop.ends) stop.ends
halts_whole desc bytes halt.NoMemory stop = tt

-- bytes behind a pickle
pub halts_behind : (desc : Desc) (bytes : List ℕ) (x : Datum) (rest : List ℕ) → Reads desc bytes x rest → 0 < length rest → HaltsWhole desc bytes (halt.Left (length rest))
halts_behind desc bytes x rest reads some =
    no_pickle desc bytes (pickle desc x) rest (length rest) reads.parts refl
    (record { datum = x; rest = []; whole = record { described = reads.described; spelled = append-nil (pickle desc x) } })
    (λ y is. omega (arith, some, ap length (one_form desc y x [] rest is.described reads.described (append-nil (pickle desc y) ∙ sym is.spelled ∙ reads.parts)).1))
    (λ b tail others same (y, is).
    let p = one_form desc y x [] (b ∷ others) is.described reads.described (append-nil (pickle desc y) ∙ sym is.spelled)
    in omega (arith, ap length p.1))

pub gives_datum : (desc : Desc) (bytes : List ℕ) (x y : Datum) → IsPickle desc x bytes → IsPickle desc y bytes → GivesDatum (Ok x) y
gives_datum desc bytes x y first second = inl (ap Ok (equal_pickles desc x y first.described second.described (sym first.spelled ∙ second.spelled)))
