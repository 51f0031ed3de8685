-- A text is read back from its words, and stays where it lies.
use Rattle.std.proofs.Common.{◌≡◌, ◌⊎◌, ℕ, zero, suc, ◌+◌, ◌-◌, ◌*◌, ◌<◌, ◌≤◌, Bool, true, false, cond, Some, None, List, [], ◌∷◌, ◌++◌, length, take, drop, get_or, refl, ap, sym, ◌∙◌, inl, inr, ⊎_elim, append_assoc, append-nil, arith, length-append, length-drop}
use Rattle.std.proofs.lemmas.List.{take-append-drop, take-append-le, length-take, take_at, drop_at, get_or_past}
use Rattle.std.proofs.Math.Seq.{take-append-add}
use Rattle.std.proofs.lemmas.Grind.{common_steps}
use Rattle.std.proofs.lemmas.Nat.{le_bytes_8}
use Rattle.std.proofs.lemmas.Bool.{cases_lt, leb-true}
use Rattle.std.proofs.lemmas.Bool.Decides.{nat_tests}
use Rattle.std.specs.Prelude.{nat_le}
use Rattle.std.specs.Int.{w64, to_le_bytes, from_le_bytes}
use Rattle.std.specs.List.{flat_map, All}
use Rattle.kam_code.specs.Layout.{eight, words, word_count, text_words, text_from, text_at, bytes_in}

-- one more word
pub words_step : (old mid new : List ℕ) (count turn : ℕ) (bytes rest next : List ℕ) (word : ℕ) → turn < count → old ++ words count bytes ≡ mid ++ words (count - turn) rest → new ≡ mid ++ word ∷ [] → word ≡ from_le_bytes w64 (eight (take 8 rest)) → next ≡ drop 8 rest → old ++ words count bytes ≡ new ++ words (count - (turn + 1)) next
words_step old mid new count turn bytes rest next word l h n w d =
    let e : count - turn ≡ suc (count - (turn + 1)) = omega arith in
    h ∙ ap (λ k. mid ++ words k rest) e
    ∙ ap (λ x. mid ++ x ∷ words (count - (turn + 1)) (drop 8 rest)) (sym w)
    ∙ sym (append_assoc mid (word ∷ []) (words (count - (turn + 1)) (drop 8 rest)))
    ∙ ap (λ m. m ++ words (count - (turn + 1)) (drop 8 rest)) (sym n)
    ∙ ap (λ r. new ++ words (count - (turn + 1)) r) (sym d)

abbrev pub IsBytes : List ℕ → Type 0
IsBytes bytes = (i : ℕ) → get_or bytes i 0 < 256

eight_length : (bytes : List ℕ) → length (eight bytes) ≡ 8
eight_length bytes = omega (arith, length-take 8 (bytes ++ 0 ∷ 0 ∷ 0 ∷ 0 ∷ 0 ∷ 0 ∷ 0 ∷ 0 ∷ []), length-append bytes (0 ∷ 0 ∷ 0 ∷ 0 ∷ 0 ∷ 0 ∷ 0 ∷ 0 ∷ []))

bytes_append : (a b : List ℕ) → IsBytes a → IsBytes b → IsBytes (a ++ b)
bytes_append [] b x y i = y i
bytes_append (c ∷ a) b x y zero = x zero
bytes_append (c ∷ a) b x y (suc i) = bytes_append a b (λ j. x (suc j)) y i

bytes_take : (n : ℕ) (a : List ℕ) → IsBytes a → IsBytes (take n a)
bytes_take zero a x i = omega arith
bytes_take (suc n) [] x i = omega arith
bytes_take (suc n) (c ∷ a) x zero = x zero
bytes_take (suc n) (c ∷ a) x (suc i) = bytes_take n a (λ j. x (suc j)) i

bytes_drop : (n : ℕ) (a : List ℕ) → IsBytes a → IsBytes (drop n a)
bytes_drop zero a x i = x i
bytes_drop (suc n) [] x i = omega arith
bytes_drop (suc n) (c ∷ a) x i = bytes_drop n a (λ j. x (suc j)) i

zero_more : (a : List ℕ) → IsBytes a → IsBytes (0 ∷ a)
zero_more a x zero = omega arith
zero_more a x (suc i) = x i

bytes_zeros : IsBytes (0 ∷ 0 ∷ 0 ∷ 0 ∷ 0 ∷ 0 ∷ 0 ∷ 0 ∷ [])
bytes_zeros = zero_more (0 ∷ 0 ∷ 0 ∷ 0 ∷ 0 ∷ 0 ∷ 0 ∷ []) (zero_more (0 ∷ 0 ∷ 0 ∷ 0 ∷ 0 ∷ 0 ∷ []) (zero_more (0 ∷ 0 ∷ 0 ∷ 0 ∷ 0 ∷ []) (zero_more (0 ∷ 0 ∷ 0 ∷ 0 ∷ []) (zero_more (0 ∷ 0 ∷ 0 ∷ []) (zero_more (0 ∷ 0 ∷ []) (zero_more (0 ∷ []) (zero_more [] (λ i. omega arith))))))))

word_again : (bytes : List ℕ) → IsBytes bytes → to_le_bytes w64 (from_le_bytes w64 (eight bytes)) ≡ eight bytes
word_again bytes b =
    le_bytes_8 (eight bytes) (from_le_bytes w64 (eight bytes)) (eight_length bytes) (bytes_take 8 (bytes ++ 0 ∷ 0 ∷ 0 ∷ 0 ∷ 0 ∷ 0 ∷ 0 ∷ 0 ∷ []) (bytes_append bytes (0 ∷ 0 ∷ 0 ∷ 0 ∷ 0 ∷ 0 ∷ 0 ∷ 0 ∷ []) b bytes_zeros)) refl

-- fewer than eight bytes
few : (text more : List ℕ) → length text < 8 → take (length text) (eight (take 8 text) ++ more) ≡ text
few text more l = grind (arith, common_steps, eight_length)

-- eight bytes or more
many : (text more : List ℕ) → 8 ≤ length text → take (length (drop 8 text)) more ≡ drop 8 text → take (length text) (eight (take 8 text) ++ more) ≡ text
many text more l ih =
    let whole : eight (take 8 text) ≡ take 8 text = take_at (take 8 text) (0 ∷ 0 ∷ 0 ∷ 0 ∷ 0 ∷ 0 ∷ 0 ∷ 0 ∷ []) 8 (omega (arith, length-take 8 text)) in
    let len : length text ≡ length (take 8 text) + length (drop 8 text) = omega (arith, length-take 8 text, length-drop 8 text) in
    ap (λ e. take (length text) (e ++ more)) whole
    ∙ ap (λ n. take n (take 8 text ++ more)) len
    ∙ take-append-add (take 8 text) more (length (drop 8 text))
    ∙ ap (λ r. take 8 text ++ r) ih
    ∙ take-append-drop 8 text

none : (text : List ℕ) → length text ≤ 0 → text ≡ []
none [] l = refl
none (b ∷ text) l = absurd (omega arith)

-- the bytes are read again, whatever follows
pub bytes-words-back : (n : ℕ) (text back : List ℕ) → IsBytes text → length text ≤ 8 * n → bytes_in (length text) (words n text ++ back) ≡ text
bytes-words-back zero text back b l = let e : text ≡ [] = none text (omega arith) in rw e refl
bytes-words-back (suc n) text back b l =
    let word = word_again (take 8 text) (bytes_take 8 text b) in
    let rest = bytes-words-back n (drop 8 text) back (bytes_drop 8 text b) (omega (arith, length-drop 8 text)) in
    ap (λ w. take (length text) (w ++ flat_map (to_le_bytes w64) (words n (drop 8 text) ++ back))) word
    ∙ ⊎_elim (λ h. few text (flat_map (to_le_bytes w64) (words n (drop 8 text) ++ back)) h) (λ h. many text (flat_map (to_le_bytes w64) (words n (drop 8 text) ++ back)) h rest) (cases_lt (length text) 8)

length-words : (n : ℕ) (bytes : List ℕ) → length (words n bytes) ≡ n
length-words zero bytes = refl
length-words (suc n) bytes = ap suc (length-words n (drop 8 bytes))

-- how many words a text takes
pub text_words_length : (text : List ℕ) → length (text_words text) ≡ word_count (length text) + 1
unfolding text_words
text_words_length text = let n : length (words (word_count (length text)) text) ≡ word_count (length text) = length-words (word_count (length text)) text in omega arith

-- a text is read back, whatever follows it
pub text_from-text_words : (text back : List ℕ) → IsBytes text → text_from (text_words text ++ back) ≡ Some text
unfolding text_words text_from
text_from-text_words text back b =
    let k : ℕ = word_count (length text) in
    let len : length (words k text) ≡ k = length-words k text in
    let test : nat_le k (length (words k text ++ back)) ≡ true = grind (arith, nat_tests, length-append (words k text) back) in
    let front : take k (words k text ++ back) ≡ words k text = take_at (words k text) back k len in
    let enough : length text ≤ 8 * k = omega arith in
    ap (λ t. cond t (Some (bytes_in (length text) (take k (words k text ++ back)))) None) test
    ∙ ap (λ ws. Some (bytes_in (length text) ws)) (front ∙ sym (append-nil (words k text)))
    ∙ ap Some (bytes-words-back k text [] b enough)

chosen : {A : Type 0} (b : Bool) (x y z : A) → cond b x y ≡ z → ((b ≡ true) × (x ≡ z)) ⊎ ((b ≡ false) × (y ≡ z))
chosen true x y z e = inl (refl, e)
chosen false x y z e = inr (refl, e)

text_from-append : (region more text : List ℕ) → text_from region ≡ Some text → text_from (region ++ more) ≡ Some text
unfolding text_from
text_from-append [] more text e = absurd (cc)
text_from-append (n ∷ rest) more text e =
    elim (chosen (nat_le (word_count n) (length rest)) (Some (bytes_in n (take (word_count n) rest))) None (Some text) e) [
      | inl w ↦
          let within : word_count n ≤ length rest = leb-true (word_count n) (length rest) w.0 in
          let test : nat_le (word_count n) (length (rest ++ more)) ≡ true = grind (arith, nat_tests, length-append rest more) in
          ap (λ t. cond t (Some (bytes_in n (take (word_count n) (rest ++ more)))) None) test
          ∙ ap (λ ws. Some (bytes_in n ws)) (take-append-le (word_count n) rest more within)
          ∙ w.1
      | inr w ↦ absurd (cc)
    ]

no_text : (text : List ℕ) → text_from [] ≡ Some text → ⊥
unfolding text_from
no_text text e = absurd (cc)

-- a text stays where it lies when its region grows
pub text_at-append : (place : ℕ) (region more text : List ℕ) → text_at place region ≡ Some text → text_at place (region ++ more) ≡ Some text
text_at-append zero region more text e = text_from-append region more text e
text_at-append (suc place) [] more text e = absurd (no_text text e)
text_at-append (suc place) (word ∷ region) more text e = text_at-append place region more text e

-- a text that is laid out at the end of a region lies there
pub text_at-made : (region text : List ℕ) → IsBytes text → text_at (length region) (region ++ text_words text) ≡ Some text
text_at-made region text b =
    ap text_from (drop_at region (text_words text) (length region) refl ∙ sym (append-nil (text_words text)))
    ∙ text_from-text_words text [] b

-- the bytes of a text, by std's word
pub bytes_of_all : (text : List ℕ) → All (λ b. b < 256) text → IsBytes text
bytes_of_all text all i = ⊎_elim (λ h. all i 0 h) (λ h. let past = get_or_past text i 0 h in omega arith) (cases_lt i (length text))
