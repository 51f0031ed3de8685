-- The reading of the line that tells a refusal, from its end.
use Rattle.std.specs.Prelude.{ℕ, ◌+◌, ◌*◌, ◌-◌, ◌^◌, min, ◌==◌, List, [], ◌∷◌, length, take, slice_index, Option, Some, None, if◌then◌else◌, codes}
use Rattle.std.specs.Char.{is_ascii_digit}
use Rattle.smlserver_top.specs.Reading.{after, ◌>>=◌}

-- the number of digits behind those of another, or the greatest of 64 bits
abbrev pub number_behind : ℕ → List ℕ → Option ℕ
number_behind n [] = Some n
number_behind n (d ∷ digits) = if is_ascii_digit d then number_behind (min (min (n * 10) (2 ^ 64 - 1) + (d - 48)) (2 ^ 64 - 1)) digits else None

abbrev pub number_of : List ℕ → Option ℕ
number_of digits = number_behind 0 digits

-- what a byte in front of a cut, or of none, makes of it
abbrev pub cut_behind : ℕ → List ℕ → Option (List ℕ × List ℕ) → Option (List ℕ × List ℕ)
cut_behind b text (Some cut) = Some (b ∷ cut.0, cut.1)
cut_behind b text None = if b == 32 then Some ([], text) else None

-- what stands before the last blank, and behind it
abbrev pub cut_last : List ℕ → Option (List ℕ × List ℕ)
cut_last [] = None
cut_last (b ∷ text) = cut_behind b text (cut_last text)

-- the text without an LF at its end
abbrev pub without_feed : List ℕ → List ℕ
without_feed text = if slice_index text (length text - 1) == 10 then take (length text - 1) text else text

-- a file, a place, a name, and the lack behind it
abbrev pub Parts : Type 0
Parts = List ℕ × ℕ × List ℕ × Option (List ℕ)

abbrev pub lacking : List ℕ → List ℕ → List ℕ × List ℕ → Option Parts
lacking name lack cut = number_of cut.1 >>= λ place. Some (cut.0, place, name, Some lack)

-- the parts, by the last two words: the first of them is the place, or else the name of a refusal with a lack
abbrev pub by_words : List ℕ → List ℕ → List ℕ → Option ℕ → Option Parts
by_words front word last (Some place) = Some (front, place, last, None)
by_words front word last None = cut_last front >>= lacking word last

unfoldable pub told_of : List ℕ → Option Parts
told_of line = do
  body ← after (codes "refused ") line
  back ← cut_last (without_feed body)
  front ← cut_last back.0
  by_words front.0 front.1 back.1 (number_of front.1)
