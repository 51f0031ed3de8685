-- How a text lies in words: a word for its length, then its bytes, eight a word, the first byte lowest, padded with zeros.
use Rattle.std.specs.Prelude.{ℕ, zero, suc, List, [], ◌∷◌, ◌++◌, length, take, drop, nat_le, Option, Some, None, if◌then◌else◌}
use Rattle.std.specs.Int.{w64, to_le_bytes, from_le_bytes, div_ceil}
use Rattle.std.specs.List.{flat_map}

-- eight bytes: the first ones of these, padded with zeros
abbrev pub eight : List ℕ → List ℕ
eight bytes = take 8 (bytes ++ 0 ∷ 0 ∷ 0 ∷ 0 ∷ 0 ∷ 0 ∷ 0 ∷ 0 ∷ [])

-- the bytes in so many words
abbrev pub words : ℕ → List ℕ → List ℕ
words zero bytes = []
words (suc n) bytes = from_le_bytes w64 (eight (take 8 bytes)) ∷ words n (drop 8 bytes)

-- how many words so many bytes take
abbrev pub word_count : ℕ → ℕ
word_count n = div_ceil n 8

-- a text in words
unfoldable pub text_words : List ℕ → List ℕ
text_words text = length text ∷ words (word_count (length text)) text

-- the first n bytes of words
abbrev pub bytes_in : ℕ → List ℕ → List ℕ
bytes_in n region = take n (flat_map (to_le_bytes w64) region)

-- the text whose length is the first of these words, where all its words are there
unfoldable pub text_from : List ℕ → Option (List ℕ)
text_from [] = None
text_from (n ∷ rest) = if nat_le (word_count n) (length rest) then Some (bytes_in n (take (word_count n) rest)) else None

-- the text that lies at this place of a region's words
abbrev pub text_at : ℕ → List ℕ → Option (List ℕ)
text_at place region = text_from (drop place region)
