-- Words are numbers below 2 ^ 64. A signed number is a word by two's complement.
use Rattle.std.specs.Prelude.{ℕ, suc, ℤ, pos, negsuc, Bool, ◌^◌, nat_lt, List, ◌∷◌}
use Rattle.std.specs.Int.{w64, cast_signed, cast_unsigned}
use Rattle.std.specs.Fmt.{decimal}

-- the word of a signed number
abbrev pub word_of : ℤ → ℕ
word_of z = cast_unsigned w64 z

-- the signed number of a word
abbrev pub number_of : ℕ → ℤ
number_of word = cast_signed w64 word

-- the number is a signed number of 64 bits
abbrev pub fits : ℤ → Bool
fits (pos n) = nat_lt n (2 ^ 63)
fits (negsuc n) = nat_lt n (2 ^ 63)

-- the decimal text of a number, with ~ for minus
abbrev pub spelling : ℤ → List ℕ
spelling (pos n) = decimal n
spelling (negsuc n) = 126 ∷ decimal (suc n)
