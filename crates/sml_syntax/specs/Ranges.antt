-- The integers and texts that memory holds.
use Rattle.std.specs.Prelude.{ℕ, ◌^◌, ℤ, pos, negsuc, nat_lt, Bool, ◌&&◌, List, length}
use Rattle.std.specs.List.{list_all}

-- an integer of 64 bits
abbrev pub is_int : ℤ → Bool
is_int (pos n) = nat_lt n (2 ^ 63)
is_int (negsuc n) = nat_lt n (2 ^ 63)

-- a text: bytes, and fewer than 2^63 of them
abbrev pub is_text : List ℕ → Bool
is_text bytes = list_all (λ b. nat_lt b 256) bytes && nat_lt (length bytes) (2 ^ 63)
