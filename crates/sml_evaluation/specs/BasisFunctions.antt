-- The functions of the basis on numbers and texts, without values: evaluation and the machine's steps share them.
-- The Standard ML Basis Library: INTEGER, STRING, CHAR; what `Web` asks is of this project.
use Rattle.std.specs.Prelude.{ℕ, zero, suc, ◌+◌, ◌-◌, ◌*◌, ◌/◌, ◌==◌, nat_lt, nat_le, ℤ, pos, negsuc, ◌-ℤ◌, ◌*ℤ◌, neg_ℤ, Bool, true, false, ◌&&◌, ◌||◌, List, [], ◌∷◌, length, take, drop, fold, take_while, slice_get, Option, Some, None, option_map, if◌then◌else◌, codes}
use Rattle.std.specs.List.{list_all}
use Rattle.std.specs.Str.{bytes_eq}
use Rattle.sml_syntax.specs.ByteClasses.{is_digit}
use Rattle.web_data.specs.declared.database.DbAns.{DbAns}
use Rattle.web_data.specs.declared.database.DbAns.TheVariants as answer

-- the quotient, rounded towards minus infinity; the divisor isn't 0
abbrev pub quotient : ℤ → ℤ → ℤ
quotient (pos a) (pos b) = pos (a / b)
quotient (pos zero) (negsuc b) = pos 0
quotient (pos (suc a)) (negsuc b) = negsuc (a / suc b)
quotient (negsuc a) (pos b) = negsuc (a / b)
quotient (negsuc a) (negsuc b) = pos (suc a / suc b)

-- what the quotient leaves, which has the divisor's sign
abbrev pub modulus : ℤ → ℤ → ℤ
modulus a b = a -ℤ b *ℤ quotient a b

abbrev pub is_zero : ℤ → Bool
is_zero (pos zero) = true
is_zero _ = false

-- tab, LF, vertical tab, form feed, CR and space
abbrev pub is_white : ℕ → Bool
is_white b = (nat_le 9 b && nat_le b 13) || b == 32

abbrev pub behind_white : List ℕ → List ℕ
behind_white [] = []
behind_white (b ∷ bs) = if is_white b then behind_white bs else b ∷ bs

-- the number of one digit or more
abbrev pub number_of_digits : List ℕ → Option ℕ
number_of_digits [] = None
number_of_digits (d ∷ ds) = Some (fold (λ n c. n * 10 + (c - 48)) 0 (d ∷ ds))

-- the number that the digits at the front make
abbrev pub unsigned_front : List ℕ → Option ℕ
unsigned_front bytes = number_of_digits (take_while is_digit bytes)

-- the number at the front, with `~`, `-` or `+` before it, or none of them
abbrev pub signed_front : List ℕ → Option ℤ
signed_front [] = None
signed_front (b ∷ bs) =
    if b == 126 || b == 45 then option_map (λ n. neg_ℤ (pos n)) (unsigned_front bs)
    else if b == 43 then option_map pos (unsigned_front bs)
    else option_map pos (unsigned_front (b ∷ bs))

-- the number that a text begins with, behind white space
abbrev pub number_front : List ℕ → Option ℤ
number_front bytes = signed_front (behind_white bytes)

-- a number of one byte
abbrev pub byte_of : ℤ → Option ℕ
byte_of (pos n) = if nat_lt n 256 then Some n else None
byte_of (negsuc n) = None

-- the byte at a place
abbrev pub byte_at : List ℕ → ℤ → Option ℕ
byte_at bytes (pos i) = slice_get bytes i
byte_at bytes (negsuc i) = None

-- so many bytes from a place on
abbrev pub part_at : List ℕ → ℤ → ℤ → Option (List ℕ)
part_at bytes (pos i) (pos n) = if nat_le (i + n) (length bytes) then Some (take n (drop i bytes)) else None
part_at bytes _ _ = None

-- one of the names
abbrev pub is_listed : List ℕ → List (List ℕ) → Bool
is_listed name [] = false
is_listed name (other ∷ names) = if bytes_eq other name then true else is_listed name names

-- the texts of a form under a name, in order
abbrev pub texts_under : List ℕ → List (List ℕ × List ℕ) → List (List ℕ)
texts_under name [] = []
texts_under name (pair ∷ pairs) = if bytes_eq pair.0 name then pair.1 ∷ texts_under name pairs else texts_under name pairs

-- the first of them
abbrev pub text_under : List ℕ → List (List ℕ × List ℕ) → Option (List ℕ)
text_under name [] = None
text_under name (pair ∷ pairs) = if bytes_eq pair.0 name then Some pair.1 else text_under name pairs

-- a content type: 1 to 200 bytes from 32 to 126
abbrev pub is_content_type : List ℕ → Bool
is_content_type bytes = nat_le 1 (length bytes) && nat_le (length bytes) 200 && list_all (λ b. nat_le 32 b && nat_le b 126) bytes

-- a status that a script may set
abbrev pub is_status : ℤ → Bool
is_status (pos n) = n == 200 || n == 201 || n == 400 || n == 403 || n == 404 || n == 409 || n == 410
is_status (negsuc n) = false

-- the name of a cache: 1 to 64 bytes
abbrev pub is_cache_name : List ℕ → Bool
is_cache_name bytes = nat_le 1 (length bytes) && nat_le (length bytes) 64

-- a time or a size of a cache, if it isn't negative
abbrev pub limit_of : Option ℤ → Option (Option ℕ)
limit_of None = Some None
limit_of (Some (pos n)) = Some (Some n)
limit_of (Some (negsuc n)) = None

-- the texts of `Fail`
abbrev pub bad_type : List ℕ
bad_type = codes "content type"

abbrev pub bad_status : List ℕ
bad_status = codes "status"

abbrev pub bad_cache_name : List ℕ
bad_cache_name = codes "cache name"

abbrev pub bad_cache_kind : List ℕ
bad_cache_kind = codes "cache kind"

abbrev pub no_database : List ℕ
no_database = codes "no database"

-- the text of `Fail` that a database's answer raises, if any
abbrev pub failure_of : DbAns → Option (List ℕ)
failure_of answer.NoTable = Some (codes "no table")
failure_of answer.TableStands = Some (codes "table stands")
failure_of answer.KeyStands = Some (codes "key stands")
failure_of _ = None

-- the rows of an answer; there are none where it has none
abbrev pub rows_of : DbAns → List (List (List ℕ))
rows_of (answer.Rows rows) = rows
rows_of _ = []
