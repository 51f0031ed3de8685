-- The words of a project file: paths, names of files and of databases, and counts. Each is of this project.
use Rattle.std.specs.Prelude.{ℕ, ◌+◌, ◌*◌, ◌-◌, Bool, false, ◌==◌, ◌||◌, ◌&&◌, nat_le, not, List, [], ◌∷◌, length, codes}
use Rattle.std.specs.List.{list_all, list_any, slice_split}
use Rattle.std.specs.Char.{is_ascii_alphanumeric, is_ascii_digit, is_ascii_lowercase}
use Rattle.std.specs.Str.{bytes_eq}

abbrev pub is_slash : ℕ → Bool
is_slash b = b == 47

-- whether the text begins with /
abbrev pub begins_with_slash : List ℕ → Bool
begins_with_slash [] = false
begins_with_slash (b ∷ text) = is_slash b

-- a byte from 33 to 126, other than ? and #
abbrev pub is_path_byte : ℕ → Bool
is_path_byte b = nat_le 33 b && nat_le b 126 && not (b == 63) && not (b == 35)

-- a path: it begins with / and has at most 200 bytes
abbrev pub is_path : List ℕ → Bool
is_path path = begins_with_slash path && nat_le (length path) 200 && list_all is_path_byte path

-- a letter, a digit, _ - . or /
abbrev pub is_file_byte : ℕ → Bool
is_file_byte b = is_ascii_alphanumeric b || b == 95 || b == 45 || b == 46 || b == 47

-- whether a name, cut at each /, has the part ..
abbrev pub has_parent : List ℕ → Bool
has_parent name = list_any (bytes_eq (codes "..")) (slice_split is_slash name)

-- the name of a file: 1 to 200 bytes, which don't begin with / and leave no folder by ..
abbrev pub is_file_name : List ℕ → Bool
is_file_name name = nat_le 1 (length name) && nat_le (length name) 200 && list_all is_file_byte name && not (begins_with_slash name) && not (has_parent name)

-- a small letter, a digit or _
abbrev pub is_database_byte : ℕ → Bool
is_database_byte b = is_ascii_lowercase b || is_ascii_digit b || b == 95

-- the name of a database: a small letter, and at most 31 small letters, digits or _
abbrev pub is_database_name : List ℕ → Bool
is_database_name [] = false
is_database_name (b ∷ name) = is_ascii_lowercase b && nat_le (length name) 31 && list_all is_database_byte name

-- the number that digits write, after the number of those before them
abbrev pub number_after : ℕ → List ℕ → ℕ
number_after n [] = n
number_after n (digit ∷ digits) = number_after (n * 10 + (digit - 48)) digits

-- 1 to 20 digits, and their number is from 1 to `most`
abbrev pub is_count : ℕ → List ℕ → Bool
is_count most digits = nat_le 1 (length digits) && nat_le (length digits) 20 && list_all is_ascii_digit digits && nat_le 1 (number_after 0 digits) && nat_le (number_after 0 digits) most
