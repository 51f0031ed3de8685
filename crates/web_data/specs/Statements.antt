-- The statements of a database: what whole bytes are as a command, and what begins a statement.
-- The words are those of SQL (ISO/IEC 9075-2), of which there are five statements over tables of a key and a value each.
use Rattle.std.specs.Prelude.{◌≡◌, ℕ, ◌+◌, ◌<◌, ◌≤◌, List, [], ◌∷◌, ◌++◌, length, map, take, Bool, true, false, ◌&&◌, ◌||◌, if◌then◌else◌, nat_le, ◌==◌, codes}
use Rattle.std.specs.List.{list_all}
use Rattle.web_data.specs.declared.database.DbCmd.{DbCmd}
use Rattle.web_data.specs.declared.database.DbCmd.TheVariants as cmd
use Rattle.sml_syntax.specs.ByteClasses.{is_digit, is_letter}

-- a part of a statement
pub data Part : Type 0 where
  -- spaces, or none
  Spaces : Part
  -- at least one space
  Gap : Part
  -- a word of the grammar, as it is in small letters, or a sign
  Word : List ℕ → Part
  -- a table by its name
  Name : List ℕ → Part
  -- a text in quotes
  Quoted : List ℕ → Part

-- space, tab, CR, LF
abbrev pub is_space : ℕ → Bool
is_space b = b == 32 || (b == 9 || (b == 13 || b == 10))

-- a capital letter of ASCII as a small one, and any other byte as it is
abbrev pub small : ℕ → ℕ
small b = if nat_le 65 b && nat_le b 90 then b + 32 else b

-- a letter, a digit or `_`
abbrev pub is_table_byte : ℕ → Bool
is_table_byte b = is_letter b || (is_digit b || b == 95)

-- a letter, and at most 31 letters, digits or `_`
abbrev pub is_table_name : List ℕ → Bool
is_table_name [] = false
is_table_name (b ∷ bs) = is_letter b && (list_all is_table_byte bs && nat_le (length bs) 31)

-- a text with each quote doubled
abbrev pub doubled : List ℕ → List ℕ
doubled [] = []
doubled (b ∷ bs) = if b == 39 then 39 ∷ 39 ∷ doubled bs else b ∷ doubled bs

-- the bytes are this part
abbrev pub IsPart : Part → List ℕ → Type 0
IsPart Spaces bs = list_all is_space bs ≡ true
IsPart Gap bs = (list_all is_space bs ≡ true) × (0 < length bs)
IsPart (Word w) bs = map small bs ≡ w
IsPart (Name table) bs = (bs ≡ table) × (is_table_name table ≡ true)
IsPart (Quoted text) bs = bs ≡ 39 ∷ (doubled text ++ 39 ∷ [])

-- the bytes are these parts, one behind the other
abbrev pub AreParts : List Part → List ℕ → Type 0
AreParts [] bs = bs ≡ []
AreParts (p ∷ ps) bs = (front : List ℕ) × (back : List ℕ) × (bs ≡ front ++ back) × IsPart p front × AreParts ps back

-- The parts of a command's statement:
--     create _ table _ T
--     insert _ into _ T _ values (text, text)
--     delete _ from _ T _ where _ k = text
--     select _ v _ from _ T _ where _ k = text
--     select _ k, v _ from _ T _ order _ by _ k
abbrev pub parts_of : DbCmd → List Part
parts_of (cmd.Create table) =
    Spaces ∷ Word (codes "create") ∷ Gap ∷ Word (codes "table") ∷ Gap ∷ Name table ∷ Spaces ∷ []
parts_of (cmd.Insert table key value) =
    Spaces ∷ Word (codes "insert") ∷ Gap ∷ Word (codes "into") ∷ Gap ∷ Name table ∷ Gap ∷ Word (codes "values") ∷ Spaces
    ∷ Word (codes "(") ∷ Spaces ∷ Quoted key ∷ Spaces ∷ Word (codes ",") ∷ Spaces ∷ Quoted value ∷ Spaces ∷ Word (codes ")") ∷ Spaces ∷ []
parts_of (cmd.Delete table key) =
    Spaces ∷ Word (codes "delete") ∷ Gap ∷ Word (codes "from") ∷ Gap ∷ Name table ∷ Gap ∷ Word (codes "where") ∷ Gap
    ∷ Word (codes "k") ∷ Spaces ∷ Word (codes "=") ∷ Spaces ∷ Quoted key ∷ Spaces ∷ []
parts_of (cmd.One table key) =
    Spaces ∷ Word (codes "select") ∷ Gap ∷ Word (codes "v") ∷ Gap ∷ Word (codes "from") ∷ Gap ∷ Name table ∷ Gap ∷ Word (codes "where") ∷ Gap
    ∷ Word (codes "k") ∷ Spaces ∷ Word (codes "=") ∷ Spaces ∷ Quoted key ∷ Spaces ∷ []
parts_of (cmd.All table) =
    Spaces ∷ Word (codes "select") ∷ Gap ∷ Word (codes "k") ∷ Spaces ∷ Word (codes ",") ∷ Spaces ∷ Word (codes "v") ∷ Gap
    ∷ Word (codes "from") ∷ Gap ∷ Name table ∷ Gap ∷ Word (codes "order") ∷ Gap ∷ Word (codes "by") ∷ Gap ∷ Word (codes "k") ∷ Spaces ∷ []

-- the bytes are a statement of this command
abbrev pub Statement : List ℕ → DbCmd → Type 0
Statement bytes command = AreParts (parts_of command) bytes

-- some bytes behind these make a statement
abbrev pub BeginsStatement : List ℕ → Type 0
BeginsStatement bytes = (rest : List ℕ) × (command : DbCmd) × Statement (bytes ++ rest) command

-- the bytes up to the place are the longest prefix that begins a statement
pub record LongestBeginning (bytes : List ℕ) (place : ℕ) : Type 0 where
  pub within : place ≤ length bytes
  pub begins : BeginsStatement (take place bytes)
  pub longest : (n : ℕ) → place < n → n ≤ length bytes → BeginsStatement (take n bytes) → ⊥

-- the bytes are no statement, and begin one up to the place
pub record NoStatement (bytes : List ℕ) (place : ℕ) : Type 0 where
  pub none : (command : DbCmd) → Statement bytes command → ⊥
  pub longest : LongestBeginning bytes place
