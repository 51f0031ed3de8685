-- The reading of a line of a project file, from its front.
use Rattle.std.specs.Prelude.{ℕ, Bool, true, false, ◌==◌, ◌&&◌, ◌||◌, List, [], ◌∷◌, Option, Some, None, if◌then◌else◌, codes}
use Rattle.std.specs.Str.{bytes_eq}
use Rattle.project_lines.specs.declared.line.Line.{Line}
use Rattle.project_lines.specs.declared.line.Line.TheVariants.{Header, Library, Script, Database, Budget, Pages}
use Rattle.project_lines.specs.Names.{is_path, is_path_byte, is_file_name, is_database_name, is_count, is_slash, number_after}

-- what follows these bytes, where the text begins with them
abbrev pub after : List ℕ → List ℕ → Option (List ℕ)
after [] text = Some text
after (t ∷ token) [] = None
after (t ∷ token) (b ∷ text) = if t == b then after token text else None

-- whether nothing or a / follows what was taken
abbrev pub ends_part : Option (List ℕ) → Bool
ends_part None = false
ends_part (Some []) = true
ends_part (Some (b ∷ text)) = is_slash b

-- whether the first part of a name is ..
abbrev pub parent_first : List ℕ → Bool
parent_first name = ends_part (after (codes "..") name)

-- whether a later part is ..
abbrev pub parent_later : List ℕ → Bool
parent_later [] = false
parent_later (b ∷ name) = (is_slash b && parent_first name) || parent_later name

-- the bytes of a path at the front, and what follows
abbrev pub path_split : List ℕ → List ℕ × List ℕ
path_split [] = ([], [])
path_split (b ∷ text) = if is_path_byte b then (b ∷ (path_split text).0, (path_split text).1) else ([], b ∷ text)

abbrev pub library_of : List ℕ → Option Line
library_of name = if is_file_name name then Some (Library name) else None

-- a path, and the name behind a space
abbrev pub script_at : List ℕ → Option (List ℕ) → Option Line
script_at path None = None
script_at path (Some name) = if is_path path && is_file_name name then Some (Script path name) else None

abbrev pub script_of : List ℕ → Option Line
script_of text = script_at (path_split text).0 (after (32 ∷ []) (path_split text).1)

abbrev pub database_of : List ℕ → Option Line
database_of name = if is_database_name name then Some (Database name) else None

abbrev pub count_of : ℕ → List ℕ → Option ℕ
count_of most digits = if is_count most digits then Some (number_after 0 digits) else None

abbrev pub budget_line : Option ℕ → Option Line
budget_line None = None
budget_line (Some n) = Some (Budget n)

abbrev pub pages_line : Option ℕ → Option Line
pages_line None = None
pages_line (Some n) = Some (Pages n)

-- a line by what follows its first word, where that is this one, and else another line
abbrev pub by_word : Option (List ℕ) → (List ℕ → Option Line) → Option Line → Option Line
by_word None found other = other
by_word (Some rest) found other = found rest

-- what a line says
unfoldable pub line_of : List ℕ → Option Line
line_of text =
    if bytes_eq text (codes "smlserver 1") then Some Header else
    by_word (after (codes "lib ") text) library_of
    (by_word (after (codes "script ") text) script_of
    (by_word (after (codes "database ") text) database_of
    (by_word (after (codes "budget ") text) (λ digits. budget_line (count_of 1000000000 digits))
    (by_word (after (codes "pages ") text) (λ digits. pages_line (count_of 65536 digits)) None))))
