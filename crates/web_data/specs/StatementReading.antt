-- How a statement is read, a byte at a time: the command that it is, or the place up to which it begins one.
-- It is `Statement` and `NoStatement` as a function, which `db_text` proves.
use Rattle.std.specs.Prelude.{ℕ, ◌+◌, max, List, [], ◌∷◌, ◌++◌, length, map, if◌then◌else◌, ◌==◌, ◌&&◌, nat_lt, Option, Some, None}
use Rattle.std.specs.Option.{option_map_or}
use Rattle.std.specs.List.{slice_index_or}
use Rattle.web_data.specs.declared.database.DbCmd.{DbCmd}
use Rattle.web_data.specs.declared.database.DbCmd.TheVariants as cmd
use Rattle.sml_syntax.specs.ByteClasses.{is_letter}
use Rattle.web_data.specs.Statements as statement
use Rattle.web_data.specs.Statements.{is_space, is_table_byte, small}

-- what is left of a part
pub data Left : Type 0 where
  Spaces : Left
  Gap : Left
  Word : List ℕ → Left
  Name : Left
  -- behind the first bytes of a name
  More : List ℕ → Left
  Quoted : Left
  -- behind the quote before a text, with the text so far
  Inside : List ℕ → Left
  -- behind a quote that ends the text or is half of a doubled one
  Shut : List ℕ → Left

-- the texts so far, and the parts that are left
pub record State : Type 0 where
  pub texts : List (List ℕ)
  pub left : List Left

abbrev pub state : List (List ℕ) → List Left → State
state texts left = record { texts = texts; left = left }

-- behind one more byte, if it may stand there
abbrev pub step : List (List ℕ) → List Left → ℕ → Option State
step texts [] b = None
step texts (Spaces ∷ ps) b = if is_space b then Some (state texts (Spaces ∷ ps)) else step texts ps b
step texts (Gap ∷ ps) b = if is_space b then Some (state texts (Spaces ∷ ps)) else None
step texts (Word [] ∷ ps) b = step texts ps b
step texts (Word (c ∷ w) ∷ ps) b = if small b == c then Some (state texts (Word w ∷ ps)) else None
step texts (Name ∷ ps) b = if is_letter b then Some (state texts (More (b ∷ []) ∷ ps)) else None
step texts (More name ∷ ps) b = if is_table_byte b && nat_lt (length name) 32 then Some (state texts (More (name ++ b ∷ []) ∷ ps)) else step (texts ++ name ∷ []) ps b
step texts (Quoted ∷ ps) b = if b == 39 then Some (state texts (Inside [] ∷ ps)) else None
step texts (Inside text ∷ ps) b = if b == 39 then Some (state texts (Shut text ∷ ps)) else Some (state texts (Inside (text ++ b ∷ []) ∷ ps))
step texts (Shut text ∷ ps) b = if b == 39 then Some (state texts (Inside (text ++ 39 ∷ []) ∷ ps)) else step (texts ++ text ∷ []) ps b

-- all bytes are the parts, with these texts; or none goes on at a place
pub data Reading : Type 0 where
  Whole : List (List ℕ) → Reading
  Stops : ℕ → Reading

-- at the end of the bytes
abbrev pub finish : List (List ℕ) → List Left → ℕ → Reading
finish texts [] n = Whole texts
finish texts (Spaces ∷ ps) n = finish texts ps n
finish texts (Gap ∷ ps) n = Stops n
finish texts (Word [] ∷ ps) n = finish texts ps n
finish texts (Word (c ∷ w) ∷ ps) n = Stops n
finish texts (Name ∷ ps) n = Stops n
finish texts (More name ∷ ps) n = finish (texts ++ name ∷ []) ps n
finish texts (Quoted ∷ ps) n = Stops n
finish texts (Inside text ∷ ps) n = Stops n
finish texts (Shut text ∷ ps) n = finish (texts ++ text ∷ []) ps n

-- the bytes from a place on
abbrev pub run : List (List ℕ) → List Left → List ℕ → ℕ → Reading
run texts ps [] n = finish texts ps n
run texts ps (b ∷ bs) n = option_map_or (λ s. run s.texts s.left bs (n + 1)) (step texts ps b) (Stops n)

-- a part, with its text left out
abbrev pub part_left : statement.Part → Left
part_left statement.Spaces = Spaces
part_left statement.Gap = Gap
part_left (statement.Word w) = Word w
part_left (statement.Name table) = Name
part_left (statement.Quoted text) = Quoted

-- the five forms, each as the command that its texts make
abbrev pub forms : List (List (List ℕ) → DbCmd)
forms =
    (λ ts. cmd.Create (slice_index_or ts 0 []))
    ∷ (λ ts. cmd.Insert (slice_index_or ts 0 []) (slice_index_or ts 1 []) (slice_index_or ts 2 []))
    ∷ (λ ts. cmd.Delete (slice_index_or ts 0 []) (slice_index_or ts 1 []))
    ∷ (λ ts. cmd.One (slice_index_or ts 0 []) (slice_index_or ts 1 []))
    ∷ (λ ts. cmd.All (slice_index_or ts 0 []))
    ∷ []

-- what a text is: a command's statement, or none, with the length of its longest prefix that begins one
pub data Told : Type 0 where
  Command : DbCmd → Told
  Outside : ℕ → Told

abbrev pub by_form : (List (List ℕ) → DbCmd) → Reading → ℕ → (ℕ → Told) → Told
by_form form (Whole texts) place others = Command (form texts)
by_form form (Stops n) place others = others (max place n)

-- by the first form that takes all bytes, or the farthest place at which one stops
abbrev pub by_forms : List (List (List ℕ) → DbCmd) → List ℕ → ℕ → Told
by_forms [] bytes place = Outside place
by_forms (form ∷ others) bytes place =
    by_form form (run [] (map part_left (statement.parts_of (form []))) bytes 0) place (by_forms others bytes)

-- what a text is
abbrev pub statement_of : List ℕ → Told
statement_of bytes = by_forms forms bytes 0
