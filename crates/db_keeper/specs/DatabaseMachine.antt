-- The database machine: what each command answers, and what it makes of the tables.
-- A finite map is the list of its entries, in the order of the keys' bytes.
use Rattle.std.specs.Prelude.{◌≡◌, List, [], ◌∷◌, ℕ, Option, Some, None, is_some, if◌then◌else◌, map}
use Rattle.std.specs.Ordering.{nat_cmp}
use Rattle.std.specs.Cmp.Lexicographic.{slice_cmp}
use Rattle.std.specs.declared.cmp.Ordering.{Ordering}
use Rattle.std.specs.Map.{lookup, set_value, remove_entry}
use Rattle.std.specs.BTreeMap.{insert_entry, is_at}
use Rattle.web_data.specs.declared.database.DbCmd.{DbCmd}
use Rattle.web_data.specs.declared.database.DbCmd.TheVariants as cmd
use Rattle.web_data.specs.declared.database.DbAns.{DbAns}
use Rattle.web_data.specs.declared.database.DbAns.TheVariants as ans
use Rattle.web_data.specs.DatabaseAnswers.{row_of_entry}

-- the order of two texts by their bytes
abbrev pub by_bytes : List ℕ → List ℕ → Ordering
by_bytes = slice_cmp nat_cmp

-- a table: values by their keys
abbrev pub Table : Type 0
Table = List (List ℕ × List ℕ)

-- a database: tables by their names
abbrev pub Tables : Type 0
Tables = List (List ℕ × Table)

module _ {X : Type 0} where
  -- what stands under a key
  abbrev pub under : List ℕ → List (List ℕ × X) → Option X
  under key es = lookup (is_at (by_bytes key)) es

  -- the map with a new entry
  abbrev pub with_new : List ℕ → X → List (List ℕ × X) → List (List ℕ × X)
  with_new key x es = insert_entry by_bytes es key x

  -- the map with another value under a key that stands
  abbrev pub with_changed : List ℕ → X → List (List ℕ × X) → List (List ℕ × X)
  with_changed key x es = set_value (is_at (by_bytes key)) es x

  -- the map without a key
  abbrev pub without : List ℕ → List (List ℕ × X) → List (List ℕ × X)
  without key es = remove_entry (is_at (by_bytes key)) es

-- what a command answers, and the tables that it leaves
pub record Effect : Type 0 where
  pub answer : DbAns
  pub tables : Tables

abbrev pub effect : DbAns → Tables → Effect
effect answer tables = record { answer = answer; tables = tables }

-- the value as the only row, if there is one
abbrev pub rows_of_value : Option (List ℕ) → List (List (List ℕ))
rows_of_value None = []
rows_of_value (Some value) = (value ∷ []) ∷ []

-- a command on a table, or none where the table is wanting
abbrev pub on_table : Option Table → Tables → (Table → Effect) → Effect
on_table None tables act = effect ans.NoTable tables
on_table (Some table) tables act = act table

-- a new row, unless its key stands
abbrev pub inserted : List ℕ → List ℕ → List ℕ → Tables → Table → Effect
inserted name key value tables table =
    if is_some (under key table) then effect ans.KeyStands tables else effect ans.Done (with_changed name (with_new key value table) tables)

-- the effect of a command
abbrev pub effect_of : DbCmd → Tables → Effect
effect_of (cmd.Create name) tables = if is_some (under name tables) then effect ans.TableStands tables else effect ans.Done (with_new name [] tables)
effect_of (cmd.Insert name key value) tables = on_table (under name tables) tables (inserted name key value tables)
effect_of (cmd.Delete name key) tables = on_table (under name tables) tables (λ table. effect ans.Done (with_changed name (without key table) tables))
effect_of (cmd.One name key) tables = on_table (under name tables) tables (λ table. effect (ans.Rows (rows_of_value (under key table))) tables)
effect_of (cmd.All name) tables = on_table (under name tables) tables (λ table. effect (ans.Rows (map row_of_entry table)) tables)

-- one step of the machine
abbrev pub TableStep : Tables → DbCmd → DbAns → Tables → Type 0
TableStep tables command answer tables' = effect_of command tables ≡ effect answer tables'
