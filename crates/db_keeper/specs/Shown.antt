-- Ordered maps of std as the maps of the database machine.
use Rattle.std.specs.Prelude.{ℕ, List, map, is_some, if◌then◌else◌}
use Rattle.std.specs.declared.alloc.Global.{Global}
use Rattle.std.specs.declared.vec.Vec.{Vec}
use Rattle.std.specs.BTreeMap.{BTreeMap}
use Rattle.web_data.specs.declared.database.DbAns.{DbAns}
use Rattle.web_data.specs.declared.database.DbAns.TheVariants as ans
use Rattle.db_keeper.specs.DatabaseMachine.{Table, Tables, under, with_new}

-- entries by their keys' bytes, with each value as `f` shows it
abbrev pub shown : {X Y : Type 0} → (X → Y) → List (Vec ℕ Global × X) → List (List ℕ × Y)
shown f es = map (λ e. (e.0.items, f e.1)) es

abbrev pub table_of : BTreeMap (Vec ℕ Global) (List ℕ) → Table
table_of m = shown (λ value. value) m.entries

abbrev pub tables_of : BTreeMap (Vec ℕ Global) (BTreeMap (Vec ℕ Global) (List ℕ)) → Tables
tables_of m = shown table_of m.entries

-- the answer to a new row
abbrev pub insert_answer : List ℕ → Table → DbAns
insert_answer key table = if is_some (under key table) then ans.KeyStands else ans.Done

-- the table with a new row, unless its key stands
abbrev pub with_row : List ℕ → List ℕ → Table → Table
with_row key value table = if is_some (under key table) then table else with_new key value table
