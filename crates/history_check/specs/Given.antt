-- The databases that are handed in: a name each, and the tables that each of its keepers tells.
use Rattle.std.specs.Prelude.{ℕ, List, [], ◌∷◌, map, zip, Option, Some, None, slice_get, ◌≡◌, ⊤}
use Rattle.std.specs.Option.{option_map}
use Rattle.web_data.specs.declared.database.DbCmd.{DbCmd}
use Rattle.web_data.specs.declared.database.DbCmd.TheVariants as cmd
use Rattle.db_keeper.specs.DatabaseMachine.{Tables as TablesValue, effect_of}
use Rattle.db_keeper.specs.Keeping.{KeeperMeaning}
use Rattle.history_core.specs.LegalHistory.{Database}
use Rattle.history_check.specs.declared.tables.Tables.{Tables}

-- a keeper after a command
abbrev pub after_command : DbCmd → KeeperMeaning → KeeperMeaning
after_command c k = record { tables = option_map (λ t. (effect_of c t).tables) k.tables; plan = k.plan; faults = k.faults }

-- a keeper after these rows are inserted into one of its tables
abbrev pub filled : List ℕ → List (List ℕ × List ℕ) → KeeperMeaning → KeeperMeaning
filled name [] k = k
filled name (row ∷ rows) k = filled name rows (after_command (cmd.Insert name row.0 row.1) k)

-- a keeper after these tables are created and filled
abbrev pub created : List (List ℕ × List (List ℕ × List ℕ)) → KeeperMeaning → KeeperMeaning
created [] k = k
created (t ∷ ts) k = created ts (filled t.0 t.1 (after_command (cmd.Create t.0) k))

-- a keeper that tells its tables, and no failing calls
abbrev pub keeper_given : Tables → KeeperMeaning
keeper_given given = created given.rows (record { tables = Some []; plan = None; faults = 0 })

abbrev pub database_given : List ℕ × List Tables → Database
database_given p = record { name = p.0; keepers = map keeper_given p.1 }

abbrev pub databases_given : List (List ℕ) → List (List Tables) → List Database
databases_given names lists = map database_given (zip names lists)

-- no two of these names are equal
abbrev pub AllDiffer : List (List ℕ) → Type 0
AllDiffer names = (i j : ℕ) (name : List ℕ) → slice_get names i ≡ Some name → slice_get names j ≡ Some name → i ≡ j

-- the tables are told
abbrev pub AreTold : Option TablesValue → Type 0
AreTold None = ⊥
AreTold (Some tables) = ⊤
