-- Which answers fit a database command. A fault fits none: it ends the request.
use Rattle.std.specs.Prelude.{◌≡◌, ◌⊎◌, ℕ, Bool, true, false, ◌&&◌, List, [], ◌∷◌, map, Option, Some, None}
use Rattle.std.specs.Ordering.{nat_cmp, is_lt}
use Rattle.std.specs.Cmp.Lexicographic.{slice_cmp}
use Rattle.std.specs.List.Sorted.{IsStrictlySortedBy}
use Rattle.web_data.specs.declared.database.DbCmd.{DbCmd}
use Rattle.web_data.specs.declared.database.DbCmd.TheVariants as cmd
use Rattle.web_data.specs.declared.database.DbAns.{DbAns}
use Rattle.web_data.specs.declared.database.DbAns.TheVariants as ans

-- a row of a key and a value
abbrev pub row_of_entry : List ℕ × List ℕ → List (List ℕ)
row_of_entry e = e.0 ∷ e.1 ∷ []

-- the keys differ, and ascend by their bytes
abbrev pub KeysAscend : List (List ℕ × List ℕ) → Type 0
KeysAscend entries = IsStrictlySortedBy (slice_cmp nat_cmp) (map (λ e. e.0) entries)

-- the answer is one of those that the command has
abbrev pub FitsCommand : DbCmd → DbAns → Type 0
FitsCommand (cmd.Create table) answer = (answer ≡ ans.Done) ⊎ (answer ≡ ans.TableStands)
FitsCommand (cmd.Insert table key value) answer = (answer ≡ ans.Done) ⊎ ((answer ≡ ans.NoTable) ⊎ (answer ≡ ans.KeyStands))
FitsCommand (cmd.Delete table key) answer = (answer ≡ ans.Done) ⊎ (answer ≡ ans.NoTable)
FitsCommand (cmd.One table key) answer =
    (answer ≡ ans.NoTable) ⊎ ((answer ≡ ans.Rows []) ⊎ ((value : List ℕ) × (answer ≡ ans.Rows ((value ∷ []) ∷ []))))
FitsCommand (cmd.All table) answer =
    (answer ≡ ans.NoTable) ⊎ ((entries : List (List ℕ × List ℕ)) × KeysAscend entries × (answer ≡ ans.Rows (map row_of_entry entries)))

-- one row of one text, or none
abbrev pub is_one_text : List (List (List ℕ)) → Bool
is_one_text [] = true
is_one_text ((text ∷ []) ∷ []) = true
is_one_text _ = false

-- rows of two texts each, whose first ones ascend
abbrev pub are_entries : Option (List ℕ) → List (List (List ℕ)) → Bool
are_entries before [] = true
are_entries None ((key ∷ value ∷ []) ∷ rows) = are_entries (Some key) rows
are_entries (Some last) ((key ∷ value ∷ []) ∷ rows) = is_lt (slice_cmp nat_cmp last key) && are_entries (Some key) rows
are_entries before _ = false

-- the same as a test
abbrev pub fits_command : DbCmd → DbAns → Bool
fits_command (cmd.Create table) ans.Done = true
fits_command (cmd.Create table) ans.TableStands = true
fits_command (cmd.Insert table key value) ans.Done = true
fits_command (cmd.Insert table key value) ans.NoTable = true
fits_command (cmd.Insert table key value) ans.KeyStands = true
fits_command (cmd.Delete table key) ans.Done = true
fits_command (cmd.Delete table key) ans.NoTable = true
fits_command (cmd.One table key) ans.NoTable = true
fits_command (cmd.One table key) (ans.Rows rows) = is_one_text rows
fits_command (cmd.All table) ans.NoTable = true
fits_command (cmd.All table) (ans.Rows rows) = are_entries None rows
fits_command _ _ = false
