use Rattle.std.proofs.Common.{◌≡◌, ◌++◌, map}
use Rattle.web_data.specs.DatabaseAnswers.{row_of_entry}
use Rattle.db_keeper.specs.Shown.{shown, table_of}
use Rattle.db_keeper.proofs.table.all_rows.Given as goal

-- the rows so far, and those of the entries that are left
abbrev pub invariant-loop-key : goal.invariant-loop-key
invariant-loop-key l = l.rows.items ++ map row_of_entry (shown (λ value. value) l.key-iterator) ≡ map row_of_entry (table_of l.table)
