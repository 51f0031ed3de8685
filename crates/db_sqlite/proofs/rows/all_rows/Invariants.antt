use Rattle.std.proofs.Common.{◌≡◌, List, map}
use Rattle.web_data.specs.DatabaseAnswers.{KeysAscend, row_of_entry}
use Rattle.db_sqlite.proofs.Ascending.{Entry, EndsWith}
use Rattle.db_sqlite.proofs.rows.all_rows.Given as goal

-- the rows so far are those of entries whose keys ascend, and the last key is the highest
abbrev pub invariant-loop-row : goal.invariant-loop-row
invariant-loop-row l = (es : List Entry) × KeysAscend es × (l.rows.items ≡ map row_of_entry es) × EndsWith l.last es
