use Rattle.std.proofs.Common.{All, string_bytes, take}
use Rattle.db_sqlite.specs.Names.{IsFileByte}
use Rattle.db_sqlite.proofs.Reading.{Reads}
use Rattle.db_sqlite.proofs.names.file_name.Given as goal

-- the bytes so far are read back from what is written
abbrev pub invariant-loop-b : goal.invariant-loop-b
invariant-loop-b l = record {
  reads : Reads (string_bytes l.name) (take l.b-index l.table-2);
  bytes : All IsFileByte (string_bytes l.name);
}
