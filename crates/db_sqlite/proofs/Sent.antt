-- A keeper over a connection to a file may go to another thread.
use denote.Param.Send.{IsSend, recorded_send, struct_send, owning_send, sendable}
use denote.Struct.Declared.{shape}
use Rattle.std.proofs.Crossing.{crosses}
use Rattle.sqlite.proofs.connection.Connection.TheSendSync as connection
use Rattle.sqlite.below.sqlite_store.proofs.store.FileStore.TheSendSync as store
use Rattle.sqlite.below.sqlite_disk.proofs.modelled.Modelled.TheSendSync as modelled
use Rattle.sqlite.below.sqlite_std_file.specs.contracts.host.Host as host
use Rattle.sqlite.below.sqlite_std_file.specs.contracts.record.Record as noted
use Rattle.db_sqlite.specs.contracts.keeper.SqliteKeeper.{the_row, the_type}

-- the list of calls owns nothing
record_send : IsSend noted.the_row
record_send = owning_send noted.the_type (search (crosses, sendable), tt) (λ d. tt) (λ k x w. tt)

host_send : IsSend host.the_row
host_send = recorded_send _ _ _ host.the_type.to_one (struct_send (shape host.the_type) (search (crosses, sendable) depth 20, (record_send, tt)))

pub keeper_send : IsSend the_row
keeper_send = recorded_send _ _ _ the_type.to_one (struct_send (shape the_type) (
  search (connection.the_send, store.the_send, modelled.the_send, host_send, crosses, sendable) depth 20,
  (search (crosses, sendable) depth 20, (search (crosses, sendable) depth 20, tt)),
))
