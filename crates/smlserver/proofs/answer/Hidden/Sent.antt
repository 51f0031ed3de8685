-- The keeper over a file may go to another thread.
use denote.Param.Sent.{Sends}
use denote.Param.Send.{sendable}
use Rattle.db_sqlite.proofs.Sent.{keeper_send}
use Rattle.smlserver.proofs.answer.OwnLists.{part-1-2}

pub sends-part-1-2 : Sends part-1-2
sends-part-1-2 i = search (keeper_send, sendable)
