use Rattle.std.proofs.Common.{arith}
use Rattle.std.proofs.lemmas.Grind.{common_steps}
use Rattle.http_read.proofs.Stages.{look_body, look_fault}
use Rattle.http_read.proofs.reader.look_head.Goals as goal

pub returns-in-Ok : goal.returns-in-Ok
returns-in-Ok c = look_body c.args.held.now _ c.args.k c.in-Ok.parts c.requires c.in-Ok.ensures (grind (arith, common_steps))

pub returns-in-Err : goal.returns-in-Err
returns-in-Err c = look_fault c.args.held.now _ c.args.k c.in-Err.status c.requires c.in-Err.ensures (grind (arith, common_steps))
