use Rattle.std.proofs.Common.{arith}
use Rattle.http_read.proofs.Stages.{new_search}
use Rattle.http_read.proofs.reader.Reader.make.Goals as goal

pub invariant_of-result : goal.invariant_of-result
invariant_of-result c = (omega arith, new_search c.new.result.items)
