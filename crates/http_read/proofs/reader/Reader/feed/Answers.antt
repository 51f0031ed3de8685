use Rattle.http_read.proofs.Stages.{fed}
use Rattle.http_read.proofs.reader.Reader.feed.Goals as goal

pub invariant_of-self-2 : goal.invariant_of-self-2
invariant_of-self-2 c = fed _ _ _ _ _ c.in_ok-extend_from_slice.ensures.items c.self.invariant
