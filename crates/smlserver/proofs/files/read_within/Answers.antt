use Rattle.std.proofs.Common.{◌<◌, length, ap, arith}
use Rattle.std.proofs.lemmas.Grind.{common_steps}
use Rattle.smlserver.proofs.Limited.{whole_below}
use Rattle.smlserver.proofs.files.read_within.Goals as goal

pub returns-in-Ok-2-clause-whole : goal.returns-in-Ok-2-clause-whole
returns-in-Ok-2-clause-whole g c =
    let below : length c.read_to_end.new.buf.items < c.take.result.limit = grind (arith, common_steps) in
    whole_below c.take.result.limit (g.F.Read.remaining c.take.result.inner) _ _ _ _ c.from_vec.ensures (ap g.F.Read.remaining c.take.ensures.inner) c.new-bytes.ensures.items below c.in-Ok.ensures.bytes
