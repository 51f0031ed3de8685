use Rattle.std.proofs.Common.{length, refl}
use Rattle.std.proofs.lemmas.Option.{slice_get_read}
use Rattle.web_cache.proofs.group.find.Goals as goal

pub returns-then-is-clause-some : goal.returns-then-is-clause-some
returns-then-is-clause-some c = (c.index-caches-at.result, slice_get_read c.args.caches.now (length c.args.caches.now) c.loop-at.at c.index-caches-at.result refl c.loop-at-test.true c.index-caches-at.is, c.is.ensures.0 c.if-is.true)
