use Rattle.std.proofs.Common.{subst}
use Rattle.page_pool.specs.Lone.{LonePages, HasEachOnce}
use Rattle.page_pool.specs.PageWords.{numbers}
use Rattle.page_pool.proofs.Lone.{each_once}
use Rattle.page_pool.proofs.lone_pool.LonePoolPages.dries.Goals as goal

pub returns-clause-each : goal.returns-clause-each
returns-clause-each c =
    let i = c.self.inside in
    let p : LonePages = record { free = numbers i.free.items; made = i.made; peak = i.peak; low = i.low; dries = i.dries } in
    subst HasEachOnce c.self.view_is (each_once p c.self.invariant.once)
