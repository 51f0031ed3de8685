use Rattle.std.proofs.Common.{rules, ◌≡◌, ℕ, IfOk, sym, subst, arith}
use Rattle.std.proofs.lemmas.Bool.Decides.{nat_tests}
use Rattle.history_core.specs.LegalHistory.{Machines}
use Rattle.history_core.specs.ByObject.{NamesDiffer}
use Rattle.history_check.specs.Replaying.{Tried}
use Rattle.history_check.proofs.Trying.{ok-map, entry-cached, entry-commanded}
use Rattle.history_check.proofs.replay.Replay.step.Goals as goal

pub step_databases-requires : goal.step_databases-requires
step_databases-requires c = subst (λ (m : Machines). NamesDiffer m.databases) (sym c.self.view_is) c.requires.differ

pub returns-in-Cache-Cache : goal.returns-in-Cache-Cache
returns-in-Cache-Cache c =
    let new : Machines = record { groups = c.step_caches.new.caches; databases = c.self.inside.databases.items } in
    subst (λ (m : Machines). IfOk c.step_caches.result (Tried m c.args.entry.now new)) c.self.view_is
    (ok-map c.step_caches.result _ _ (λ b h. entry-cached (record { groups = c.self.inside.caches; databases = c.self.inside.databases.items }) c.args.entry.now c.in-Cache-Cache.call c.in-Cache-Cache.answer c.in-Cache-Cache.is-0 c.in-Cache-Cache.is-1 c.step_caches.new.caches b h) c.step_caches.ensures)

pub returns-in-Db-Db : goal.returns-in-Db-Db
returns-in-Db-Db c =
    let new : Machines = record { groups = c.self.inside.caches; databases = c.step_databases.new.databases.items } in
    let at_zero : c.args.entry.now.moment ≡ 0 = (let t = c.if-entry-eq0.true in grind (arith, nat_tests)) in
    subst (λ (m : Machines). IfOk c.step_databases.result (Tried m c.args.entry.now new)) c.self.view_is
    (ok-map c.step_databases.result _ _ (λ b h. entry-commanded (record { groups = c.self.inside.caches; databases = c.self.inside.databases.items }) c.args.entry.now c.in-Db-Db.name c.in-Db-Db.cmd c.in-Db-Db.answer c.in-Db-Db.is-0 c.in-Db-Db.is-1 at_zero c.step_databases.new.databases.items b h) c.step_databases.ensures)
