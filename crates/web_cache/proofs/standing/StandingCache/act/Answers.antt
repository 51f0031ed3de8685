use Rattle.std.proofs.Common.{rules}
use Rattle.web_cache.specs.Shown.{Shown}
use Rattle.web_cache.proofs.Showing.{look-shown, put-shown, unchanged, on-err, look-step, put-step, flush-step}
use Rattle.web_cache.proofs.standing.StandingCache.act.Goals as goal

pub invariant_of-self-inside : goal.invariant_of-self-inside
invariant_of-self-inside c = (look-shown c.look.result c.self.inside.id c.args.now _ c.self.inside.rows c.look.new.rows c.look.ensures.ok c.look.ensures.err c.self.inside.shown, tt)

pub returns-in_err-value-in-Look-clause-err : goal.returns-in_err-value-in-Look-clause-err
returns-in_err-value-in-Look-clause-err c =
    let t : Shown c.self.inside.id c.look.new.rows.rows = search rules in
    on-err _ _ (unchanged c.self.inside.id c.self.inside.rows c.look.new.rows c.self.inside.shown t _ c.self.view_is c.in_err-value-in-Look.ensures.err)

pub invariant_of-self-inside-in-Put : goal.invariant_of-self-inside-in-Put
invariant_of-self-inside-in-Put c = (put-shown c.put.result c.self.inside.id c.args.now _ _ c.self.inside.rows c.put.new.rows c.put.ensures.ok c.put.ensures.err c.self.inside.shown, tt)

pub returns-in_err-fresh-in-Put-clause-err : goal.returns-in_err-fresh-in-Put-clause-err
returns-in_err-fresh-in-Put-clause-err c =
    let t : Shown c.self.inside.id c.put.new.rows.rows = search rules in
    on-err _ _ (unchanged c.self.inside.id c.self.inside.rows c.put.new.rows c.self.inside.shown t _ c.self.view_is c.in_err-fresh-in-Put.ensures.err)

pub returns-in_ok-value-in-Look-clause-ok : goal.returns-in_ok-value-in-Look-clause-ok
returns-in_ok-value-in-Look-clause-ok c =
    let t : Shown c.self.inside.id c.look.new.rows.rows = search rules in
    look-step c.self.inside.id c.self.inside.rows c.look.new.rows c.self.inside.shown t c.args.now c.in-Look.key c.args.op.now c.in_ok-value-in-Look.value c.found.result c.args.self.now c.in-Look.is c.self.view_is c.found.ensures c.in_ok-value-in-Look.ensures.ok

pub returns-in_ok-fresh-in-Put-clause-ok : goal.returns-in_ok-fresh-in-Put-clause-ok
returns-in_ok-fresh-in-Put-clause-ok c =
    let t : Shown c.self.inside.id c.put.new.rows.rows = search rules in
    put-step c.self.inside.id c.self.inside.rows c.put.new.rows c.self.inside.shown t c.args.now c.in-Put.key c.in-Put.value c.args.op.now c.in_ok-fresh-in-Put.fresh c.args.self.now c.in-Put.is c.self.view_is c.in_ok-fresh-in-Put.ensures.ok

pub returns-in-Flush-clause-ok : goal.returns-in-Flush-clause-ok
returns-in-Flush-clause-ok c =
    let t : Shown c.self.inside.id c.flush.new.self.rows = search rules in
    flush-step c.self.inside.id c.self.inside.rows c.flush.new.self c.self.inside.shown t c.args.now c.args.op.now c.args.self.now c.in-Flush.is c.self.view_is c.flush.ensures
