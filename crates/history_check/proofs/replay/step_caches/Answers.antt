use Rattle.std.proofs.Common.{rules, ◌≡◌, ◌≤◌, true, ap, sym, ◌∙◌}
use Rattle.web_data.specs.CacheCalls.{cache_call_fits}
use Rattle.web_cache.specs.CacheMachine.{group_number, last_moment}
use Rattle.history_core.proofs.Fitting.{answer-fits}
use Rattle.history_check.proofs.Trying.{cache-tried, ok-both}
use Rattle.history_check.proofs.replay.step_caches.Goals as goal

pub same_cache_answer-requires : goal.same_cache_answer-requires
same_cache_answer-requires c =
    let fits : cache_call_fits c.args.call.now ≡ true = search rules in
    answer-fits c.args.caches.now c.args.call.now c.args.moment c.act.new.self c.in_ok-given.given fits c.requires.fitting c.in_ok-given.ensures.ok

pub returns : goal.returns
returns c =
    let fits : cache_call_fits c.args.call.now ≡ true = search rules in
    let later : last_moment c.args.caches.now (group_number c.args.call.now.id.name) ≤ c.args.moment = search rules in
    ok-both c.same_cache_answer.result _ _ _ (λ b so if_so. cache-tried c.args.caches.now c.act.new.self c.args.call.now c.args.moment c.in_ok-given.given c.args.answer.now c.requires.apart fits later c.in_ok-given.ensures.ok b so if_so)
    c.same_cache_answer.ensures.yes c.same_cache_answer.ensures.no
