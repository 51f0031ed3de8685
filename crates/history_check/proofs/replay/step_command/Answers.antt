use Rattle.std.proofs.Common.{rules, ◌≡◌, ◌<◌, length, Some, ap, sym, ◌∙◌}
use Rattle.std.proofs.lemmas.Option.{slice_get-get_or}
use Rattle.history_check.proofs.Trying.{command-tried}
use Rattle.history_check.proofs.replay.step_command.Goals as goal

pub returns : goal.returns
returns c =
    let items = c.args.keepers.now.items in
    let less : 0 < length items = search rules in
    command-tried c.index_mut.result.now c.act.new.self c.args.cmd.now c.in_ok-given.ensures.plan.1 c.in_ok-given.ensures.plan.0 c.in_ok-given.ensures.faults items
    (slice_get-get_or items 0 _ less ∙ ap Some (sym c.index_mut.ensures.value)) c.in_ok-given.given c.args.answer.now c.requires c.in_ok-given.ensures.fits c.in_ok-given.ensures.ok c.in_ok-given.ensures.only c.same_database_answer.result c.same_database_answer.ensures.yes c.same_database_answer.ensures.no
