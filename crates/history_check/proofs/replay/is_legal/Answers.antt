use Rattle.std.proofs.Common.{rules, ◌≡◌, ◌<◌, length, Some, slice_get, ap, sym, ◌∙◌, subst}
use Rattle.std.proofs.lemmas.Option.{slice_get-get_or}
use Rattle.history_check.proofs.Loading.{given_differ}
use Rattle.history_check.specs.Given.{databases_given}
use Rattle.history_check.specs.Replaying.{IsSingle}
use Rattle.history_check.proofs.OneStep.{starts_single}
use Rattle.history_check.proofs.Judging.{going, stuck, no-step, yes-step}
use Rattle.history_check.proofs.replay.is_legal.Goals as goal

pub returns-then-not-branch : goal.returns-then-not-branch
returns-then-not-branch c =
    let es = c.args.entries.now in
    let less : c.loop-entry.entry-index < length es = search rules in
    let there = slice_get-get_or es c.loop-entry.entry-index _ less ∙ ap Some (sym c.entry-item.is) in
    stuck _ es (given_differ c.args.names.now c.args.keepers.now c.requires) c.loop-entry.entry-index c.entry-item.result c.loop-entry.replay there c.loop-entry.invariant (no-step c.loop-entry.replay c.entry-item.result c.step.new.self c.in_ok-step.field-0 c.in_ok-step.ensures c.if-not-branch.true)

pub loop-entry-preserved : goal.loop-entry-preserved
loop-entry-preserved c =
    let es = c.args.entries.now in
    let less : c.loop-entry.entry-index < length es = search rules in
    let there = slice_get-get_or es c.loop-entry.entry-index _ less ∙ ap Some (sym c.entry-item.is) in
    going _ es c.loop-entry.entry-index c.entry-item.result c.loop-entry.replay c.step.new.self there c.loop-entry.invariant (yes-step c.loop-entry.replay c.entry-item.result c.step.new.self c.in_ok-step.field-0 c.in_ok-step.ensures c.if-not-branch.false)

pub loop-entry-init : goal.loop-entry-init
loop-entry-init c =
    let is = c.in_ok-replay.ensures in
    (is, subst IsSingle (sym is) (starts_single (databases_given c.args.names.now c.args.keepers.now) (given_differ c.args.names.now c.args.keepers.now c.requires)))
