use Rattle.std.proofs.Common.{◌∙◌}
use Rattle.smlserver_top.proofs.PlaceLaws.{none_left, one_left}
use Rattle.smlserver_top.proofs.place.source_line.Goals as goal
use Rattle.smlserver_top.proofs.place.source_line.Goals.{then-loop-left-test+else-not-is_empty, else-loop-left-test}

pub returns : goal.returns
returns c = elim c.loop-left-test.branch [
  | then-loop-left-test+else-not-is_empty w ↦ c.first_line.ensures ∙ none_left c.args.number c.loop-left.left c.args.text.now c.loop-left.rest.now c.loop-left.invariant w.if-not-is_empty.ensures
  | else-loop-left-test w ↦ c.first_line.ensures ∙ one_left c.args.number c.loop-left.left c.args.text.now c.loop-left.rest.now c.loop-left.invariant w.loop-left-test.false
]
