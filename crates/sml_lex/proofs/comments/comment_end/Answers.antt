use Rattle.std.proofs.Common.{◌≡◌, ◌+◌, ◌≤◌, sym, ◌∙◌, arith, get_or}
use Rattle.grammar_rules.specs.Spelling.{comment, Refused, OpenComment, Good, Blank, before_behind, depth_behind}
use Rattle.sml_lex.specs.Coded.{before_as}
use Rattle.sml_lex.proofs.Steps.{step_at, last_at, end_at}
use Rattle.sml_lex.proofs.CommentSteps.{comment_goes, comment_shuts, comment_open, depth_grows}
use Rattle.sml_lex.proofs.comments.comment_end.Goals as goal

pub loop-at-preserved : goal.loop-at-preserved
loop-at-preserved c =
    let i = c.loop-at.at in
    let bs = c.args.bytes.now in
    let w = before_as c.loop-at.before in
    let g : depth_behind w c.loop-at.depth (get_or bs i 0) ≤ c.loop-at.depth + 1 = depth_grows w c.loop-at.depth (get_or bs i 0) in
    record {
      within = omega arith;
      depth_in = omega (arith, c.depth_behind-depth.ensures);
      whole = λ r to e. c.loop-at.invariant.whole r to
          (step_at (comment c.args.start w c.loop-at.depth) (comment c.args.start (before_as c.before_behind-before.result) c.depth_behind-depth.result) bs i r to c.loop-at-test.true
          (comment_goes c.args.start w (before_as c.before_behind-before.result) c.loop-at.depth c.depth_behind-depth.result (get_or bs i 0)
          (sym c.ends.ensures ∙ c.if-ends.false) c.before_behind-before.ensures c.depth_behind-depth.ensures)
          e);
    }

pub returns-then-ends : goal.returns-then-ends
returns-then-ends c =
    let i = c.loop-at.at in
    let bs = c.args.bytes.now in
    c.loop-at.invariant.whole (Good Blank) (i + 1)
    (last_at (comment c.args.start (before_as c.loop-at.before) c.loop-at.depth) bs i (Good Blank) c.loop-at-test.true
    (comment_shuts c.args.start (before_as c.loop-at.before) c.loop-at.depth (get_or bs i 0) (sym c.ends.ensures ∙ c.if-ends.true)))

pub returns : goal.returns
returns c =
    let i = c.loop-at.at in (
      i,
      c.loop-at.invariant.whole (Refused (OpenComment c.args.start)) i
          (end_at (comment c.args.start (before_as c.loop-at.before) c.loop-at.depth) c.args.bytes.now i (Refused (OpenComment c.args.start))
          (comment_open c.args.start (before_as c.loop-at.before) c.loop-at.depth) c.loop-at-test.false),
    )
