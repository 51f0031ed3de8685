use Rattle.std.proofs.Common.{rules, ◌≡◌, ◌+◌, drop, ap, sym, ◌∙◌, arith}
use Rattle.std.proofs.lemmas.List.{drop_all}
use Rattle.parse_limits.specs.Heights.{first_high, growth_of, grown_by}
use Rattle.parse_limits.proofs.Folds.{at_item, high_here, high_next, high_none}
use Rattle.parse_limits.proofs.height.first_high.Goals as goal
use Rattle.parse_limits.proofs.height.first_high.Goals.{in-Some-growth_of+in_ok-grow, in_default-growth_of}

pub returns-in-Some : goal.returns-in-Some
returns-in-Some c =
    let acts = c.args.acts.now in
    let i = c.loop-made.made-index in
    let m = c.made-item.result in
    sym (high_here (drop i acts) (drop (i + 1) acts) m c.loop-made.heights c.in-Some.place (at_item acts i _ m c.made-item.is c.loop-made-test.true) (sym c.too_high.ensures ∙ c.in-Some.is)) ∙ c.loop-made.invariant

pub loop-made-preserved : goal.loop-made-preserved
loop-made-preserved c =
    let acts = c.args.acts.now in
    let i = c.loop-made.made-index in
    let m = c.made-item.result in
    let grew : c.match-growth_of.heights ≡ grown_by (growth_of m.act) c.loop-made.heights = elim c.match-growth_of.branch [ in-Some-growth_of+in_ok-grow w ↦ search rules | in_default-growth_of w ↦ search rules ] in
    ap (first_high (drop (i + 1) acts)) grew
    ∙ sym (high_next (drop i acts) (drop (i + 1) acts) m c.loop-made.heights (at_item acts i _ m c.made-item.is c.loop-made-test.true) (sym c.too_high.ensures ∙ c.in_default.is)) ∙ c.loop-made.invariant

pub returns : goal.returns
returns c =
    let acts = c.args.acts.now in
    let i = c.loop-made.made-index in
    sym (high_none (drop i acts) c.loop-made.heights (drop_all i acts (omega arith))) ∙ c.loop-made.invariant
