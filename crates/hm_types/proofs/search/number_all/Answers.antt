use Rattle.std.proofs.Common.{◌-◌, get_or, sym, ◌∙◌, ap}
use Rattle.hm_types.proofs.Searching.{turn-endless, turn-open, turn-open-less, turn-done, turn-done-less, some-if, some-is}
use Rattle.hm_types.proofs.search.number_all.Goals as goal

pub returns-then-marks-part-clause-endless : goal.returns-then-marks-part-clause-endless
returns-then-marks-part-clause-endless c _ =
    turn-endless c.args.parts.now c.args.nodes.now c.loop-path.marks c.loop-path.path.items c.args.floor _ c.index-class.result.now c.in-Some.part c.requires.fine c.loop-path.invariant.1 (sym (c.loop-path.path.ok.0)) (some-if _ c.loop-path-test.ensures)
    (c.index-class.ensures ∙ ap (λ n. get_or c.loop-path.path.items (n - 1) c.index-class.result.now) c.len.ensures) c.in-Some.ensures.part c.if-marks-part.true

pub loop-path-preserved : goal.loop-path-preserved
loop-path-preserved c =
    let t = turn-open c.args.parts.now c.args.nodes.now c.args.asked.now c.loop-path.marks c.loop-path.path.items c.push.new.self.items c.args.floor c.loop-path.stamp _ c.index-class.result.now c.in-Some.part c.loop-path.invariant.0 c.loop-path.invariant.1 (sym (c.loop-path.path.ok.0)) (some-if _ c.loop-path-test.ensures)
    (c.index-class.ensures ∙ ap (λ n. get_or c.loop-path.path.items (n - 1) c.index-class.result.now) c.len.ensures) c.in-Some.ensures.part c.if-marks-part.false c.in_ok-push-in-Some.ensures.items in
    (t.0, t.1, λ d f. t.2 d (c.loop-path.invariant.2 d f))

pub loop-path-smaller : goal.loop-path-smaller
loop-path-smaller c = turn-open-less c.args.parts.now c.args.nodes.now c.args.asked.now c.loop-path.marks c.loop-path.path.items c.push.new.self.items c.args.floor c.loop-path.stamp c.index-class.result.now c.in-Some.part c.loop-path.invariant.0 c.in-Some.ensures.part c.if-marks-part.false c.in_ok-push-in-Some.ensures.items

pub loop-path-preserved-in-None : goal.loop-path-preserved-in-None
loop-path-preserved-in-None c =
    let t = turn-done c.args.parts.now c.args.nodes.now c.args.asked.now c.loop-path.marks c.loop-path.path.items c.pop.new.self.items c.args.floor c.loop-path.stamp c.in_ok-stamp-in-None.field-0 _ c.index-class.result.now c.loop-path.invariant.0 c.loop-path.invariant.1 (sym (c.loop-path.path.ok.0)) (some-if _ c.loop-path-test.ensures)
    (c.index-class.ensures ∙ ap (λ n. get_or c.loop-path.path.items (n - 1) c.index-class.result.now) c.len.ensures) c.in-None.ensures.none (some-is c.checked_add.result _ _ _ c.in_ok-stamp-in-None.ensures.ok_part c.checked_add.ensures) c.pop.ensures.rest in
    (t.0, t.1, λ d f. t.2 d (c.loop-path.invariant.2 d f))

pub loop-path-smaller-in-None : goal.loop-path-smaller-in-None
loop-path-smaller-in-None c =
    turn-done-less c.args.parts.now c.args.nodes.now c.args.asked.now c.loop-path.marks c.loop-path.path.items c.pop.new.self.items c.args.floor c.loop-path.stamp c.in_ok-stamp-in-None.field-0 _ c.index-class.result.now c.loop-path.invariant.0 c.loop-path.invariant.1 (sym (c.loop-path.path.ok.0)) (some-if _ c.loop-path-test.ensures)
    (c.index-class.ensures ∙ ap (λ n. get_or c.loop-path.path.items (n - 1) c.index-class.result.now) c.len.ensures) (some-is c.checked_add.result _ _ _ c.in_ok-stamp-in-None.ensures.ok_part c.checked_add.ensures) c.pop.ensures.rest
