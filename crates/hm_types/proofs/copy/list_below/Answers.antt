use Rattle.std.proofs.Common.{◌-◌, sym, ◌∙◌, ap, get_or}
use Rattle.hm_types.proofs.Searching.{list-done, list-done-less, list-open-less, some-if, some-is}
use Rattle.hm_types.proofs.copy.list_below.Goals as goal

pub loop-path-preserved-in-None : goal.loop-path-preserved-in-None
loop-path-preserved-in-None c =
    list-done c.args.nodes.now c.loop-path.marks c.loop-path.path.items c.pop.new.self.items c.loop-path.order.items c.push-in-None.new.self.items c.in_ok-stamp.field-0 c.loop-path.stamp c.in_ok-stamp-in-None.field-0 _ c.index-top.result.now c.loop-path.invariant (sym (c.loop-path.path.ok.0)) (some-if _ c.loop-path-test.ensures)
    (c.index-top.ensures ∙ ap (λ n. get_or c.loop-path.path.items (n - 1) c.index-top.result.now) c.len.ensures) (some-is c.checked_add-in-None.result _ _ _ c.in_ok-stamp-in-None.ensures.ok_part c.checked_add-in-None.ensures) c.pop.ensures.rest c.in_ok-push-in-None.ensures.items

pub loop-path-smaller-in-None : goal.loop-path-smaller-in-None
loop-path-smaller-in-None c =
    list-done-less c.args.nodes.now c.loop-path.marks c.loop-path.path.items c.pop.new.self.items c.loop-path.order.items c.in_ok-stamp.field-0 c.loop-path.stamp c.in_ok-stamp-in-None.field-0 _ c.index-top.result.now c.loop-path.invariant (sym (c.loop-path.path.ok.0)) (some-if _ c.loop-path-test.ensures)
    (c.index-top.ensures ∙ ap (λ n. get_or c.loop-path.path.items (n - 1) c.index-top.result.now) c.len.ensures) (some-is c.checked_add-in-None.result _ _ _ c.in_ok-stamp-in-None.ensures.ok_part c.checked_add-in-None.ensures) c.pop.ensures.rest

pub loop-path-smaller : goal.loop-path-smaller
loop-path-smaller c = list-open-less c.args.nodes.now c.loop-path.marks c.loop-path.path.items c.push-in-Some.new.self.items c.loop-path.order.items c.in_ok-stamp.field-0 c.loop-path.stamp c.in-Some.part c.loop-path.invariant (c.in-Some.ensures.part.1) (c.in-Some.ensures.part.2) c.if-marks-part.false c.in_ok-push-in-Some.ensures.items
