use Rattle.std.proofs.Common.{◌≡◌, sym, ap, subst, length, []}
use Rattle.typing_rules.specs.Scope.{IsOneOf}
use Rattle.hm_infer.specs.declared.refusal.TypeRefusal.TheVariants.{Ill}
use Rattle.hm_infer.specs.Numbering.{AllNumbered, numbered_end, a_dec}
use Rattle.hm_infer.proofs.Numberings.{numbered-next}
use Rattle.hm_infer.proofs.Items.{one-of-items}
use Rattle.hm_infer.proofs.program.inferred.Goals as goal

pub loop-d-init : goal.loop-d-init
loop-d-init c = subst (AllNumbered [] 0) (sym (ap length c.in-Ok.ensures)) numbered_end

pub returns-in-Err-item-clause-ill : goal.returns-in-Err-item-clause-ill
returns-in-Err-item-clause-ill c = λ place e.
    let ill : c.at_item.result ≡ Ill place = cc in
    record {
      item = c.d-item.result;
      is_item = subst (IsOneOf c.d-item.result) c.as_slice-d-items.ensures
          (one-of-items c.as_slice-d-items.result.now c.loop-d.d-index _ c.d-item.result c.d-item.is c.loop-d-test.true);
      place_is = c.at_item.ensures.place place ill;
    }

pub loop-d-preserved : goal.loop-d-preserved
loop-d-preserved c = numbered-next a_dec c.as_slice-d-items.result.now c.loop-d.d-index _ c.d-item.result _ _ _ c.d-item.is c.loop-d-test.true c.loop-d.invariant c.in_default.ensures
