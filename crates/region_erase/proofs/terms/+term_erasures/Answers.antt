use Rattle.std.proofs.Common.{rules}
use Rattle.region_erase.proofs.ErasedTerms.{handle_erased, if_result, both_erased, either_erased, letregion_erased, fix_erased}
use Rattle.region_syntax.specs.Erasure.{type_erasure}
use Rattle.region_erase.proofs.terms.+term_erasures.Goals as goal

pub erase_form-returns-in_ok-erase_box-in-Both : goal.erase_form-returns-in_ok-erase_box-in-Both
erase_form-returns-in_ok-erase_box-in-Both t c = search (rules, both_erased)

pub erase_form-returns-in_ok-erase_box-in-Either : goal.erase_form-returns-in_ok-erase_box-in-Either
erase_form-returns-in_ok-erase_box-in-Either t c = search (rules, either_erased)

pub erase_form-returns-in_ok-erase_rules-in-Handle : goal.erase_form-returns-in_ok-erase_rules-in-Handle
erase_form-returns-in_ok-erase_rules-in-Handle t c = search (rules, handle_erased)

pub erase_form-returns-in-LetRegion : goal.erase_form-returns-in-LetRegion
erase_form-returns-in-LetRegion t c = search (rules, letregion_erased)

pub erase_form-returns-in_ok-body-in-Fix : goal.erase_form-returns-in_ok-body-in-Fix
erase_form-returns-in_ok-body-in-Fix t c = search (rules, fix_erased)

pub erase_form-returns-in_ok-no-in-If : goal.erase_form-returns-in_ok-no-in-If
erase_form-returns-in_ok-no-in-If t c =
    if_result c.typed-in-If.result (type_erasure c.args.ty.now) c.args.form.now c.in-If.x c.in-If.y c.in-If.z c.in_ok-test-in-If.test c.in_ok-yes-in-If.yes c.in_ok-no-in-If.no c.typed-in-If.ensures c.in-If.is
    (search rules) (search rules) (search rules)
