use Rattle.std.proofs.Common.{◌∙◌, ap, subst}
use Rattle.hm_scheme.specs.Numbering.{number_in, HasNumbersOf, shown_numbers}
use Rattle.hm_scheme.proofs.Numbering.{HasNext, next}
use Rattle.hm_scheme.proofs.names.Names.enter.Goals as goal

has_next : (c : goal.In_ok-insert) → HasNext c.self.inside.numbers c.insert.new.self c.args.name.now c.len-count.result
has_next c =
    next c.self.inside.numbers c.insert.new.self c.in_ok-owned.owned c.args.name.now c.len-count.result c.in_ok-insert.field-0 c.self.invariant c.in_ok-owned.ensures.items
    (ap (λ v. number_in v c.args.name.now) c.self.view_is ∙ c.requires) c.in_ok-insert.ensures.old c.in_ok-insert.ensures.len c.len-count.ensures.len c.in_ok-insert.ensures.updates

pub invariant_of-self-2 : goal.invariant_of-self-2
invariant_of-self-2 c = (has_next c).is

pub returns-clause-number : goal.returns-clause-number
returns-clause-number c = (has_next c).here

pub returns-clause-keeps : goal.returns-clause-keeps
returns-clause-keeps c = subst (λ v. HasNumbersOf v (shown_numbers c.insert.new.self)) c.self.view_is (has_next c).kept

pub returns-clause-apart : goal.returns-clause-apart
returns-clause-apart c = (has_next c).is.apart
