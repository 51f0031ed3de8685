use Rattle.std.proofs.Common.{◌==◌, rules, tests}
use Rattle.std.proofs.lemmas.Iterator.{YieldsList-from_slice}
use Rattle.std.proofs.lemmas.Iterator.Search.{any_from_yields_List}
use Rattle.core_step.proofs.lists.owns_some.Goals as goal

pub returns : goal.returns
returns c = any_from_yields_List (λ o. o.request == c.args.request) _ _ _ c.any.ensures.ran (YieldsList-from_slice c.args.owned.now cc) (λ x b q k. search (rules, tests))
