use Rattle.std.proofs.Common.{rules, tests}
use Rattle.std.proofs.lemmas.Iterator.{YieldsList-from_slice}
use Rattle.std.proofs.lemmas.Iterator.Search.{any_from_yields_List}
use Rattle.history_core.specs.Core.{holds}
use Rattle.core_step.proofs.lists.holds_some.Goals as goal

pub returns : goal.returns
returns c = any_from_yields_List (holds c.args.request) _ _ _ c.any.ensures.ran (YieldsList-from_slice c.args.holders.now cc) (λ x b q k. search (rules, tests))
