use Rattle.std.proofs.Common.{rules, tests}
use Rattle.std.proofs.lemmas.Iterator.{YieldsList-from_slice}
use Rattle.std.proofs.lemmas.Iterator.Search.{any_from_yields_List}
use Rattle.history_core.specs.Core.{is_of}
use Rattle.core_step.proofs.lists.is_owned.Goals as goal

pub returns : goal.returns
returns c = any_from_yields_List (is_of c.args.page c.args.request) _ _ _ c.any.ensures.ran (YieldsList-from_slice c.args.owned.now cc) (λ x b q k. search (rules, tests))
