use Rattle.web_cache.proofs.Descriptions.{differ, as-second}
use Rattle.web_cache.proofs.same.same_data.Goals as goal

pub returns-then-not-same_desc : goal.returns-then-not-same_desc
returns-then-not-same_desc c = differ _ _ _ _ c.same_desc.ensures c.if-not-same_desc.true

pub returns : goal.returns
returns c = as-second _ _ _ _ _ _ c.same_desc.ensures c.if-not-same_desc.false c.same_desc-2.ensures
