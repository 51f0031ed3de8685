use Rattle.web_cache.proofs.StayApart.{stay-apart}
use Rattle.web_cache.proofs.laws.caches_stay_apart.Goals as goal

pub returns : goal.returns
returns c = stay-apart
