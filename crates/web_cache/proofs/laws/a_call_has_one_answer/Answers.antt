use Rattle.web_cache.proofs.OneAnswer.{one-answer}
use Rattle.web_cache.proofs.laws.a_call_has_one_answer.Goals as goal

pub returns : goal.returns
returns c = one-answer
