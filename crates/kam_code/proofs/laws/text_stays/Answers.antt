use Rattle.kam_code.proofs.Regions.{text_behind-with_more}
use Rattle.kam_code.proofs.laws.text_stays.Goals as goal

pub returns : goal.returns
returns c = text_behind-with_more
