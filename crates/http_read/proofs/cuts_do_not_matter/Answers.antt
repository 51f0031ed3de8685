use Rattle.http_read.proofs.Cuttings as law
use Rattle.http_read.proofs.cuts_do_not_matter.Goals as goal

pub returns : goal.returns
returns c = law.cuts_do_not_matter
