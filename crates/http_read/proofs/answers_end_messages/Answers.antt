use Rattle.http_read.proofs.Cuttings as law
use Rattle.http_read.proofs.answers_end_messages.Goals as goal

pub returns : goal.returns
returns c = law.answers_end_messages
