use Rattle.http_read.proofs.Steps.{other_byte}
use Rattle.http_read.proofs.search.look_at.Goals as goal

pub returns-then-held-at-ne10 : goal.returns-then-held-at-ne10
returns-then-held-at-ne10 c = other_byte c.args.held.now c.args.at c.args.count c.requires.searched c.requires.within c.requires.short c.if-held-at-ne10.true
