use Rattle.smlserver_top.proofs.Tokens.{begins_by}
use Rattle.smlserver_top.proofs.words.begins_with.Goals as goal

pub returns : goal.returns
returns c = begins_by c.after.result c.args.front.now c.args.text.now c.is_some.result c.after.ensures c.is_some.ensures
