use Rattle.smlserver_top.proofs.PlaceLaws.{last_of}
use Rattle.smlserver_top.proofs.place.last_line.Goals as goal

pub loop-rest-init : goal.loop-rest-init
loop-rest-init c = last_of c.args.text.now
