use Rattle.std.proofs.Common.{◌≡◌, drop}
use Rattle.smlserver_top.specs.Script.{script_in}
use Rattle.smlserver_top.proofs.page.script_in.Given as goal

abbrev pub invariant-loop-script : goal.invariant-loop-script
invariant-loop-script l = script_in l.path l.scripts ≡ script_in l.path (drop l.script-index l.scripts)
