use Rattle.std.proofs.Common.{drop, ◌+◌, subst, sym}
use Rattle.std.proofs.lemmas.List.{drop_all}
use Rattle.script_loader.specs.Lists.{SoFar}
use Rattle.script_loader.specs.Front.{IsTyped}
use Rattle.script_loader.proofs.Lists.{at_item, none_done, one_done, all_done}
use Rattle.std.proofs.lemmas.Result.{err_from_is_err_and}
use Rattle.script_loader.proofs.Faults.{err_told}
use Rattle.script_loader.proofs.Untyped.{stops_untyped}
use Rattle.script_loader.proofs.typing.type_programs.Goals as goal

pub loop-script-init : goal.loop-script-init
loop-script-init c = subst (SoFar IsTyped c.args.scripts.now c.args.scripts.now) (sym c.new-typed.ensures.items) (none_done c.args.scripts.now)

pub loop-script-preserved : goal.loop-script-preserved
loop-script-preserved c =
    let scripts = c.args.scripts.now in
    let i = c.loop-script.script-index in
    let here = at_item scripts i _ c.script-item.result c.script-item.is c.loop-script-test.true in
    subst (SoFar IsTyped scripts (drop (i + 1) scripts)) (sym c.in_ok-push.ensures.items) (one_done scripts (drop i scripts) (drop (i + 1) scripts) c.loop-script.typed.items c.script-item.result c.in_ok-type_script.field-0 c.loop-script.invariant here c.in_ok-type_script.ensures.typed)

pub returns-clause-typed : goal.returns-clause-typed
returns-clause-typed c =
    let scripts = c.args.scripts.now in
    let i = c.loop-script.script-index in
    all_done scripts (drop i scripts) c.loop-script.typed.items c.loop-script.invariant (drop_all i scripts c.loop-script-test.false)

pub returns-in_err-type_script-clause-refused : goal.returns-in_err-type_script-clause-refused
returns-in_err-type_script-clause-refused c =
    let scripts = c.args.scripts.now in
    let i = c.loop-script.script-index in
    let here = at_item scripts i _ c.script-item.result c.script-item.is c.loop-script-test.true in
    let handed = err_from_is_err_and c.from_residual.result c.from_residual.ensures.1 in
    err_told _ c.from_residual.result handed.0 _ handed.1 handed.2 (stops_untyped _ scripts (drop i scripts) (drop (i + 1) scripts) c.loop-script.typed.items c.script-item.result _ c.loop-script.invariant here c.in_err-type_script.ensures.refused)
