use Rattle.std.proofs.Common.{◌≤◌, ◌++◌, ap, sym, ◌∙◌, subst, append-nil}
use Rattle.script_loader.proofs.Programs.{no_scripts}
use Rattle.script_loader.proofs.scripts.scripts_behind.Goals as goal

pub returns : goal.returns
returns c =
    let files = c.args.files.now in
    let trees = c.args.trees.now in
    let over = no_scripts c.args.base.now files trees c.loop-i.i (subst (λ n. n ≤ c.loop-i.i) c.min-i-end.ensures c.loop-i-test.false) in
    sym (append-nil c.loop-i.scripts.items) ∙ ap (λ l. c.loop-i.scripts.items ++ l) (sym over) ∙ c.loop-i.invariant
