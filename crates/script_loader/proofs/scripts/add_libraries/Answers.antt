use Rattle.std.proofs.Common.{◌≤◌, ◌++◌, ap, sym, ◌∙◌, subst, append-nil}
use Rattle.sml_evaluation.specs.Page.{all_decs}
use Rattle.script_loader.proofs.Programs.{no_libraries}
use Rattle.script_loader.proofs.scripts.add_libraries.Goals as goal

pub returns : goal.returns
returns c =
    let files = c.args.files.now in
    let trees = c.args.trees.now in
    let over = no_libraries files trees c.loop-i.i (subst (λ n. n ≤ c.loop-i.i) c.min-i-end.ensures c.loop-i-test.false) in
    sym (append-nil c.loop-i.decs.items) ∙ ap (λ l. c.loop-i.decs.items ++ all_decs l) (sym over) ∙ c.loop-i.invariant
