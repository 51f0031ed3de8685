use Rattle.std.proofs.Common.{drop, ◌+◌, subst, sym}
use Rattle.std.proofs.lemmas.List.{drop_all}
use Rattle.script_loader.specs.Lists.{SoFar}
use Rattle.script_loader.specs.Trees.{IsParsed}
use Rattle.script_loader.proofs.Lists.{at_item, none_done, one_done, all_done}
use Rattle.script_loader.proofs.trees.parse_files.Goals as goal

pub loop-lexed-init : goal.loop-lexed-init
loop-lexed-init c = subst (SoFar IsParsed c.args.files.now c.args.files.now) (sym c.new-trees.ensures.items) (none_done c.args.files.now)

pub loop-lexed-preserved : goal.loop-lexed-preserved
loop-lexed-preserved c =
    let files = c.args.files.now in
    let i = c.loop-lexed.lexed-index in
    let here = at_item files i _ c.lexed-item.result c.lexed-item.is c.loop-lexed-test.true in
    subst (SoFar IsParsed files (drop (i + 1) files)) (sym c.in_ok-push.ensures.items) (one_done files (drop i files) (drop (i + 1) files) c.loop-lexed.trees.items c.lexed-item.result c.in_ok-parse_lexed.field-0 c.loop-lexed.invariant here c.in_ok-parse_lexed.ensures.tree)

pub returns-clause-trees : goal.returns-clause-trees
returns-clause-trees c =
    let files = c.args.files.now in
    let i = c.loop-lexed.lexed-index in
    all_done files (drop i files) c.loop-lexed.trees.items c.loop-lexed.invariant (drop_all i files c.loop-lexed-test.false)
