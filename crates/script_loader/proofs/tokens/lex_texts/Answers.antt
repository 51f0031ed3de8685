use Rattle.std.proofs.Common.{drop, ◌+◌, subst, sym}
use Rattle.std.proofs.lemmas.List.{drop_all}
use Rattle.script_loader.specs.Lists.{SoFar}
use Rattle.script_loader.specs.Tokens.{IsLexed}
use Rattle.script_loader.proofs.Lists.{at_item, none_done, one_done, all_done}
use Rattle.script_loader.proofs.tokens.lex_texts.Goals as goal

pub loop-source-init : goal.loop-source-init
loop-source-init c = subst (SoFar IsLexed c.args.sources.now c.args.sources.now) (sym c.new-files.ensures.items) (none_done c.args.sources.now)

pub loop-source-preserved : goal.loop-source-preserved
loop-source-preserved c =
    let sources = c.args.sources.now in
    let i = c.loop-source.source-index in
    let here = at_item sources i _ c.source-item.result c.source-item.is c.loop-source-test.true in
    subst (SoFar IsLexed sources (drop (i + 1) sources)) (sym c.in_ok-push.ensures.items) (one_done sources (drop i sources) (drop (i + 1) sources) c.loop-source.files.items c.source-item.result c.in_ok-lex_text.field-0 c.loop-source.invariant here c.in_ok-lex_text.ensures.lexed)

pub returns-clause-lexed : goal.returns-clause-lexed
returns-clause-lexed c =
    let sources = c.args.sources.now in
    let i = c.loop-source.source-index in
    all_done sources (drop i sources) c.loop-source.files.items c.loop-source.invariant (drop_all i sources c.loop-source-test.false)
