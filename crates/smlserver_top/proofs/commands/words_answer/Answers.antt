use Rattle.std.proofs.Common.{sym, subst}
use Rattle.std.specs.Prelude.{[], IfOk}
use Rattle.script_loader.specs.Cause.{LoadCause, HasTrees}
use Rattle.smlserver_top.specs.Page.{IsPageOfTrees}
use Rattle.smlserver_top.proofs.AnswerLaws.{page_told, check_told}
use Rattle.smlserver_top.proofs.EndLaws.{same_words, of_page_words, same_check, page_or_check, page_project, check_project}
use Rattle.smlserver_top.proofs.commands.words_answer.Goals as goal

pub returns-in-Some-clause-told : goal.returns-in-Some-clause-told
returns-in-Some-clause-told g c = page_told _ _ _ _ _ _ _ c.in-Some.ensures.found c.page_answer.ensures.told

pub returns-in-Some-clause-cause_where : goal.returns-in-Some-clause-cause_where
returns-in-Some-clause-cause_where g c sure project e asks cause =
    c.page_answer.ensures.cause_where sure e
    (page_project _ _ _ _ (λ p. LoadCause (g.F.Files.contents c.args.files.now) (g.F.Files.file_count c.args.files.now) (g.F.Files.file_count c.page_answer.new.files) p e) c.in-Some.ensures.found asks cause)

pub returns-in-Some-clause-page_where : goal.returns-in-Some-clause-page_where
returns-in-Some-clause-page_where g c sure project path trees asked has =
    let same = same_words _ _ _ _ _ c.in-Some.ensures.found asked in
    of_page_words _ _ _ _ _ (λ p q. IfOk c.page_answer.result (λ a. IsPageOfTrees [] trees p q a.status a.text)) c.in-Some.ensures.found asked
    (c.page_answer.ensures.trees_where sure trees (subst (λ p. HasTrees (g.F.Files.contents c.args.files.now) p trees) (sym same.0) has))

pub returns-in-Some-clause-check_where : goal.returns-in-Some-clause-check_where
returns-in-Some-clause-check_where g c sure project trees asked has = absurd (page_or_check _ _ _ _ c.in-Some.ensures.found asked)

pub returns-in-Some-clause-unbound_where : goal.returns-in-Some-clause-unbound_where
returns-in-Some-clause-unbound_where g c sure project trees asks has =
    c.page_answer.ensures.unbound_where sure trees
    (page_project _ _ _ _ (λ p. HasTrees (g.F.Files.contents c.args.files.now) p trees) c.in-Some.ensures.found asks has)

pub returns-in-Some-check_words-clause-told : goal.returns-in-Some-check_words-clause-told
returns-in-Some-check_words-clause-told g c = check_told _ _ _ _ _ _ c.in-Some-check_words.ensures.found c.check_answer.ensures.told

pub returns-in-Some-check_words-clause-cause_where : goal.returns-in-Some-check_words-clause-cause_where
returns-in-Some-check_words-clause-cause_where g c sure project e asks cause =
    c.check_answer.ensures.cause_where sure e
    (check_project _ _ _ (λ p. LoadCause (g.F.Files.contents c.args.files.now) (g.F.Files.file_count c.args.files.now) (g.F.Files.file_count c.check_answer.new.files) p e) c.in-Some-check_words.ensures.found asks cause)

pub returns-in-Some-check_words-clause-page_where : goal.returns-in-Some-check_words-clause-page_where
returns-in-Some-check_words-clause-page_where g c sure project path trees asked has = absurd (page_or_check _ _ _ _ asked c.in-Some-check_words.ensures.found)

pub returns-in-Some-check_words-clause-check_where : goal.returns-in-Some-check_words-clause-check_where
returns-in-Some-check_words-clause-check_where g c sure project trees asked has =
    c.check_answer.ensures.trees_where sure trees
    (subst (λ p. HasTrees (g.F.Files.contents c.args.files.now) p trees) (sym (same_check _ _ _ c.in-Some-check_words.ensures.found asked)) has)

pub returns-in-Some-check_words-clause-unbound_where : goal.returns-in-Some-check_words-clause-unbound_where
returns-in-Some-check_words-clause-unbound_where g c sure project trees asks has =
    c.check_answer.ensures.unbound_where sure trees
    (check_project _ _ _ (λ p. HasTrees (g.F.Files.contents c.args.files.now) p trees) c.in-Some-check_words.ensures.found asks has)
