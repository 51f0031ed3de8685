use Rattle.script_loader.specs.Cause.{LoadCause, HasTrees}
use Rattle.std.proofs.Common.{sym, subst}
use Rattle.smlserver_top.proofs.AnswerLaws.{no_front, the_line, told_refused, trees_refused, unbound_refused, unbound_loaded}
use Rattle.smlserver_top.proofs.loading.load_project.Goals as goal

pub returns-in-Ok-clause-unbound_where : goal.returns-in-Ok-clause-unbound_where
returns-in-Ok-clause-unbound_where g c sure trees has e unbound = unbound_loaded _ _ _ _ c.in-Ok.front _ c.in_ok-project.ensures has unbound (c.in-Ok.ensures.unbound_where sure)

pub returns-clause-told : goal.returns-clause-told
returns-clause-told g c = told_refused _ _ _ _ _ _ _ _ c.in_ok-project.ensures c.in-Err.ensures.cause c.in_ok-refusal_answer-in-Err.ensures

pub returns-clause-trees_where : goal.returns-clause-trees_where
returns-clause-trees_where g c sure trees has = trees_refused _ _ _ _ _ _ _ c.in_ok-project.ensures has (c.in-Err.ensures.trees_where sure) c.in_ok-refusal_answer-in-Err.ensures

pub returns-clause-unbound_where : goal.returns-clause-unbound_where
returns-clause-unbound_where g c sure trees has e unbound = unbound_refused _ _ _ _ _ _ _ _ c.in_ok-project.ensures has unbound (c.in-Err.ensures.unbound_where sure) c.in_ok-refusal_answer-in-Err.ensures

pub returns-in-Ok-clause-cause_where : goal.returns-in-Ok-clause-cause_where
returns-in-Ok-clause-cause_where g c sure e cause = no_front c.in-Ok.front e (c.in-Ok.ensures.cause_where sure e (subst (λ p. LoadCause (g.F.Files.contents c.args.files.now) (g.F.Files.file_count c.args.files.now) (g.F.Files.file_count c.load_front.new.files) p e) (sym c.in_ok-project.ensures) cause))

pub returns-in-Ok-clause-trees_where : goal.returns-in-Ok-clause-trees_where
returns-in-Ok-clause-trees_where g c sure trees has = c.in-Ok.ensures.trees_where sure trees (subst (λ p. HasTrees (g.F.Files.contents c.args.files.now) p trees) (sym c.in_ok-project.ensures) has)

pub returns-clause-cause_where : goal.returns-clause-cause_where
returns-clause-cause_where g c sure e cause = the_line _ e _ _ (c.in-Err.ensures.cause_where sure e (subst (λ p. LoadCause (g.F.Files.contents c.args.files.now) (g.F.Files.file_count c.args.files.now) (g.F.Files.file_count c.load_front.new.files) p e) (sym c.in_ok-project.ensures) cause)) c.in_ok-refusal_answer-in-Err.ensures
