use Rattle.std.proofs.Common.{◌≡◌}
use Rattle.outside_world.specs.Told.{grown}
use Rattle.smlserver_top.specs.Page.{IsTheLine, IsCheckOfTrees, IsUnboundAnswer}
use Rattle.smlserver_top.proofs.EndLaws.{small_status, written_end, unfinished_text}
use Rattle.smlserver_top.proofs.run.write_answer.Goals as goal

pub finish-requires : goal.finish-requires
finish-requires g c = small_status _ _ _ _ _ _ c.in-Ok.ensures.told

pub returns-in-Ok-clause-check_where : goal.returns-in-Ok-clause-check_where
returns-in-Ok-clause-check_where g c sure project trees asked has =
    written_end _ _ _ _ (λ text. g.K.Sink.written c.finish.new.output ≡ grown (g.K.Sink.written c.args.output.now) text) (IsCheckOfTrees trees) c.as_bytes.ensures
    (c.in-Ok.ensures.check_where sure project trees asked has) c.finish.ensures.among c.finish.ensures.written

pub returns-in-Ok-clause-unbound_where : goal.returns-in-Ok-clause-unbound_where
returns-in-Ok-clause-unbound_where g c sure project trees asks has e unbound =
    written_end _ _ _ _ (λ text. g.K.Sink.written c.finish.new.output ≡ grown (g.K.Sink.written c.args.output.now) text) (IsUnboundAnswer trees e) c.as_bytes.ensures
    (c.in-Ok.ensures.unbound_where sure project trees asks has e unbound) c.finish.ensures.among c.finish.ensures.written

pub returns-in-Ok-clause-unfinished : goal.returns-in-Ok-clause-unfinished
returns-in-Ok-clause-unfinished g c stopped = unfinished_text _ _ _ _ _ _ _ _ _ c.as_bytes.ensures c.in-Ok.ensures.told (c.finish.ensures.unfinished stopped)

pub returns-in-Ok-clause-cause_where : goal.returns-in-Ok-clause-cause_where
returns-in-Ok-clause-cause_where g c sure project e asks cause =
    written_end _ _ _ _ (λ text. g.K.Sink.written c.finish.new.output ≡ grown (g.K.Sink.written c.args.output.now) text) (IsTheLine e) c.as_bytes.ensures
    (c.in-Ok.ensures.cause_where sure project e asks cause) c.finish.ensures.among c.finish.ensures.written
