use Rattle.std.proofs.Common.{ap, sym, ◌∙◌}
use Rattle.web_cache.specs.CacheMachine.{last_moment}
use Rattle.history_core.proofs.Fitting.{stay-fitting, answer-fits}
use Rattle.history_core.proofs.Handles.{cached}
use Rattle.history_core.proofs.lone_book.LoneBookCalls.cache.Goals as goal

pub invariant_of-self-2 : goal.invariant_of-self-2
invariant_of-self-2 g c = stay-fitting c.self.inside.caches c.args.call.now c.max-moment.result c.act.new.self c.in_ok-answer.answer c.requires.fits c.self.invariant c.in_ok-answer.ensures.ok

pub returns-clause-ok : goal.returns-clause-ok
returns-clause-ok g c =
    cached g.H.Handled.name g.H.Handled.keepers c.args.self.now c.self.inside.caches c.act.new.self c.self.inside.handles.items c.self.inside.calls c.self.inside.requests c.self.inside.running (sym c.self.view_is)
    c.args.reading c.max-moment.result c.last.result c.args.call.now c.in_ok-answer.answer c.saturating_add-self-inside.result c.requires.running.0 c.saturating_add-self-inside.ensures c.requires.running.1
    c.requires.fits (c.last.ensures ∙ ap (last_moment c.self.inside.caches) c.group_of.ensures) c.max-moment.ensures c.in_ok-answer.ensures.ok

pub returns-clause-fits : goal.returns-clause-fits
returns-clause-fits g c = answer-fits c.self.inside.caches c.args.call.now c.max-moment.result c.act.new.self c.in_ok-answer.answer c.requires.fits c.self.invariant c.in_ok-answer.ensures.ok
