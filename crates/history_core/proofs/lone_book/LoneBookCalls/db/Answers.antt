use Rattle.std.proofs.Common.{Some, sym, ap, ◌∙◌}
use Rattle.std.proofs.lemmas.Option.{slice_get-get_or}
use Rattle.history_core.proofs.Handles.{answered, lacking, names-stay, within, on-err}
use Rattle.history_core.proofs.lone_book.LoneBookCalls.db.Goals as goal

pub returns-in_err-answer-clause-err : goal.returns-in_err-answer-clause-err
returns-in_err-answer-clause-err g c =
    let is = sym c.self.view_is in
    let items = c.self.inside.handles.items in
    let less = within g.H.Handled.name g.H.Handled.keepers c.args.self.now c.self.inside.caches items c.self.inside.calls c.self.inside.requests c.self.inside.running is c.args.database c.requires.there in
    on-err c.from_residual.result _
    (lacking g.H.Handled.name g.H.Handled.keepers items c.args.database c.index_mut.result.now c.act_on.new.handle (slice_get-get_or items c.args.database _ less ∙ ap Some (sym c.index_mut.ensures.value))
    c.act_on.ensures.name c.args.self.now c.self.inside.caches c.self.inside.calls c.self.inside.requests c.self.inside.running is c.in_err-answer.ensures.err)

pub returns-in_err-answer-clause-meaning : goal.returns-in_err-answer-clause-meaning
returns-in_err-answer-clause-meaning g c =
    let is = sym c.self.view_is in
    let items = c.self.inside.handles.items in
    let less = within g.H.Handled.name g.H.Handled.keepers c.args.self.now c.self.inside.caches items c.self.inside.calls c.self.inside.requests c.self.inside.running is c.args.database c.requires.there in
    names-stay g.H.Handled.name g.H.Handled.keepers items c.args.database c.index_mut.result.now c.act_on.new.handle (slice_get-get_or items c.args.database _ less ∙ ap Some (sym c.index_mut.ensures.value))
    c.act_on.ensures.name c.args.self.now c.self.inside.caches c.self.inside.calls c.self.inside.requests c.self.inside.running is c.self.inside.calls

pub returns-clause-ok : goal.returns-clause-ok
returns-clause-ok g c =
    let is = sym c.self.view_is in
    let items = c.self.inside.handles.items in
    let less = within g.H.Handled.name g.H.Handled.keepers c.args.self.now c.self.inside.caches items c.self.inside.calls c.self.inside.requests c.self.inside.running is c.args.database c.requires.there in
    answered g.H.Handled.name g.H.Handled.keepers items c.args.database c.index_mut.result.now c.act_on.new.handle (slice_get-get_or items c.args.database _ less ∙ ap Some (sym c.index_mut.ensures.value))
    c.act_on.ensures.name c.args.self.now c.self.inside.caches c.self.inside.calls c.self.inside.requests c.self.inside.running is
    c.args.cmd.now c.in_ok-answer.answer c.saturating_add-self-inside.result c.requires.running.0 c.saturating_add-self-inside.ensures c.requires.running.1 c.in_ok-answer.ensures.ok

pub returns-clause-meaning : goal.returns-clause-meaning
returns-clause-meaning g c =
    let is = sym c.self.view_is in
    let items = c.self.inside.handles.items in
    let less = within g.H.Handled.name g.H.Handled.keepers c.args.self.now c.self.inside.caches items c.self.inside.calls c.self.inside.requests c.self.inside.running is c.args.database c.requires.there in
    names-stay g.H.Handled.name g.H.Handled.keepers items c.args.database c.index_mut.result.now c.act_on.new.handle (slice_get-get_or items c.args.database _ less ∙ ap Some (sym c.index_mut.ensures.value))
    c.act_on.ensures.name c.args.self.now c.self.inside.caches c.self.inside.calls c.self.inside.requests c.self.inside.running is c.saturating_add-self-inside.result
