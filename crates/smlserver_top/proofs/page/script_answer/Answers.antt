use Rattle.std.proofs.Common.{ap, ◌∙◌, Err}
use Rattle.smlserver_top.specs.Parts.{text_of}
use Rattle.smlserver_top.specs.Page.{program_of}
use Rattle.smlserver_top.proofs.StraightLaws.{plain_parts, small_parts}
use Rattle.smlserver_top.proofs.PageLaws.{body_answer, no_parts, not_built}
use Rattle.smlserver_top.proofs.page.script_answer.Goals as goal

pub written-requires-clause-plain : goal.written-requires-clause-plain
written-requires-clause-plain c = rw c.deref.ensures.value (plain_parts _ _ c.in-Ok.ensures.found)

pub written-requires-clause-small : goal.written-requires-clause-small
written-requires-clause-small c = rw c.deref.ensures.value (small_parts _ _ c.in-Ok.ensures.found)

pub returns-in_ok-text-in-Ok : goal.returns-in_ok-text-in-Ok
returns-in_ok-text-in-Ok c =
    body_answer (program_of c.args.script.now) _ _ _ c.if-script.false c.own_items.ensures c.in-Ok.ensures.found (c.in_ok-text-in-Ok.ensures.body ∙ ap text_of c.deref.ensures.value)

pub returns-in-Err-NotForm : goal.returns-in-Err-NotForm
returns-in-Err-NotForm c =
    not_built (program_of c.args.script.now) _ (no_parts (program_of c.args.script.now) _ c.own_items.ensures (c.in-Err-NotForm.ensures.not_form (ap Err c.in-Err-NotForm.field-0-is)))
    c.not_built_answer-in-Err-NotForm.ensures.status c.not_built_answer-in-Err-NotForm.ensures.line
