use Rattle.http_read.proofs.Nexts.{next_of_slice, answers_refusal, answers_more, answers_bad, answers_request, no_request, search_after}
use Rattle.http_read.proofs.Stages.{stage_of_slice, looked_of_slice, looked_invariant}
use Rattle.http_read.proofs.reader.Reader.next.Goals as goal

pub look-stage-requires : goal.look-stage-requires
look-stage-requires c = stage_of_slice _ _ _ _ c.deref.ensures.value c.self.invariant.1

pub message_at-requires : goal.message_at-requires
message_at-requires c = looked_of_slice _ _ _ _ _ c.deref.ensures.value c.deref-2.ensures.value c.look-stage.ensures.looked

pub invariant_of-self : goal.invariant_of-self
invariant_of-self c = looked_invariant _ _ _ _ c.deref.ensures.value c.self.invariant.0 c.look-stage.ensures.looked

pub invariant_of-self-in-More : goal.invariant_of-self-in-More
invariant_of-self-in-More c = looked_invariant _ _ _ _ c.deref.ensures.value c.self.invariant.0 c.look-stage.ensures.looked

pub invariant_of-self-in-Bad : goal.invariant_of-self-in-Bad
invariant_of-self-in-Bad c = looked_invariant _ _ _ _ c.deref.ensures.value c.self.invariant.0 c.look-stage.ensures.looked

pub returns-in_err-next-clause-answer : goal.returns-in_err-next-clause-answer
returns-in_err-next-clause-answer c =
    answers_refusal _ _ _ _ _ _ _ c.look-stage.ensures.stays c.self.view_is c.in_err-next.ensures.err c.from_residual.ensures.1

pub returns-in-More-clause-answer : goal.returns-in-More-clause-answer
returns-in-More-clause-answer c =
    answers_more _ c.in_ok-next.size _ _ _ _ c.look-stage.ensures.stays c.self.view_is (next_of_slice c.self.inside.bytes.items _ c.self.inside.start c.in_ok-next.size _ _ _ c.deref-2.ensures.value c.in-More.is c.in_ok-next.ensures.ok)

pub returns-in-Bad-clause-answer : goal.returns-in-Bad-clause-answer
returns-in-Bad-clause-answer c =
    answers_bad _ c.in_ok-next.size _ _ _ _ _ c.self.view_is (next_of_slice c.self.inside.bytes.items _ c.self.inside.start c.in_ok-next.size _ _ _ c.deref-2.ensures.value c.in-Bad.is c.in_ok-next.ensures.ok)

pub returns-in-Request-clause-answer : goal.returns-in-Request-clause-answer
returns-in-Request-clause-answer c =
    answers_request _ _ c.in_ok-next.size _ _ _ _ _ c.self.view_is (next_of_slice c.self.inside.bytes.items _ c.self.inside.start c.in_ok-next.size _ _ _ c.deref-2.ensures.value c.in-Request.is c.in_ok-next.ensures.ok)

pub returns-in-Request-clause-again : goal.returns-in-Request-clause-again
returns-in-Request-clause-again c status fault =
    no_request _ c.in_ok-next.size status _ _ _ _ _ c.look-stage.ensures.stays c.self.view_is (next_of_slice c.self.inside.bytes.items _ c.self.inside.start c.in_ok-next.size _ _ _ c.deref-2.ensures.value c.in-Request.is c.in_ok-next.ensures.ok) fault

pub invariant_of-self-in-Request : goal.invariant_of-self-in-Request
invariant_of-self-in-Request c =
    search_after _ _ c.in_ok-next.size _ _ c.self.invariant.0 (next_of_slice c.self.inside.bytes.items _ c.self.inside.start c.in_ok-next.size _ _ _ c.deref-2.ensures.value c.in-Request.is c.in_ok-next.ensures.ok)
