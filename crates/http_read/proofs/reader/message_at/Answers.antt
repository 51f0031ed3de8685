use Rattle.std.proofs.Common.{◌+◌, ◌≤◌, length, refl, ap, subst, arith}
use Rattle.std.proofs.lemmas.Grind.{common_steps}
use Rattle.http_read.specs.declared.reader.Stage.{Stage}
use Rattle.http_read.specs.Reader.{IsLooked, stage_fault}
use Rattle.http_read.proofs.Requests.{IsKept, head_fits, message_of}
use Rattle.http_read.proofs.reader.message_at.Goals as goal

pub returns-in_ok-request-in-Body-clause-ok : goal.returns-in_ok-request-in-Body-clause-ok
returns-in_ok-request-in-Body-clause-ok c =
    let kept : IsKept c.args.held.now c.in-Body.parts = subst (λ (s : Stage). IsLooked c.args.held.now s) c.in-Body.is c.requires in
    let low = head_fits c.args.held.now c.in-Body.parts kept in
    let short = c.if-held-parts.false in
    let fits : c.in-Body.parts.head + c.in-Body.parts.body ≤ length c.args.held.now = omega (arith, low, short) in
    (message_of c.args.held.now _ c.in-Body.parts _ _ kept refl fits c.in_ok-request-in-Body.ensures (grind (arith, common_steps)), fits, ap stage_fault c.in-Body.is)
