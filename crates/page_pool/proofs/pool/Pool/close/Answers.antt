use Rattle.std.proofs.Common.{◌∙◌, length, sym, ap, arith}
use Rattle.page_pool.specs.Views.{Slot, lying}
use Rattle.page_pool.proofs.Lone.{length-numbers}
use Rattle.page_pool.proofs.Shared.{closed, is_some}
use Rattle.page_pool.proofs.pool.Pool.close.Goals as goal

pub overflow_cast-result : goal.overflow_cast-result
overflow_cast-result c =
    let seat = c.args.pass.seat in
    let end = closed c.args.self.table.shared.key _ _ seat.id seat.me c.take-slot.result c.close_with-closed.ensures.values.2 c.args.pass.rests c.requires.all c.take-slot.ensures.value in
    let lies = ap (λ (z : Slot). length (lying z)) c.in-Some.is in
    omega (arith, end.1, end.2, lies, length-numbers c.in-Some.free.items, c.len.ensures, c.in-Some.free.ok.0)

pub unreachable-requires : goal.unreachable-requires
unreachable-requires c =
    let seat = c.args.pass.seat in
    let end = closed c.args.self.table.shared.key _ _ seat.id seat.me c.take-slot.result c.close_with-closed.ensures.values.2 c.args.pass.rests c.requires.all c.take-slot.ensures.value in
    let h = ap is_some (sym c.in-None.is ∙ end.3.1) in
    omega (arith, h)

pub returns-clause-free : goal.returns-clause-free
returns-clause-free c =
    let seat = c.args.pass.seat in
    let end = closed c.args.self.table.shared.key _ _ seat.id seat.me c.take-slot.result c.close_with-closed.ensures.values.2 c.args.pass.rests c.requires.all c.take-slot.ensures.value in
    let lies = ap (λ (z : Slot). length (lying z)) c.in-Some.is in
    omega (arith, end.2, lies, length-numbers c.in-Some.free.items, c.len.ensures, c.in-Some.free.ok.0)

pub returns-clause-fair : goal.returns-clause-fair
returns-clause-fair c =
    let seat = c.args.pass.seat in
    let end = closed c.args.self.table.shared.key _ _ seat.id seat.me c.take-slot.result c.close_with-closed.ensures.values.2 c.args.pass.rests c.requires.all c.take-slot.ensures.value in
    record { peak = end.0.peak; low = end.0.low }
