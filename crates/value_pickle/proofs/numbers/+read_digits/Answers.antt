use Rattle.std.proofs.Common.{◌∙◌, sym, subst, arith}
use Rattle.std.proofs.lemmas.Result.{err_from_is_err_and}
use Rattle.sml_syntax.proofs.Lists.{nil_from_short}
use Rattle.value_pickle.specs.Halting.{Stops, IsNumber}
use Rattle.value_pickle.proofs.Digits.{stops_empty, stops_at_slice, reads_last_slice, halts_more, reads_more_slice, limit_within}
use Rattle.value_pickle.proofs.numbers.+read_digits.Goals as goal

pub returns-in_default-clause-halt : goal.returns-in_default-clause-halt
returns-in_default-clause-halt t c =
    subst (λ bytes. Stops (IsNumber c.args.more c.args.first) bytes 0) (sym (nil_from_short c.args.bytes.now c.in_default.len_below)) (stops_empty c.args.more c.args.first)

pub returns-then-not-may_stand-clause-halt : goal.returns-then-not-may_stand-clause-halt
returns-then-not-may_stand-clause-halt t c = stops_at_slice c.args.more c.args.first c.args.bytes.now c.in-len1-up.len_at_least (sym c.may_stand.ensures ∙ c.if-not-may_stand.true)

pub returns-then-byte-lt128-clause-number : goal.returns-then-byte-lt128-clause-number
returns-then-byte-lt128-clause-number t c =
    reads_last_slice c.args.more c.args.first c.args.bytes.now c.in-len1-up.len_at_least (sym c.may_stand.ensures ∙ c.if-not-may_stand.false) c.if-byte-lt128.true

pub returns-in_err-high-clause-halt : goal.returns-in_err-high-clause-halt
returns-in_err-high-clause-halt t c =
    let p = err_from_is_err_and c.from_residual.result c.from_residual.ensures.1
    in rw (p.1, p.2)
    (halts_more c.args.more c.args.first c.args.bytes.now c.in_err-high.field-0.0 c.in-len1-up.len_at_least (sym c.may_stand.ensures ∙ c.if-not-may_stand.false)
    c.if-byte-lt128.false (omega (arith, c.type_inv.bytes 0)) c.in_err-high.ensures.halt)

pub overflow_mul-result : goal.overflow_mul-result
overflow_mul-result t c =
    let reads = reads_more_slice c.args.more c.args.first c.args.bytes.now c.in_ok-high.rest.now c.in_ok-high.high c.in-len1-up.len_at_least (sym c.may_stand.ensures ∙ c.if-not-may_stand.false)
    c.if-byte-lt128.false (omega (arith, c.type_inv.bytes 0)) c.in_ok-high.ensures.number
    in omega (arith, reads.below, limit_within c.args.more c.requires)

pub overflow_add-result : goal.overflow_add-result
overflow_add-result t c =
    let reads = reads_more_slice c.args.more c.args.first c.args.bytes.now c.in_ok-high.rest.now c.in_ok-high.high c.in-len1-up.len_at_least (sym c.may_stand.ensures ∙ c.if-not-may_stand.false)
    c.if-byte-lt128.false (omega (arith, c.type_inv.bytes 0)) c.in_ok-high.ensures.number
    in omega (arith, reads.below, limit_within c.args.more c.requires)

pub returns-clause-number : goal.returns-clause-number
returns-clause-number t c =
    reads_more_slice c.args.more c.args.first c.args.bytes.now c.in_ok-high.rest.now c.in_ok-high.high c.in-len1-up.len_at_least (sym c.may_stand.ensures ∙ c.if-not-may_stand.false)
    c.if-byte-lt128.false (omega (arith, c.type_inv.bytes 0)) c.in_ok-high.ensures.number
