use Rattle.std.proofs.Common.{◌++◌, sym, ap, subst, ◌∙◌}
use Rattle.std.proofs.lemmas.Result.{err_from_is_err_and}
use Rattle.web_data.specs.Pickles.{bool_pickle}
use Rattle.value_pickle.specs.Halting.{ReadsItems}
use Rattle.value_pickle.proofs.Wholes.{ItemsRead, halts_int, halts_bool, halts_char, halts_str, halts_pair_first, halts_pair_second, halts_triple_first, halts_triple_second, halts_triple_third, halts_opt_flag, halts_opt_value, halts_list, halts_first_flag, halts_in_item, halts_behind_item, items_start, items_next, items_end, reads_pair, reads_triple, reads_some, less_left, reads_with, halts_with}
use Rattle.value_pickle.proofs.reading.+reading.Goals as goal

pub read_datum-returns-in_err-number-in-Int-clause-halt : goal.read_datum-returns-in_err-number-in-Int-clause-halt
read_datum-returns-in_err-number-in-Int-clause-halt t c =
    let p = err_from_is_err_and c.from_residual.result c.from_residual.ensures.1
    in rw (p.1, p.2) (halts_int c.args.desc.now c.args.bytes.now c.in_err-number-in-Int.field-0.0 c.in-Int.is c.in_err-number-in-Int.ensures.halt)

pub read_datum-returns-in_err-b-in-Bool-clause-halt : goal.read_datum-returns-in_err-b-in-Bool-clause-halt
read_datum-returns-in_err-b-in-Bool-clause-halt t c =
    let p = err_from_is_err_and c.from_residual-in_err-b-in-Bool.result c.from_residual-in_err-b-in-Bool.ensures.1
    in rw (p.1, p.2) (halts_bool c.args.desc.now c.args.bytes.now c.in_err-b-in-Bool.field-0.0 c.in-Bool.is c.in_err-b-in-Bool.ensures.halt)

pub read_datum-returns-in_err-c-in-Char-clause-halt : goal.read_datum-returns-in_err-c-in-Char-clause-halt
read_datum-returns-in_err-c-in-Char-clause-halt t c =
    let p = err_from_is_err_and c.from_residual-in_err-c-in-Char.result c.from_residual-in_err-c-in-Char.ensures.1
    in rw (p.1, p.2) (halts_char c.args.desc.now c.args.bytes.now c.in_err-c-in-Char.field-0.0 c.in-Char.is c.in_err-c-in-Char.ensures.halt)

pub read_datum-returns-in_err-text-in-Str-clause-halt : goal.read_datum-returns-in_err-text-in-Str-clause-halt
read_datum-returns-in_err-text-in-Str-clause-halt t c =
    let p = err_from_is_err_and c.from_residual-in_err-text-in-Str.result c.from_residual-in_err-text-in-Str.ensures.1
    in rw (p.1, p.2) (halts_str c.args.desc.now c.args.bytes.now c.in_err-text-in-Str.field-0.0 c.in-Str.is c.in_err-text-in-Str.ensures.halt)

pub read_datum-returns-in_err-x-in-Pair-clause-halt : goal.read_datum-returns-in_err-x-in-Pair-clause-halt
read_datum-returns-in_err-x-in-Pair-clause-halt t c =
    let p = err_from_is_err_and c.from_residual-in_err-x-in-Pair.result c.from_residual-in_err-x-in-Pair.ensures.1
    in rw (p.1, p.2) (halts_pair_first c.args.desc.now c.in-Pair.a c.in-Pair.b c.args.bytes.now c.in_err-x-in-Pair.field-0.0 c.in-Pair.is c.in_err-x-in-Pair.ensures.halt)

pub read_datum-returns-in_err-y-in-Pair-clause-halt : goal.read_datum-returns-in_err-y-in-Pair-clause-halt
read_datum-returns-in_err-y-in-Pair-clause-halt t c =
    let p = err_from_is_err_and c.from_residual-in_err-y-in-Pair.result c.from_residual-in_err-y-in-Pair.ensures.1
    in rw (p.1, p.2) (halts_pair_second c.args.desc.now c.in-Pair.a c.in-Pair.b c.args.bytes.now c.in_ok-x-in-Pair.x c.in_ok-x-in-Pair.rest.now c.in_err-y-in-Pair.field-0.0 c.in-Pair.is c.in_ok-x-in-Pair.ensures.datum c.in_err-y-in-Pair.ensures.halt)

pub read_datum-returns-in_err-x-in-Triple-clause-halt : goal.read_datum-returns-in_err-x-in-Triple-clause-halt
read_datum-returns-in_err-x-in-Triple-clause-halt t c =
    let p = err_from_is_err_and c.from_residual-in_err-x-in-Triple.result c.from_residual-in_err-x-in-Triple.ensures.1
    in rw (p.1, p.2) (halts_triple_first c.args.desc.now c.in-Triple.a c.in-Triple.b c.in-Triple.c c.args.bytes.now c.in_err-x-in-Triple.field-0.0 c.in-Triple.is c.in_err-x-in-Triple.ensures.halt)

pub read_datum-returns-in_err-y-in-Triple-clause-halt : goal.read_datum-returns-in_err-y-in-Triple-clause-halt
read_datum-returns-in_err-y-in-Triple-clause-halt t c =
    let p = err_from_is_err_and c.from_residual-in_err-y-in-Triple.result c.from_residual-in_err-y-in-Triple.ensures.1
    in rw (p.1, p.2) (halts_triple_second c.args.desc.now c.in-Triple.a c.in-Triple.b c.in-Triple.c c.args.bytes.now c.in_ok-x-in-Triple.x c.in_ok-x-in-Triple.rest.now c.in_err-y-in-Triple.field-0.0 c.in-Triple.is c.in_ok-x-in-Triple.ensures.datum c.in_err-y-in-Triple.ensures.halt)

pub read_datum-returns-in_err-z-in-Triple-clause-halt : goal.read_datum-returns-in_err-z-in-Triple-clause-halt
read_datum-returns-in_err-z-in-Triple-clause-halt t c =
    let p = err_from_is_err_and c.from_residual-in_err-z-in-Triple.result c.from_residual-in_err-z-in-Triple.ensures.1
    in rw (p.1, p.2) (halts_triple_third c.args.desc.now c.in-Triple.a c.in-Triple.b c.in-Triple.c c.args.bytes.now c.in_ok-x-in-Triple.x c.in_ok-x-in-Triple.rest.now c.in_ok-y-in-Triple.y c.in_ok-y-in-Triple.rest.now c.in_err-z-in-Triple.field-0.0 c.in-Triple.is c.in_ok-x-in-Triple.ensures.datum c.in_ok-y-in-Triple.ensures.datum c.in_err-z-in-Triple.ensures.halt)

pub read_datum-returns-in_err-some-in-Opt-clause-halt : goal.read_datum-returns-in_err-some-in-Opt-clause-halt
read_datum-returns-in_err-some-in-Opt-clause-halt t c =
    let p = err_from_is_err_and c.from_residual-in_err-some-in-Opt.result c.from_residual-in_err-some-in-Opt.ensures.1
    in rw (p.1, p.2) (halts_opt_flag c.args.desc.now c.in-Opt.a c.args.bytes.now c.in_err-some-in-Opt.field-0.0 c.in-Opt.is c.in_err-some-in-Opt.ensures.halt)

pub read_datum-returns-in_err-x-in-Opt-clause-halt : goal.read_datum-returns-in_err-x-in-Opt-clause-halt
read_datum-returns-in_err-x-in-Opt-clause-halt t c =
    let p = err_from_is_err_and c.from_residual-in_err-x-in-Opt.result c.from_residual-in_err-x-in-Opt.ensures.1
    in rw (p.1, p.2) (halts_opt_value c.args.desc.now c.in-Opt.a c.args.bytes.now c.in_ok-some-in-Opt.rest.now c.in_err-x-in-Opt.field-0.0 c.in-Opt.is (c.in_ok-some-in-Opt.ensures.flag ∙ ap (λ z. bool_pickle z ++ c.in_ok-some-in-Opt.rest.now) c.if-not-some.false) c.in_err-x-in-Opt.ensures.halt)

pub read_datum-returns-in_err-items-in-List-clause-halt : goal.read_datum-returns-in_err-items-in-List-clause-halt
read_datum-returns-in_err-items-in-List-clause-halt t c =
    let p = err_from_is_err_and c.from_residual-in_err-items-in-List.result c.from_residual-in_err-items-in-List.ensures.1
    in rw (p.1, p.2) (halts_list c.args.desc.now c.in-List.a c.args.bytes.now c.in_err-items-in-List.field-0.0 c.in-List.is c.in_err-items-in-List.ensures.halt)

pub read_datum-returns-in_ok-y-in-Pair-clause-datum : goal.read_datum-returns-in_ok-y-in-Pair-clause-datum
read_datum-returns-in_ok-y-in-Pair-clause-datum t c =
    reads_pair c.args.desc.now c.in-Pair.a c.in-Pair.b c.args.bytes.now c.in_ok-x-in-Pair.x c.in_ok-y-in-Pair.y c.in_ok-x-in-Pair.rest.now c.in_ok-y-in-Pair.rest.now c.in-Pair.is c.in_ok-x-in-Pair.ensures.datum c.in_ok-y-in-Pair.ensures.datum

pub read_datum-returns-in_ok-z-in-Triple-clause-datum : goal.read_datum-returns-in_ok-z-in-Triple-clause-datum
read_datum-returns-in_ok-z-in-Triple-clause-datum t c =
    reads_triple c.args.desc.now c.in-Triple.a c.in-Triple.b c.in-Triple.c c.args.bytes.now c.in_ok-x-in-Triple.x c.in_ok-y-in-Triple.y c.in_ok-z-in-Triple.z c.in_ok-x-in-Triple.rest.now c.in_ok-y-in-Triple.rest.now c.in_ok-z-in-Triple.rest.now c.in-Triple.is c.in_ok-x-in-Triple.ensures.datum c.in_ok-y-in-Triple.ensures.datum c.in_ok-z-in-Triple.ensures.datum

pub read_datum-returns-in_ok-x-in-Opt-clause-datum : goal.read_datum-returns-in_ok-x-in-Opt-clause-datum
read_datum-returns-in_ok-x-in-Opt-clause-datum t c =
    reads_some c.args.desc.now c.in-Opt.a c.args.bytes.now c.in_ok-x-in-Opt.x c.in_ok-some-in-Opt.rest.now c.in_ok-x-in-Opt.rest.now c.in-Opt.is (c.in_ok-some-in-Opt.ensures.flag ∙ ap (λ z. bool_pickle z ++ c.in_ok-some-in-Opt.rest.now) c.if-not-some.false) c.in_ok-x-in-Opt.ensures.datum

pub read_items-returns-in_err-more-clause-halt : goal.read_items-returns-in_err-more-clause-halt
read_items-returns-in_err-more-clause-halt t c =
    let p = err_from_is_err_and c.from_residual.result c.from_residual.ensures.1
    in rw (p.1, p.2) (halts_first_flag c.args.desc.now c.args.bytes.now c.in_err-more.field-0.0 c.in_err-more.ensures.halt)

pub read_items-loop-more-init : goal.read_items-loop-more-init
read_items-loop-more-init t c =
    subst (λ xs. ItemsRead c.args.desc.now c.args.bytes.now xs c.in_ok-more.more c.in_ok-more.rest.now) (sym c.new-items.ensures.items) (items_start c.args.desc.now c.args.bytes.now c.in_ok-more.more c.in_ok-more.rest.now c.in_ok-more.ensures.flag)

pub read_items-returns-in_err-item-clause-halt : goal.read_items-returns-in_err-item-clause-halt
read_items-returns-in_err-item-clause-halt t c =
    let p = err_from_is_err_and c.from_residual-in_err-item.result c.from_residual-in_err-item.ensures.1
    in rw (p.1, p.2) (halts_in_item c.args.desc.now c.args.bytes.now c.loop-more.items.items c.loop-more.more c.loop-more.rest.now c.in_err-item.field-0.0 c.loop-more.invariant c.loop-more-test.true (halts_with c.get.result.now c.args.desc.now c.loop-more.rest.now c.in_err-item.field-0.0 c.get.ensures c.in_err-item.ensures.halt))

pub read_items-returns-in_err-more-2-clause-halt : goal.read_items-returns-in_err-more-2-clause-halt
read_items-returns-in_err-more-2-clause-halt t c =
    let p = err_from_is_err_and c.from_residual-in_err-more-2.result c.from_residual-in_err-more-2.ensures.1
    in rw (p.1, p.2) (halts_behind_item c.args.desc.now c.args.bytes.now c.loop-more.items.items c.loop-more.more c.loop-more.rest.now c.in_ok-item.item c.in_ok-item.behind.now c.in_err-more-2.field-0.0 c.loop-more.invariant c.loop-more-test.true (reads_with c.get.result.now c.args.desc.now c.loop-more.rest.now c.in_ok-item.item c.in_ok-item.behind.now c.get.ensures c.in_ok-item.ensures.datum) c.in_err-more-2.ensures.halt)

pub read_items-loop-more-smaller : goal.read_items-loop-more-smaller
read_items-loop-more-smaller t c =
    less_left c.args.desc.now c.loop-more.rest.now c.in_ok-item.item c.in_ok-item.behind.now c.in_ok-more-2.field-0-0 c.in_ok-more-2.field-0-1.now (reads_with c.get.result.now c.args.desc.now c.loop-more.rest.now c.in_ok-item.item c.in_ok-item.behind.now c.get.ensures c.in_ok-item.ensures.datum) c.in_ok-more-2.ensures.flag

pub read_items-loop-more-preserved : goal.read_items-loop-more-preserved
read_items-loop-more-preserved t c =
    subst (λ xs. ItemsRead c.args.desc.now c.args.bytes.now xs c.in_ok-more-2.field-0-0 c.in_ok-more-2.field-0-1.now) (sym c.in_ok-push.ensures.items)
    (items_next c.args.desc.now c.args.bytes.now c.loop-more.items.items c.loop-more.more c.loop-more.rest.now c.in_ok-item.item c.in_ok-item.behind.now c.in_ok-more-2.field-0-0 c.in_ok-more-2.field-0-1.now c.loop-more.invariant c.loop-more-test.true (reads_with c.get.result.now c.args.desc.now c.loop-more.rest.now c.in_ok-item.item c.in_ok-item.behind.now c.get.ensures c.in_ok-item.ensures.datum) c.in_ok-more-2.ensures.flag)

pub read_items-returns-clause-items : goal.read_items-returns-clause-items
read_items-returns-clause-items t c =
    subst (λ xs. ReadsItems c.args.desc.now c.args.bytes.now xs c.loop-more.rest.now) (sym c.of.ensures)
    (items_end c.args.desc.now c.args.bytes.now c.loop-more.items.items c.loop-more.more c.loop-more.rest.now c.loop-more.invariant c.loop-more-test.false)
