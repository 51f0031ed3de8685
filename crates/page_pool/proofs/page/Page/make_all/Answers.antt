use Rattle.std.proofs.Common.{◌≡◌, ℕ, ◌+◌, List, [], ◌∷◌, ◌++◌, length, sym, ap, ◌∙◌, arith}
use Rattle.std.specs.List.{range_with_len}
use Rattle.page_pool.specs.PageWords.{numbers}
use Rattle.page_pool.specs.PageWords.{number_of}
use Rattle.page_pool.proofs.Lone.{numbers-push, length-numbers}
use Rattle.page_pool.proofs.Times.{length-range, range-push}
use Rattle.page_pool.proofs.page.Page.make_all.Goals as goal

pub push_reserved-requires : goal.push_reserved-requires
push_reserved-requires c =
    let free = c.loop-number.all in
    let so_far = ap (λ (xs : List ℕ). length xs) c.loop-number.invariant.so_far in
    omega (arith, length-numbers free.items, length-range 0 c.loop-number.number, free.ok.0, c.loop-number.invariant.room)

pub loop-number-preserved : goal.loop-number-preserved
loop-number-preserved c =
    let free = c.loop-number.all.items in
    let page = c.in_ok-page.page in
    let n = c.loop-number.number in
    let next : number_of page ≡ 0 + n = c.in_ok-page.ensures ∙ omega arith in
    record {
      so_far =
          ap numbers c.push_reserved.ensures.items ∙ numbers-push free page ∙ ap (λ (ns : List ℕ). ns ++ number_of page ∷ []) c.loop-number.invariant.so_far
          ∙ ap (λ m. range_with_len 0 n ++ m ∷ []) next ∙ sym (range-push 0 n);
      room = c.push_reserved.ensures.capacity ∙ c.loop-number.invariant.room;
    }
