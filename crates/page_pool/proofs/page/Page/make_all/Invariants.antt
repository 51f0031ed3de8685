use Rattle.std.proofs.Common.{◌≡◌, vec_capacity}
use Rattle.std.specs.List.{range_with_len}
use Rattle.page_pool.specs.PageWords.{numbers}
use Rattle.page_pool.proofs.page.Page.make_all.Given as goal

-- the pages so far have the numbers so far, and there is room for all
abbrev pub invariant-loop-number : goal.invariant-loop-number
invariant-loop-number l = record {
  so_far : numbers l.all.items ≡ range_with_len 0 l.number;
  room : vec_capacity l.all ≡ l.pages;
}
