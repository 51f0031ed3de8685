use Rattle.std.proofs.Common.{◌≡◌, ◌≤◌, ◌+◌, ◌-◌, ℕ, List, take, drop, subst, sym, ap, ◌∙◌, arith, vec_len}
use Rattle.std.proofs.lemmas.List.{take-take}
use Rattle.kam_store.specs.Joined.{numbers}
use Rattle.kam_store.specs.Moves.{MovesPages}
use Rattle.kam_store.proofs.Joined.{length-numbers}
use Rattle.kam_store.proofs.LastPage.{numbers_split}
use Rattle.kam_store.proofs.Moves.{moves_on, came_out, met_on, peak_on, unmet_on}
use Rattle.kam_store.proofs.paging.grow.Goals as goal

pub shrink-requires : goal.shrink-requires
shrink-requires g c =
    let h = g.P.Pages.holding in
    let first = c.args.pages.now.items in
    let last = c.add_page.new.pages.items in
    let i = c.loop-count.invariant in
    let moved = moves_on (h c.args.pool.now) (numbers first) (h c.loop-count.pool) (numbers c.loop-count.pages.items) (h c.add_page.new.pool) (numbers last) i.moved c.in-Err.ensures.moved in
    let front : take c.len-kept.result last ≡ first = ap (take c.len-kept.result) c.in-Err.ensures.err ∙ i.front in
    let split = numbers_split c.len-kept.result last first front in
    came_out (h c.args.pool.now) (numbers first) (h c.add_page.new.pool) (numbers (drop c.len-kept.result last))
    (subst (λ (ns : List ℕ). MovesPages (h c.args.pool.now) (numbers first) (h c.add_page.new.pool) ns) split moved)

pub returns-in-Err-clause-met : goal.returns-in-Err-clause-met
returns-in-Err-clause-met g c =
    let h = g.P.Pages.holding in
    let first = c.args.pages.now in
    let now = c.loop-count.pages in
    let i = c.loop-count.invariant in
    λ e. met_on (h c.args.pool.now) (numbers first.items) (h c.loop-count.pool) (numbers now.items) (h c.add_page.new.pool) (h c.shrink.new.pool) (c.args.wanted - vec_len first)
    i.moved i.unmet (c.in-Err.ensures.met e) c.shrink.ensures.unmet (omega (arith, length-numbers first.items, length-numbers now.items, first.ok.0, now.ok.0, i.count))

pub loop-count-preserved : goal.loop-count-preserved
loop-count-preserved g c =
    let h = g.P.Pages.holding in
    let first = c.args.pages.now in
    let now = c.loop-count.pages in
    let next = c.add_page.new.pages in
    let i = c.loop-count.invariant in
    let kept : c.len-kept.result ≤ vec_len now = omega (arith, i.count, c.loop-count.auto.count) in
    record {
      count = c.in_default.ensures.ok.1 ∙ ap (λ n. n + 1) i.count;
      front = sym (take-take c.len-kept.result (vec_len now) next.items kept) ∙ ap (take c.len-kept.result) c.in_default.ensures.ok.0 ∙ i.front;
      moved =
          moves_on (h c.args.pool.now) (numbers first.items) (h c.loop-count.pool) (numbers now.items) (h c.add_page.new.pool) (numbers next.items) i.moved c.in_default.ensures.moved;
      peak =
          peak_on (h c.args.pool.now) (numbers first.items) (h c.loop-count.pool) (numbers now.items) (h c.add_page.new.pool) (c.args.wanted - c.len-kept.result) i.moved i.peak c.in_default.ensures.peak
          (omega (arith, length-numbers first.items, length-numbers now.items, first.ok.0, now.ok.0, i.count));
      unmet = unmet_on (h c.args.pool.now) (h c.loop-count.pool) (h c.add_page.new.pool) i.unmet (c.in_default.ensures.unmet (λ e. cc));
    }
