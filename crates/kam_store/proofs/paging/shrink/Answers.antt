use Rattle.std.proofs.Common.{◌<◌, ℕ, List, length, drop, subst, ◌∙◌, arith}
use Rattle.page_pool.specs.PageWords.{number_of}
use Rattle.kam_store.specs.Joined.{numbers}
use Rattle.kam_store.specs.Moves.{AreOut, MovesPages}
use Rattle.kam_store.proofs.LastPage.{numbers_popped, numbers_left, front_left}
use Rattle.kam_store.proofs.Moves.{moves_give, out_front, out_give, unmet_on, unmet_give}
use Rattle.kam_store.proofs.paging.shrink.Goals as goal

pub give-requires : goal.give-requires
give-requires g c =
    let h = g.P.Pages.holding in
    let all = c.loop-pages.pages.items in
    let rest = c.pop.new.self.items in
    let p = c.in-Some.page in
    let above : c.args.kept < length all = omega (arith, c.loop-pages.pages.ok.0) in
    let e = numbers_left c.args.kept all rest p c.in-Some.ensures.items above in
    out_front (h c.loop-pages.pool) (numbers (drop c.args.kept rest)) (number_of p) (subst (λ (ns : List ℕ). AreOut (h c.loop-pages.pool) ns) e c.loop-pages.invariant.out)

pub loop-pages-preserved : goal.loop-pages-preserved
loop-pages-preserved g c =
    let h = g.P.Pages.holding in
    let all = c.loop-pages.pages.items in
    let rest = c.pop.new.self.items in
    let p = c.in-Some.page in
    let i = c.loop-pages.invariant in
    let above : c.args.kept < length all = omega (arith, c.loop-pages.pages.ok.0) in
    let e = numbers_left c.args.kept all rest p c.in-Some.ensures.items above in
    let f = numbers_popped all rest p c.in-Some.ensures.items in
    record {
      front = front_left c.args.kept all rest p c.in-Some.ensures.items above ∙ i.front;
      out = out_give (h c.loop-pages.pool) (numbers (drop c.args.kept rest)) (number_of p) (h c.give.new.self) (subst (λ (ns : List ℕ). AreOut (h c.loop-pages.pool) ns) e i.out) c.give.ensures;
      moved =
          moves_give (h c.args.pool.now) (numbers c.args.pages.now.items) (h c.loop-pages.pool) (numbers rest) (number_of p) (h c.give.new.self)
          (subst (λ (ns : List ℕ). MovesPages (h c.args.pool.now) (numbers c.args.pages.now.items) (h c.loop-pages.pool) ns) f i.moved) c.give.ensures;
      unmet = unmet_on (h c.args.pool.now) (h c.loop-pages.pool) (h c.give.new.self) i.unmet (unmet_give (h c.loop-pages.pool) (number_of p) (h c.give.new.self) c.give.ensures);
      peak = c.give.ensures.peak ∙ i.peak;
    }
