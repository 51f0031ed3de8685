use Rattle.std.proofs.Common.{◌≡◌, ◌+◌, ◌-◌, length, take, ap, sym, ◌∙◌, arith}
use Rattle.std.proofs.lemmas.List.{take_all, length-take-le}
use Rattle.kam_store.specs.Store.{StoreState, with_live}
use Rattle.kam_store.specs.Paged.{paged_state}
use Rattle.kam_store.proofs.Store.{take-one_less}
use Rattle.kam_store.proofs.page_store.PageStoreRegionStore.close_to.Goals as goal

pub loop-closed-init : goal.loop-closed-init
loop-closed-init g c =
    let s = c.args.self.now in
    let h = g.P.Pages.holding in
    let whole : c.height-closed-end.result ≡ length s.live = c.height-closed-end.ensures.height in
    record {
      state = ap (with_live (paged_state (h s.pages) s.made s.live)) (sym (take_all (c.height-closed-end.result + c.args.height - c.args.height) s.live (omega arith)));
      whole = whole;
    }

pub close_top-requires : goal.close_top-requires
close_top-requires g c =
    let s = c.args.self.now in
    let m = c.height-closed-end.result + c.args.height - c.loop-closed.closed in
    let long = ap (λ (t : StoreState _). length t.live) c.loop-closed.invariant.state in
    let part : length (take m s.live) ≡ m = length-take-le m s.live (omega (arith, c.loop-closed.invariant.whole, c.loop-closed.auto.closed)) in
    omega (arith, c.loop-closed-test.true)

pub loop-closed-preserved : goal.loop-closed-preserved
loop-closed-preserved g c =
    let s = c.args.self.now in
    let h = g.P.Pages.holding in
    let m = c.height-closed-end.result + c.args.height - c.loop-closed.closed in
    let first = paged_state (h s.pages) s.made s.live in
    let fewer : take (length (take m s.live) - 1) (take m s.live) ≡ take (m - 1) s.live =
    take-one_less m s.live (omega (arith, c.loop-closed.invariant.whole, c.loop-closed.auto.closed)) in
    let next : m - 1 ≡ c.height-closed-end.result + c.args.height - (c.loop-closed.closed + 1) = omega arith in
    record {
      state =
          c.close_top.ensures
          ∙ ap (λ (t : StoreState _). with_live t (take (length t.live - 1) t.live)) c.loop-closed.invariant.state
          ∙ ap (with_live first) (fewer ∙ ap (λ n. take n s.live) next);
      whole = c.loop-closed.invariant.whole;
    }

pub returns : goal.returns
returns g c =
    let s = c.args.self.now in
    let h = g.P.Pages.holding in
    let last : c.height-closed-end.result + c.args.height - c.loop-closed.closed ≡ c.args.height =
    omega (arith, c.loop-closed-test.false, c.loop-closed.auto.closed, c.loop-closed.auto.closed-end, c.requires, c.loop-closed.invariant.whole) in
    c.loop-closed.invariant.state ∙ ap (λ n. with_live (paged_state (h s.pages) s.made s.live) (take n s.live)) last
