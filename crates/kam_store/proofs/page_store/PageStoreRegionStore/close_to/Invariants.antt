use Rattle.std.proofs.Common.{◌≡◌, ◌+◌, ◌-◌, length, take}
use Rattle.kam_store.specs.Store.{with_live}
use Rattle.kam_store.specs.Paged.{paged_state}
use Rattle.kam_store.proofs.page_store.PageStoreRegionStore.close_to.Given as goal

-- as many of the lowest regions are live as are to be left and to be closed yet
abbrev pub invariant-loop-closed : goal.invariant-loop-closed
invariant-loop-closed g l =
    let h = g.P.Pages.holding in
    record {
      state : paged_state (h l.self.pages) l.self.made l.self.live ≡ with_live (paged_state (h l.initial.self.pages) l.initial.self.made l.initial.self.live) (take (l.closed-end + l.height - l.closed) l.initial.self.live);
      whole : l.closed-end ≡ length l.initial.self.live;
    }
