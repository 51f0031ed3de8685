-- What a call leaves of a pass, from what its steps left of the view.
use Rattle.std.proofs.Common.{◌≡◌, ◌∙◌, ℕ, ◌+◌, ◌<◌, max, List, [], ◌∷◌, ◌++◌, length, sym, ap, subst, arith}
use Rattle.std.specs.Prelude.{Some, None}
use Rattle.std.specs.declared.alloc.Global.{Global}
use Rattle.std.specs.declared.vec.Vec.{Vec}
use Rattle.std.proofs.lemmas.List.{length-append}
use Rattle.atomic_table.specs.Seated.{TableId}
use Rattle.turns.specs.Turns.{Stand, idle}
use Rattle.page_pool.specs.Holding.{times, lesser}
use Rattle.page_pool.specs.Lone.{without}
use Rattle.page_pool.specs.Views.{stand_of, queued, with_turn, took, missed, gave, last_of, Slot, Rests}
use Rattle.page_pool.specs.Passes.{state, Takes, FindsDry, Gives}
use Rattle.page_pool.specs.declared.view.View.{View}
use Rattle.page_pool.specs.PageWords.{numbers}
use Rattle.page_pool.specs.declared.page.Page.{Page}
use Rattle.page_pool.proofs.Shared.{last-push, out_with, is_some}

-- it has the turn, and found these pages
abbrev pub turned : ℕ → List ℕ → View → View
turned t ns v = with_turn ns (queued t v)

-- a pass rests when its turn has ended
pub rests_after : (v w : View) (c : List (ℕ × Slot)) → stand_of w ≡ idle v.parts → c ≡ [] → 0 < v.parts → Rests (w, c)
rests_after v w c is none part = (
  ap (λ (z : Stand). z.waits) is,
  ap (λ (z : Stand). z.ticket) is,
  ap (λ (z : Stand). z.turn) is,
  none,
  omega (arith, ap (λ (z : Stand). z.parts) is, part),
)

pub not_empty : (ns others : List ℕ) (n : ℕ) → ns ≡ others ++ n ∷ [] → ns ≡ [] → ⊥
not_empty ns others n is none = let a = length-append others (n ∷ []) in let b = ap (λ (l : List ℕ). length l) is in let c = ap (λ (l : List ℕ). length l) none in omega (arith, a, b, c)

pub takes_state : (id id' : TableId) (v w : View) (t : ℕ) (ns others : List ℕ) (n : ℕ) → id' ≡ id → w ≡ took (turned t ns v) → ns ≡ others ++ n ∷ [] → times (last_of ns) v.pages ≡ 0
    → Takes (state id v) n (state id' w)
takes_state id id' v w t ns others n pool view is fresh =
    let last : last_of ns ≡ n = ap last_of is ∙ last-push others n in
    let P : TableId → View → Type 0 = λ i u. Takes (state id v) n (state i u) in
    subst (λ (i : TableId). P i w) (sym pool) (subst (λ (u : View). P id u) (sym view) (record {
      found = (others, is);
      fresh = subst (λ (m : ℕ). times m v.pages ≡ 0) last fresh;
      is = ap (λ m. record (state id v) { found = ns; pages = m ∷ v.pages; peak = max v.peak (length v.pages + 1); askers = max 1 v.askers }) last;
    }))

pub misses_state : (id id' : TableId) (v w : View) (t : ℕ) (ns : List ℕ) → id' ≡ id → w ≡ missed (turned t ns v) → ns ≡ [] → FindsDry (state id v) (state id' w)
misses_state id id' v w t ns pool view none =
    let P : TableId → View → Type 0 = λ i u. FindsDry (state id v) (state i u) in
    subst (λ (i : TableId). P i w) (sym pool) (subst (λ (u : View). P id u) (sym view) (record {
      is = ap (λ (l : List ℕ). record (state id v) { found = l; low = Some (lesser v.low (length v.pages)); askers = max 1 v.askers }) none;
    }))

pub gives_state : (id id' : TableId) (v w : View) (t : ℕ) (ns ms : List ℕ) (n : ℕ) → id' ≡ id → w ≡ gave (last_of ms) (turned t ns v) → ms ≡ ns ++ n ∷ [] → Gives (state id v) n (state id' w)
gives_state id id' v w t ns ms n pool view is =
    let last : last_of ms ≡ n = ap last_of is ∙ last-push ns n in
    let P : TableId → View → Type 0 = λ i u. Gives (state id v) n (state i u) in
    subst (λ (i : TableId). P i w) (sym pool) (subst (λ (u : View). P id u) (sym view) (record {
      is = ap (λ (m : ℕ). record (state id v) { found = ns; pages = without m v.pages }) last;
    }))

-- what the slot that was taken last holds
abbrev pub first_slot : List (ℕ × Slot) → Slot
first_slot [] = None
first_slot (x ∷ xs) = x.1

abbrev list_in : Vec Page Global → Slot → Vec Page Global
list_in y None = y
list_in y (Some z) = z

-- what came out of the slot is the free list that was found
pub found_list : (c tail tail' : List (ℕ × Slot)) (y : Vec Page Global) (r : Slot) → c ≡ out_with (Some y) tail → c ≡ out_with r tail' → r ≡ Some y
found_list c tail tail' y r found out = sym (ap first_slot out) ∙ ap first_slot found

pub same_list : (x y : Vec Page Global) → Some x ≡ Some y → x ≡ y
same_list x y e = ap (list_in y) e

pub no_list : (r : Slot) (y : Vec Page Global) → r ≡ Some y → r ≡ None → ⊥
no_list r y e none = let h = ap is_some (sym none ∙ e) in omega (arith, h)

pub entered_view : (v m w : View) (t : ℕ) (y free : Vec Page Global) → m ≡ queued t v → w ≡ with_turn (numbers y.items) m → free ≡ y → w ≡ turned t (numbers free.items) v
entered_view v m w t y free drawn view same = view ∙ ap (with_turn (numbers y.items)) drawn ∙ ap (λ (z : Vec Page Global). turned t (numbers z.items) v) (sym same)
