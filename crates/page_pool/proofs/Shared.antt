-- What each step keeps of a pool that passes share.
use Rattle.std.proofs.Common.{◌≡◌, ◌∙◌, ℕ, zero, suc, ◌+◌, ◌*◌, ◌%◌, ◌^◌, ◌<◌, ◌≤◌, ◌≢◌, inl, inr, ⊎_elim, Bool, true, false, true≢false, List, [], ◌∷◌, ◌++◌, length, map, set, sym, refl, ap, subst, arith}
use Rattle.std.specs.Prelude.{Some, None, slice_index, vec_capacity}
use Rattle.std.specs.declared.alloc.Global.{Global}
use Rattle.std.specs.declared.vec.Vec.{Vec}
use Rattle.std.proofs.lemmas.List.{map-set, map_push, length-append, set-get_or}
use Rattle.std.proofs.lemmas.Bool.Decides.{nat_tests}
use mathlib.Core.Option.{some, none, some-injective, some-ne-none}
use mathlib.Core.Logic.{dite}
use native.Mathlib.Decide.{ℕ_discrete}
use lib.ListN.{get_elem?}
use Rattle.atomic_table.specs.Table.{State, step, keeps, takes, gives, Act, Allows, Splits, Joins, Valid, stepped, carried_after, opening, Final, Seen, rest}
use Rattle.atomic_table.proofs.Lists.{at_set, at_snoc, at_map, set_again, set_else, set_here}
use Rattle.turns.specs.Turns.{Stand, AreTurns, At, total, parts_of, all_parts, ended}
use Rattle.turns.specs.Homes.{IsFree, AreHome}
use Rattle.turns.proofs.Sums.{place, one_way, total-set, total-append, term_le, terms_le, total-map}
use Rattle.turns.proofs.Turns.{draw, see, end, split, join, opens, served_is, only_turn}
use Rattle.turns.proofs.Homes.{home-still, home-see, home-end, free-set, free-append, free-unseen}
use Rattle.page_pool.specs.Holding.{times}
use Rattle.page_pool.specs.Lone.{numbers_of}
use Rattle.page_pool.specs.PageWords.{numbers}
use Rattle.page_pool.specs.Views.{stand_of, blank, gone, queued, with_turn, took, missed, gave, last_of, left_of_split, right_of_split, both_of_join, lying, Slot, Seated, Rests}
use Rattle.page_pool.specs.Sharing.{AreShared, AreFair, IsFair, Lies, held_by, askers_of, peak_of, greatest, drew, saw, took_page, missed_page, gave_page, weighed}
use Rattle.page_pool.specs.declared.page.Page.{Page}
use Rattle.page_pool.specs.declared.view.View.{View}
use Rattle.page_pool.proofs.Times.{times-append, times-range, times-without, length-without, length-range}
use Rattle.page_pool.proofs.Lone.{times-push, length-numbers}
use Rattle.page_pool.proofs.Fair.{fair-set, fair-low, fair-append, fair-join, fair-whole, fair-opens, alone, lesser_is}
use Rattle.page_pool.proofs.Greatest.{total_alone}

Stands : List View → List Stand
Stands views = map stand_of views

stands-set : (views : List View) (id : ℕ) (w : View) → map stand_of (set views id w) ≡ set (map stand_of views) id (stand_of w)
stands-set views id w = map-set stand_of views id w

-- the sum of parts is that of the stands
parts-stands : (views : List View) → total (λ (z : View). z.parts) views ≡ total parts_of (map stand_of views)
parts-stands views = sym (total-map stand_of parts_of views)

module _ {made : ℕ} {s : State Slot View} (k : AreShared made s) (id : ℕ) (v : View) (at : At s.views id v) where
  stand_at : At (map stand_of s.views) id (stand_of v)
  stand_at = at_map stand_of s.views id v at

  some_part : v.waits ≡ 1 → 0 < v.parts
  some_part waits = let h = k.turns.small id (stand_of v) stand_at in omega (arith, h, waits)

  -- nobody's turn begins or ends where this pass has none
  free_still : (w : View) → v.turn ≡ false → (o : ℕ) → IsFree o (map stand_of (set s.views id w)) → IsFree o (map stand_of s.views)
  free_still w still o free = free-set (map stand_of s.views) id (stand_of v) (stand_of w) stand_at still o (subst (IsFree o) (stands-set s.views id w) free)

  -- who has the turn is the one that has it
  turn_only : v.turn ≡ true → (j : ℕ) (u : View) → At s.views j u → u.turn ≡ true → j ≡ id
  turn_only turn j u e h =
      let t = k.turns.turn_is id (stand_of v) stand_at turn in
      only_turn k.turns id (stand_of v) stand_at t.0 (sym t.1) j (stand_of u) (at_map stand_of s.views j u e) refl h

  -- a free page isn't with the pass
  not_held : (n : ℕ) → 0 < times n k.free → times n v.pages ≡ 0
  not_held n free =
      let e = k.each n in
      let t = term_le (λ (z : View). times n z.pages) s.views id v at in
      omega (arith, e, t, free, times-range n 0 made)

  -- a pass changes only in what it has to do with turns, and has no turn
  pub still : (words : List ℕ) (w : View) → v.turn ≡ false → 0 < v.parts → w.turn ≡ false → AreTurns 0 1 words (set (map stand_of s.views) id (stand_of w))
      → w.pages ≡ v.pages → AreFair made (set s.views id w) → AreShared made record { words = words; homes = s.homes; views = set s.views id w }
  still words w off part off' turns pages fair = record {
    free = k.free;
    turns = subst (AreTurns 0 1 words) (sym (stands-set s.views id w)) turns;
    homes = home-still k.homes (map stand_of (set s.views id w)) (Lies made k.free) (free_still w off) (λ o there none y h. h);
    found = λ j u e h. ⊎_elim (λ t. absurd (true≢false (sym h ∙ sym (ap (λ (z : View). z.turn) t.1) ∙ off'))) (λ t. k.found j u t.1 h) (at_set s.views id j w u e);
    each = λ n. let e = k.each n in let t = total-set (λ (z : View). times n z.pages) s.views id v w at in let p = ap (times n) pages in omega (arith, e, t, p);
    count = let t = total-set held_by s.views id v w at in let c = k.count in let p = ap (λ (ns : List ℕ). length ns) pages in omega (arith, t, c, p);
    fair = fair;
    few = k.few;
  }

  same_fair : (w : View) → 0 < v.parts → 0 < w.parts → w.made ≡ v.made → w.pages ≡ v.pages → w.peak ≡ v.peak → w.low ≡ v.low → w.askers ≡ v.askers → AreFair made (set s.views id w)
  same_fair w part part' same pages peak low askers =
      let p = ap (λ (ns : List ℕ). length ns) pages in
      let a = k.fair.peak id v at in
      let b = k.fair.most id v at in
      let c = k.fair.asked id v at in
      fair-set k.fair id v at w part part' same (omega (arith, peak)) (omega (arith, peak, b)) (omega (arith, p, peak, a)) (omega (arith, askers))
      (λ h. let d = c (omega (arith, h, p)) in omega (arith, d, askers)) (λ n e. inl (sym low ∙ e))

  -- the turn ends, with other free pages and other pages of the pass
  pub ends : (w : View) (y : Vec Page Global) → v.turn ≡ true → v.made ≤ vec_capacity y → stand_of w ≡ ended (stand_of v)
      → ((n : ℕ) → times n (numbers y.items) + times n w.pages ≡ times n v.found + times n v.pages)
      → length y.items + length w.pages ≡ length v.found + length v.pages → AreFair made (set s.views id w)
      → length s.homes ≡ 1
      → AreShared made record { words = set s.words 1 ((slice_index s.words 1 + 1) % 2 ^ 64); homes = set s.homes 0 (some (Some y)); views = set s.views id w }
  ends w y turn room is each count fair slots = record {
    free = numbers y.items;
    turns = subst (AreTurns 0 1 words') (ap (set (map stand_of s.views) id) (sym is) ∙ sym (stands-set s.views id w)) (end k.turns id (stand_of v) stand_at turn);
    homes = subst (λ (l : List Stand). AreHome 1 (Lies made (numbers y.items)) l (set s.homes 0 (some (Some y)))) (sym (stands-set s.views id w))
        (home-end k.homes (Lies made (numbers y.items)) id (stand_of v) (stand_of w) (Some y) stand_at (ap (λ (z : Stand). z.turn) is) (omega (arith, slots))
        (y, refl, refl, omega (arith, room, k.fair.same id v at part))
        (λ o there other z h. absurd (other (omega arith))));
    found = λ j u e h. ⊎_elim
        (λ t. absurd (true≢false (sym h ∙ sym (ap (λ (z : View). z.turn) t.1) ∙ ap (λ (z : Stand). z.turn) is)))
        (λ t. absurd (t.0 (turn_only turn j u t.1 h)))
        (at_set s.views id j w u e);
    each = λ n. let e = k.each n in let t = total-set (λ (z : View). times n z.pages) s.views id v w at in let p = each n in let q = ap (times n) found in omega (arith, e, t, p, q);
    count = let t = total-set held_by s.views id v w at in let c = k.count in let q = ap (λ (ns : List ℕ). length ns) found in omega (arith, t, c, count, q, length-numbers y.items);
    fair = fair;
    few = k.few;
  }
    where
      words' : List ℕ
      words' = set s.words 1 ((slice_index s.words 1 + 1) % 2 ^ 64)

      found : v.found ≡ k.free
      found = k.found id v at turn

      part : 0 < v.parts
      part = some_part (k.turns.turn_is id (stand_of v) stand_at turn).0

-- a ticket is drawn
pub draws : (made id : ℕ) (me : Seated) → Rests me → Allows (AreShared made) 1 id me 0 (λ n. (n + 1) % 2 ^ 64) (drew (step 1 0 1 0 none) me)
draws made id me rests s k slots at bound =
    let w : View = queued (k.turns.drawn 0) me.0 in (
      w,
      keeps,
      tt,
      still k id me.0 at (set s.words 0 ((slice_index s.words 0 + 1) % 2 ^ 64)) w rests.2 rests.4 refl
          (draw k.turns id (stand_of me.0) (stand_at k id me.0 at) rests.0 rests.4 0 (omega arith))
          refl
          (same_fair k id me.0 at w rests.4 rests.4 refl refl refl refl refl),
      (refl, (k.turns.drawn 0, k.turns.draws 0 (omega arith), refl)),
    )

-- the slots that are out, with the free list's first
abbrev pub out_with : Slot → List (ℕ × Slot) → List (ℕ × Slot)
out_with z c = (0, z) ∷ c

-- a seat that put something into the slot that it took last
abbrev pub put_into : View → Slot → List (ℕ × Slot) → Seated
put_into v z c = (v, (0, z) ∷ rest c)

same_words : (s : State Slot View) (i : ℕ) → set s.words i (slice_index s.words i) ≡ s.words
same_words s i = set-get_or s.words i 0

-- a look at a word changes nothing
looked : {made : ℕ} {s : State Slot View} (k : AreShared made s) (i id : ℕ) (v : View) → At s.views id v
    → AreShared made record { words = set s.words i (slice_index s.words i); homes = s.homes; views = set s.views id v }
looked {made} {s} k i id v at =
    subst (λ (p : List ℕ × List View). AreShared made record { words = p.0; homes = s.homes; views = p.1 }) (λ e. (sym (same_words s i) e, sym (set_again s.views id v at) e)) k

-- the serving word is looked at
pub sees : (made id : ℕ) (me : Seated) → me.0.waits ≡ 1 → me.0.turn ≡ false → Allows (AreShared made) 1 id me 1 (λ n. n) (saw (step 1 1 0 0 none) me)
sees made id me waits off s k slots at bound = dite (ℕ_discrete (slice_index s.words 1) (me.0.ticket % 2 ^ 64)) hit miss
  where
    Goal : Type 0
    Goal = (w : View) × (a : Act Slot) × Valid s.homes me.1 a × AreShared made (stepped s 1 (slice_index s.words 1) id me.1 w a) × saw (step 1 1 0 0 none) me (slice_index s.words 1) (w, carried_after me.1 a)

    at' : At (map stand_of s.views) id (stand_of me.0)
    at' = stand_at k id me.0 at

    hit : slice_index s.words 1 ≡ me.0.ticket % 2 ^ 64 → Goal
    hit found =
        let is = served_is k.turns id (stand_of me.0) at' waits found in
        let home = k.homes.home 0 (omega arith) (free-unseen k.turns id (stand_of me.0) at' waits is off) in
        let y = home.2.0 in
        let w : View = with_turn (numbers y.items) me.0 in
        let part = some_part k id me.0 at waits in
        let same = k.fair.same id me.0 at part in
        let held = term_le held_by s.views id me.0 at in
        let frees = ap (λ (ns : List ℕ). length ns) home.2.2 in (
          w,
          takes 0 home.0,
          home.1,
          subst (λ (words : List ℕ). AreShared made record { words = words; homes = set s.homes 0 none; views = set s.views id w }) (sym (same_words s 1)) record {
            free = k.free;
            turns = subst (AreTurns 0 1 s.words) (sym (stands-set s.views id w)) (see k.turns id (stand_of me.0) at' waits is);
            homes = subst (λ (l : List Stand). AreHome 1 (Lies made k.free) l (set s.homes 0 none)) (sym (stands-set s.views id w)) (home-see k.homes id (stand_of me.0) (stand_of w) at' refl refl);
            found = λ j u e h. ⊎_elim (λ t. subst (λ (z : View). z.found ≡ k.free) t.1 home.2.2) (λ t. k.found j u t.1 h) (at_set s.views id j w u e);
            each = λ n. let e = k.each n in let t = total-set (λ (z : View). times n z.pages) s.views id me.0 w at in omega (arith, e, t);
            count = let t = total-set held_by s.views id me.0 w at in let c = k.count in omega (arith, t, c);
            fair = same_fair k id me.0 at w part part refl refl refl refl refl;
            few = k.few;
          },
          (
            (λ _. (
              y,
              record {
                view = refl;
                slots = ap (λ (z : Slot). out_with z me.1) home.2.1;
                fits = omega (arith, k.count, held, same, frees, length-numbers y.items);
                room = omega (arith, home.2.3, same);
              },
            )),
            λ other. absurd (other found),
          ),
        )

    miss : slice_index s.words 1 ≢ me.0.ticket % 2 ^ 64 → Goal
    miss other = (me.0, keeps, tt, looked k 1 id me.0 at, ((λ found. absurd (other found)), λ _. (refl, refl)))

-- a list that ends so has that as its last
pub last-push : (ns : List ℕ) (n : ℕ) → last_of (ns ++ n ∷ []) ≡ n
last-push [] n = refl
last-push (m ∷ []) n = refl
last-push (m ∷ l ∷ ns) n = last-push (l ∷ ns) n

-- the turn ends with the last free page
pub takes_page : (made id : ℕ) (v : View) (y : Vec Page Global) (n : ℕ) → v.turn ≡ true → v.made ≤ vec_capacity y → v.found ≡ numbers y.items ++ n ∷ []
    → Allows (AreShared made) 1 id (v, (0, Some y) ∷ []) 1 (λ m. (m + 1) % 2 ^ 64) (took_page (step 1 1 1 0 none) (v, (0, Some y) ∷ []))
takes_page made id v y n turn room found s k slots at bound =
    let last : last_of v.found ≡ n = ap last_of found ∙ last-push (numbers y.items) n in
    let whole : v.found ≡ k.free = k.found id v at turn in
    let there : 0 < times (last_of v.found) k.free = subst (λ (ns : List ℕ). 0 < times (last_of v.found) ns) (sym found ∙ whole) (subst (λ (m : ℕ). 0 < times m (numbers y.items ++ n ∷ [])) (sym last) (times-push (numbers y.items) n)) in
    let part = some_part k id v at (k.turns.turn_is id (stand_of v) (stand_at k id v at) turn).0 in
    let long = ap (λ (ns : List ℕ). length ns) found in
    let long' = ap (λ (ns : List ℕ). length ns) whole in
    let more = length-append (numbers y.items) (n ∷ []) in
    let held = term_le held_by s.views id v at in
    let most = k.fair.most id v at in
    let peak = k.fair.peak id v at in (
      took v,
      gives,
      tt,
      ends k id v at (took v) y turn room refl
          (λ m. let a = times-append m (numbers y.items) (n ∷ []) in let b = ap (times m) found in let c = ap (λ (l : ℕ). times m (l ∷ [])) last in omega (arith, a, b, c))
          (omega (arith, long, more, length-numbers y.items))
          (fair-set k.fair id v at (took v) part part refl (omega arith) (omega (arith, most, k.count, held, long, long', more)) (omega arith) (omega arith) (λ _. omega arith) (λ low e. inl e))
          slots,
      (refl, refl, not_held k id v at (last_of v.found) there),
    )

-- the turn ends without one
pub misses_page : (made id : ℕ) (v : View) (y : Vec Page Global) → v.turn ≡ true → v.made ≤ vec_capacity y → v.found ≡ [] → y.items ≡ []
    → Allows (AreShared made) 1 id (v, (0, Some y) ∷ []) 1 (λ m. (m + 1) % 2 ^ 64) (missed_page (step 1 1 1 0 none) (v, (0, Some y) ∷ []))
misses_page made id v y turn room found none_left s k slots at bound =
    let whole : v.found ≡ k.free = k.found id v at turn in
    let part = some_part k id v at (k.turns.turn_is id (stand_of v) (stand_at k id v at) turn).0 in
    let long = ap (λ (ns : List ℕ). length ns) found in
    let long' = ap (λ (ns : List ℕ). length ns) whole in
    let empty = ap (λ (ps : List Page). length ps) none_left in
    let all : total held_by s.views ≡ made = omega (arith, k.count, long, long') in
    let most = k.fair.most id v at in
    let peak = k.fair.peak id v at in (
      missed v,
      gives,
      tt,
      ends k id v at (missed v) y turn room refl
          (λ m. let a = ap (λ (ps : List Page). times m (numbers ps)) none_left in let b = ap (times m) found in omega (arith, a, b))
          (omega (arith, long, empty))
          (fair-set k.fair id v at (missed v) part part refl (omega arith) most peak (omega arith) (λ _. omega arith)
          (λ low e. ⊎_elim (λ old. inl old)
          (λ new. inr (subst (λ (n : ℕ). (n + 1) * total askers_of (set s.views id (missed v)) ≤ made → made < greatest peak_of (set s.views id (missed v)) * total askers_of (set s.views id (missed v))) new
          (fair-low k.fair id v at (missed v) refl refl (omega arith) (omega arith) all)))
          (lesser_is v.low (length v.pages) low e)))
          slots,
      (refl, refl),
    )

-- the turn ends with a page given back
pub gives_page : (made id : ℕ) (v : View) (y : Vec Page Global) (n : ℕ) → v.turn ≡ true → v.made ≤ vec_capacity y → numbers y.items ≡ v.found ++ n ∷ [] → 0 < times n v.pages
    → Allows (AreShared made) 1 id (v, (0, Some y) ∷ []) 1 (λ m. (m + 1) % 2 ^ 64) (gave_page (step 1 1 1 0 none) (v, (0, Some y) ∷ []))
gives_page made id v y n turn room pushed held s k slots at bound =
    let g : ℕ = last_of (numbers y.items) in
    let last : g ≡ n = ap last_of pushed ∙ last-push v.found n in
    let mine : 0 < times g v.pages = subst (λ (m : ℕ). 0 < times m v.pages) (sym last) held in
    let part = some_part k id v at (k.turns.turn_is id (stand_of v) (stand_at k id v at) turn).0 in
    let long = ap (λ (ns : List ℕ). length ns) pushed in
    let more = length-append v.found (n ∷ []) in
    let less = length-without g v.pages mine in
    let most = k.fair.most id v at in
    let peak = k.fair.peak id v at in
    let asked = k.fair.asked id v at in (
      gave g v,
      gives,
      tt,
      ends k id v at (gave g v) y turn room refl
          (λ m. let a = times-append m v.found (n ∷ []) in let b = ap (times m) pushed in let c = times-without m g v.pages in let d = ap (λ (l : ℕ). times m (l ∷ [])) last in
          let e = one_of m g v.pages mine in omega (arith, a, b, c, d, e))
          (omega (arith, long, more, less, length-numbers y.items))
          (fair-set k.fair id v at (gave g v) part part refl (omega arith) most (omega (arith, less, peak)) (omega arith) (λ h. asked (omega (arith, h, less))) (λ low e. inl e))
          slots,
      (refl, refl),
    )
  where
    -- a number that stands there stands there at least as often as in a list of it alone
    one_of : (m g : ℕ) (ns : List ℕ) → 0 < times g ns → times m (g ∷ []) ≤ times m ns
    one_of m g ns there = dite (ℕ_discrete m g)
        (λ e. let a : times m (g ∷ []) ≤ 1 = grind (arith, nat_tests) in let b = ap (λ (l : ℕ). times l ns) e in omega (arith, a, b, there))
        (λ ne. let a : times m (g ∷ []) ≡ 0 = grind (arith, nat_tests) in omega (arith, a))

-- a pass is cut in two
pub splits : (made id : ℕ) (v : View) → Rests (v, []) → 2 ≤ v.parts → Splits (AreShared made) id v (left_of_split v) (right_of_split v)
splits made id v rests two s k at =
    let l : View = left_of_split v in
    let r : View = right_of_split v in
    let views : List View = set s.views id l in
    let at' = stand_at k id v at in
    let fair = same_fair k id v at l rests.4 (omega (arith, two)) refl refl refl refl refl in
    let here = set_here s.views id l (place s.views id v at) in
    let stands : map stand_of (views ++ r ∷ []) ≡ set (map stand_of s.views) id (stand_of l) ++ stand_of r ∷ [] = map_push stand_of views r ∙ ap (λ (z : List Stand). z ++ stand_of r ∷ []) (stands-set s.views id l) in
    record {
      free = k.free;
      turns = subst (AreTurns 0 1 s.words) (sym stands) (split k.turns id (stand_of v) at' rests.0 two);
      homes = home-still k.homes (map stand_of (views ++ r ∷ [])) (Lies made k.free)
          (λ o free. free_still k id v at l rests.2 o (free-append (map stand_of views) (stand_of r ∷ []) o (subst (IsFree o) (map_push stand_of views r) free)))
          (λ o there none y h. h);
      found = λ j u e h. ⊎_elim
          (λ a. ⊎_elim (λ t. absurd (true≢false (sym h ∙ sym (ap (λ (z : View). z.turn) t.1)))) (λ t. k.found j u t.1 h) (at_set s.views id j l u a))
          (λ b. absurd (true≢false (sym h ∙ sym (ap (λ (z : View). z.turn) b))))
          (at_snoc views r u j e);
      each = λ n. let e = k.each n in let t = total-set (λ (z : View). times n z.pages) s.views id v l at in let p = total-append (λ (z : View). times n z.pages) views (r ∷ []) in omega (arith, e, t, p);
      count = let t = total-set held_by s.views id v l at in let p = total-append held_by views (r ∷ []) in omega (arith, t, p, k.count);
      fair = fair-append fair id l here (omega (arith, two));
      few = k.few;
    }

-- two passes become one
pub joins : (made id : ℕ) (v : View) (other : ℕ) (w : View) → Rests (v, []) → Rests (w, []) → Joins (AreShared made) id v other w (both_of_join v w) gone
joins made id v other w rests rests' s k at apart at_other =
    let b : View = both_of_join v w in
    let there : At s.views other w = sym (set_else s.views id other b apart) ∙ at_other in
    let views : List View = set (set s.views id b) other gone in
    let at' = stand_at k id v at in
    let stands : map stand_of views ≡ set (set (map stand_of s.views) id (stand_of b)) other (stand_of gone)
    = stands-set (set s.views id b) other gone ∙ ap (λ (z : List Stand). set z other (stand_of gone)) (stands-set s.views id b) in
    let t1 = λ (f : View → ℕ). total-set f s.views id v b at in
    let t2 = λ (f : View → ℕ). total-set f (set s.views id b) other w gone at_other in
    let h1 = t1 held_by in
    let h2 = t2 held_by in
    let long = length-append v.pages w.pages in
    record {
      free = k.free;
      turns = subst (AreTurns 0 1 s.words) (sym stands) (join k.turns id (stand_of v) at' rests.0 other (stand_of w) apart (at_map stand_of s.views other w there) rests'.0);
      homes = home-still k.homes (map stand_of views) (Lies made k.free)
          (λ o free. free_still k id v at b rests.2 o (free-set (map stand_of (set s.views id b)) other (stand_of w) (stand_of gone) (at_map stand_of (set s.views id b) other w at_other) rests'.2 o
          (subst (IsFree o) (stands-set (set s.views id b) other gone) free)))
          (λ o there none y h. h);
      found = λ j u e h. ⊎_elim
          (λ t. absurd (true≢false (sym h ∙ sym (ap (λ (z : View). z.turn) t.1))))
          (λ a. ⊎_elim (λ t. absurd (true≢false (sym h ∙ sym (ap (λ (z : View). z.turn) t.1)))) (λ t. k.found j u t.1 h) (at_set s.views id j b u a.1))
          (at_set (set s.views id b) other j gone u e);
      each = λ n. let e = k.each n in let p = t1 (λ (z : View). times n z.pages) in let q = t2 (λ (z : View). times n z.pages) in let a = times-append n v.pages w.pages in omega (arith, e, p, q, a);
      count = omega (arith, h1, h2, long, k.count);
      fair = fair-join k.fair id v at other w apart there rests.4 rests'.4 (omega (arith, k.count));
      few = k.few;
    }

-- a pass with all parts looks at the law
pub weighs : (made id : ℕ) (me : Seated) → Allows (AreShared made) 1 id me 0 (λ n. n) (weighed (step 1 0 0 0 none) me)
weighs made id me s k slots at bound = (
  me.0,
  keeps,
  tt,
  looked k 0 id me.0 at,
  (refl, refl, λ all. fair-whole k.fair id me.0 at (parts-stands s.views ∙ k.turns.parts) all),
)

-- a pool at the start
pub starts : (made : ℕ) (y : Vec Page Global) → made < 2 ^ 32 → numbers y.items ≡ numbers_of made → made ≤ vec_capacity y → AreShared made (opening (0 ∷ 0 ∷ []) (Some y ∷ []) (blank made all_parts))
starts made y few is room = record {
  free = numbers y.items;
  turns = opens 0 1 (0 ∷ 0 ∷ []) (omega arith) (λ o h. first_words o h);
  homes = record { home = λ o there free. subst (λ (p : ℕ). (z : Slot) × (get_elem? (map some (Some y ∷ [])) p ≡ some (some z)) × Lies made (numbers y.items) p z) (let e : 0 ≡ o = omega arith in e) (Some y, refl, (y, refl, refl, room)) };
  found = λ j u e h. absurd (true≢false (sym h ∙ sym (ap (λ (z : View). z.turn) (first_is j u e))));
  each = λ n. let e = ap (times n) is in omega (arith, e);
  count = omega (arith, ap (λ (ns : List ℕ). length ns) is, length-range 0 made);
  fair = fair-opens made;
  few = few;
}
  where
    first_words : (o : ℕ) → o < 1 → (slice_index (0 ∷ 0 ∷ []) (0 + 2 * o) ≡ 0) × (slice_index (0 ∷ 0 ∷ []) (0 + 2 * o + 1) ≡ 0)
    first_words zero h = (refl, refl)
    first_words (suc o) h = absurd (omega (arith, h))

    first_is : (j : ℕ) (u : View) → At (blank made all_parts ∷ []) j u → blank made all_parts ≡ u
    first_is zero u e = some-injective (blank made all_parts) u e
    first_is (suc j) u e = absurd (some-ne-none u (sym e))

-- What is true at the end, for a pass with all parts: the free list is at home, with the pages that the pass doesn't hold
pub closes : (made : ℕ) (s : State Slot View) → AreShared made s → (id : ℕ) (v : View) → At s.views id v → v.turn ≡ false → v.parts ≡ all_parts
    → (slot : Slot) × (get_elem? s.homes 0 ≡ some (some slot)) × IsFair v × (v.made < 2 ^ 32) × (length (lying slot) + length v.pages ≡ v.made) × ((y : Vec Page Global) × (slot ≡ Some y))
closes made s k id v at off all =
    let parts : total (λ (z : View). z.parts) s.views ≡ all_parts = parts-stands s.views ∙ k.turns.parts in
    let same = k.fair.same id v at (omega (arith, all)) in
    let home = k.homes.home 0 (omega arith) nobody in
    let held = total_alone held_by s.views id v at (λ j u apart e. ap held_by (alone k.fair id v at parts all j u apart e)) in
    let frees = ap (λ (ns : List ℕ). length ns) home.2.2 in
    let lies = ap (λ (z : Slot). length (lying z)) home.2.1 in (
      home.0,
      home.1,
      fair-whole k.fair id v at parts all,
      omega (arith, same, k.few),
      omega (arith, k.count, held, frees, same, lies),
      (home.2.0, home.2.1),
    )
  where
    waits_none : (j : ℕ) (u : Stand) → j ≢ id → At (map stand_of s.views) j u → u.parts ≡ 0
    waits_none j u apart e = let t = terms_le parts_of (map stand_of s.views) id j (stand_of v) u apart (stand_at k id v at) e in omega (arith, t, k.turns.parts, all)

    nobody : IsFree 0 (map stand_of s.views)
    nobody j u e same = by u.turn refl
      where
        by : (b : Bool) → u.turn ≡ b → b ≡ false
        by false h = refl
        by true h = absurd (dite (ℕ_discrete j id)
            (λ is. true≢false (sym h ∙ ap (λ (z : Stand). z.turn) (one_way (map stand_of s.views) j id u (stand_of v) is e (stand_at k id v at)) ∙ off))
            (λ apart. let t = (k.turns.turn_is j u e h).0 in let m = k.turns.small j u e in omega (arith, t, m, waits_none j u apart e)))

-- so a pool that was closed by such a pass had this in its slot
pub closed : (made : ℕ) (ws : List ℕ) (xs : List Slot) (id : ℕ) (me : Seated) (slot : Slot) → Final (Seen (AreShared made) id me.0) ws xs → Rests me → me.0.parts ≡ all_parts → get_elem? xs 0 ≡ some slot
    → IsFair me.0 × (me.0.made < 2 ^ 32) × (length (lying slot) + length me.0.pages ≡ me.0.made) × ((y : Vec Page Global) × (slot ≡ Some y))
closed made ws xs id me slot final rests all taken =
    let end = closes made final.0 final.1.0 id me.0 final.1.1 rests.2 all in
    let same : end.0 ≡ slot = some-injective end.0 slot (sym (final.4 0 end.0 end.1) ∙ taken) in
    let lies = ap (λ (z : Slot). length (lying z)) same in
    (end.2, end.3, omega (arith, end.4, lies), (end.5.0, sym same ∙ end.5.1))

-- whether the free list lies in a slot
abbrev pub is_some : Slot → ℕ
is_some None = 0
is_some (Some y) = 1
