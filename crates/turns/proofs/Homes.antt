-- What each step keeps true of the slots of objects.
use Rattle.std.proofs.Common.{◌≡◌, ◌∙◌, ℕ, ◌<◌, ◌≢◌, Bool, true, false, true≢false, List, ◌++◌, length, set, sym, refl, ap, subst}
use mathlib.Core.Option.{Option, some, none}
use mathlib.Core.Logic.{dite}
use native.Mathlib.Decide.{ℕ_discrete}
use lib.ListN.{get_elem?}
use Rattle.atomic_table.proofs.Lists.{at_longer, set_else, set_here}
use Rattle.turns.specs.Turns.{Stand, At, AreTurns}
use Rattle.turns.specs.Homes.{IsFree, AreHome}
use Rattle.turns.proofs.Sums.{place, one_way}
use Rattle.turns.proofs.Turns.{only_turn}

module _ {S : Type 0} {objects : ℕ} {lies : ℕ → S → Type 0} {stands : List Stand} {homes : List (Option S)} (h : AreHome objects lies stands homes) where
  -- nobody's turn begins or ends, and what should lie in the slots stays
  pub home-still : (stands' : List Stand) (lies' : ℕ → S → Type 0) → ((o : ℕ) → IsFree o stands' → IsFree o stands) → ((o : ℕ) → o < objects → IsFree o stands' → (y : S) → lies o y → lies' o y) → AreHome objects lies' stands' homes
  home-still stands' lies' free stays = record { home = λ o there none. let old = h.home o there (free o none) in (old.0, old.1, stays o there none old.0 old.2) }

  -- the value of an object goes out with the seat that has its turn now
  pub home-see : (id : ℕ) (me w : Stand) → At stands id me → w.turn ≡ true → w.object ≡ me.object → AreHome objects lies (set stands id w) (set homes me.object none)
  home-see id me w at turn object = record {
    home = λ o there free. dite (ℕ_discrete o me.object)
        (λ same. absurd (true≢false (sym turn ∙ free id w (set_here stands id w (place stands id me at)) (object ∙ sym same))))
        (λ other. let old = h.home o there (others o other free) in (old.0, set_else homes me.object o none other ∙ old.1, old.2));
  }
    where
      others : (o : ℕ) → o ≢ me.object → IsFree o (set stands id w) → IsFree o stands
      others o other free j v e same = dite (ℕ_discrete j id)
          (λ here. absurd (other (sym same ∙ ap (λ (z : Stand). z.object) (one_way stands j id v me here e at))))
          (λ apart. free j v (set_else stands id j w apart ∙ e) same)

  -- the value of an object comes home when its turn ends
  pub home-end : (lies' : ℕ → S → Type 0) (id : ℕ) (me w : Stand) (y : S) → At stands id me → w.turn ≡ false → me.object < length homes → lies' me.object y
      → ((o : ℕ) → o < objects → o ≢ me.object → (z : S) → lies o z → lies' o z) → AreHome objects lies' (set stands id w) (set homes me.object (some y))
  home-end lies' id me w y at turn room here stays = record {
    home = λ o there free. dite (ℕ_discrete o me.object)
        (λ same. subst (λ (p : ℕ). (z : S) × (get_elem? (set homes me.object (some y)) p ≡ some (some z)) × lies' p z) (sym same) (y, set_here homes me.object (some y) room, here))
        (λ other. let old = h.home o there (others o other free) in (old.0, set_else homes me.object o (some y) other ∙ old.1, stays o there other old.0 old.2));
  }
    where
      others : (o : ℕ) → o ≢ me.object → IsFree o (set stands id w) → IsFree o stands
      others o other free j v e same = dite (ℕ_discrete j id)
          (λ is. absurd (other (sym same ∙ ap (λ (z : Stand). z.object) (one_way stands j id v me is e at))))
          (λ apart. free j v (set_else stands id j w apart ∙ e) same)

-- who has no turn may change otherwise
pub free-set : (stands : List Stand) (id : ℕ) (me w : Stand) → At stands id me → me.turn ≡ false → (o : ℕ) → IsFree o (set stands id w) → IsFree o stands
free-set stands id me w at still o free j v e same = dite (ℕ_discrete j id)
    (λ is. ap (λ (z : Stand). z.turn) (one_way stands j id v me is e at) ∙ still)
    (λ apart. free j v (set_else stands id j w apart ∙ e) same)

-- one seat more makes no difference where nobody has the turn
pub free-append : (stands more : List Stand) (o : ℕ) → IsFree o (stands ++ more) → IsFree o stands
free-append stands more o free j v e same = free j v (at_longer stands more j v e) same

-- nobody has the turn of who has the ticket that is served, until it is seen
pub free-unseen : {first objects : ℕ} {words : List ℕ} {stands : List Stand} (k : AreTurns first objects words stands) (id : ℕ) (me : Stand)
    → At stands id me → me.waits ≡ 1 → k.served me.object ≡ me.ticket → me.turn ≡ false → IsFree me.object stands
free-unseen {stands = stands} k id me at waits is still j v e same = by v.turn refl
  where
    by : (b : Bool) → v.turn ≡ b → b ≡ false
    by false h = refl
    by true h = absurd (true≢false (sym h ∙ ap (λ (z : Stand). z.turn) (one_way stands j id v me (only_turn k id me at waits is j v e same h) e at) ∙ still))
