-- What each step of a seat keeps true of turns.
use Rattle.std.proofs.Common.{◌≡◌, ◌∙◌, ℕ, zero, suc, ◌+◌, ◌-◌, ◌*◌, ◌%◌, ◌^◌, ◌<◌, ◌≤◌, ◌≢◌, ◌⊎◌, inl, inr, Bool, true, false, true≢false, List, [], ◌∷◌, ◌++◌, length, set, sym, refl, ap, subst, ⊎_elim, arith, length-set, get_or-set_other, get_or-set_same}
use Rattle.std.specs.Prelude.{slice_index, if◌then◌else◌, ◌==◌}
use Rattle.std.proofs.Math.Nat.{mod-add-mod}
use Rattle.std.proofs.lemmas.Bool.Decides.{nat_tests}
use mathlib.Core.Option.{some-injective, some-ne-none}
use mathlib.Core.Logic.{dite}
use native.Mathlib.Decide.{ℕ_discrete}
use lib.ListN.{get_elem?}
use Rattle.atomic_table.proofs.Lists.{at_set, set_else, at_snoc, one_turn}
use Rattle.turns.specs.Turns.{Stand, AreTurns, At, total, waits_at, parts_of, all_parts, ticket_word, serving_word, idle, queued_at, turn_at, ended}
use Rattle.turns.proofs.Sums.{total-set, total-append, total_le}

-- a number changed at one object
abbrev pub at_object : ℕ → ℕ → (ℕ → ℕ) → ℕ → ℕ
at_object o n f p = if p == o then n else f p

pub at_object-same : (o n : ℕ) (f : ℕ → ℕ) (p : ℕ) → p ≡ o → at_object o n f p ≡ n
at_object-same o n f p e = grind (arith, nat_tests)

pub at_object-other : (o n : ℕ) (f : ℕ → ℕ) (p : ℕ) → p ≢ o → at_object o n f p ≡ f p
at_object-other o n f p ne = grind (arith, nat_tests)

pub waits_at-same : (o : ℕ) (v : Stand) → v.object ≡ o → waits_at o v ≡ v.waits
waits_at-same o v e = grind (arith, nat_tests)

pub waits_at-other : (o : ℕ) (v : Stand) → v.object ≢ o → waits_at o v ≡ 0
waits_at-other o v ne = grind (arith, nat_tests)

pub waits_at-idle : (o : ℕ) (v : Stand) → v.waits ≡ 0 → waits_at o v ≡ 0
waits_at-idle o v e = grind (arith, nat_tests)

pub waits_at-le : (o : ℕ) (v : Stand) → waits_at o v ≤ v.waits
waits_at-le o v = grind (arith, nat_tests)

pub at_object-more : (o : ℕ) (f : ℕ → ℕ) (p : ℕ) → f p ≤ at_object o (f o + 1) f p
at_object-more o f p = dite (ℕ_discrete p o) (λ e. omega (arith, at_object-same o (f o + 1) f p e, ap f e)) (λ ne. omega (arith, at_object-other o (f o + 1) f p ne))

module _ {first objects : ℕ} {words : List ℕ} {stands : List Stand} (k : AreTurns first objects words stands) (id : ℕ) (me : Stand) (at : At stands id me) where
  -- who waits for nothing has no turn
  pub no_turn : me.waits ≡ 0 → me.turn ≡ false
  no_turn none = by me.turn refl
    where
      by : (b : Bool) → me.turn ≡ b → b ≡ false
      by false e = refl
      by true e = absurd (let h = (k.turn_is id me at e).0 in omega (arith, h, none))

  -- at an object, fewer wait than there are parts
  pub few_wait : (o : ℕ) → total (waits_at o) stands ≤ all_parts
  few_wait o =
      let less = total_le (waits_at o) parts_of stands (λ j v e. let h = k.small j v e in omega (arith, h, waits_at-le o v)) in
      omega (arith, less, k.parts)

  -- the serving word tells whose turn it is, by its last 64 bits
  pub served_is : me.waits ≡ 1 → slice_index words (serving_word first me.object) ≡ me.ticket % 2 ^ 64 → k.served me.object ≡ me.ticket
  served_is waits found =
      let q = k.queued id me at waits in
      one_turn (k.served me.object) me.ticket (2 ^ 64) q.1 (omega (arith, q.2, k.waiting me.object q.0, few_wait me.object)) (sym (k.serves me.object q.0) ∙ found)

  -- nobody else has the turn of who has the ticket that is served
  pub only_turn : me.waits ≡ 1 → k.served me.object ≡ me.ticket → (j : ℕ) (v : Stand) → At stands j v → v.object ≡ me.object → v.turn ≡ true → j ≡ id
  only_turn waits is j v e same turn =
      let t = k.turn_is j v e turn in
      k.differ j id v me e at t.0 waits same (t.1 ∙ ap k.served same ∙ is)

  -- a ticket is drawn
  pub draw : me.waits ≡ 0 → 0 < me.parts → (o : ℕ) → o < objects
      → AreTurns first objects (set words (ticket_word first o) ((slice_index words (ticket_word first o) + 1) % 2 ^ 64)) (set stands id (queued_at o (k.drawn o) me))
  draw none some_part o there = record {
    drawn = at_object o (k.drawn o + 1) k.drawn;
    served = k.served;
    wide = omega (arith, k.wide, length-set words (ticket_word first o) new_word);
    draws = λ p h. dite (ℕ_discrete p o)
        (λ e. subst (λ (q : ℕ). slice_index (set words (ticket_word first o) new_word) (ticket_word first q) ≡ at_object o (k.drawn o + 1) k.drawn q % 2 ^ 64) (sym e) here)
        (λ ne. get_or-set_other words (ticket_word first o) (ticket_word first p) new_word 0 (λ e. ne (omega arith)) ∙ k.draws p h ∙ ap (λ (n : ℕ). n % 2 ^ 64) (sym (at_object-other o (k.drawn o + 1) k.drawn p ne)));
    serves = λ p h. get_or-set_other words (ticket_word first o) (serving_word first p) new_word 0 (λ e. omega arith) ∙ k.serves p h;
    parts = omega (arith, total-set parts_of stands id me w at, k.parts);
    waiting = λ p h. dite (ℕ_discrete p o)
        (λ e. omega (arith, k.waiting p h, total-set (waits_at p) stands id me w at, waits_at-idle p me none, waits_at-same p w (sym e), at_object-same o (k.drawn o + 1) k.drawn p e, ap k.drawn e))
        (λ ne. omega (arith, k.waiting p h, total-set (waits_at p) stands id me w at, waits_at-idle p me none, waits_at-other p w (λ e. ne (sym e)), at_object-other o (k.drawn o + 1) k.drawn p ne));
    small = λ j v e. ⊎_elim (λ t. subst (λ (u : Stand). u.waits ≤ u.parts) t.1 some_part) (λ t. k.small j v t.1) (at_set stands id j w v e);
    queued = λ j v e q. ⊎_elim
        (λ t. subst (λ (u : Stand). (u.object < objects) × (k.served u.object ≤ u.ticket) × (u.ticket < at_object o (k.drawn o + 1) k.drawn u.object)) t.1
        (there, omega (arith, k.waiting o there), omega (arith, at_object-same o (k.drawn o + 1) k.drawn o refl)))
        (λ t. let old = k.queued j v t.1 q in (old.0, old.1, omega (arith, old.2, at_object-more o k.drawn v.object)))
        (at_set stands id j w v e);
    differ = λ i j u v e f p q same_object same. ⊎_elim
        (λ t. ⊎_elim (λ r. t.0 ∙ sym r.0)
        (λ r. absurd (newer j v r.1 q (sym (ap (λ (z : Stand). z.object) t.1 ∙ same_object)) (ap (λ (z : Stand). z.ticket) t.1 ∙ same)))
        (at_set stands id j w v f))
        (λ t. ⊎_elim
        (λ r. absurd (newer i u t.1 p (same_object ∙ sym (ap (λ (z : Stand). z.object) r.1)) (ap (λ (z : Stand). z.ticket) r.1 ∙ sym same)))
        (λ r. k.differ i j u v t.1 r.1 p q same_object same)
        (at_set stands id j w v f))
        (at_set stands id i w u e);
    turn_is = λ j v e h. ⊎_elim
        (λ t. absurd (true≢false (sym h ∙ sym (ap (λ (z : Stand). z.turn) t.1))))
        (λ t. k.turn_is j v t.1 h)
        (at_set stands id j w v e);
  }
    where
      w : Stand
      w = queued_at o (k.drawn o) me

      new_word : ℕ
      new_word = (slice_index words (ticket_word first o) + 1) % 2 ^ 64

      here : slice_index (set words (ticket_word first o) new_word) (ticket_word first o) ≡ at_object o (k.drawn o + 1) k.drawn o % 2 ^ 64
      here = get_or-set_same words (ticket_word first o) new_word 0 (omega (arith, k.wide))
          ∙ (ap (λ (n : ℕ). (n + 1) % 2 ^ 64) (k.draws o there) ∙ mod-add-mod (k.drawn o) (2 ^ 64) 1)
          ∙ ap (λ (n : ℕ). n % 2 ^ 64) (sym (at_object-same o (k.drawn o + 1) k.drawn o refl))

      newer : (j : ℕ) (v : Stand) → At stands j v → v.waits ≡ 1 → v.object ≡ o → k.drawn o ≡ v.ticket → ⊥
      newer j v e q object same = let old = (k.queued j v e q).2 in omega (arith, old, ap k.drawn object, same)

  -- the turn is seen
  pub see : me.waits ≡ 1 → k.served me.object ≡ me.ticket → AreTurns first objects words (set stands id (turn_at me))
  see waits is = record {
    drawn = k.drawn;
    served = k.served;
    wide = k.wide;
    draws = k.draws;
    serves = k.serves;
    parts = omega (arith, total-set parts_of stands id me w at, k.parts);
    waiting = λ p h. let e : waits_at p me ≡ waits_at p w = refl in omega (arith, k.waiting p h, total-set (waits_at p) stands id me w at, e);
    small = λ j v e. ⊎_elim (λ t. subst (λ (u : Stand). u.waits ≤ u.parts) t.1 (k.small id me at)) (λ t. k.small j v t.1) (at_set stands id j w v e);
    queued = λ j v e q. ⊎_elim (λ t. subst (λ (u : Stand). (u.object < objects) × (k.served u.object ≤ u.ticket) × (u.ticket < k.drawn u.object)) t.1 (k.queued id me at waits)) (λ t. k.queued j v t.1 q) (at_set stands id j w v e);
    differ = λ i j u v e f p q same_object same. let a = old i u e in let b = old j v f in
        k.differ i j a.0 b.0 a.1 b.1 (a.2 ∙ p) (b.2 ∙ q) (a.3 ∙ same_object ∙ sym b.3) (a.4 ∙ same ∙ sym b.4);
    turn_is = λ j v e h. ⊎_elim (λ t. subst (λ (u : Stand). (u.waits ≡ 1) × (u.ticket ≡ k.served u.object)) t.1 (waits, sym is)) (λ t. k.turn_is j v t.1 h) (at_set stands id j w v e);
  }
    where
      w : Stand
      w = turn_at me

      old : (j : ℕ) (v : Stand) → At (set stands id w) j v → (u : Stand) × At stands j u × (u.waits ≡ v.waits) × (u.object ≡ v.object) × (u.ticket ≡ v.ticket)
      old j v e = ⊎_elim
          (λ t. (me, ap (λ (i : ℕ). get_elem? stands i) t.0 ∙ at, ap (λ (z : Stand). z.waits) t.1, ap (λ (z : Stand). z.object) t.1, ap (λ (z : Stand). z.ticket) t.1))
          (λ t. (v, t.1, refl, refl, refl))
          (at_set stands id j w v e)

  -- the turn ends, and the next ticket is served
  pub end : me.turn ≡ true
      → AreTurns first objects (set words (serving_word first me.object) ((slice_index words (serving_word first me.object) + 1) % 2 ^ 64)) (set stands id (ended me))
  end turn = record {
    drawn = k.drawn;
    served = at_object o (k.served o + 1) k.served;
    wide = omega (arith, k.wide, length-set words (serving_word first o) new_word);
    draws = λ p h. get_or-set_other words (serving_word first o) (ticket_word first p) new_word 0 (λ e. omega arith) ∙ k.draws p h;
    serves = λ p h. dite (ℕ_discrete p o)
        (λ e. subst (λ (q : ℕ). slice_index (set words (serving_word first o) new_word) (serving_word first q) ≡ at_object o (k.served o + 1) k.served q % 2 ^ 64) (sym e) here)
        (λ ne. get_or-set_other words (serving_word first o) (serving_word first p) new_word 0 (λ e. ne (omega arith)) ∙ k.serves p h ∙ ap (λ (n : ℕ). n % 2 ^ 64) (sym (at_object-other o (k.served o + 1) k.served p ne)));
    parts = omega (arith, total-set parts_of stands id me w at, k.parts);
    waiting = λ p h. dite (ℕ_discrete p o)
        (λ e. omega (arith, k.waiting p h, total-set (waits_at p) stands id me w at, waits_at-same p me (sym e), mine.0, waits_at-idle p w refl, at_object-same o (k.served o + 1) k.served p e, ap k.served e))
        (λ ne. omega (arith, k.waiting p h, total-set (waits_at p) stands id me w at, waits_at-other p me (λ e. ne (sym e)), waits_at-idle p w refl, at_object-other o (k.served o + 1) k.served p ne));
    small = λ j v e. ⊎_elim (λ t. subst (λ (u : Stand). u.waits ≤ u.parts) t.1 (omega arith)) (λ t. k.small j v t.1) (at_set stands id j w v e);
    queued = λ j v e q. ⊎_elim
        (λ t. absurd (let h = ap (λ (z : Stand). z.waits) t.1 in omega (arith, h, q)))
        (λ t. let old = k.queued j v t.1 q in (old.0, later j v t.0 t.1 q old.1, old.2))
        (at_set stands id j w v e);
    differ = λ i j u v e f p q same_object same. ⊎_elim
        (λ t. absurd (let h = ap (λ (z : Stand). z.waits) t.1 in omega (arith, h, p)))
        (λ t. ⊎_elim
        (λ r. absurd (let h = ap (λ (z : Stand). z.waits) r.1 in omega (arith, h, q)))
        (λ r. k.differ i j u v t.1 r.1 p q same_object same)
        (at_set stands id j w v f))
        (at_set stands id i w u e);
    turn_is = λ j v e h. ⊎_elim
        (λ t. absurd (true≢false (sym h ∙ sym (ap (λ (z : Stand). z.turn) t.1))))
        (λ t. let old = k.turn_is j v t.1 h in
        (old.0, old.1 ∙ sym (at_object-other o (k.served o + 1) k.served v.object (λ same. t.0 (only_turn mine.0 (sym mine.1) j v t.1 same h)))))
        (at_set stands id j w v e);
  }
    where
      o : ℕ
      o = me.object

      w : Stand
      w = ended me

      new_word : ℕ
      new_word = (slice_index words (serving_word first o) + 1) % 2 ^ 64

      mine : (me.waits ≡ 1) × (me.ticket ≡ k.served o)
      mine = k.turn_is id me at turn

      there : o < objects
      there = (k.queued id me at mine.0).0

      here : slice_index (set words (serving_word first o) new_word) (serving_word first o) ≡ at_object o (k.served o + 1) k.served o % 2 ^ 64
      here = get_or-set_same words (serving_word first o) new_word 0 (omega (arith, k.wide, there))
          ∙ (ap (λ (n : ℕ). (n + 1) % 2 ^ 64) (k.serves o there) ∙ mod-add-mod (k.served o) (2 ^ 64) 1)
          ∙ ap (λ (n : ℕ). n % 2 ^ 64) (sym (at_object-same o (k.served o + 1) k.served o refl))

      later : (j : ℕ) (v : Stand) → j ≢ id → At stands j v → v.waits ≡ 1 → k.served v.object ≤ v.ticket → at_object o (k.served o + 1) k.served v.object ≤ v.ticket
      later j v other e q le = dite (ℕ_discrete v.object o)
          (λ same. let apart : v.ticket ≢ k.served o = (λ ticket. other (k.differ j id v me e at q mine.0 same (ticket ∙ sym mine.1))) in
          omega (arith, at_object-same o (k.served o + 1) k.served v.object same, ap k.served same, le, apart))
          (λ ne. omega (arith, at_object-other o (k.served o + 1) k.served v.object ne, le))

  -- another seat gets one part
  pub split : me.waits ≡ 0 → 2 ≤ me.parts → AreTurns first objects words (set stands id (idle (me.parts - 1)) ++ idle 1 ∷ [])
  split none two = record {
    drawn = k.drawn;
    served = k.served;
    wide = k.wide;
    draws = k.draws;
    serves = k.serves;
    parts = omega (arith, total-append parts_of (set stands id w) (idle 1 ∷ []), total-set parts_of stands id me w at, k.parts);
    waiting = λ p h. omega (arith, k.waiting p h, total-append (waits_at p) (set stands id w) (idle 1 ∷ []), total-set (waits_at p) stands id me w at, waits_at-idle p me none, waits_at-idle p w refl, waits_at-idle p (idle 1) refl);
    small = λ j v e. ⊎_elim (λ t. k.small j v t) (λ i. subst (λ (u : Stand). u.waits ≤ u.parts) i (omega arith)) (each j v e);
    queued = λ j v e q. ⊎_elim (λ t. k.queued j v t q) (λ i. absurd (let h = ap (λ (z : Stand). z.waits) i in omega (arith, h, q))) (each j v e);
    differ = λ i j u v e f p q same_object same. ⊎_elim
        (λ t. ⊎_elim (λ r. k.differ i j u v t r p q same_object same) (λ r. absurd (let h = ap (λ (z : Stand). z.waits) r in omega (arith, h, q))) (each j v f))
        (λ t. absurd (let h = ap (λ (z : Stand). z.waits) t in omega (arith, h, p)))
        (each i u e);
    turn_is = λ j v e h. ⊎_elim (λ t. k.turn_is j v t h) (λ i. absurd (true≢false (sym h ∙ sym (ap (λ (z : Stand). z.turn) i)))) (each j v e);
  }
    where
      w : Stand
      w = idle (me.parts - 1)

      each : (j : ℕ) (v : Stand) → At (set stands id w ++ idle 1 ∷ []) j v → At stands j v ⊎ (idle v.parts ≡ v)
      each j v e = ⊎_elim
          (λ a. ⊎_elim (λ t. inr (ap (λ (z : Stand). idle z.parts) (sym t.1) ∙ t.1)) (λ t. inl t.1) (at_set stands id j w v a))
          (λ b. inr (ap (λ (z : Stand). idle z.parts) (sym b) ∙ b))
          (at_snoc (set stands id w) (idle 1) v j e)

  -- all parts of another go to this seat
  pub join : me.waits ≡ 0 → (other : ℕ) (they : Stand) → other ≢ id → At stands other they → they.waits ≡ 0
      → AreTurns first objects words (set (set stands id (idle (me.parts + they.parts))) other (idle 0))
  join none other they apart there none_there = record {
    drawn = k.drawn;
    served = k.served;
    wide = k.wide;
    draws = k.draws;
    serves = k.serves;
    parts = omega (arith, total-set parts_of (set stands id w) other they (idle 0) there', total-set parts_of stands id me w at, k.parts);
    waiting = λ p h. omega (arith, k.waiting p h, total-set (waits_at p) (set stands id w) other they (idle 0) there', total-set (waits_at p) stands id me w at, waits_at-idle p me none, waits_at-idle p they none_there, waits_at-idle p w refl, waits_at-idle p (idle 0) refl);
    small = λ j v e. ⊎_elim (λ t. k.small j v t) (λ i. subst (λ (u : Stand). u.waits ≤ u.parts) i (omega arith)) (each j v e);
    queued = λ j v e q. ⊎_elim (λ t. k.queued j v t q) (λ i. absurd (let h = ap (λ (z : Stand). z.waits) i in omega (arith, h, q))) (each j v e);
    differ = λ i j u v e f p q same_object same. ⊎_elim
        (λ t. ⊎_elim (λ r. k.differ i j u v t r p q same_object same) (λ r. absurd (let h = ap (λ (z : Stand). z.waits) r in omega (arith, h, q))) (each j v f))
        (λ t. absurd (let h = ap (λ (z : Stand). z.waits) t in omega (arith, h, p)))
        (each i u e);
    turn_is = λ j v e h. ⊎_elim (λ t. k.turn_is j v t h) (λ i. absurd (true≢false (sym h ∙ sym (ap (λ (z : Stand). z.turn) i)))) (each j v e);
  }
    where
      w : Stand
      w = idle (me.parts + they.parts)

      there' : At (set stands id w) other they
      there' = set_else stands id other w apart ∙ there

      each : (j : ℕ) (v : Stand) → At (set (set stands id w) other (idle 0)) j v → At stands j v ⊎ (idle v.parts ≡ v)
      each j v e = ⊎_elim
          (λ t. inr (ap (λ (z : Stand). idle z.parts) (sym t.1) ∙ t.1))
          (λ a. ⊎_elim (λ t. inr (ap (λ (z : Stand). idle z.parts) (sym t.1) ∙ t.1)) (λ t. inl t.1) (at_set stands id j w v a.1))
          (at_set (set stands id w) other j (idle 0) v e)

-- a step on a word of other use changes no turn
pub elsewhere : {first objects : ℕ} {words : List ℕ} {stands : List Stand} (i n : ℕ) → i < first → AreTurns first objects words stands → AreTurns first objects (set words i n) stands
elsewhere {first} {objects} {words} {stands} i n before k = record {
  drawn = k.drawn;
  served = k.served;
  wide = omega (arith, k.wide, length-set words i n);
  draws = λ p h. get_or-set_other words i (ticket_word first p) n 0 (λ e. omega (arith, before, e)) ∙ k.draws p h;
  serves = λ p h. get_or-set_other words i (serving_word first p) n 0 (λ e. omega (arith, before, e)) ∙ k.serves p h;
  parts = k.parts;
  waiting = k.waiting;
  small = k.small;
  queued = k.queued;
  differ = k.differ;
  turn_is = k.turn_is;
}

-- a table's first seat has all parts
pub opens : (first objects : ℕ) (words : List ℕ) → first + 2 * objects ≤ length words
    → ((o : ℕ) → o < objects → (slice_index words (ticket_word first o) ≡ 0) × (slice_index words (serving_word first o) ≡ 0))
    → AreTurns first objects words (idle all_parts ∷ [])
opens first objects words wide zeros = record {
  drawn = λ _. 0;
  served = λ _. 0;
  wide = wide;
  draws = λ o h. (zeros o h).0;
  serves = λ o h. (zeros o h).1;
  parts = refl;
  waiting = λ o h. let e = waits_at-idle o (idle all_parts) refl in omega (arith, e);
  small = λ j v e. subst (λ (u : Stand). u.waits ≤ u.parts) (first_is j v e) (omega arith);
  queued = λ j v e q. absurd (let h = ap (λ (z : Stand). z.waits) (first_is j v e) in omega (arith, h, q));
  differ = λ i j u v e f p q same_object same. absurd (let h = ap (λ (z : Stand). z.waits) (first_is i u e) in omega (arith, h, p));
  turn_is = λ j v e h. absurd (true≢false (sym h ∙ sym (ap (λ (z : Stand). z.turn) (first_is j v e))));
}
  where
    first_is : (j : ℕ) (v : Stand) → At (idle all_parts ∷ []) j v → idle all_parts ≡ v
    first_is zero v e = some-injective (idle all_parts) v e
    first_is (suc j) v e = absurd (some-ne-none v (sym e))
