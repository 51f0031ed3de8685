-- What a pass of a shared pool knows, and what each of its steps makes of it.
--     blank                          a new pass
--     queued, with_turn              it drew a ticket, it has the turn
--     took, missed, gave             its turn ended: a page came, there was none, a page went back
--     left_of_split, both_of_join    it was cut in two, another was joined to it
use Rattle.std.specs.Prelude.{◌≡◌, ℕ, ◌+◌, ◌-◌, ◌<◌, max, true, false, List, [], ◌∷◌, ◌++◌, length, Option, Some, None}
use Rattle.std.specs.declared.alloc.Global.{Global}
use Rattle.std.specs.declared.vec.Vec.{Vec}
use Rattle.turns.specs.Turns.{Stand}
use Rattle.page_pool.specs.Holding.{lesser}
use Rattle.page_pool.specs.Lone.{without}
use Rattle.page_pool.specs.PageWords.{numbers}
use Rattle.page_pool.specs.declared.page.Page.{Page}
use Rattle.page_pool.specs.declared.view.View.{View}

-- what it has to do with turns; the free list is the one object
abbrev pub stand_of : View → Stand
stand_of v = record { parts = v.parts; waits = v.waits; object = 0; ticket = v.ticket; turn = v.turn }

-- a pass that was just made
abbrev pub blank : ℕ → ℕ → View
blank made parts = record { parts = parts; waits = 0; ticket = 0; turn = false; made = made; found = []; pages = []; peak = 0; low = None; askers = 0 }

-- what is left of a pass that was joined to another
abbrev pub gone : View
gone = blank 0 0

abbrev pub queued : ℕ → View → View
queued t v = record v { waits = 1; ticket = t; turn = false }

abbrev pub with_turn : List ℕ → View → View
with_turn free v = record v { turn = true; found = free }

-- the turn is over
abbrev pub rested : View → View
rested v = record v { waits = 0; ticket = 0; turn = false }

-- the last of some numbers
abbrev pub last_of : List ℕ → ℕ
last_of [] = 0
last_of (n ∷ []) = n
last_of (n ∷ m ∷ ms) = last_of (m ∷ ms)

-- the last of the pages that were found came
abbrev pub took : View → View
took v = record (rested v) { pages = last_of v.found ∷ v.pages; peak = max v.peak (length v.pages + 1); askers = max 1 v.askers }

-- there was none
abbrev pub missed : View → View
missed v = record (rested v) { low = Some (lesser v.low (length v.pages)); askers = max 1 v.askers }

-- a page went back
abbrev pub gave : ℕ → View → View
gave n v = record (rested v) { pages = without n v.pages }

-- what is left with a pass from which one part was split off
abbrev pub left_of_split : View → View
left_of_split v = record (rested v) { parts = v.parts - 1 }

-- the pass that got it
abbrev pub right_of_split : View → View
right_of_split v = blank v.made 1

-- the lesser of two numbers, each of which may be absent
abbrev pub lower : Option ℕ → Option ℕ → Option ℕ
lower a None = a
lower a (Some n) = Some (lesser a n)

abbrev pub both_of_join : View → View → View
both_of_join v w = record (rested v) {
  parts = v.parts + w.parts;
  pages = v.pages ++ w.pages;
  peak = max (max v.peak w.peak) (length v.pages + length w.pages);
  low = lower v.low w.low;
  askers = v.askers + w.askers;
}

-- what lies in the slot: the free pages, or nothing while they are out
abbrev pub Slot : Type 0
Slot = Option (Vec Page Global)

-- what a seat knows, and the slots that are out with it
abbrev pub Seated : Type 0
Seated = View × List (ℕ × Slot)

-- it waits for nothing, has no slot out, and is a part of the right to wait
abbrev pub Rests : Seated → Type 0
Rests m = (m.0.waits ≡ 0) × (m.0.ticket ≡ 0) × (m.0.turn ≡ false) × (m.1 ≡ []) × (0 < m.0.parts)

-- the numbers of the pages that lie in a slot
abbrev pub lying : Slot → List ℕ
lying None = []
lying (Some y) = numbers y.items

-- the numbers of those in the slot that was taken last
abbrev pub carried : List (ℕ × Slot) → List ℕ
carried [] = []
carried (x ∷ xs) = lying x.1
