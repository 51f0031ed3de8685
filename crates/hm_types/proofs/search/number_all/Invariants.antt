use Rattle.std.proofs.Common.{◌+◌, ◌≤◌, ℕ, length}
use Rattle.hm_types.specs.Searching.{Numbered, IsPath, unseen, mark_at}
use Rattle.hm_types.proofs.search.number_all.Given as goal

abbrev pub invariant-loop-path : goal.invariant-loop-path
invariant-loop-path l = Numbered l.parts l.nodes l.asked l.marks l.floor l.stamp × IsPath l.parts l.nodes l.marks l.floor l.path.items × ((c : ℕ) → l.floor ≤ mark_at l.initial.marks c → l.floor ≤ mark_at l.marks c)

abbrev pub decreases-loop-path : goal.decreases-loop-path
decreases-loop-path l = length l.path.items + (unseen l.floor l.marks + unseen l.floor l.marks)
