use Rattle.std.proofs.Common.{◌≡◌, ◌<◌, ℕ, [], get_or}
use Rattle.hm_types.specs.Searching.{Numbered, IsPath, mark_at}
use Rattle.hm_types.proofs.search.is_finite.Given as goal

abbrev pub invariant-loop-i : goal.invariant-loop-i
invariant-loop-i l = Numbered l.parts l.nodes l.asked l.marks l.floor l.stamp × IsPath l.parts l.nodes l.marks l.floor [] × (l.path.items ≡ []) × ((j : ℕ) → j < l.i → l.floor < mark_at l.marks (get_or l.changed j 0))
