use Rattle.std.proofs.Common.{length, map, take}
use Rattle.hm_infer.specs.Numbering.{AllNumbered, a_dec}
use Rattle.hm_infer.proofs.program.inferred.Given as goal

abbrev pub invariant-loop-d : goal.invariant-loop-d
invariant-loop-d l = AllNumbered (map a_dec (take l.d-index l.d-items)) 0 (length l.inference.nodes.items)
