use Rattle.std.proofs.Common.{length, map, take}
use Rattle.hm_infer.specs.Numbering.{AllNumbered, a_pat}
use Rattle.hm_infer.proofs.inference.Inference.+patterns.Given as goal

abbrev pub invariant-pats-loop-p : goal.invariant-pats-loop-p
invariant-pats-loop-p l = AllNumbered (map a_pat (take l.p-index l.ps)) (length l.fn.self.nodes.items) (length l.self.nodes.items)
