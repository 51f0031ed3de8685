use Rattle.std.proofs.Common.{length, map, take}
use Rattle.hm_infer.specs.Numbering.{AllNumbered, an_exp, a_piece, a_rule, a_dec, a_binding, a_function}
use Rattle.hm_infer.proofs.inference.Inference.+programs.Given as goal

abbrev pub invariant-exps-loop-e : goal.invariant-exps-loop-e
invariant-exps-loop-e l = AllNumbered (map an_exp (take l.e-index l.es)) (length l.fn.self.nodes.items) (length l.self.nodes.items)

abbrev pub invariant-sequence-loop-e : goal.invariant-sequence-loop-e
invariant-sequence-loop-e l = AllNumbered (map an_exp (take l.e-index l.es)) (length l.fn.self.nodes.items) (length l.self.nodes.items)

abbrev pub invariant-quotation-loop-piece : goal.invariant-quotation-loop-piece
invariant-quotation-loop-piece l = AllNumbered (map a_piece (take l.piece-index l.pieces)) (length l.fn.self.nodes.items) (length l.self.nodes.items)

abbrev pub invariant-rules-loop-rule : goal.invariant-rules-loop-rule
invariant-rules-loop-rule l = AllNumbered (map a_rule (take l.rule-index l.rules)) (length l.fn.self.nodes.items) (length l.self.nodes.items)

abbrev pub invariant-decs-loop-d : goal.invariant-decs-loop-d
invariant-decs-loop-d l = AllNumbered (map a_dec (take l.d-index l.ds)) (length l.fn.self.nodes.items) (length l.self.nodes.items)

abbrev pub invariant-dec-loop-bind : goal.invariant-dec-loop-bind
invariant-dec-loop-bind l = AllNumbered (map a_binding (take l.bind-index l.bind-items)) (length l.fn.self.nodes.items) (length l.self.nodes.items)

abbrev pub invariant-dec-loop-i : goal.invariant-dec-loop-i
invariant-dec-loop-i l = AllNumbered (map a_function (take l.i l.functions)) (length l.fn.self.nodes.items) (length l.self.nodes.items)
