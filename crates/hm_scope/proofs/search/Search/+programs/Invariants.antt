use Rattle.std.proofs.Common.{take}
use Rattle.typing_rules.specs.Scope.{UnboundInExp, UnboundInRule, BindsAll, antiquoted, first_parts}
use Rattle.hm_scope.specs.Least.{Sees, Some_of, SeesDecs}
use Rattle.hm_scope.proofs.Declarations.{InBinding, FunctionsSeen}
use Rattle.hm_scope.proofs.search.Search.+programs.Given as goal

abbrev pub invariant-exps-loop-e : goal.invariant-exps-loop-e
invariant-exps-loop-e l = Sees (Some_of (UnboundInExp l.fn.self.names) (take l.e-index l.es)) l.fn.self l.self

abbrev pub invariant-rules-loop-rule : goal.invariant-rules-loop-rule
invariant-rules-loop-rule l = Sees (Some_of (UnboundInRule l.fn.self.names) (take l.rule-index l.rules)) l.fn.self l.self

abbrev pub invariant-pieces-loop-piece : goal.invariant-pieces-loop-piece
invariant-pieces-loop-piece l = Sees (Some_of (UnboundInExp l.fn.self.names) (antiquoted (take l.piece-index l.pieces))) l.fn.self l.self

abbrev pub invariant-decs-loop-d : goal.invariant-decs-loop-d
invariant-decs-loop-d l = SeesDecs (take l.d-index l.ds) l.fn.self l.self

abbrev pub invariant-dec-loop-bind : goal.invariant-dec-loop-bind
invariant-dec-loop-bind l = Sees (Some_of (InBinding l.fn.self.names) (take l.bind-index l.bind-items)) l.fn.self l.self
    × BindsAll l.fn.self.names (first_parts (take l.bind-index l.bind-items)) l.names.items

abbrev pub invariant-dec-loop-bind-2 : goal.invariant-dec-loop-bind-2
invariant-dec-loop-bind-2 l = FunctionsSeen l.bind-items (take l.bind-index l.bind-items) l.fn.self l.self
