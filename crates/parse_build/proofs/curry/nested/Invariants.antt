use Rattle.std.proofs.Common.{◌≡◌, ◌-◌}
use Rattle.grammar_rules.specs.Nodes.{nested}
use Rattle.parse_build.proofs.curry.nested.Given as goal

abbrev pub invariant-loop-number : goal.invariant-loop-number
invariant-loop-number l = nested l.span 2 (l.number - 1) l.body ≡ nested l.fn.span 2 (l.fn.count - 1) l.fn.body

abbrev pub decreases-loop-number : goal.decreases-loop-number
decreases-loop-number l = l.number
