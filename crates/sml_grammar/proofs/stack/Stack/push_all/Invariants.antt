use Rattle.std.proofs.Common.{◌≡◌, ◌++◌, vec_len}
use Rattle.sml_grammar.proofs.stack.Stack.push_all.Given as goal

abbrev pub invariant-loop-symbol : goal.invariant-loop-symbol
invariant-loop-symbol g l = l.left.items ++ l.self ≡ l.fn.symbols ++ l.fn.self

abbrev pub decreases-loop-symbol : goal.decreases-loop-symbol
decreases-loop-symbol g l = vec_len l.left
