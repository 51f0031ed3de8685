use Rattle.std.proofs.Common.{◌≡◌, length}
use Rattle.std.specs.Prelude.{option_copied}
use Rattle.sml_grammar.specs.Machine.{feed}
use Rattle.sml_grammar.proofs.machine.feed.Given as goal

abbrev pub invariant-loop-symbol : goal.invariant-loop-symbol
invariant-loop-symbol l = feed (option_copied l.token) l.stack l.to l.acts.items ≡ feed (option_copied l.fn.token) l.fn.stack l.fn.to l.fn.acts.items

abbrev pub decreases-loop-symbol : goal.decreases-loop-symbol
decreases-loop-symbol l = length l.stack
