use Rattle.std.proofs.Common.{◌≡◌, drop}
use Rattle.sml_grammar.specs.Machine.{run, outcome_of}
use Rattle.sml_grammar.proofs.machine.read.Given as goal

abbrev pub invariant-loop-token : goal.invariant-loop-token
invariant-loop-token l = run (drop l.token-index l.tokens) l.stack l.to l.acts.items ≡ outcome_of l.tokens
