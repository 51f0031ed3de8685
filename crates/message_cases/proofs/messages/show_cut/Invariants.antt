use Rattle.std.proofs.Common.{◌≡◌, true, false}
use Rattle.message_cases.proofs.messages.show_cut.Given as goal

abbrev pub invariant-loop-byte : goal.invariant-loop-byte
invariant-loop-byte l = l.more ≡ true → l.reader.closed ≡ false

abbrev pub invariant-asking : goal.invariant-asking
invariant-asking l = l.more ≡ true → l.reader.closed ≡ false
