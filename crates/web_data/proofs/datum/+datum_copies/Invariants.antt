use Rattle.std.proofs.Common.{◌≡◌, take}
use Rattle.web_data.proofs.datum.+datum_copies.Given as goal

abbrev pub invariant-copy_data-loop-datum : goal.invariant-copy_data-loop-datum
invariant-copy_data-loop-datum l = l.copies.items ≡ take l.datum-index l.datum-items
