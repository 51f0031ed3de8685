use Rattle.std.proofs.Common.{◌≡◌, take}
use Rattle.region_syntax.proofs.+region_term_copies.Given as goal

abbrev pub invariant-copy::region::copy_exps-loop-exp : goal.invariant-copy::region::copy_exps-loop-exp
invariant-copy::region::copy_exps-loop-exp l = l.copies.items ≡ take l.exp-index l.exp-items

abbrev pub invariant-copy::region::copy_rules-loop-rule : goal.invariant-copy::region::copy_rules-loop-rule
invariant-copy::region::copy_rules-loop-rule l = l.copies.items ≡ take l.rule-index l.rule-items

abbrev pub invariant-copy::region::copy_pieces-loop-piece : goal.invariant-copy::region::copy_pieces-loop-piece
invariant-copy::region::copy_pieces-loop-piece l = l.copies.items ≡ take l.piece-index l.piece-items

abbrev pub invariant-copy::region::copy_decs-loop-dec : goal.invariant-copy::region::copy_decs-loop-dec
invariant-copy::region::copy_decs-loop-dec l = l.copies.items ≡ take l.dec-index l.dec-items

abbrev pub invariant-copy::region::copy_group-loop-def : goal.invariant-copy::region::copy_group-loop-def
invariant-copy::region::copy_group-loop-def l = l.copies.items ≡ take l.def-index l.def-items

abbrev pub invariant-copy::region::copy_binds-loop-bind : goal.invariant-copy::region::copy_binds-loop-bind
invariant-copy::region::copy_binds-loop-bind l = l.copies.items ≡ take l.bind-index l.bind-items
