use Rattle.std.proofs.Common.{◌≡◌, take}
use Rattle.region_syntax.proofs.+specialised_term_copies.Given as goal

abbrev pub invariant-copy::specialised::copy_exps-loop-exp : goal.invariant-copy::specialised::copy_exps-loop-exp
invariant-copy::specialised::copy_exps-loop-exp l = l.copies.items ≡ take l.exp-index l.exp-items

abbrev pub invariant-copy::specialised::copy_rules-loop-rule : goal.invariant-copy::specialised::copy_rules-loop-rule
invariant-copy::specialised::copy_rules-loop-rule l = l.copies.items ≡ take l.rule-index l.rule-items

abbrev pub invariant-copy::specialised::copy_pieces-loop-piece : goal.invariant-copy::specialised::copy_pieces-loop-piece
invariant-copy::specialised::copy_pieces-loop-piece l = l.copies.items ≡ take l.piece-index l.piece-items

abbrev pub invariant-copy::specialised::copy_decs-loop-dec : goal.invariant-copy::specialised::copy_decs-loop-dec
invariant-copy::specialised::copy_decs-loop-dec l = l.copies.items ≡ take l.dec-index l.dec-items

abbrev pub invariant-copy::specialised::copy_binds-loop-bind : goal.invariant-copy::specialised::copy_binds-loop-bind
invariant-copy::specialised::copy_binds-loop-bind l = l.copies.items ≡ take l.bind-index l.bind-items

abbrev pub invariant-copy::specialised::copy_group-loop-def : goal.invariant-copy::specialised::copy_group-loop-def
invariant-copy::specialised::copy_group-loop-def l = l.copies.items ≡ take l.def-index l.def-items
