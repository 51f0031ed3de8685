use Rattle.std.proofs.Common.{◌≡◌, map, take}
use Rattle.region_syntax.specs.GroundTerms.{ground_exp, ground_rule, ground_bind, ground_piece, ground_def, ground_dec}
use Rattle.region_syntax.specs.Erasure.{exp_erasure, rule_erasure, bind_erasure, piece_erasure, def_erasure, dec_erasure}
use Rattle.region_erase.proofs.terms.+term_erasures.Given as goal

abbrev pub invariant-erase_exps-loop-exp : goal.invariant-erase_exps-loop-exp
invariant-erase_exps-loop-exp l = map ground_exp l.erased.items ≡ map exp_erasure (take l.exp-index l.exp-items)

abbrev pub invariant-erase_rules-loop-rule : goal.invariant-erase_rules-loop-rule
invariant-erase_rules-loop-rule l = map ground_rule l.erased.items ≡ map rule_erasure (take l.rule-index l.rule-items)

abbrev pub invariant-erase_binds-loop-bind : goal.invariant-erase_binds-loop-bind
invariant-erase_binds-loop-bind l = map ground_bind l.erased.items ≡ map bind_erasure (take l.bind-index l.bind-items)

abbrev pub invariant-erase_pieces-loop-piece : goal.invariant-erase_pieces-loop-piece
invariant-erase_pieces-loop-piece l = map ground_piece l.erased.items ≡ map piece_erasure (take l.piece-index l.piece-items)

abbrev pub invariant-erase_group-loop-def : goal.invariant-erase_group-loop-def
invariant-erase_group-loop-def l = map ground_def l.erased.items ≡ map def_erasure (take l.def-index l.def-items)

abbrev pub invariant-erase_decs-loop-dec : goal.invariant-erase_decs-loop-dec
invariant-erase_decs-loop-dec l = map ground_dec l.erased.items ≡ map dec_erasure (take l.dec-index l.dec-items)
