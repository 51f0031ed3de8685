use Rattle.std.proofs.Common.{◌≡◌, take}
use Rattle.sml_syntax.proofs.+program_copies.Given as goal

abbrev pub invariant-copy::programs::copy_exps-loop-exp :
    goal.invariant-copy::programs::copy_exps-loop-exp
invariant-copy::programs::copy_exps-loop-exp l = l.copies.items ≡ take l.exp-index l.exp-items

abbrev pub invariant-copy::programs::copy_rules-loop-rule :
    goal.invariant-copy::programs::copy_rules-loop-rule
invariant-copy::programs::copy_rules-loop-rule l = l.copies.items ≡ take l.rule-index l.rule-items

abbrev pub invariant-copy::programs::copy_pieces-loop-piece :
    goal.invariant-copy::programs::copy_pieces-loop-piece
invariant-copy::programs::copy_pieces-loop-piece l = l.copies.items ≡ take l.piece-index l.piece-items

abbrev pub invariant-copy::programs::copy_decs-loop-dec :
    goal.invariant-copy::programs::copy_decs-loop-dec
invariant-copy::programs::copy_decs-loop-dec l = l.copies.items ≡ take l.dec-index l.dec-items

abbrev pub invariant-tree::DecForm::try_copy-loop-bind :
    goal.invariant-tree::DecForm::try_copy-loop-bind
invariant-tree::DecForm::try_copy-loop-bind l = l.copies.items ≡ take l.bind-index l.bind-items

abbrev pub invariant-tree::DecForm::try_copy-loop-bind-2 :
    goal.invariant-tree::DecForm::try_copy-loop-bind-2
invariant-tree::DecForm::try_copy-loop-bind-2 l = l.copies.items ≡ take l.bind-index l.bind-items
