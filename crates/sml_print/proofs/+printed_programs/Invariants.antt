use Rattle.std.proofs.Common.{◌≡◌, ◌++◌, take}
use Rattle.std.specs.Prelude.{codes, flat_map}
use Rattle.print_laws.specs.Printing.{behind_mark, exp_forms, piece_forms, dec_forms}
use Rattle.print_laws.specs.Opened.{rule_text, bind_text, function_text, clause_text, several_text}
use Rattle.print_laws.proofs.Lists.{before_bar}
use Rattle.sml_print.proofs.+printed_programs.Given as goal

abbrev pub invariant-expressions::print_exps-loop-exp : goal.invariant-expressions::print_exps-loop-exp
invariant-expressions::print_exps-loop-exp l = l.forms ≡ l.initial.forms ++ behind_mark l.mark exp_forms (take l.exp-index l.more)

abbrev pub invariant-rules::print_rules-loop-rule : goal.invariant-rules::print_rules-loop-rule
invariant-rules::print_rules-loop-rule l = l.forms ≡ l.initial.forms ++ flat_map (before_bar rule_text) (take l.rule-index l.before)

abbrev pub invariant-quotations::print_pieces-loop-piece : goal.invariant-quotations::print_pieces-loop-piece
invariant-quotations::print_pieces-loop-piece l = l.forms ≡ l.fn.forms ++ flat_map piece_forms (take l.piece-index l.piece-items)

abbrev pub invariant-declarations::print_decs-loop-dec : goal.invariant-declarations::print_decs-loop-dec
invariant-declarations::print_decs-loop-dec l = l.forms ≡ l.fn.forms ++ flat_map dec_forms (take l.dec-index l.dec-items)

abbrev pub invariant-declarations::print_dec-loop-bind : goal.invariant-declarations::print_dec-loop-bind
invariant-declarations::print_dec-loop-bind l = l.forms ≡ l.initial.forms ++ behind_mark (codes "and") bind_text (take l.bind-index l.more)

abbrev pub invariant-declarations::print_dec-loop-function : goal.invariant-declarations::print_dec-loop-function
invariant-declarations::print_dec-loop-function l = l.forms ≡ l.initial.forms ++ behind_mark (codes "and") function_text (take l.function-index l.more)

abbrev pub invariant-functions::print_clauses-loop-rule : goal.invariant-functions::print_clauses-loop-rule
invariant-functions::print_clauses-loop-rule l = l.forms ≡ l.initial.forms ++ flat_map (before_bar (clause_text l.name)) (take l.rule-index l.before)

abbrev pub invariant-functions::print_several-loop-rule : goal.invariant-functions::print_several-loop-rule
invariant-functions::print_several-loop-rule l = l.forms ≡ l.initial.forms ++ flat_map (before_bar (several_text l.name)) (take l.rule-index l.others)
