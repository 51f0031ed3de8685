use Rattle.std.proofs.Common.{refl, arith, append_assoc}
use Rattle.std.proofs.lemmas.Grind.{common_steps}
use Rattle.std.proofs.lemmas.List.{take_all}
use Rattle.print_laws.specs.Opened.{rule_text, clause_text, several_text}
use Rattle.sml_print.proofs.Printed.{dec_val, dec_fun, inner_case, dec_type, dec_data, dec_exception, dec_local, exp_tuple, exp_list, exp_seq, exp_let, exp_quote, operation_both, operation_either, operation_typed, app_named, app_infix, app_other, all_but_last}
use Rattle.sml_print.proofs.+printed_programs.Goals as goal

pub declarations::print_dec-returns-after-loop-bind : goal.declarations::print_dec-returns-after-loop-bind
declarations::print_dec-returns-after-loop-bind t c = grind (arith, common_steps, dec_val c.args.dec.now _ c.in-Val.is)

pub declarations::print_dec-returns-after-loop-function : goal.declarations::print_dec-returns-after-loop-function
declarations::print_dec-returns-after-loop-function t c = grind (arith, common_steps, dec_fun c.args.dec.now _ c.in-ValRec.is)

pub declarations::print_dec-returns-in_ok-print_abbrevs-in-Abbrev : goal.declarations::print_dec-returns-in_ok-print_abbrevs-in-Abbrev
declarations::print_dec-returns-in_ok-print_abbrevs-in-Abbrev t c = rw (c.in_ok-print_abbrevs-in-Abbrev.ensures, c.in_ok-mark-in-Abbrev.ensures, dec_type c.args.dec.now _ c.in-Abbrev.is) (simp append_assoc)

pub declarations::print_dec-returns-in_ok-print_datas-in-DataDef : goal.declarations::print_dec-returns-in_ok-print_datas-in-DataDef
declarations::print_dec-returns-in_ok-print_datas-in-DataDef t c = rw (c.in_ok-print_datas-in-DataDef.ensures, c.in_ok-mark-in-DataDef.ensures, dec_data c.args.dec.now _ c.in-DataDef.is) (simp append_assoc)

pub declarations::print_dec-returns-in_ok-print_con_defs-in-ExnDef : goal.declarations::print_dec-returns-in_ok-print_con_defs-in-ExnDef
declarations::print_dec-returns-in_ok-print_con_defs-in-ExnDef t c = rw (c.in_ok-print_con_defs-in-ExnDef.ensures, c.in_ok-mark-in-ExnDef.ensures, dec_exception c.args.dec.now _ c.in-ExnDef.is) (simp append_assoc)

pub declarations::print_dec-returns-in_ok-mark-in-Local-3 : goal.declarations::print_dec-returns-in_ok-mark-in-Local-3
declarations::print_dec-returns-in_ok-mark-in-Local-3 t c = rw (c.in_ok-mark-in-Local-3.ensures, c.in_ok-print_decs-in-Local-2.ensures, c.in_ok-mark-in-Local-2.ensures, c.in_ok-print_decs-in-Local.ensures, c.in_ok-mark-in-Local.ensures, dec_local c.args.dec.now _ _ c.in-Local.is) (simp append_assoc)

pub functions::print_inner-returns-in_ok-print_several-in-Case : goal.functions::print_inner-returns-in_ok-print_several-in-Case
functions::print_inner-returns-in_ok-print_several-in-Case t c = rw (c.in_ok-print_several-in-Case.ensures, inner_case c.args.name.now c.args.exp.now _ _ c.in-Case.is) refl

pub expressions::print_exp-returns-in_ok-push-in-Quote-2 : goal.expressions::print_exp-returns-in_ok-push-in-Quote-2
expressions::print_exp-returns-in_ok-push-in-Quote-2 t c = rw (c.in_ok-push-in-Quote-2.ensures, c.in_ok-print_pieces-in-Quote.ensures, c.in_ok-push-in-Quote.ensures, exp_quote c.args.exp.now _ c.in-Quote.is) (simp append_assoc)

pub expressions::print_exp-returns-in_ok-print_between-in-Tuple : goal.expressions::print_exp-returns-in_ok-print_between-in-Tuple
expressions::print_exp-returns-in_ok-print_between-in-Tuple t c = rw (c.in_ok-print_between-in-Tuple.ensures, exp_tuple c.args.exp.now _ c.in-Tuple.is) refl

pub expressions::print_exp-returns-in_ok-print_between-in-List : goal.expressions::print_exp-returns-in_ok-print_between-in-List
expressions::print_exp-returns-in_ok-print_between-in-List t c = rw (c.in_ok-print_between-in-List.ensures, exp_list c.args.exp.now _ c.in-List.is) refl

pub expressions::print_exp-returns-in_ok-print_between-in-Seq : goal.expressions::print_exp-returns-in_ok-print_between-in-Seq
expressions::print_exp-returns-in_ok-print_between-in-Seq t c = rw (c.in_ok-print_between-in-Seq.ensures, exp_seq c.args.exp.now _ c.in-Seq.is) refl

pub expressions::print_exp-returns-in_ok-print_between-in-Let : goal.expressions::print_exp-returns-in_ok-print_between-in-Let
expressions::print_exp-returns-in_ok-print_between-in-Let t c = rw (c.in_ok-print_between-in-Let.ensures, c.in_ok-print_decs-in-Let.ensures, c.in_ok-mark-in-Let.ensures, exp_let c.args.exp.now _ _ c.in-Let.is) (simp append_assoc)

pub functions::print_clauses-returns : goal.functions::print_clauses-returns
functions::print_clauses-returns t c = rw (all_but_last (clause_text c.args.name.now) c.args.rules.now c.as_slice.result.now c.last-item.result _ c.args.forms.now c.loop-rule.forms c.as_slice.ensures c.in-len1-up.len_at_least c.last-item.is (take_all _ _ c.loop-rule-test.false) c.loop-rule.invariant) c.print_clause-2.ensures

pub functions::print_several-returns : goal.functions::print_several-returns
functions::print_several-returns t c = rw (all_but_last (several_text c.args.name.now) c.args.rules.now c.as_slice.result.now c.last-item.result _ c.args.forms.now c.loop-rule.forms c.as_slice.ensures c.in-len1-up.len_at_least c.last-item.is (take_all _ _ c.loop-rule-test.false) c.loop-rule.invariant) c.print_several_clause-2.ensures

pub rules::print_rules-returns : goal.rules::print_rules-returns
rules::print_rules-returns t c = rw (all_but_last rule_text c.args.rules.now c.as_slice.result.now c.last-item.result _ c.args.forms.now c.loop-rule.forms c.as_slice.ensures c.in-len1-up.len_at_least c.last-item.is (take_all _ _ c.loop-rule-test.false) c.loop-rule.invariant) c.print_rule-2.ensures

pub operations::print_operation-returns-in_ok-print_infix-in-Some : goal.operations::print_operation-returns-in_ok-print_infix-in-Some
operations::print_operation-returns-in_ok-print_infix-in-Some t c = rw (c.in_ok-print_infix-in-Some.ensures, app_infix c.args.exp.now _ _ _ _ _ _ _ c.in-App.is c.get.ensures c.get-in-Some.ensures c.in-Name.is c.operator_level.ensures c.in-Some.is) refl

pub operations::print_operation-returns-in_ok-print_at-in-None : goal.operations::print_operation-returns-in_ok-print_at-in-None
operations::print_operation-returns-in_ok-print_at-in-None t c = rw (c.in_ok-print_at-in-None.ensures, c.in_ok-name-in-None.ensures, app_named c.args.exp.now _ _ _ _ _ _ c.in-App.is c.get.ensures c.get-in-None.ensures c.in-Name.is c.operator_level.ensures c.in-None.is) (simp append_assoc)

pub operations::print_operation-returns-in_ok-print_at-in_default-form-2 : goal.operations::print_operation-returns-in_ok-print_at-in_default-form-2
operations::print_operation-returns-in_ok-print_at-in_default-form-2 t c = rw (c.in_ok-print_at-in_default-form-2.ensures, c.in_ok-print_at-in_default-form.ensures, app_other c.args.exp.now _ _ _ _ _ c.in-App.is c.get.ensures c.get-in_default-form.ensures c.get-in_default-form-2.ensures c.in_default-form.not-Name) (simp append_assoc)

pub operations::print_operation-returns-in_ok-print_at-in-Both-2 : goal.operations::print_operation-returns-in_ok-print_at-in-Both-2
operations::print_operation-returns-in_ok-print_at-in-Both-2 t c = rw (c.in_ok-print_at-in-Both-2.ensures, c.in_ok-mark-in-Both.ensures, c.in_ok-print_at-in-Both.ensures, c.get-in-Both.ensures, c.get-in-Both-2.ensures, operation_both c.args.exp.now _ _ c.in-Both.is) (simp append_assoc)

pub operations::print_operation-returns-in_ok-print_at-in-Either-2 : goal.operations::print_operation-returns-in_ok-print_at-in-Either-2
operations::print_operation-returns-in_ok-print_at-in-Either-2 t c = rw (c.in_ok-print_at-in-Either-2.ensures, c.in_ok-mark-in-Either.ensures, c.in_ok-print_at-in-Either.ensures, c.get-in-Either.ensures, c.get-in-Either-2.ensures, operation_either c.args.exp.now _ _ c.in-Either.is) (simp append_assoc)

pub operations::print_operation-returns-in_ok-print_ty-in-Typed : goal.operations::print_operation-returns-in_ok-print_ty-in-Typed
operations::print_operation-returns-in_ok-print_ty-in-Typed t c = rw (c.in_ok-print_ty-in-Typed.ensures, c.in_ok-mark-in-Typed.ensures, c.in_ok-print_at-in-Typed.ensures, c.get-in-Typed.ensures, operation_typed c.args.exp.now _ _ c.in-Typed.is) (simp append_assoc)
