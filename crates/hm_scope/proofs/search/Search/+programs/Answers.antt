use Rattle.std.proofs.Common.{arith, ◌++◌, ◌+◌, length, take, [], subst, sym, ap, ◌∙◌}
use Rattle.std.proofs.lemmas.List.{length-append, take_all}
use Rattle.std.proofs.lemmas.Result.{on_ok_weaker}
use Rattle.typing_rules.specs.Scope.{status, Binds, BindsAll, binds_end, UnboundInExp, UnboundInRule, inside, variables_only, as_variables, antiquoted, first_parts}
use Rattle.hm_scope.specs.Least.{Sees, Some_of, SeesDecs, SeesAbbreviations, SeesDatatypes, SeesExceptions}
use Rattle.hm_scope.proofs.Leasts.{seen-as, sees-next, sees-whole, sees-nil, none_of, not_none}
use Rattle.hm_scope.proofs.Forms.{exp-name, exp-let, exp-fn, exp-raise, exp-if, exp-quote, exp-typed, dec-val, dec-valrec, dec-abbrev, dec-datadef, dec-exndef, dec-local, piece-plain, piece-anti}
use Rattle.hm_scope.proofs.Expressions.{sees-listed, sees-paired, sees-matched, sees-raise, sees-if, sees-quote, sees-fn, sees-name, sees-name-unbound, sees-typed, sees-pieces-next, sees-plain, sees-anti, sees-let}
use Rattle.hm_scope.proofs.Scopes.{added, sees-rule, sees-let-in, sees-local, sees-decs-nil, sees-decs-next, sees-decs-whole}
use Rattle.hm_scope.proofs.Declarations.{InBinding, SeesVal, SeesFunctions, sees-dec-val, sees-dec-functions, sees-dec-abbreviations, sees-dec-datatypes, sees-dec-exceptions, sees-dec-local, functions-start, functions-next, functions-whole, sees-binding, binds-next, sees-val}
use Rattle.hm_scope.proofs.search.Search.+programs.Goals as goal

pub exp-returns-in-Fn : goal.exp-returns-in-Fn
exp-returns-in-Fn t c = on_ok_weaker _ (λ s. sees-fn c.args.e.now c.in-Fn.rules c.args.self.now c.rules.new.self (exp-fn c.in-Fn.rules c.in-Fn.is) (seen-as _ _ _ _ _ c.as_slice-in-Fn.ensures s)) c.rules.ensures

pub exp-returns-in-Quote : goal.exp-returns-in-Quote
exp-returns-in-Quote t c = on_ok_weaker _ (λ s. sees-quote c.args.e.now c.in-Quote.pieces c.args.self.now c.pieces.new.self (exp-quote c.in-Quote.pieces c.in-Quote.is) (subst (λ l. Sees (Some_of (UnboundInExp c.args.self.now.names) (antiquoted l)) c.args.self.now c.pieces.new.self) c.as_slice-in-Quote.ensures s)) c.pieces.ensures

pub exp-returns-in-Raise : goal.exp-returns-in-Raise
exp-returns-in-Raise t c = on_ok_weaker _ (λ s. sees-raise c.args.e.now c.in-Raise.part c.args.self.now c.exp.new.self (exp-raise c.in-Raise.part c.in-Raise.is) (subst (λ x. Sees (UnboundInExp c.args.self.now.names x) c.args.self.now c.exp.new.self) c.get.ensures s)) c.exp.ensures

pub exp-returns-in_ok-exp-in-If-2 : goal.exp-returns-in_ok-exp-in-If-2
exp-returns-in_ok-exp-in-If-2 t c = on_ok_weaker _ (λ s. sees-if c.args.e.now c.in-If.test c.in-If.chosen c.in-If.otherwise c.args.self.now c.exp-in-If.new.self c.exp-in-If-2.new.self c.exp-in-If-3.new.self (exp-if c.in-If.test c.in-If.chosen c.in-If.otherwise c.in-If.is)
    (subst (λ x. Sees (UnboundInExp c.args.self.now.names x) c.args.self.now c.exp-in-If.new.self) c.get-in-If.ensures c.in_ok-exp-in-If.ensures)
    (subst (λ x. Sees (UnboundInExp c.exp-in-If.new.self.names x) c.exp-in-If.new.self c.exp-in-If-2.new.self) c.get-in-If-2.ensures c.in_ok-exp-in-If-2.ensures)
    (subst (λ x. Sees (UnboundInExp c.exp-in-If-2.new.self.names x) c.exp-in-If-2.new.self c.exp-in-If-3.new.self) c.get-in-If-3.ensures s)) c.exp-in-If-3.ensures

pub exp-returns-in_ok-exp-in-Typed : goal.exp-returns-in_ok-exp-in-Typed
exp-returns-in_ok-exp-in-Typed t c = sees-typed c.args.e.now c.in-Typed.part c.in-Typed.t c.args.self.now c.exp-in-Typed.new.self c.ty.new.self (exp-typed c.in-Typed.part c.in-Typed.t c.in-Typed.is)
    (subst (λ x. Sees (UnboundInExp c.args.self.now.names x) c.args.self.now c.exp-in-Typed.new.self) c.get-in-Typed.ensures c.in_ok-exp-in-Typed.ensures) c.ty.ensures

pub exps-loop-e-preserved : goal.exps-loop-e-preserved
exps-loop-e-preserved t c = sees-next (λ n. UnboundInExp n) c.args.es.now c.loop-e.e-index _ c.e-item.result c.args.self.now c.loop-e.self c.exp.new.self c.e-item.is c.loop-e-test.true c.loop-e.invariant c.in_ok-exp.ensures

pub exps-returns : goal.exps-returns
exps-returns t c = sees-whole (UnboundInExp c.args.self.now.names) c.args.es.now c.loop-e.e-index c.args.self.now c.loop-e.self (omega (arith, c.loop-e-test.false)) c.loop-e.invariant

pub rules-loop-rule-preserved : goal.rules-loop-rule-preserved
rules-loop-rule-preserved t c = sees-next (λ n. UnboundInRule n) c.args.rules.now c.loop-rule.rule-index _ c.rule-item.result c.args.self.now c.loop-rule.self c.rule.new.self c.rule-item.is c.loop-rule-test.true c.loop-rule.invariant c.in_ok-rule.ensures

pub rules-returns : goal.rules-returns
rules-returns t c = sees-whole (UnboundInRule c.args.self.now.names) c.args.rules.now c.loop-rule.rule-index c.args.self.now c.loop-rule.self (omega (arith, c.loop-rule-test.false)) c.loop-rule.invariant

pub pieces-loop-piece-preserved : goal.pieces-loop-piece-preserved
pieces-loop-piece-preserved t c = sees-pieces-next c.args.pieces.now c.loop-piece.piece-index _ c.piece-item.result c.args.self.now c.loop-piece.self c.piece.new.self c.piece-item.is c.loop-piece-test.true c.loop-piece.invariant c.in_ok-piece.ensures

pub piece-returns-in-Plain : goal.piece-returns-in-Plain
piece-returns-in-Plain t c = sees-plain c.args.piece.now _ c.args.self.now (piece-plain _ c.in-Plain.is)

pub piece-returns-in-Anti : goal.piece-returns-in-Anti
piece-returns-in-Anti t c = on_ok_weaker _ (λ s. sees-anti c.args.piece.now c.in-Anti.part c.args.self.now c.exp.new.self (piece-anti c.in-Anti.part c.in-Anti.is) s) c.exp.ensures

pub decs-loop-d-init : goal.decs-loop-d-init
decs-loop-d-init t c = sees-decs-nil c.args.self.now

pub decs-loop-d-preserved : goal.decs-loop-d-preserved
decs-loop-d-preserved t c = sees-decs-next c.args.ds.now c.loop-d.d-index _ c.d-item.result c.args.self.now c.loop-d.self c.dec.new.self c.d-item.is c.loop-d-test.true c.loop-d.invariant c.in_ok-dec.ensures

pub decs-returns : goal.decs-returns
decs-returns t c = sees-decs-whole c.args.ds.now c.loop-d.d-index c.args.self.now c.loop-d.self (omega (arith, c.loop-d-test.false)) c.loop-d.invariant

pub dec-returns-in-Abbrev : goal.dec-returns-in-Abbrev
dec-returns-in-Abbrev t c = on_ok_weaker _ (λ s. sees-dec-abbreviations c.args.d.now c.in-Abbrev.binds c.args.self.now c.abbreviation_group.new.self (dec-abbrev c.in-Abbrev.binds c.in-Abbrev.is) (subst (λ l. SeesAbbreviations l c.args.self.now c.abbreviation_group.new.self) c.as_slice-in-Abbrev.ensures s)) c.abbreviation_group.ensures

pub dec-returns-in-DataDef : goal.dec-returns-in-DataDef
dec-returns-in-DataDef t c = on_ok_weaker _ (λ s. sees-dec-datatypes c.args.d.now c.in-DataDef.binds c.args.self.now c.datatype_group.new.self (dec-datadef c.in-DataDef.binds c.in-DataDef.is) (subst (λ l. SeesDatatypes l c.args.self.now c.datatype_group.new.self) c.as_slice-in-DataDef.ensures s)) c.datatype_group.ensures

pub dec-returns-in-ExnDef : goal.dec-returns-in-ExnDef
dec-returns-in-ExnDef t c = on_ok_weaker _ (λ s. sees-dec-exceptions c.args.d.now c.in-ExnDef.binds c.args.self.now c.exceptions.new.self (dec-exndef c.in-ExnDef.binds c.in-ExnDef.is) (subst (λ l. SeesExceptions l c.args.self.now c.exceptions.new.self) c.as_slice-in-ExnDef.ensures s)) c.exceptions.ensures

pub rule-returns : goal.rule-returns
rule-returns t c =
    let b = c.in_ok-bound.ensures in
    let scope = added c.pat.new.self c.add_values.new.self (variables_only b.0)
    (c.in_ok-add_values.ensures.values ∙ ap (λ z. as_variables z ++ c.pat.new.self.names.values) (c.as_slice.ensures.value ∙ b.2 ∙ ap (λ z. z ++ b.0) c.new-names.ensures.items)) c.in_ok-add_values.ensures.types in
    let u = c.in_ok-exp.ensures in
    let left = c.cut.ensures (variables_only b.0) c.pat.new.self.names (u.same ∙ scope) c.depth-outer.ensures.values c.depth-outer.ensures.types in
    sees-rule c.args.rule.now b.0 c.args.self.now c.pat.new.self c.add_values.new.self c.exp.new.self c.cut.new.self c.pat.ensures b.1 scope c.in_ok-add_values.ensures.first u (ap (λ z. z.names) left) (ap (λ z. z.first) left)

pub exp-returns-then-is_none : goal.exp-returns-then-is_none
exp-returns-then-is_none t c = sees-name-unbound c.args.e.now c.in-Name.name c.args.self.now c.find.new.self (exp-name c.in-Name.name c.in-Name.is)
    (ap (λ n. status n c.args.self.now.names.values) (sym c.as_bytes.ensures) ∙ sym c.status.ensures ∙ none_of _ c.if-is_none.ensures) c.find.ensures

pub exp-returns-else-is_none : goal.exp-returns-else-is_none
exp-returns-else-is_none t c = sees-name c.args.e.now c.in-Name.name c.args.self.now (exp-name c.in-Name.name c.in-Name.is)
    (λ h. not_none _ c.if-is_none.ensures (c.status.ensures ∙ ap (λ n. status n c.args.self.now.names.values) c.as_bytes.ensures ∙ h))

pub pieces-returns : goal.pieces-returns
pieces-returns t c = subst (λ l. Sees (Some_of (UnboundInExp c.args.self.now.names) (antiquoted l)) c.args.self.now c.loop-piece.self) (take_all c.loop-piece.piece-index c.args.pieces.now (omega (arith, c.loop-piece-test.false))) c.loop-piece.invariant

pub dec-loop-bind-init : goal.dec-loop-bind-init
dec-loop-bind-init t c = (sees-nil _ c.args.self.now, subst (λ l. BindsAll c.args.self.now.names [] l) (sym c.new-names.ensures.items) binds_end)

pub dec-loop-bind-preserved : goal.dec-loop-bind-preserved
dec-loop-bind-preserved t c =
    let b = c.in_ok-bound-in-Val.ensures in
    let same = c.in_ok-exp-in-Val.ensures.same ∙ c.pat.ensures.same ∙ c.loop-bind.invariant.0.same in (
      sees-next (λ n. InBinding n) c.as_slice-bind-items.result.now c.loop-bind.bind-index _ c.bind-item.result c.args.self.now c.loop-bind.self c.exp.new.self c.bind-item.is c.loop-bind-test.true c.loop-bind.invariant.0
          (sees-binding c.bind-item.result c.loop-bind.self c.pat.new.self c.exp.new.self c.pat.ensures c.in_ok-exp-in-Val.ensures),
      subst (BindsAll c.args.self.now.names (first_parts (take (c.loop-bind.bind-index + 1) c.as_slice-bind-items.result.now))) (sym b.2)
          (binds-next c.args.self.now.names c.as_slice-bind-items.result.now c.loop-bind.bind-index _ c.bind-item.result c.loop-bind.names.items b.0 c.bind-item.is c.loop-bind-test.true c.loop-bind.invariant.1
          (subst (λ n. Binds n c.bind-item.result.0 b.0) same b.1)),
    )

pub dec-returns-in_ok-add_values-in-Val : goal.dec-returns-in_ok-add_values-in-Val
dec-returns-in_ok-add_values-in-Val t c = sees-dec-val c.args.d.now c.in-Val.binds c.args.self.now c.add_values.new.self (dec-val c.in-Val.binds c.in-Val.is)
    (subst (λ l. SeesVal l c.args.self.now c.add_values.new.self) c.as_slice-bind-items.ensures
    (sees-val c.as_slice-bind-items.result.now c.loop-bind.bind-index c.loop-bind.names.items c.args.self.now c.loop-bind.self c.add_values.new.self (omega (arith, c.loop-bind-test.false)) c.loop-bind.invariant.0 c.loop-bind.invariant.1
    (c.in_ok-add_values-in-Val.ensures.values ∙ ap (λ z. as_variables z ++ c.loop-bind.self.names.values) c.as_slice.ensures.value) c.in_ok-add_values-in-Val.ensures.types c.in_ok-add_values-in-Val.ensures.first))

pub dec-loop-bind-2-init : goal.dec-loop-bind-2-init
dec-loop-bind-2-init t c = functions-start c.as_slice-bind-items-in-ValRec.result.now c.args.self.now c.add_values-in-ValRec.new.self
    (c.in_ok-add_values-in-ValRec.ensures.values ∙ ap (λ z. as_variables z ++ c.args.self.now.names.values)
    (c.as_slice-in-ValRec-2.ensures.value ∙ c.in_ok-names-in-ValRec.ensures ∙ ap first_parts (c.as_slice-in-ValRec.ensures ∙ sym c.as_slice-bind-items-in-ValRec.ensures)))
    c.in_ok-add_values-in-ValRec.ensures.types c.in_ok-add_values-in-ValRec.ensures.first

pub dec-loop-bind-2-preserved : goal.dec-loop-bind-2-preserved
dec-loop-bind-2-preserved t c = functions-next c.as_slice-bind-items-in-ValRec.result.now c.loop-bind-2.bind-index _ c.bind-item-in-loop-bind-2.result c.args.self.now c.loop-bind-2.self c.rules.new.self
    c.bind-item-in-loop-bind-2.is c.loop-bind-2-test.true c.loop-bind-2.invariant (seen-as _ _ _ _ _ c.as_slice-in-loop-bind-2.ensures c.in_ok-rules-in-ValRec.ensures)

pub dec-returns-after-loop-bind-2 : goal.dec-returns-after-loop-bind-2
dec-returns-after-loop-bind-2 t c = sees-dec-functions c.args.d.now c.in-ValRec.binds c.args.self.now c.loop-bind-2.self (dec-valrec c.in-ValRec.binds c.in-ValRec.is)
    (subst (λ l. SeesFunctions l c.args.self.now c.loop-bind-2.self) c.as_slice-bind-items-in-ValRec.ensures
    (functions-whole c.as_slice-bind-items-in-ValRec.result.now c.loop-bind-2.bind-index c.args.self.now c.loop-bind-2.self (omega (arith, c.loop-bind-2-test.false)) c.loop-bind-2.invariant))

pub dec-returns-in_ok-hide-in-Local : goal.dec-returns-in_ok-hide-in-Local
dec-returns-in_ok-hide-in-Local t c =
    let s = subst (λ l. SeesDecs l c.args.self.now c.decs.new.self) c.as_slice-in-Local.ensures c.in_ok-decs-in-Local.ensures in
    let u = subst (λ l. SeesDecs l c.decs.new.self c.decs-in-Local.new.self) c.as_slice-in-Local-2.ensures c.in_ok-decs-in-Local-2.ensures in
    let left = c.in_ok-hide-in-Local.ensures u.more s.more c.args.self.now.names (u.names ∙ ap (inside u.more) s.names) c.depth-outer.ensures.values c.depth-outer.ensures.types
    (c.depth-inner.ensures.values ∙ ap (λ n. length n.values) s.names ∙ length-append s.more.values c.args.self.now.names.values)
    (c.depth-inner.ensures.types ∙ ap (λ n. length n.types) s.names ∙ length-append s.more.types c.args.self.now.names.types) in
    sees-dec-local c.args.d.now c.in-Local.hidden c.in-Local.shown c.args.self.now c.hide.new.self (dec-local c.in-Local.hidden c.in-Local.shown c.in-Local.is)
    (sees-local c.in-Local.hidden c.in-Local.shown c.args.self.now c.decs.new.self c.decs-in-Local.new.self c.hide.new.self s u (ap (λ z. z.names) left) (ap (λ z. z.first) left))

pub exp-returns-in_ok-exps-in-Let : goal.exp-returns-in_ok-exps-in-Let
exp-returns-in_ok-exps-in-Let t c =
    let s = subst (λ l. SeesDecs l c.args.self.now c.decs.new.self) c.as_slice.ensures c.in_ok-decs-in-Let.ensures in
    let u = seen-as _ _ _ _ _ c.as_slice-in-Let.ensures c.in_ok-exps-in-Let.ensures in
    let left = c.cut.ensures s.more c.args.self.now.names (u.same ∙ s.names) c.depth-outer.ensures.values c.depth-outer.ensures.types in
    sees-let c.args.e.now c.in-Let.ds c.in-Let.es c.args.self.now c.cut.new.self (exp-let c.in-Let.ds c.in-Let.es c.in-Let.is)
    (sees-let-in c.in-Let.ds c.in-Let.es c.args.self.now c.decs.new.self c.exps.new.self c.cut.new.self s u (ap (λ z. z.names) left) (ap (λ z. z.first) left))

pub exp-returns-in-Tuple : goal.exp-returns-in-Tuple
exp-returns-in-Tuple t c = on_ok_weaker _ (λ s. sees-listed c.args.e.now c.in-Tuple.es c.args.self.now c.exps-in-Tuple.new.self c.in-Tuple.is (seen-as _ _ _ _ _ c.as_slice-in-Tuple.ensures s)) c.exps-in-Tuple.ensures

pub exp-returns-in_ok-exp-in-App : goal.exp-returns-in_ok-exp-in-App
exp-returns-in_ok-exp-in-App t c = on_ok_weaker _ (λ s. sees-paired c.args.e.now c.in-App.first c.in-App.second c.args.self.now c.exp-in-App.new.self c.exp-in-App-2.new.self c.in-App.is
    (subst (λ x. Sees (UnboundInExp c.args.self.now.names x) c.args.self.now c.exp-in-App.new.self) c.get-in-App.ensures c.in_ok-exp-in-App.ensures)
    (subst (λ x. Sees (UnboundInExp c.exp-in-App.new.self.names x) c.exp-in-App.new.self c.exp-in-App-2.new.self) c.get-in-App-2.ensures s)) c.exp-in-App-2.ensures

pub exp-returns-in_ok-exp-in-Case : goal.exp-returns-in_ok-exp-in-Case
exp-returns-in_ok-exp-in-Case t c = on_ok_weaker _ (λ s. sees-matched c.args.e.now c.in-Case.part c.in-Case.rules c.args.self.now c.exp-in-Case.new.self c.rules-in-Case.new.self c.in-Case.is
    (subst (λ x. Sees (UnboundInExp c.args.self.now.names x) c.args.self.now c.exp-in-Case.new.self) c.get-in-Case.ensures c.in_ok-exp-in-Case.ensures)
    (seen-as _ _ _ _ _ c.as_slice-in-Case.ensures s)) c.rules-in-Case.ensures
