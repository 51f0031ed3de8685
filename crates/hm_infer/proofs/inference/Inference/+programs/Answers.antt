use Rattle.std.proofs.Common.{arith, refl, sym, ◌∙◌, ap, subst, length, map}
use Rattle.std.proofs.lemmas.Result.{on_ok_weaker}
use Rattle.hm_infer.specs.Numbering.{Numbered, AllNumbered, numbered_end, numbered_more, an_exp, a_piece, a_rule, a_dec, a_binding, a_function, exp_trees, piece_trees, dec_trees}
use Rattle.hm_infer.proofs.Forms.{exp-int, exp-char, exp-str, exp-unit, exp-name, exp-app, exp-let, exp-case, exp-handle, exp-raise, exp-if, exp-both, exp-either, exp-typed, piece-plain, piece-anti, dec-val, dec-valrec, dec-local}
use Rattle.hm_infer.proofs.Numberings.{numbered-tree, numbered-as, numbered-one, numbered-two, numbered-three, numbered-append, numbered-next, numbered-whole, on_ok-of}
use Rattle.hm_infer.proofs.inference.Inference.+programs.Goals as goal

pub exp-returns : goal.exp-returns
exp-returns t c = numbered-tree (an_exp c.args.e.now) _ _ _ _ c.in_ok-node.ensures c.in_ok-class.ensures c.close.ensures

pub exp_form-returns-in-Int : goal.exp_form-returns-in-Int
exp_form-returns-in-Int t c = numbered-as _ _ (ap exp_trees (exp-int _ c.in-Int.is)) numbered_end

pub exp_form-returns-in-Char : goal.exp_form-returns-in-Char
exp_form-returns-in-Char t c = numbered-as _ _ (ap exp_trees (exp-char _ c.in-Char.is)) numbered_end

pub exp_form-returns-in-Str : goal.exp_form-returns-in-Str
exp_form-returns-in-Str t c = numbered-as _ _ (ap exp_trees (exp-str _ c.in-Str.is)) numbered_end

pub exp_form-returns-in-Unit : goal.exp_form-returns-in-Unit
exp_form-returns-in-Unit t c = numbered-as _ _ (ap exp_trees (exp-unit c.in-Unit.is)) numbered_end

pub exp_form-returns-in-Name : goal.exp_form-returns-in-Name
exp_form-returns-in-Name t c = on_ok-of _ (numbered-as _ _ (ap exp_trees (exp-name c.in-Name.name c.in-Name.is)) numbered_end)

pub exp_form-returns-in_ok-argument-in-App : goal.exp_form-returns-in_ok-argument-in-App
exp_form-returns-in_ok-argument-in-App t c = on_ok-of _ (numbered-as _ _ (ap exp_trees (exp-app _ _ c.in-App.is))
    (numbered-two (subst (λ x. Numbered (an_exp x) (length c.args.self.now.nodes.items) (length c.exp.new.self.nodes.items)) c.get.ensures c.in_ok-f-in-App.ensures)
    (subst (λ x. Numbered (an_exp x) (length c.exp.new.self.nodes.items) (length c.exp-in-App.new.self.nodes.items)) c.get-in-App.ensures c.in_ok-argument-in-App.ensures)))

pub exp_form-returns-in_ok-class-in-Let : goal.exp_form-returns-in_ok-class-in-Let
exp_form-returns-in_ok-class-in-Let t c = numbered-as _ _ (ap exp_trees (exp-let _ _ c.in-Let.is))
    (numbered-append _ _ _ _ _ (subst (λ x. AllNumbered (map a_dec x) (length c.args.self.now.nodes.items) (length c.decs.new.self.nodes.items)) c.as_slice-in-Let.ensures c.in_ok-decs-in-Let.ensures)
    (subst (λ x. AllNumbered (map an_exp x) (length c.decs.new.self.nodes.items) (length c.sequence-in-Let.new.self.nodes.items)) c.as_slice-in-Let-2.ensures c.in_ok-class-in-Let.ensures))

pub exp_form-returns-in_ok-class-in-Typed : goal.exp_form-returns-in_ok-class-in-Typed
exp_form-returns-in_ok-class-in-Typed t c = on_ok-of _ (numbered-as _ _ (ap exp_trees (exp-typed _ _ c.in-Typed.is))
    (numbered-one (subst (λ x. Numbered (an_exp x) (length c.args.self.now.nodes.items) (length c.exp-in-Typed.new.self.nodes.items)) c.get-in-Typed.ensures c.in_ok-class-in-Typed.ensures)))

pub exp_form-returns-in_ok-exp_of-in-Raise : goal.exp_form-returns-in_ok-exp_of-in-Raise
exp_form-returns-in_ok-exp_of-in-Raise t c = on_ok-of _ (numbered-as _ _ (ap exp_trees (exp-raise _ c.in-Raise.is))
    (numbered-one (subst (λ x. Numbered (an_exp x) (length c.args.self.now.nodes.items) (length c.exp_of.new.self.nodes.items)) c.get-in-Raise.ensures c.in_ok-exp_of-in-Raise.ensures)))

pub exp_form-returns-in_ok-rules-in-Case : goal.exp_form-returns-in_ok-rules-in-Case
exp_form-returns-in_ok-rules-in-Case t c = numbered-as _ _ (ap exp_trees (exp-case _ _ c.in-Case.is))
    (numbered_more (subst (λ x. Numbered (an_exp x) (length c.args.self.now.nodes.items) (length c.exp-in-Case.new.self.nodes.items)) c.get-in-Case.ensures c.in_ok-from-in-Case.ensures)
    (subst (λ x. AllNumbered (map a_rule x) (length c.exp-in-Case.new.self.nodes.items) (length c.rules-in-Case.new.self.nodes.items)) c.as_slice-in-Case.ensures c.in_ok-rules-in-Case.ensures))

pub exp_form-returns-in_ok-rules-in-Handle : goal.exp_form-returns-in_ok-rules-in-Handle
exp_form-returns-in_ok-rules-in-Handle t c = numbered-as _ _ (ap exp_trees (exp-handle _ _ c.in-Handle.is))
    (numbered_more (subst (λ x. Numbered (an_exp x) (length c.args.self.now.nodes.items) (length c.exp-in-Handle.new.self.nodes.items)) c.get-in-Handle.ensures c.in_ok-class-in-Handle.ensures)
    (subst (λ x. AllNumbered (map a_rule x) (length c.exp-in-Handle.new.self.nodes.items) (length c.rules-in-Handle.new.self.nodes.items)) c.as_slice-in-Handle.ensures c.in_ok-rules-in-Handle.ensures))

pub exp_form-returns-in_ok-exp_of-in-If-2 : goal.exp_form-returns-in_ok-exp_of-in-If-2
exp_form-returns-in_ok-exp_of-in-If-2 t c = numbered-as _ _ (ap exp_trees (exp-if _ _ _ c.in-If.is))
    (numbered-three (subst (λ x. Numbered (an_exp x) (length c.args.self.now.nodes.items) (length c.exp_of-in-If.new.self.nodes.items)) c.get-in-If.ensures c.in_ok-exp_of-in-If.ensures)
    (subst (λ x. Numbered (an_exp x) (length c.exp_of-in-If.new.self.nodes.items) (length c.exp-in-If.new.self.nodes.items)) c.get-in-If-2.ensures c.in_ok-class-in-If.ensures)
    (subst (λ x. Numbered (an_exp x) (length c.exp-in-If.new.self.nodes.items) (length c.exp_of-in-If-2.new.self.nodes.items)) c.get-in-If-3.ensures c.in_ok-exp_of-in-If-2.ensures))

pub exp_form-returns-in_ok-exp_of-in-Both-2 : goal.exp_form-returns-in_ok-exp_of-in-Both-2
exp_form-returns-in_ok-exp_of-in-Both-2 t c = numbered-as _ _ (ap exp_trees (exp-both _ _ c.in-Both.is))
    (numbered-two (subst (λ x. Numbered (an_exp x) (length c.args.self.now.nodes.items) (length c.exp_of-in-Both.new.self.nodes.items)) c.get-in-Both.ensures c.in_ok-exp_of-in-Both.ensures)
    (subst (λ x. Numbered (an_exp x) (length c.exp_of-in-Both.new.self.nodes.items) (length c.exp_of-in-Both-2.new.self.nodes.items)) c.get-in-Both-2.ensures c.in_ok-exp_of-in-Both-2.ensures))

pub exp_form-returns-in_ok-exp_of-in-Either-2 : goal.exp_form-returns-in_ok-exp_of-in-Either-2
exp_form-returns-in_ok-exp_of-in-Either-2 t c = numbered-as _ _ (ap exp_trees (exp-either _ _ c.in-Either.is))
    (numbered-two (subst (λ x. Numbered (an_exp x) (length c.args.self.now.nodes.items) (length c.exp_of-in-Either.new.self.nodes.items)) c.get-in-Either.ensures c.in_ok-exp_of-in-Either.ensures)
    (subst (λ x. Numbered (an_exp x) (length c.exp_of-in-Either.new.self.nodes.items) (length c.exp_of-in-Either-2.new.self.nodes.items)) c.get-in-Either-2.ensures c.in_ok-exp_of-in-Either-2.ensures))

pub exps-loop-e-init : goal.exps-loop-e-init
exps-loop-e-init t c = numbered_end

pub exps-loop-e-preserved : goal.exps-loop-e-preserved
exps-loop-e-preserved t c = numbered-next an_exp c.args.es.now c.loop-e.e-index _ c.e-item.result _ _ _ c.e-item.is c.loop-e-test.true c.loop-e.invariant c.in_ok-class.ensures

pub sequence-loop-e-init : goal.sequence-loop-e-init
sequence-loop-e-init t c = numbered_end

pub sequence-loop-e-preserved : goal.sequence-loop-e-preserved
sequence-loop-e-preserved t c = numbered-next an_exp c.args.es.now c.loop-e.e-index _ c.e-item.result _ _ _ c.e-item.is c.loop-e-test.true c.loop-e.invariant c.in_ok-exp.ensures

pub quotation-loop-piece-init : goal.quotation-loop-piece-init
quotation-loop-piece-init t c = numbered_end

pub quotation-loop-piece-preserved : goal.quotation-loop-piece-preserved
quotation-loop-piece-preserved t c = numbered-next a_piece c.args.pieces.now c.loop-piece.piece-index _ c.piece-item.result _ _ _ c.piece-item.is c.loop-piece-test.true c.loop-piece.invariant c.in_ok-piece.ensures

pub rules-loop-rule-init : goal.rules-loop-rule-init
rules-loop-rule-init t c = numbered_end

pub rules-loop-rule-preserved : goal.rules-loop-rule-preserved
rules-loop-rule-preserved t c = numbered-next a_rule c.args.rules.now c.loop-rule.rule-index _ c.rule-item.result _ _ _ c.rule-item.is c.loop-rule-test.true c.loop-rule.invariant c.in_ok-rule.ensures

pub decs-loop-d-init : goal.decs-loop-d-init
decs-loop-d-init t c = numbered_end

pub decs-loop-d-preserved : goal.decs-loop-d-preserved
decs-loop-d-preserved t c = numbered-next a_dec c.args.ds.now c.loop-d.d-index _ c.d-item.result _ _ _ c.d-item.is c.loop-d-test.true c.loop-d.invariant c.in_ok-dec.ensures

pub piece-returns-in-Plain : goal.piece-returns-in-Plain
piece-returns-in-Plain t c = numbered-tree (a_piece c.args.piece.now) _ _ _ _ refl (numbered-as _ _ (ap piece_trees (piece-plain _ c.in-Plain.is)) numbered_end) refl

pub piece-returns-in-Anti : goal.piece-returns-in-Anti
piece-returns-in-Anti t c = on_ok_weaker _ (λ h. numbered-tree (a_piece c.args.piece.now) _ _ _ _ refl (numbered-as _ _ (ap piece_trees (piece-anti _ c.in-Anti.is)) (numbered-one h)) refl) c.exp_of.ensures

pub rule-returns : goal.rule-returns
rule-returns t c = numbered-tree (a_rule c.args.rule.now) _ _ _ _ refl (numbered-two c.in_ok-class.ensures c.in_ok-exp_of.ensures) refl

pub dec-loop-bind-init : goal.dec-loop-bind-init
dec-loop-bind-init t c = numbered_end

pub dec-loop-bind-preserved : goal.dec-loop-bind-preserved
dec-loop-bind-preserved t c = numbered-next a_binding c.as_slice-bind-items.result.now c.loop-bind.bind-index _ c.bind-item.result _ _ _ c.bind-item.is c.loop-bind-test.true c.loop-bind.invariant
    (numbered-tree (a_binding c.bind-item.result) _ _ _ _ refl (numbered-two c.in_ok-pattern-in-Val.ensures c.in_ok-class-in-Val.ensures) refl)

pub dec-loop-i-init : goal.dec-loop-i-init
dec-loop-i-init t c = numbered_end

pub dec-loop-i-preserved : goal.dec-loop-i-preserved
dec-loop-i-preserved t c = numbered-next a_function c.as_slice-functions.result.now c.loop-i.i _ c.index-functions-i.result _ _ _ c.index-functions-i.is c.loop-i-test.true c.loop-i.invariant
    (numbered-tree (a_function c.index-functions-i.result) _ _ _ _ refl (subst (λ x. AllNumbered (map a_rule x) (length c.loop-i.self.nodes.items) (length c.rules.new.self.nodes.items)) c.as_slice-in-loop-i.ensures c.in_ok-rules-in-ValRec.ensures) refl)

pub dec-returns-after-loop-bind : goal.dec-returns-after-loop-bind
dec-returns-after-loop-bind t c = on_ok-of _ (numbered-tree (a_dec c.args.d.now) _ _ _ _ refl (numbered-as _ _ (ap dec_trees (dec-val _ c.in-Val.is) ∙ ap (map a_binding) (sym c.as_slice-bind-items.ensures))
    (numbered-whole a_binding c.as_slice-bind-items.result.now c.loop-bind.bind-index _ _ (omega (arith, c.loop-bind-test.false)) c.loop-bind.invariant)) refl)

pub dec-returns-after-loop-i : goal.dec-returns-after-loop-i
dec-returns-after-loop-i t c = on_ok-of _ (numbered-tree (a_dec c.args.d.now) _ _ _ _ refl (numbered-as _ _ (ap dec_trees (dec-valrec _ c.in-ValRec.is) ∙ ap (map a_function) (sym c.as_slice-functions.ensures))
    (numbered-whole a_function c.as_slice-functions.result.now c.loop-i.i _ _ (omega (arith, c.loop-i-test.false)) c.loop-i.invariant)) refl)

pub dec-returns-in_ok-hide-in-Local : goal.dec-returns-in_ok-hide-in-Local
dec-returns-in_ok-hide-in-Local t c = numbered-tree (a_dec c.args.d.now) _ _ _ _ refl (numbered-as _ _ (ap dec_trees (dec-local _ _ c.in-Local.is))
    (numbered-append _ _ _ _ _ (subst (λ x. AllNumbered (map a_dec x) (length c.args.self.now.nodes.items) (length c.decs.new.self.nodes.items)) c.as_slice-in-Local.ensures c.in_ok-decs-in-Local.ensures)
    (subst (λ x. AllNumbered (map a_dec x) (length c.decs.new.self.nodes.items) (length c.decs-in-Local.new.self.nodes.items)) c.as_slice-in-Local-2.ensures c.in_ok-decs-in-Local-2.ensures))) refl
