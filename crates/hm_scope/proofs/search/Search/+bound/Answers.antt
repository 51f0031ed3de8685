use Rattle.std.proofs.Common.{◌++◌, ◌∷◌, [], subst, sym, ap, ◌∙◌}
use Rattle.std.proofs.lemmas.Result.{on_ok_weaker}
use Rattle.typing_rules.specs.Scope.{status, pat_name, pat_parts}
use Rattle.hm_scope.proofs.Forms.{pat-con, pat-typed, pat-name}
use Rattle.hm_scope.proofs.Names.{Grows, GrowsAll, grows-parts, grows-nothing, grows-leaf, grows-part, grows-next, grows-name, grows-constructor, is-variable, not-constructor, a-constructor, known-constructor, leaf, listed}
use Rattle.hm_scope.proofs.search.Search.+bound.Goals as goal

pub bound-returns-in_ok-push-in-Name : goal.bound-returns-in_ok-push-in-Name
bound-returns-in_ok-push-in-Name t c =
    subst (λ new. Grows c.args.self.now.names c.args.p.now c.args.names.now.items new) (sym (c.in_ok-push-in-Name.ensures.items ∙ ap (λ x. c.args.names.now.items ++ x ∷ []) c.in_ok-try_copy-in-Name.ensures))
    (grows-name c.args.self.now.names c.args.p.now c.in-Name.name c.args.names.now.items (ap pat_name (pat-name c.in-Name.name c.in-Name.is))
    (is-variable c.status.result c.args.self.now.names c.in-Name.name (ap (λ z. status z c.args.self.now.names.values) (sym c.as_bytes.ensures) ∙ sym c.status.ensures) (not-constructor c.status.result (sym c.ne.ensures ∙ c.if-ne.true))))

pub bound-returns-else-ne : goal.bound-returns-else-ne
bound-returns-else-ne t c =
    grows-constructor c.args.self.now.names c.args.p.now c.in-Name.name c.args.names.now.items (ap pat_name (pat-name c.in-Name.name c.in-Name.is))
    (known-constructor c.args.self.now.names c.in-Name.name (ap (λ z. status z c.args.self.now.names.values) (sym c.as_bytes.ensures) ∙ sym c.status.ensures ∙ a-constructor c.status.result (sym c.ne.ensures ∙ c.if-ne.false)))

pub bound-returns-in-Tuple : goal.bound-returns-in-Tuple
bound-returns-in-Tuple t c =
    let l = listed c.args.p.now.form c.in-Tuple.ps c.in-Tuple.is in
    on_ok_weaker _ (λ g. grows-parts c.args.self.now.names c.args.p.now c.in-Tuple.ps c.args.names.now.items c.bound_all.new.names.items l.0 l.1
    (subst (λ ps. GrowsAll c.args.self.now.names ps c.args.names.now.items c.bound_all.new.names.items) c.as_slice.ensures g)) c.bound_all.ensures

pub bound-returns-in-Con : goal.bound-returns-in-Con
bound-returns-in-Con t c = on_ok_weaker _ (λ g. grows-part c.args.self.now.names c.args.p.now c.in-Con.argument c.args.names.now.items c.bound.new.names.items (ap pat_name (pat-con c.in-Con.field-0 c.in-Con.argument c.in-Con.is)) (ap pat_parts (pat-con c.in-Con.field-0 c.in-Con.argument c.in-Con.is))
    (subst (λ q. Grows c.args.self.now.names q c.args.names.now.items c.bound.new.names.items) c.get.ensures g)) c.bound.ensures

pub bound-returns-in-Typed : goal.bound-returns-in-Typed
bound-returns-in-Typed t c = on_ok_weaker _ (λ g. grows-part c.args.self.now.names c.args.p.now c.in-Typed.part c.args.names.now.items c.bound-in-Typed.new.names.items (ap pat_name (pat-typed c.in-Typed.part c.in-Typed.field-1 c.in-Typed.is)) (ap pat_parts (pat-typed c.in-Typed.part c.in-Typed.field-1 c.in-Typed.is))
    (subst (λ q. Grows c.args.self.now.names q c.args.names.now.items c.bound-in-Typed.new.names.items) c.get-in-Typed.ensures g)) c.bound-in-Typed.ensures

pub bound-returns-in-Any : goal.bound-returns-in-Any
bound-returns-in-Any t c = let l = leaf c.args.p.now.form c.in-Any.is in grows-leaf c.args.self.now.names c.args.p.now c.args.names.now.items l.0 l.1

pub bound-returns-in-Any-2 : goal.bound-returns-in-Any-2
bound-returns-in-Any-2 t c = let l = leaf c.args.p.now.form c.in-Any.is in grows-leaf c.args.self.now.names c.args.p.now c.args.names.now.items l.0 l.1

pub bound-returns-in-Any-3 : goal.bound-returns-in-Any-3
bound-returns-in-Any-3 t c = let l = leaf c.args.p.now.form c.in-Any.is in grows-leaf c.args.self.now.names c.args.p.now c.args.names.now.items l.0 l.1

pub bound-returns-in-Any-4 : goal.bound-returns-in-Any-4
bound-returns-in-Any-4 t c = let l = leaf c.args.p.now.form c.in-Any.is in grows-leaf c.args.self.now.names c.args.p.now c.args.names.now.items l.0 l.1

pub bound-returns-in-Any-5 : goal.bound-returns-in-Any-5
bound-returns-in-Any-5 t c = let l = leaf c.args.p.now.form c.in-Any.is in grows-leaf c.args.self.now.names c.args.p.now c.args.names.now.items l.0 l.1

pub bound_all-loop-p-init : goal.bound_all-loop-p-init
bound_all-loop-p-init t c = grows-nothing c.args.self.now.names c.args.names.now.items

pub bound_all-loop-p-preserved : goal.bound_all-loop-p-preserved
bound_all-loop-p-preserved t c = grows-next c.args.self.now.names c.args.ps.now c.loop-p.p-index _ c.p-item.result c.args.names.now.items c.loop-p.names.items c.bound.new.names.items c.p-item.is c.loop-p-test.true c.loop-p.invariant c.in_ok-bound.ensures
