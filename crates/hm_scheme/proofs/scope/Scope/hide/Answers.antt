use Rattle.std.proofs.Common.{◌∙◌, ◌++◌, ◌∷◌, [], sym, ap, drop}
use Rattle.std.proofs.lemmas.List.{append-nil, take_all}
use Rattle.hm_scheme.specs.Bindings.{shown, bound_at}
use Rattle.hm_scheme.proofs.Scoping.{shown-more}
use Rattle.hm_scheme.proofs.scope.Scope.hide.Goals as goal

pub loop-bound-init : goal.loop-bound-init
loop-bound-init c = sym (append-nil c.cut.new.self)

pub loop-bound-preserved : goal.loop-bound-preserved
loop-bound-preserved c =
    let b = bound_at c.as_slice-bound-items.result.now c.loop-bound.bound-index in
    c.in_ok-add.ensures.added ∙ ap (λ bs. bs ++ (b.name, b.meaning) ∷ []) c.loop-bound.invariant ∙ shown-more c.cut.new.self c.as_slice-bound-items.result.now c.loop-bound.bound-index c.loop-bound-test.true

pub returns : goal.returns
returns c =
    c.loop-bound.invariant ∙ ap (λ bs. c.cut.new.self ++ shown bs) (take_all c.loop-bound.bound-index c.as_slice-bound-items.result.now c.loop-bound-test.false ∙ c.as_slice-bound-items.ensures.value)
    ∙ ap (λ bs. c.cut.new.self ++ bs) c.in_ok-kept.ensures ∙ ap (λ bs. bs ++ drop c.args.inner c.args.self.now) c.cut.ensures
