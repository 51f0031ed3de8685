use Rattle.std.proofs.Common.{min, ap, ◌∙◌}
use Rattle.hm_scope.proofs.Scopes.{hide-steps, seen-made}
use Rattle.typing_rules.specs.Scope.{inside}
use Rattle.hm_scope.proofs.search.Search.hide.Goals as goal

pub returns : goal.returns
returns c = λ shown hidden names e ov ot iv it. seen-made _ _ _ _ (inside shown names)
    (hide-steps c.self.inside.values.items shown.values hidden.values names.values c.append.new.self.items c.split_off.new.self.items c.in_ok-values.values.items c.truncate.new.self.items
    c.args.outer.values c.args.inner.values c.min-from.result (ap (λ s. s.names.values) c.self.view_is ∙ ap (λ n. n.values) e) ov iv
    (c.min-from.ensures ∙ ap (λ z. min c.args.inner.values z) (c.len.ensures ∙ c.self.inside.values.ok.0)) c.in_ok-values.ensures.items c.in_ok-values.ensures.tail c.truncate.ensures.items c.in_ok-append.ensures.items)
    (hide-steps c.self.inside.types.items shown.types hidden.types names.types c.append-2.new.self.items c.split_off-2.new.self.items c.in_ok-types.types.items c.truncate-2.new.self.items
    c.args.outer.types c.args.inner.types c.min-from-2.result (ap (λ s. s.names.types) c.self.view_is ∙ ap (λ n. n.types) e) ot it
    (c.min-from-2.ensures ∙ ap (λ z. min c.args.inner.types z) (c.len-2.ensures ∙ c.self.inside.types.ok.0)) c.in_ok-types.ensures.items c.in_ok-types.ensures.tail c.truncate-2.ensures.items c.in_ok-append-2.ensures.items)
    (ap (λ s. s.first) c.self.view_is)
