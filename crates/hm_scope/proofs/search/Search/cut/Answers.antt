use Rattle.std.proofs.Common.{reverse, ap, ◌∙◌}
use Rattle.hm_scope.proofs.Scopes.{cut-list, seen-made}
use Rattle.hm_scope.proofs.search.Search.cut.Goals as goal

pub returns : goal.returns
returns c = λ more outer e v t. seen-made _ _ _ _ outer
    (ap reverse c.truncate.ensures.items ∙ cut-list c.self.inside.values.items more.values outer.values c.args.depth.values (ap (λ s. s.names.values) c.self.view_is ∙ ap (λ n. n.values) e) v)
    (ap reverse c.truncate-2.ensures.items ∙ cut-list c.self.inside.types.items more.types outer.types c.args.depth.types (ap (λ s. s.names.types) c.self.view_is ∙ ap (λ n. n.types) e) t)
    (ap (λ s. s.first) c.self.view_is)
