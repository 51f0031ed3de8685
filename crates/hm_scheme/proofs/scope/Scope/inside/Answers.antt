use Rattle.std.proofs.Common.{◌∙◌, ap, drop}
use Rattle.hm_scheme.proofs.Scoping.{shown-inside}
use Rattle.hm_scheme.proofs.scope.Scope.inside.Goals as goal

pub returns : goal.returns
returns c =
    shown-inside c.self.inside.bounds.items c.deref.result.now c.in_ok-from_slice.field-0.items c.args.depth c.min-from.result c.len.result c.deref.ensures.value c.min-from.ensures (c.len.ensures ∙ c.self.inside.bounds.ok.0) c.in_ok-from_slice.ensures.items
    ∙ ap (drop c.args.depth) c.self.view_is
