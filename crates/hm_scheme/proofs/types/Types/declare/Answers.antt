use Rattle.std.proofs.Common.{◌++◌, ◌∷◌, [], ◌∙◌, sym, ap, subst, length}
use Rattle.hm_types.specs.declared.node.TypeName.{TypeName}
use Rattle.hm_scheme.specs.TypeNames.{AllTell}
use Rattle.hm_scheme.proofs.Naming.{tell-push, tell-same}
use Rattle.hm_scheme.proofs.types.Types.declare.Goals as goal

pub invariant_of-self : goal.invariant_of-self
invariant_of-self c = record { told = subst (λ ns. AllTell ns c.args.self.now.table.names) (sym c.reserve.ensures.items) c.args.self.now.told }

pub invariant_of-self-in-Break-branch-2 : goal.invariant_of-self-in-Break-branch-2
invariant_of-self-in-Break-branch-2 c =
    record { told = tell-same _ _ _ (ap (λ g. g.names) c.in_err-number.ensures.kept) (subst (λ ns. AllTell ns c.args.self.now.table.names) (sym c.reserve.ensures.items) c.args.self.now.told) }

pub invariant_of-self-2 : goal.invariant_of-self-2
invariant_of-self-2 c =
    let f : TypeName = record { arity = c.args.arity; equality = c.args.equality; birth = length c.args.self.now.table.nodes } in
    let t = tell-push c.args.self.now.names.items c.args.self.now.table.names c.args.name f c.args.self.now.told (c.requires f.birth) in
    let e = c.push_reserved.ensures.items ∙ ap (λ ns. ns ++ c.args.name ∷ []) c.reserve.ensures.items in
    record { told = tell-same _ _ _ c.in_ok-number.ensures.name.1.names (subst (λ ns. AllTell ns (c.args.self.now.table.names ++ f ∷ [])) (sym e) t) }
