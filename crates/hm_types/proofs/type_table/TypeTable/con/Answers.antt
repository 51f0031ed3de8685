use Rattle.std.proofs.Common.{◌≡◌, ◌∷◌, [], ◌<◌, length, sym, ◌∙◌, subst, arith, ap, refl, ◌++◌, false}
use Rattle.hm_types.specs.Joining.{Within}
use Rattle.hm_types.specs.Classes.{name_at}
use Rattle.hm_types.specs.declared.node.Node.TheVariants.{Made}
use Rattle.hm_types.proofs.Growth.{con-table, con-joins, joins-is}
use Rattle.hm_types.proofs.type_table.TypeTable.con.Goals as goal

pub invariant_of-self-2 : goal.invariant_of-self-2
invariant_of-self-2 c =
    let n = c.len-class.ensures ∙ c.self.inside.nodes.ok.0 in
    let p = c.len-first.ensures ∙ c.self.inside.parts.ok.0 in
    con-table _ c.self.inside.parts.items c.args.parts.now _ _ _ _ _ _ _ _ _ _ c.args.name (length c.args.parts.now) _ c.self.invariant
    c.in_ok-extend_from_slice.ensures.items
    (c.push_reserved.ensures.items ∙ ap (λ z. z ++ Made c.args.name c.len-first.result (length c.args.parts.now) ∷ []) c.in_ok-make_room.ensures.nodes ∙ ap (λ z. c.self.inside.nodes.items ++ Made c.args.name z (length c.args.parts.now) ∷ []) p)
    (c.push_reserved-2.ensures.items ∙ ap (λ z. z ++ record { equality = false; birth = c.len-class.result } ∷ []) c.in_ok-make_room.ensures.asked)
    (c.push_reserved-3.ensures.items ∙ ap (λ z. z ++ 0 ∷ []) c.in_ok-make_room.ensures.marks)
    refl (let y = c.if-class-ge4294967295.false in omega (arith, n, y)) (let y = c.if-first-parts-ge4294967296.false in omega (arith, p, y))
    (subst (λ g. c.args.name < length g.names) (sym c.self.view_is) c.requires.name)
    (subst (λ g. length c.args.parts.now ≡ (name_at g.names c.args.name).arity) (sym c.self.view_is) c.requires.arity)
    (subst (λ g. Within (length g.nodes) c.args.parts.now) (sym c.self.view_is) c.requires.within) refl n

pub returns-clause-joins : goal.returns-clause-joins
returns-clause-joins c =
    let n = c.len-class.ensures ∙ c.self.inside.nodes.ok.0 in
    let p = c.len-first.ensures ∙ c.self.inside.parts.ok.0 in
    joins-is _ _ _ _ c.self.view_is
    (con-joins _ _ c.args.parts.now c.args.name (length c.args.parts.now) _ c.len-class.result n c.self.invariant.fine c.self.invariant.asks refl
    c.in_ok-extend_from_slice.ensures.items
    (c.push_reserved.ensures.items ∙ ap (λ z. z ++ Made c.args.name c.len-first.result (length c.args.parts.now) ∷ []) c.in_ok-make_room.ensures.nodes ∙ ap (λ z. c.self.inside.nodes.items ++ Made c.args.name z (length c.args.parts.now) ∷ []) p)
    (c.push_reserved-2.ensures.items ∙ ap (λ z. z ++ record { equality = false; birth = c.len-class.result } ∷ []) c.in_ok-make_room.ensures.asked) refl
    refl refl n
    (subst (λ g. c.args.name < length g.names) (sym c.self.view_is) c.requires.name)
    (subst (λ g. length c.args.parts.now ≡ (name_at g.names c.args.name).arity) (sym c.self.view_is) c.requires.arity)
    (subst (λ g. Within (length g.nodes) c.args.parts.now) (sym c.self.view_is) c.requires.within) c.self.invariant.born c.self.invariant.declared)
