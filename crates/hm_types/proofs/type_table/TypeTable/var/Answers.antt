use Rattle.std.proofs.Common.{◌∷◌, [], ◌∙◌, arith, ap, refl, ◌++◌}
use Rattle.hm_types.proofs.Growth.{var-table, var-joins, var-joins-is}
use Rattle.hm_types.specs.declared.node.Node.TheVariants.{Variable}
use Rattle.hm_types.proofs.type_table.TypeTable.var.Goals as goal

pub invariant_of-self-2 : goal.invariant_of-self-2
invariant_of-self-2 c =
    let n = c.len-class.ensures ∙ c.self.inside.nodes.ok.0 in
    var-table _ _ _ _ _ _ _ _ _ _ _ _ c.self.invariant
    (c.push_reserved.ensures.items ∙ ap (λ z. z ++ Variable ∷ []) c.in_ok-make_room.ensures.nodes)
    (c.push_reserved-2.ensures.items ∙ ap (λ z. z ++ record { equality = c.args.equality; birth = c.len-class.result } ∷ []) c.in_ok-make_room.ensures.asked)
    (c.push_reserved-3.ensures.items ∙ ap (λ z. z ++ 0 ∷ []) c.in_ok-make_room.ensures.marks)
    (let y = c.if-class-ge4294967295.false in omega (arith, n, y)) n

pub returns-clause-joins : goal.returns-clause-joins
returns-clause-joins c =
    let n = c.len-class.ensures ∙ c.self.inside.nodes.ok.0 in
    var-joins-is _ _ _ _ _ c.self.view_is
    (var-joins _ _ _ _ n c.self.invariant.fine c.self.invariant.asks refl refl
    (c.push_reserved.ensures.items ∙ ap (λ z. z ++ Variable ∷ []) c.in_ok-make_room.ensures.nodes)
    (c.push_reserved-2.ensures.items ∙ ap (λ z. z ++ record { equality = c.args.equality; birth = c.len-class.result } ∷ []) c.in_ok-make_room.ensures.asked) refl)
