use Rattle.std.proofs.Common.{◌∙◌, arith, refl}
use Rattle.hm_types.proofs.Declaring.{declared-table, declared-solves, declared-is}
use Rattle.hm_types.proofs.type_table.TypeTable.declare.Goals as goal

pub invariant_of-self-2 : goal.invariant_of-self-2
invariant_of-self-2 c =
    let n = c.len-number.ensures ∙ c.self.inside.names.ok.0 in
    declared-table _ _ _ _ _ _ _ _ _ _ c.self.invariant c.in_ok-push.ensures.items (let y = c.if-number-ge4294967295.false in omega (arith, n, y)) (c.len-birth.ensures ∙ c.self.inside.nodes.ok.0)

pub returns-clause-solutions : goal.returns-clause-solutions
returns-clause-solutions c =
    declared-is _ _ _ c.self.view_is (declared-solves _ _ _ c.in_ok-push.ensures.items refl refl refl refl (c.len-birth.ensures ∙ c.self.inside.nodes.ok.0) c.self.invariant.asks c.self.invariant.born)
