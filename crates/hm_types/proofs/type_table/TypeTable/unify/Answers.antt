use Rattle.std.proofs.Common.{length, ap, sym, ◌∙◌}
use Rattle.hm_types.proofs.Settling.{unify-table, unify-done, most-is, written}
use Rattle.hm_types.proofs.type_table.TypeTable.unify.Goals as goal

pub invariant_of-self-in-Err-Clash : goal.invariant_of-self-in-Err-Clash
invariant_of-self-in-Err-Clash c =
    let T = c.self.inside.nodes.items in
    let ln = c.settle-settled.ensures.keeps.same_length ∙ ap (λ z. length z) c.deref_mut.ensures.value in
    let la = c.settle-settled.ensures.lowers.same_length ∙ ap (λ z. length z) c.deref_mut-2.ensures.value in
    let lm = c.settle-settled.ensures.stamped.0 ∙ ln ∙ sym c.self.invariant.marked in
    unify-table c.self.inside.names.items _ _ _ _ _ _ _ _ c.self.inside.clashed c.self.inside.spent _ _ _ _ _ _ _ _ _ c.self.invariant c.deref-2.ensures.value c.deref_mut.ensures.value c.deref_mut-2.ensures.value
    (written _ _ _ (c.self.inside.nodes.ok.0) ln) (written _ _ _ (c.self.inside.asked.ok.0) la) (written _ _ _ (c.self.inside.marks.ok.0) lm)
    c.settle-settled.ensures.keeps c.settle-settled.ensures.lowers c.settle-settled.ensures.stamped (λ e f. absurd (cc))

pub invariant_of-self-in-Err-NoMemory : goal.invariant_of-self-in-Err-NoMemory
invariant_of-self-in-Err-NoMemory c =
    let ln = c.settle-settled.ensures.keeps.same_length ∙ ap (λ z. length z) c.deref_mut.ensures.value in
    let la = c.settle-settled.ensures.lowers.same_length ∙ ap (λ z. length z) c.deref_mut-2.ensures.value in
    let lm = c.settle-settled.ensures.stamped.0 ∙ ln ∙ sym c.self.invariant.marked in
    unify-table c.self.inside.names.items _ _ _ _ _ _ _ _ c.self.inside.clashed c.self.inside.spent _ _ _ _ _ _ _ _ _ c.self.invariant c.deref-2.ensures.value c.deref_mut.ensures.value c.deref_mut-2.ensures.value
    (written _ _ _ (c.self.inside.nodes.ok.0) ln) (written _ _ _ (c.self.inside.asked.ok.0) la) (written _ _ _ (c.self.inside.marks.ok.0) lm)
    c.settle-settled.ensures.keeps c.settle-settled.ensures.lowers c.settle-settled.ensures.stamped (λ e f. absurd (cc))

pub returns-in-Ok-clause-most : goal.returns-in-Ok-clause-most
returns-in-Ok-clause-most c =
    let ln = c.settle-settled.ensures.keeps.same_length ∙ ap (λ z. length z) c.deref_mut.ensures.value in
    let la = c.settle-settled.ensures.lowers.same_length ∙ ap (λ z. length z) c.deref_mut-2.ensures.value in
    most-is _ _ _ c.args.a c.args.b c.self.view_is
    (unify-done _ _ _ _ _ _ _ _ _ c.args.a c.args.b c.deref.ensures.value c.deref-2.ensures.value c.deref_mut.ensures.value c.deref_mut-2.ensures.value
    (written _ _ _ (c.self.inside.nodes.ok.0) ln) (written _ _ _ (c.self.inside.asked.ok.0) la) c.in-Ok.ensures.joined c.if-self.false c.self.invariant.within c.self.invariant.sorted c.self.invariant.asks)
