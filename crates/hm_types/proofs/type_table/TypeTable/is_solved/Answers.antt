use Rattle.std.proofs.Common.{subst}
use Rattle.hm_types.specs.Solving.{Solved}
use Rattle.hm_types.proofs.Choices.{is-solved}
use Rattle.hm_types.proofs.Settling.{not-true}
use Rattle.hm_types.proofs.type_table.TypeTable.is_solved.Goals as goal

pub returns-then-not-self-clause-solved : goal.returns-then-not-self-clause-solved
returns-then-not-self-clause-solved c q =
    subst (λ g. Solved g) c.self.view_is (is-solved _ c.if-not-self.true c.self.invariant.fine c.self.invariant.within c.self.invariant.sorted c.self.invariant.asks (c.self.invariant.settled c.if-not-self.true (not-true _ q)))
