use Rattle.std.proofs.Common.{ap, sym, ◌∙◌, ◌++◌, take}
use Rattle.outside_world.proofs.Grown.{given_more, left_less}
use Rattle.outside_world.proofs.memory.sources.Unread.give.Goals as goal

pub returns-clause-given : goal.returns-clause-given
returns-clause-given c =
    given_more _ _ _ _ (rw c.deref.ensures.value at c.copy_front-n.ensures.front) ∙ ap (λ s. s.given ++ take c.copy_front-n.result c.copy_front-n.new.piece) c.self.view_is

pub returns-clause-left : goal.returns-clause-left
returns-clause-left c =
    ap (λ s. s.left) (sym c.self.view_is) ∙ left_less _ _ _ _ (rw c.deref.ensures.value at c.copy_front-n.ensures.front)
