use Rattle.std.proofs.Common.{inl, inr, refl}
use Rattle.db_text.proofs.farther.Goals as goal

pub returns-then-a-b-clause-one : goal.returns-then-a-b-clause-one
returns-then-a-b-clause-one c = inr refl

pub returns-clause-one : goal.returns-clause-one
returns-clause-one c = inl refl
