use Rattle.std.proofs.Common.{refl}
use Rattle.basis_table.specs.BasisTable.{scheme_list, length_of}
use Rattle.hm_scheme.proofs.basis.tables_spell_the_basis.Goals as goal

pub returns-clause-constants : goal.returns-clause-constants
unfolding scheme_list length_of
returns-clause-constants c = refl

pub returns-clause-applied : goal.returns-clause-applied
unfolding scheme_list length_of
returns-clause-applied c = refl

pub returns-clause-values : goal.returns-clause-values
unfolding scheme_list length_of
returns-clause-values c = refl
