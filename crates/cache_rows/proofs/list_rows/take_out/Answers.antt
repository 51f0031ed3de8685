use Rattle.std.proofs.Common.{rules, refl, subst, slice_get, Some, ◌≡◌}
use Rattle.cache_rows.proofs.Listing.{taken, none-there}
use Rattle.cache_rows.proofs.list_rows.take_out.Goals as goal

pub returns-in-Some-clause-rest : goal.returns-in-Some-clause-rest
returns-in-Some-clause-rest c =
    let (row, e, _, k) = c.in-Some.ensures.some in
    taken c.args.key.now c.args.rows.now.items _ c.in-Some.at row (subst (λ xs. slice_get xs c.in-Some.at ≡ Some row) c.as_slice.ensures.value e) k c.remove.ensures.items

pub returns-in-None-clause-rest : goal.returns-in-None-clause-rest
returns-in-None-clause-rest c = (none-there c.args.key.now c.args.rows.now.items (search rules), refl)
