use Rattle.std.proofs.Common.{sym, ap, ◌∙◌}
use Rattle.std.proofs.lemmas.List.Sorted.{searched}
use Rattle.std.specs.Option.{is_some}
use Rattle.kam_store.proofs.Rising.{rises_ordered, absent_from_search}
use Rattle.kam_store.proofs.serials.by_halves.Goals as goal

pub returns-clause-none : goal.returns-clause-none
returns-clause-none c =
    let ns = c.args.live.now in
    let ordered = rises_ordered c.requires.0 0 ns in
    let found = searched ns c.args.serial c.binary_search.result c.binary_search.ensures.position (λ i j a b. ordered i j c.requires.1 a b) in
    λ none k e. absent_from_search ns c.args.serial c.binary_search.result found (ap (λ o. is_some o) (sym c.ok.ensures.value) ∙ none) k e
