use Rattle.std.proofs.Common.{rules, ◌≡◌, ◌++◌, ◌∷◌, [], ◌<◌, Some, length, take, slice_get, ap, sym, ◌∙◌}
use Rattle.std.proofs.lemmas.Option.{slice_get-get_or}
use Rattle.history_check.specs.Given.{database_given, databases_given}
use Rattle.history_check.proofs.Loading.{given_more}
use Rattle.history_check.proofs.replay.Replay.make.Goals as goal

pub loop-at-preserved : goal.loop-at-preserved
loop-at-preserved c =
    let names = c.args.names.now in
    let lists = c.args.keepers.now in
    let in_names : c.loop-at.at < length names = search rules in
    let in_lists : c.loop-at.at < length lists = search rules in
    let name = slice_get-get_or names c.loop-at.at _ in_names ∙ ap Some (sym c.index-names-at.is) in
    let given = slice_get-get_or lists c.loop-at.at _ in_lists ∙ ap Some (sym c.index-keepers-at.is) in
    c.in_ok-push.ensures.items ∙ (ap (λ z. z ++ c.in_ok-make_database.field-0 ∷ []) c.loop-at.invariant
    ∙ (ap (λ z. databases_given (take c.loop-at.at names) (take c.loop-at.at lists) ++ z ∷ []) (c.in_ok-make_database.ensures ∙ ap (λ z. database_given (c.index-names-at.result, z)) c.as_slice.ensures) ∙ given_more names lists c.loop-at.at c.index-names-at.result c.index-keepers-at.result name given))
