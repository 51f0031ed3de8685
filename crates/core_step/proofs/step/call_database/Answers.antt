use Rattle.std.proofs.Common.{◌≡◌, ◌<◌, ℕ, [], Some, true, length, get_or, slice_get, ap, sym, ◌∙◌, subst, arith}
use Rattle.std.proofs.lemmas.Option.{slice_get-get_or}
use Rattle.web_data.specs.declared.database.WebCall.TheVariants as call
use Rattle.web_data.specs.declared.database.WebAns.TheVariants as answer
use Rattle.history_core.specs.declared.entry.Entry.{Entry}
use Rattle.history_core.specs.LegalHistory.{Database}
use Rattle.history_core.specs.Core.{Core, entry_of}
use Rattle.history_check.specs.Given.{database_given}
use Rattle.core_step.proofs.Calls.{given_at, given_within, on_ok, db_step, db_back}
use Rattle.core_step.proofs.step.call_database.Goals as goal
use Rattle.core_step.proofs.step.call_database.Goals.{then-not-is_held-via-then-not-is_held, then-not-is_held-via-else-not-is_held+then-at-len, then-not-is_held-via-else-not-is_held+else-at-len+then-at-len-2}

pub returns-then-not-is_held-clause-refused : goal.returns-then-not-is_held-clause-refused
returns-then-not-is_held-clause-refused c q new s =
    let place = c.args.database in
    let held : slice_get c.state.inside.holders.items place ≡ Some (Some c.args.request) = ap (λ (k : Core). slice_get k.holders place) c.state.view_is ∙ s.0 in
    let there = ap (λ (k : Core). slice_get k.databases place) c.state.view_is ∙ s.2 in
    let within = given_within c.state.inside.names.items c.state.inside.keepers.items place s.1 there in
    let yes : c.is_held_by-is_held.result ≡ true = c.is_held_by-is_held.ensures.no (ap (λ z. slice_get z place) c.as_slice.ensures.value ∙ held) in
    elim c.then-not-is_held.branch [
      | then-not-is_held-via-then-not-is_held w ↦ cc
      | then-not-is_held-via-else-not-is_held+then-at-len w ↦ omega (arith, within.0)
      | then-not-is_held-via-else-not-is_held+else-at-len+then-at-len-2 w ↦ omega (arith, within.1)
    ]

pub returns-clause-ok : goal.returns-clause-ok
returns-clause-ok c =
    let place = c.args.database in
    let names = c.state.inside.names.items in
    let lists = c.state.inside.keepers.items in
    let in_names : place < length names = omega arith in
    let in_lists : place < length lists = omega arith in
    let name = c.index.result.now in
    let d : Database = database_given (name, get_or lists place []) in
    let there : slice_get c.args.state.now.databases place ≡ Some d =
    ap (λ (k : Core). slice_get k.databases place) (sym c.state.view_is)
    ∙ given_at names lists place name (get_or lists place []) (slice_get-get_or names place name in_names ∙ ap Some (sym c.index.ensures)) (slice_get-get_or lists place [] in_lists) in
    let held : slice_get c.args.state.now.holders place ≡ Some (Some c.args.request) =
    ap (λ (k : Core). slice_get k.holders place) (sym c.state.view_is) ∙ (ap (λ z. slice_get z place) (sym c.as_slice.ensures.value) ∙ c.is_held_by-is_held.ensures.yes c.if-not-is_held.false) in
    let e : Entry = record { request = c.args.request; call = call.Db c.in_ok-name.name c.in_ok-try_copy.field-0; moment = 0; answer = answer.Db c.in_ok-try_copy-2.field-0 } in
    let is : e ≡ entry_of c.args.request (call.Db d.name c.args.cmd.now) 0 (answer.Db c.args.answer.now) =
    λ i. record { request = c.args.request; call = call.Db (c.in_ok-name.ensures i) (c.in_ok-try_copy.ensures i); moment = 0; answer = answer.Db (c.in_ok-try_copy-2.ensures i) } in
    on_ok c.enter.result _ _ (λ h. db_step c.args.state.now c.args.request place c.args.cmd.now c.args.answer.now e d there is held c.enter.new.state h) c.enter.ensures.ok

pub returns-clause-refused : goal.returns-clause-refused
returns-clause-refused c q new s =
    let place = c.args.database in
    let names = c.state.inside.names.items in
    let lists = c.state.inside.keepers.items in
    let in_names : place < length names = omega arith in
    let in_lists : place < length lists = omega arith in
    let name = c.index.result.now in
    let d : Database = database_given (name, get_or lists place []) in
    let there : slice_get c.args.state.now.databases place ≡ Some d =
    ap (λ (k : Core). slice_get k.databases place) (sym c.state.view_is)
    ∙ given_at names lists place name (get_or lists place []) (slice_get-get_or names place name in_names ∙ ap Some (sym c.index.ensures)) (slice_get-get_or lists place [] in_lists) in
    let e : Entry = record { request = c.args.request; call = call.Db c.in_ok-name.name c.in_ok-try_copy.field-0; moment = 0; answer = answer.Db c.in_ok-try_copy-2.field-0 } in
    let is : e ≡ entry_of c.args.request (call.Db d.name c.args.cmd.now) 0 (answer.Db c.args.answer.now) =
    λ i. record { request = c.args.request; call = call.Db (c.in_ok-name.ensures i) (c.in_ok-try_copy.ensures i); moment = 0; answer = answer.Db (c.in_ok-try_copy-2.ensures i) } in
    c.enter.ensures.refused q new (db_back c.args.state.now c.args.request place c.args.cmd.now c.args.answer.now e d there is new s)
