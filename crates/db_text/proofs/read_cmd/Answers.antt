use Rattle.std.proofs.Common.{◌≡◌, inl, inr, ◌+◌, ◌<◌, [], ◌∷◌, length, drop, slice_index_or, refl, ap, sym, ◌∙◌, subst, add-one, arith}
use Rattle.std.proofs.Math.Seq.{drop-cons}
use Rattle.std.proofs.lemmas.List.{drop_all}
use Rattle.web_data.specs.Statements.{Statement}
use Rattle.db_text.specs.declared.forms.Form.{Form}
use Rattle.db_text.specs.declared.forms.Form.TheVariants as form
use Rattle.web_data.specs.StatementReading.{Stops, run}
use Rattle.db_text.specs.Answers.{Gives, form_left}
use Rattle.db_text.proofs.Commands.{AllStop, SomeStops, Sound, forms, sound, found_command, found_place, none_refusal, none_command, none_place, stops_more}
use Rattle.db_text.proofs.read_cmd.Goals as goal

pub command-requires : goal.command-requires
command-requires c =
    let f : Form = slice_index_or forms c.loop-form.form-index form.Create in
    (sound c.in-Whole.texts.items c.args.bytes.now f (subst (Gives (run [] (form_left f) c.args.bytes.now 0)) c.in-Whole.is c.in_ok-texts.ensures)).0

pub returns-in-Whole-clause-command : goal.returns-in-Whole-clause-command
returns-in-Whole-clause-command c =
    let f : Form = slice_index_or forms c.loop-form.form-index form.Create in
    let d : Sound f c.in-Whole.texts.items c.args.bytes.now = sound c.in-Whole.texts.items c.args.bytes.now f (subst (Gives (run [] (form_left f) c.args.bytes.now 0)) c.in-Whole.is c.in_ok-texts.ensures) in
    subst (Statement c.args.bytes.now) (sym c.command.ensures) d.1

pub returns-in-Whole-clause-command_where : goal.returns-in-Whole-clause-command_where
returns-in-Whole-clause-command_where c =
    let f : Form = slice_index_or forms c.loop-form.form-index form.Create in
    let d : Sound f c.in-Whole.texts.items c.args.bytes.now = sound c.in-Whole.texts.items c.args.bytes.now f (subst (Gives (run [] (form_left f) c.args.bytes.now 0)) c.in-Whole.is c.in_ok-texts.ensures) in
    found_command c.args.bytes.now c.command.result (subst (Statement c.args.bytes.now) (sym c.command.ensures) d.1)

pub returns-in-Whole-clause-refusal_where : goal.returns-in-Whole-clause-refusal_where
returns-in-Whole-clause-refusal_where c =
    let f : Form = slice_index_or forms c.loop-form.form-index form.Create in
    let d : Sound f c.in-Whole.texts.items c.args.bytes.now = sound c.in-Whole.texts.items c.args.bytes.now f (subst (Gives (run [] (form_left f) c.args.bytes.now 0)) c.in-Whole.is c.in_ok-texts.ensures) in
    found_place c.args.bytes.now c.command.result (subst (Statement c.args.bytes.now) (sym c.command.ensures) d.1)

pub loop-form-preserved : goal.loop-form-preserved
loop-form-preserved c =
    let bs = c.args.bytes.now in
    let i = c.loop-form.form-index in
    let f : Form = slice_index_or forms i form.Create in
    let h : run [] (form_left f) bs 0 ≡ Stops c.in-Stops.at = subst (Gives (run [] (form_left f) bs 0)) c.in-Stops.is c.in_ok-texts.ensures in
    let within : i < length forms = omega (arith, c.loop-form-test.true) in
    let e : drop i forms ≡ f ∷ drop (i + 1) forms = drop-cons forms i form.Create within ∙ ap (λ n. f ∷ drop n forms) (sym (add-one i)) in
    record {
      whole = refl;
      stops = λ place l a.
          c.loop-form.invariant.stops place (omega (arith, l, c.farther-place.ensures.first))
          (stops_more bs place c.in-Stops.at f (drop (i + 1) forms) (drop i forms) e h (omega (arith, l, c.farther-place.ensures.second)) a);
      some = elim c.farther-place.ensures.one [
        | inl g ↦ subst (SomeStops bs) (sym g) c.loop-form.invariant.some
        | inr g ↦ subst (SomeStops bs) (sym g) (inr (f, h))
      ];
    }

pub returns-clause-refusal : goal.returns-clause-refusal
returns-clause-refusal c =
    let bs = c.args.bytes.now in
    let over : drop c.loop-form.form-index forms ≡ [] = drop_all c.loop-form.form-index forms (omega (arith, c.loop-form-test.false)) in
    none_refusal bs c.loop-form.place (c.loop-form.invariant.stops c.loop-form.place (omega arith) (subst (λ z. AllStop bs z c.loop-form.place) (sym over) tt)) c.loop-form.invariant.some

pub returns-clause-command_where : goal.returns-clause-command_where
returns-clause-command_where c =
    let bs = c.args.bytes.now in
    let over : drop c.loop-form.form-index forms ≡ [] = drop_all c.loop-form.form-index forms (omega (arith, c.loop-form-test.false)) in
    none_command bs c.loop-form.place (c.loop-form.invariant.stops c.loop-form.place (omega arith) (subst (λ z. AllStop bs z c.loop-form.place) (sym over) tt)) c.loop-form.invariant.some

pub returns-clause-refusal_where : goal.returns-clause-refusal_where
returns-clause-refusal_where c =
    let bs = c.args.bytes.now in
    let over : drop c.loop-form.form-index forms ≡ [] = drop_all c.loop-form.form-index forms (omega (arith, c.loop-form-test.false)) in
    none_place bs c.loop-form.place (c.loop-form.invariant.stops c.loop-form.place (omega arith) (subst (λ z. AllStop bs z c.loop-form.place) (sym over) tt)) c.loop-form.invariant.some
