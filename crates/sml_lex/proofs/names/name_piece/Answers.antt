use Rattle.std.proofs.Common.{◌≡◌, ◌+◌, ◌<◌, ◌≤◌, ◌∷◌, [], List, ℕ, drop, get_or, subst, arith, refl, sym, ◌∙◌}
use Rattle.std.specs.List.{slice_range}
use Rattle.grammar_rules.specs.Spelling.{names, named, is_name_byte}
use Rattle.sml_lex.specs.Ends.{Ends}
use Rattle.sml_lex.proofs.Steps.{slice_none}
use Rattle.sml_lex.proofs.Runs.{run_stops}
use Rattle.sml_lex.proofs.NameSteps.{first_word, next_part, name_ends, gives_reading, goes_within}
use Rattle.sml_lex.proofs.names.name_piece.Goals as goal

pub loop-word-init : goal.loop-word-init
loop-word-init c =
    let bs = c.args.bytes.now in
    let i = c.args.at in
    let m = c.run_end-end.result in
    record {
      first = omega arith;
      onward = omega arith;
      within = c.run_end-end.ensures.within;
      stops = λ y zs e. run_stops is_name_byte bs (i + 1) m c.run_end-end.ensures.run y zs e;
      whole = λ r to e. first_word i i m bs c.requires c.run_end-end.ensures.onward c.run_end-end.ensures.run r to [] (subst (λ w. Ends (names i w (slice_range bs i m)) m (drop m bs) r to) (slice_none bs i) e);
    }

pub run_end-end-requires-in-loop-word : goal.run_end-end-requires-in-loop-word
run_end-end-requires-in-loop-word c = goes_within c.args.bytes.now (slice_range c.args.bytes.now c.loop-word.word c.loop-word.end) c.loop-word.end (sym c.goes_on.ensures ∙ c.loop-word-test.true)

pub loop-word-preserved : goal.loop-word-preserved
loop-word-preserved c =
    let bs = c.args.bytes.now in
    let end = c.loop-word.end in
    let m = c.run_end-end-in-loop-word.result in
    let run = c.run_end-end-in-loop-word.ensures in
    record {
      first = omega (arith, c.loop-word.invariant.first, c.loop-word.invariant.onward);
      onward = omega (arith, run.onward);
      within = run.within;
      stops = λ y zs e. run_stops is_name_byte bs (end + 2) m run.run y zs e;
      whole = λ r to e. c.loop-word.invariant.whole r to
          (next_part c.args.at c.loop-word.word end m bs c.loop-word.invariant.first (omega (arith, c.loop-word.invariant.onward)) (sym c.goes_on.ensures ∙ c.loop-word-test.true) run.onward run.run r to e);
    }

pub returns : goal.returns
returns c =
    let bs = c.args.bytes.now in
    let i = c.args.at in
    let word = c.loop-word.word in
    let end = c.loop-word.end in
    let e : Ends (names i (slice_range bs i word) (slice_range bs word end)) end (drop end bs) (named i (slice_range bs i word) (slice_range bs word end)) end =
    name_ends i word end bs (sym c.goes_on.ensures ∙ c.loop-word-test.false) c.loop-word.invariant.stops in
    gives_reading (names i [] (get_or bs i 0 ∷ [])) (i + 1) end (drop (i + 1) bs) (named i (slice_range bs i word) (slice_range bs word end)) c.named.result
    (λ k q. c.loop-word.invariant.whole k end (subst (λ z. Ends (names i (slice_range bs i word) (slice_range bs word end)) end (drop end bs) z end) q e)) c.named.ensures
