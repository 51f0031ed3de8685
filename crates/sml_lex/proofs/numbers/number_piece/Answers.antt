use Rattle.std.proofs.Common.{◌≡◌, ℤ, ◌+◌, ◌<◌, ◌≤◌, ◌∷◌, [], drop, get_or, arith, refl, sym, ap, ◌∙◌, subst, to_z-of_z, w64, SFits, rules}
use Rattle.std.specs.List.{slice_range}
use Rattle.std.proofs.lemmas.List.{take_rest}
use Rattle.sml_syntax.specs.declared.token.TokenForm.TheVariants as form
use Rattle.grammar_rules.specs.Spelling.{numbers, is, Refused, WideNumber}
use Rattle.sml_lex.specs.Ends.{Ends}
use Rattle.sml_lex.specs.Coded.{lack_begun}
use Rattle.sml_lex.proofs.NumberSteps.{number_refused, number_whole}
use Rattle.sml_lex.proofs.numbers.number_piece.Goals as goal

pub returns-in-Some : goal.returns-in-Some
returns-in-Some c =
    number_refused c.args.start c.args.from c.run_end-end.result c.args.negative c.args.bytes.now c.requires c.run_end-end.ensures.onward c.run_end-end.ensures.run c.in-Some.lack (sym (ap (lack_begun (slice_range c.args.bytes.now c.args.from c.run_end-end.result)) (take_rest c.args.bytes.now c.run_end-end.result)) ∙ (sym c.number_lack.ensures ∙ c.in-Some.is))

pub returns-in-Some-integer : goal.returns-in-Some-integer
returns-in-Some-integer c =
    let bs = c.args.bytes.now in
    let i = c.args.from in
    let f : SFits w64 c.in-Some-integer.n = search rules in
    subst (λ (z : ℤ). Ends (numbers c.args.start i c.args.negative (get_or bs i 0 ∷ [])) (i + 1) (drop (i + 1) bs) (is (form.Int z)) c.run_end-end.result) (sym (to_z-of_z f))
    (number_whole c.args.start i c.run_end-end.result c.args.negative bs c.requires c.run_end-end.ensures.onward c.run_end-end.ensures.run (is (form.Int c.in-Some-integer.n))
    (sym (ap (lack_begun (slice_range c.args.bytes.now c.args.from c.run_end-end.result)) (take_rest c.args.bytes.now c.run_end-end.result)) ∙ (sym c.number_lack.ensures ∙ c.in_default.is)) (c.in-Some-integer.ensures c.args.start))

pub returns-in-None : goal.returns-in-None
returns-in-None c = (
  c.run_end-end.result,
  number_whole c.args.start c.args.from c.run_end-end.result c.args.negative c.args.bytes.now c.requires c.run_end-end.ensures.onward c.run_end-end.ensures.run (Refused (WideNumber c.args.start))
      (sym (ap (lack_begun (slice_range c.args.bytes.now c.args.from c.run_end-end.result)) (take_rest c.args.bytes.now c.run_end-end.result)) ∙ (sym c.number_lack.ensures ∙ c.in_default.is)) (c.in-None.ensures c.args.start),
)
