use Rattle.std.proofs.Common.{◌≡◌, ◌≤◌, ◌<◌, ℕ, [], ◌∷◌, ◌++◌, List, length, drop, sym, ◌∙◌, ap, subst, append_assoc, append-nil, arith}
use Rattle.std.proofs.lemmas.List.{drop_all}
use Rattle.sml_syntax.specs.declared.token.Token.{Token}
use Rattle.grammar_rules.specs.Tokens.{Program, Lexes, Refuses}
use Rattle.grammar_rules.specs.Spelling.{OpenQuote}
use Rattle.sml_lex.proofs.MoveSteps.{program_end, quotation_end}
use Rattle.sml_lex.proofs.cut.Goals as goal

pub loop-at-preserved : goal.loop-at-preserved
loop-at-preserved c =
    let bs = c.args.bytes.now in
    let m = c.in_ok-at.ensures.moves in
    record {
      within = m.within;
      whole = λ ts d. let w = m.whole ts d in subst (λ (us : List Token). Lexes Program 0 bs us) w.2 (c.loop-at.invariant.whole w.0 w.1);
      refused = λ r d. c.loop-at.invariant.refused r (m.refused r d);
    }

pub returns-in-Some-clause-refused : goal.returns-in-Some-clause-refused
returns-in-Some-clause-refused c =
    let mode = c.loop-at.quotes in
    c.loop-at.invariant.refused (OpenQuote c.in-Some.start)
    (subst (λ (w : List ℕ). Refuses mode c.loop-at.at w (OpenQuote c.in-Some.start)) (sym (drop_all c.loop-at.at c.args.bytes.now c.loop-at-test.false))
    (quotation_end mode c.loop-at.at c.in-Some.start (sym c.outermost.ensures ∙ c.in-Some.is)))

pub returns-in-None-clause-tokens : goal.returns-in-None-clause-tokens
returns-in-None-clause-tokens c =
    let mode = c.loop-at.quotes in
    subst (λ (ts : List Token). Lexes Program 0 c.args.bytes.now ts) (append-nil c.loop-at.tokens.items)
    (c.loop-at.invariant.whole []
    (subst (λ (w : List ℕ). Lexes mode c.loop-at.at w []) (sym (drop_all c.loop-at.at c.args.bytes.now c.loop-at-test.false))
    (program_end mode c.loop-at.at (sym c.outermost.ensures ∙ c.in-None.is))))
