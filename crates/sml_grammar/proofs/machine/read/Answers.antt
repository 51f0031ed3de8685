use Rattle.std.proofs.Common.{◌≡◌, ℕ, ◌+◌, ◌-◌, List, [], ◌∷◌, length, drop, refl, ap, sym, ◌∙◌, arith}
use Rattle.std.proofs.lemmas.List.{drop_all}
use Rattle.sml_syntax.specs.declared.token.Token.{Token}
use Rattle.sml_grammar.specs.Machine.{run}
use Rattle.sml_grammar.specs.Reads.{fed_as}
use Rattle.sml_grammar.proofs.Feeding.{goes_on, stops_here, at_end, stops_end, outcome-start, at_item}
use Rattle.sml_grammar.proofs.machine.read.Goals as goal

pub loop-token-init : goal.loop-token-init
loop-token-init c = outcome-start c.args.tokens.now c.in_ok-stack.stack c.new-acts.result.items c.in_ok-stack.ensures c.new-acts.ensures.items

pub returns-in_default : goal.returns-in_default
returns-in_default c =
    let ts = c.args.tokens.now in
    let i = c.loop-token.token-index in
    let t = c.token-item.result in (
      t ∷ drop (i + 1) ts,
      c.loop-token.to,
      sym c.loop-token.invariant ∙ stops_here (drop i ts) (drop (i + 1) ts) t c.in_ok-feed.field-0 c.loop-token.stack c.feed.new.stack c.loop-token.to c.loop-token.acts.items c.feed.new.acts.items
          (at_item ts i _ t c.token-item.is c.loop-token-test.true) c.in_default.not-Goes c.in_ok-feed.ensures,
      refl,
    )

pub loop-token-preserved : goal.loop-token-preserved
loop-token-preserved c =
    let ts = c.args.tokens.now in
    let i = c.loop-token.token-index in
    let t = c.token-item.result in
    sym (goes_on (drop i ts) (drop (i + 1) ts) t c.loop-token.stack c.feed.new.stack c.loop-token.to c.loop-token.acts.items c.feed.new.acts.items (at_item ts i _ t c.token-item.is c.loop-token-test.true)
    (c.in_ok-feed.ensures ∙ ap (λ f. fed_as f c.feed.new.stack c.feed.new.acts.items) c.in-Goes.is))
    ∙ c.loop-token.invariant

past_end : (i : ℕ) (ts : List Token) → length ts - i ≡ 0 → drop i ts ≡ []
past_end i ts h = drop_all i ts (omega arith)

pub returns-in-Empties : goal.returns-in-Empties
returns-in-Empties c =
    let ts = c.args.tokens.now in
    let e : drop c.loop-token.token-index ts ≡ [] = past_end c.loop-token.token-index ts (omega arith) in
    sym c.loop-token.invariant ∙ ap (λ w. run w c.loop-token.stack c.loop-token.to c.loop-token.acts.items) e
    ∙ at_end c.loop-token.stack c.loop-token.to c.loop-token.acts.items c.feed-2.new.acts.items
    (c.in_ok-feed-2.ensures ∙ ap (λ f. fed_as f c.feed-2.new.stack c.feed-2.new.acts.items) c.in-Empties.is)

pub returns : goal.returns
returns c =
    let ts = c.args.tokens.now in
    let e : drop c.loop-token.token-index ts ≡ [] = past_end c.loop-token.token-index ts (omega arith) in (
      [],
      c.loop-token.to,
      sym c.loop-token.invariant ∙ ap (λ w. run w c.loop-token.stack c.loop-token.to c.loop-token.acts.items) e
          ∙ stops_end c.in_ok-feed-2.field-0 c.loop-token.stack c.feed-2.new.stack c.loop-token.to c.loop-token.acts.items c.feed-2.new.acts.items c.in_default-2.not-Empties c.in_ok-feed-2.ensures,
      refl,
    )
