use Rattle.std.proofs.Common.{◌≡◌, ◌∷◌, ◌++◌, [], ◌+◌, ap, sym, ◌∙◌, drop, arith}
use Rattle.web_data.specs.StatementReading.{run}
use Rattle.db_text.proofs.Scans.{inside_at, shut_over}
use Rattle.db_text.proofs.parts.read_quoted.Goals as goal

pub returns-then-not-is_quote_at-2 : goal.returns-then-not-is_quote_at-2
returns-then-not-is_quote_at-2 c = (
  omega (arith, c.loop-at-test.true),
  λ ps.
      let ts = c.args.texts.now.items in
      let bs = c.args.bytes.now in
      let i = c.loop-at.at in
      let text = c.loop-at.text.items in
      let pushed : c.push.new.self.items ≡ ts ++ text ∷ [] = c.in_ok-push.ensures.items ∙ (λ i. c.loop-at.invariant.same i ++ c.from_vec.ensures i ∷ []) in
      c.loop-at.invariant.whole ts ps
      ∙ (inside_at ts ps bs i text (sym c.is_quote_at-in-loop-at.ensures ∙ c.if-is_quote_at.true)
      ∙ (shut_over ts ps bs (i + 1) text (sym c.is_quote_at-then-is_quote_at.ensures ∙ c.if-not-is_quote_at-2.true)
      ∙ ap (λ z. run z ps (drop (i + 1) bs) (i + 1)) (sym pushed))),
)
