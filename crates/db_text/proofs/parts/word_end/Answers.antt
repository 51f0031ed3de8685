use Rattle.std.proofs.Common.{◌∷◌, ap, ◌∙◌, drop}
use Rattle.std.proofs.lemmas.List.{drop_all}
use Rattle.web_data.specs.StatementReading.{Word, run}
use Rattle.db_text.proofs.Scans.{word_over}
use Rattle.db_text.proofs.parts.word_end.Goals as goal

pub returns : goal.returns
returns c = λ ts. (
  c.loop-c.invariant.within,
  λ ps.
      c.loop-c.invariant.whole ts ps
      ∙ (ap (λ w. run ts (Word w ∷ ps) (drop c.loop-c.at c.args.bytes.now) c.loop-c.at) (drop_all c.loop-c.c-index c.args.word.now c.loop-c-test.false)
      ∙ word_over ts ps c.args.bytes.now c.loop-c.at (drop c.loop-c.at c.args.bytes.now)),
)
