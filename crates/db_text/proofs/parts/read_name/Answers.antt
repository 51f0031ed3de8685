use Rattle.std.proofs.Common.{◌≡◌, ◌∷◌, ◌++◌, [], ap, sym, ◌∙◌, drop, arith}
use Rattle.web_data.specs.StatementReading.{More, run}
use Rattle.db_text.proofs.Scans.{more_over, more_full}
use Rattle.db_text.proofs.parts.read_name.Goals as goal
use Rattle.db_text.proofs.parts.read_name.Goals.{then-loop-name-test+else-is_table_byte_at, else-loop-name-test}

pub returns : goal.returns
returns c = (
  c.loop-name.invariant.within,
  λ ps.
      let ts = c.args.texts.now.items in
      let bs = c.args.bytes.now in
      let i = c.loop-name.at in
      let name = c.loop-name.name.items in
      let pushed : c.push-2.new.self.items ≡ ts ++ name ∷ [] = c.in_ok-push-3.ensures.items ∙ ap (λ z. ts ++ z ∷ []) c.from_vec.ensures in
      let over : run ts (More name ∷ ps) (drop i bs) i ≡ run (ts ++ name ∷ []) ps (drop i bs) i =
      elim c.loop-name-test.branch [
        | then-loop-name-test+else-is_table_byte_at w ↦ more_over ts ps bs i name (sym w.is_table_byte_at.ensures ∙ w.if-is_table_byte_at.false)
        | else-loop-name-test w ↦ more_full ts ps bs i name (omega (arith, w.loop-name-test.false))
      ] in
      c.loop-name.invariant.whole ts ps ∙ (over ∙ ap (λ z. run z ps (drop i bs) i) (sym pushed)),
)
