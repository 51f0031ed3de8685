use Rattle.std.proofs.Common.{sym, ◌∙◌, arith}
use Rattle.web_data.specs.Statements.{is_space}
use Rattle.db_text.proofs.Scans.{stands, spaces_at, spaces_over}
use Rattle.db_text.proofs.parts.spaces_end.Goals as goal

pub loop-at-preserved : goal.loop-at-preserved
loop-at-preserved c =
    let t = sym c.is_space_at.ensures ∙ c.loop-at-test.true in
    let h = stands is_space c.args.bytes.now c.loop-at.at t in
    record {
      within = omega (arith, h.0);
      whole = λ ts ps. c.loop-at.invariant.whole ts ps ∙ spaces_at ts ps c.args.bytes.now c.loop-at.at t;
    }

pub returns-clause-spaces : goal.returns-clause-spaces
returns-clause-spaces c = λ ts ps. c.loop-at.invariant.whole ts ps ∙ spaces_over ts ps c.args.bytes.now c.loop-at.at (sym c.is_space_at.ensures ∙ c.loop-at-test.false)
