use Rattle.std.proofs.Common.{◌≤◌, ◌+◌, ap, subst}
use Rattle.script_loader.proofs.Programs.{all_placed}
use Rattle.script_loader.proofs.placed.place_texts.Goals as goal

pub returns : goal.returns
returns c =
    all_placed c.loop-i.library _ _ c.args.prelude c.args.files.now c.args.sources.now c.loop-i.texts.items c.loop-i.i (subst (λ n. n ≤ c.loop-i.i) c.min-i-end.ensures c.loop-i-test.false) c.loop-i.invariant.texts (ap (λ n. c.args.prelude + n) c.library_bytes.ensures)
