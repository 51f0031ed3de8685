use Rattle.std.proofs.Common.{◌<◌, ◌≤◌, ◌+◌, get_or, refl, ap, ◌∙◌, subst, arith}
use Rattle.script_loader.specs.Sources.{bytes_of}
use Rattle.script_loader.proofs.Programs.{no_libraries, bytes_at_library, bytes_at_script}
use Rattle.script_loader.proofs.placed.library_bytes.Goals as goal
use Rattle.script_loader.proofs.placed.library_bytes.Goals.{in-Library, in-Script}

pub returns : goal.returns
returns c =
    let files = c.args.files.now in
    let sources = c.args.sources.now in
    let over = ap bytes_of (no_libraries files sources c.loop-i.i (subst (λ n. n ≤ c.loop-i.i) c.min-i-end.ensures c.loop-i-test.false)) in
    let sum = c.loop-i.invariant in
    omega (arith, over, sum)

pub loop-i-preserved : goal.loop-i-preserved
loop-i-preserved c =
    let files = c.args.files.now in
    let sources = c.args.sources.now in
    let i = c.loop-i.i in
    let less = subst (λ n. i < n) c.min-i-end.ensures c.loop-i-test.true in
    elim c.match-files-i.branch [
      | in-Library w ↦ bytes_at_library files sources i c.index-files-i.result _ _ (get_or sources i w.index-sources-i.result) w.index-sources-i.result c.loop-i.sum c.match-files-i.sum _ less c.index-files-i.is w.in-Library.is refl (w.sum-is ∙ ap (λ n. c.loop-i.sum + n) w.len-sum.ensures) c.loop-i.invariant
      | in-Script w ↦ bytes_at_script files sources i c.index-files-i.result _ _ _ c.loop-i.sum c.match-files-i.sum _ less c.index-files-i.is w.in-Script.is w.sum-is c.loop-i.invariant
    ]
