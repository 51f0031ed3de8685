use Rattle.std.proofs.Common.{◌<◌, ◌≤◌, ◌-◌, get_or, refl, ap, ◌∙◌, subst}
use Rattle.script_loader.proofs.Programs.{told_last, place_at_library, place_at_script}
use Rattle.script_loader.proofs.placed.place_in_libraries.Goals as goal
use Rattle.script_loader.proofs.placed.place_in_libraries.Goals.{in-Library+else-rest-size, in-Script}

pub loop-i-preserved : goal.loop-i-preserved
loop-i-preserved c =
    let files = c.args.files.now in
    let texts = c.args.texts.now in
    let i = c.loop-i.i in
    let less = subst (λ n. i < n) c.min-i-end.ensures c.loop-i-test.true in
    elim c.match-files-i.branch [
      | in-Library+else-rest-size w ↦ place_at_library files texts i c.index-files-i.result _ _ (get_or texts i w.index-texts-i.result) w.index-texts-i.result c.args.last.now c.loop-i.rest c.match-files-i.rest _ less c.index-files-i.is w.in-Library.is refl (subst (λ n. n ≤ c.loop-i.rest) w.len-size.ensures w.if-rest-size.false) (w.rest-is ∙ ap (λ n. c.loop-i.rest - n) w.len-size.ensures) c.loop-i.invariant
      | in-Script w ↦ place_at_script files texts i c.index-files-i.result _ _ _ c.args.last.now c.loop-i.rest c.match-files-i.rest _ less c.index-files-i.is w.in-Script.is w.rest-is c.loop-i.invariant
    ]

pub returns : goal.returns
returns c =
    told_last c.args.files.now c.args.texts.now c.loop-i.i c.args.last.now c.in_ok-name.name c.loop-i.rest c.args.place c.in_ok-name.ensures (subst (λ n. n ≤ c.loop-i.i) c.min-i-end.ensures c.loop-i-test.false) c.loop-i.invariant
