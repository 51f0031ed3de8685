use Rattle.std.proofs.Common.{rules, ◌≡◌, ◌+◌, ◌<◌, ◌≤◌, ◌∷◌, length, get_or, drop, true, false, refl, ap, sym, ◌∙◌, arith}
use Rattle.std.proofs.lemmas.List.{drop_all, length-drop}
use Rattle.parse_limits.specs.Lacks.{pushed, same_name, var_of, is_push}
use Rattle.parse_limits.proofs.Folds.{at_item}
use Rattle.parse_limits.proofs.LackSearch.{pushed_of, pushed_none, pushed_short, pushed_other, pushed_no_push, pushed_next, two_items}
use Rattle.parse_limits.proofs.lacks.pushed.Goals as goal

pub returns-then-acts-at-lt2 : goal.returns-then-acts-at-lt2
returns-then-acts-at-lt2 c =
    let names = c.args.names.now in
    let acts = c.args.acts.now in
    let i = c.loop-name.name-index in
    let at = c.loop-name.at in
    let name = c.name-item.result in
    let short : length (drop at acts) < 2 = omega (arith, length-drop at acts, c.if-acts-at-lt2.true) in
    sym (pushed_of (drop i names) (name ∷ drop (i + 1) names) (drop at acts) (drop at acts) (at_item names i _ name c.name-item.is c.loop-name-test.true) refl ∙ pushed_short name (drop (i + 1) names) (drop at acts) short) ∙ c.loop-name.invariant.1

pub returns-then-not-same_name : goal.returns-then-not-same_name
returns-then-not-same_name c =
    let names = c.args.names.now in
    let acts = c.args.acts.now in
    let i = c.loop-name.name-index in
    let at = c.loop-name.at in
    let name = c.name-item.result in
    let m = get_or acts at c.index-acts-at.result in
    let n = get_or acts (at + 1) m in
    let more = drop (at + 2) acts in
    let other : same_name name (var_of m.act) ≡ false = search rules in
    let enough : at + 2 ≤ length acts = omega (arith, c.if-acts-at-lt2.false) in
    sym (pushed_of (drop i names) (name ∷ drop (i + 1) names) (drop at acts) (m ∷ n ∷ more) (at_item names i _ name c.name-item.is c.loop-name-test.true) (two_items acts at c.index-acts-at.result m m n refl refl enough) ∙ pushed_other name (drop (i + 1) names) m n more other) ∙ c.loop-name.invariant.1

pub returns-then-not-is_push : goal.returns-then-not-is_push
returns-then-not-is_push c =
    let names = c.args.names.now in
    let acts = c.args.acts.now in
    let i = c.loop-name.name-index in
    let at = c.loop-name.at in
    let name = c.name-item.result in
    let m = get_or acts at c.index-acts-at.result in
    let n = get_or acts (at + 1) c.index-acts-at-in-loop-name.result in
    let more = drop (at + 2) acts in
    let same : same_name name (var_of m.act) ≡ true = search rules in
    let other : is_push n.act ≡ false = search rules in
    let enough : at + 2 ≤ length acts = omega (arith, c.if-acts-at-lt2.false) in
    sym (pushed_of (drop i names) (name ∷ drop (i + 1) names) (drop at acts) (m ∷ n ∷ more) (at_item names i _ name c.name-item.is c.loop-name-test.true) (two_items acts at c.index-acts-at.result c.index-acts-at-in-loop-name.result m n refl refl enough) ∙ pushed_no_push name (drop (i + 1) names) m n more same other) ∙ c.loop-name.invariant.1

pub loop-name-preserved : goal.loop-name-preserved
loop-name-preserved c =
    let names = c.args.names.now in
    let acts = c.args.acts.now in
    let i = c.loop-name.name-index in
    let at = c.loop-name.at in
    let name = c.name-item.result in
    let m = get_or acts at c.index-acts-at.result in
    let n = get_or acts (at + 1) c.index-acts-at-in-loop-name.result in
    let more = drop (at + 2) acts in
    let same : same_name name (var_of m.act) ≡ true = search rules in
    let further : is_push n.act ≡ true = search rules in
    let enough : at + 2 ≤ length acts = omega (arith, c.if-acts-at-lt2.false) in
    (enough, sym (pushed_of (drop i names) (name ∷ drop (i + 1) names) (drop at acts) (m ∷ n ∷ more) (at_item names i _ name c.name-item.is c.loop-name-test.true) (two_items acts at c.index-acts-at.result c.index-acts-at-in-loop-name.result m n refl refl enough) ∙ pushed_next name (drop (i + 1) names) m n more same further) ∙ c.loop-name.invariant.1)

pub returns : goal.returns
returns c =
    let names = c.args.names.now in
    let acts = c.args.acts.now in
    let i = c.loop-name.name-index in
    let at = c.loop-name.at in
    pushed_none acts at c.loop-name.invariant.0 ∙ sym (ap (λ w. pushed w (drop at acts)) (drop_all i names (omega arith))) ∙ c.loop-name.invariant.1
