use Rattle.std.proofs.Common.{◌≡◌, ℕ, suc, ◌+◌, ◌-◌, ◌<◌, List, [], ◌∷◌, ◌++◌, None, length, get_or, take, drop, refl, ap, sym, ◌∙◌, arith}
use Rattle.std.proofs.lemmas.List.{drop_all, take_all, length-drop}
use Rattle.std.proofs.Math.Seq.{take-suc}
use Rattle.sml_grammar.specs.declared.act.Made.{Made}
use Rattle.parse_limits.specs.Lacks.{lack_from, own_after, first_lack}
use Rattle.parse_limits.proofs.Folds.{at_item}
use Rattle.parse_limits.proofs.LackSearch.{lack_start, lack_kept, lack_none}
use Rattle.parse_limits.proofs.lacks.first_lack.Goals as goal

pub loop-i-init : goal.loop-i-init
loop-i-init c = ap (λ w. lack_from None w [] c.args.acts.now) c.new-own.ensures.items ∙ lack_start c.args.acts.now

upto : (xs : List Made) (i : ℕ) (d x : Made) → x ≡ get_or xs i d → i < length xs → take (i + 1) xs ≡ take i xs ++ x ∷ []
upto xs i d x e h = ap (λ j. take j xs) (next i) ∙ take-suc xs i d h ∙ ap (λ y. take i xs ++ y ∷ []) (sym e)
  where
    next : (n : ℕ) → n + 1 ≡ suc n
    next n = omega arith

pub loop-i-preserved : goal.loop-i-preserved
loop-i-preserved c =
    let acts = c.args.acts.now in
    let i = c.loop-i.i in
    let m = get_or acts i c.index-acts-i.result in
    lack_kept c.loop-i.found c.lower-found.result c.lack_of.result c.loop-i.own.items c.in_ok-own.own.items c.as_slice.result.now (take i acts) (take (i + 1) acts) (drop i acts) (drop (i + 1) acts) m (first_lack acts)
    (at_item acts i c.index-acts-i.result m refl c.loop-i-test.true) (upto acts i c.index-acts-i.result m refl c.loop-i-test.true) c.lower-found.ensures c.lack_of.ensures c.as_slice.ensures.value (c.in_ok-own.ensures ∙ ap (own_after c.loop-i.own.items m.act) (take_all (length acts - (i + 1)) (drop (i + 1) acts) (omega (arith, length-drop (i + 1) acts)))) c.loop-i.invariant

pub returns : goal.returns
returns c =
    let acts = c.args.acts.now in
    let i = c.loop-i.i in
    sym (lack_none c.loop-i.found c.loop-i.own.items (take i acts) (drop i acts) (drop_all i acts (omega arith))) ∙ c.loop-i.invariant
