use Rattle.std.proofs.Common.{◌≡◌, ◌+◌, ◌∷◌, [], ◌++◌, ◌<◌, ◌≤◌, ℕ, suc, List, drop, length, arith, ap, sym, ◌∙◌, append_assoc, append-nil, get_or, add-one}
use Rattle.std.proofs.Math.Seq.{drop-cons}
use Rattle.std.proofs.Math.ListN.{drop_of_length-le}
use Rattle.hm_types.specs.Joining.{pairs_of}
use Rattle.hm_types.proofs.join.push_pairs.Goals as goal

one_more : (xs ys : List ℕ) (i : ℕ) → i < length xs → length xs ≡ length ys → pairs_of (drop i xs) (drop i ys) ≡ (get_or xs i 0, get_or ys i 0) ∷ pairs_of (drop (suc i) xs) (drop (suc i) ys)
unfolding pairs_of
one_more xs ys i h q = ap (λ z. pairs_of z (drop i ys)) (drop-cons xs i 0 h) ∙ ap (pairs_of (get_or xs i 0 ∷ drop (suc i) xs)) (drop-cons ys i 0 (omega (arith, h, q)))

pub loop-i-preserved : goal.loop-i-preserved
loop-i-preserved c =
    let xs = c.args.xs.now in
    let ys = c.args.ys.now in
    let i = c.loop-i.i in
    let p : ℕ × ℕ = (get_or xs i 0, get_or ys i 0) in
    ap (λ z. z ++ pairs_of (drop (i + 1) xs) (drop (i + 1) ys)) (c.in_ok-push.ensures.items)
    ∙ append_assoc c.loop-i.work.items (p ∷ []) (pairs_of (drop (i + 1) xs) (drop (i + 1) ys))
    ∙ ap (λ j. c.loop-i.work.items ++ p ∷ pairs_of (drop j xs) (drop j ys)) (add-one i)
    ∙ ap (λ z. c.loop-i.work.items ++ z) (sym (one_more xs ys i (c.loop-i-test.true) c.requires))
    ∙ c.loop-i.invariant

none_left : (xs ys : List ℕ) (i : ℕ) → length xs ≤ i → pairs_of (drop i xs) (drop i ys) ≡ []
unfolding pairs_of
none_left xs ys i h = ap (λ z. pairs_of z (drop i ys)) (drop_of_length-le xs h)

pub returns-clause-pairs : goal.returns-clause-pairs
returns-clause-pairs c =
    sym (append-nil c.loop-i.work.items) ∙ sym (ap (λ z. c.loop-i.work.items ++ z) (none_left c.args.xs.now c.args.ys.now c.loop-i.i c.loop-i-test.false)) ∙ c.loop-i.invariant
