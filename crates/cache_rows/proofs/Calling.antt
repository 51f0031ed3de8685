-- Calls one after another.
use Rattle.std.proofs.Common.{◌≡◌, ℕ, suc, ◌+◌, ◌<◌, ◌≤◌, List, [], ◌∷◌, ◌++◌, length, take, drop, get_or, ap, sym, ◌∙◌, subst, arith, add-one, le_of_eq, Result, Ok, Err, OnErr}
use Rattle.std.proofs.Math.Seq.{take-suc, drop-cons}
use Rattle.cache_rows.specs.declared.row.RowCall.{RowCall}
use Rattle.cache_rows.specs.declared.row.RowCall.TheVariants as call
use Rattle.cache_rows.specs.declared.row.RowAns.{RowAns}
use Rattle.cache_rows.specs.declared.row.RowAns.TheVariants as ans
use Rattle.cache_rows.specs.RowMachine.{CacheRows, RowStep, RowRun, Stays, Goes, MomentsRise, moment_of}

run-push : (a b d : CacheRows) (calls : List RowCall) (answers : List RowAns) (c : RowCall) (x : RowAns) → RowRun a calls answers b → RowStep b c x d → RowRun a (calls ++ c ∷ []) (answers ++ x ∷ []) d
run-push a b d calls answers c x (Stays rows) s = Goes a d d c [] x [] s (Stays d)
run-push a b d calls answers c x (Goes old middle new first rest y others t r) s = Goes old middle d first (rest ++ c ∷ []) y (others ++ x ∷ []) t (run-push middle new d rest others c x r s)

last-of : (b d : CacheRows) (c : RowCall) (x : RowAns) → b.last ≤ moment_of c → RowStep b c x d → d.last ≤ moment_of c
last-of b d (call.Look moment key) (ans.Found answer) h s = le_of_eq s.last
last-of b d (call.Put moment key value) (ans.Fresh fresh) h s = le_of_eq s.last
last-of b d (call.Flush moment) ans.Flushed h s = subst (λ (z : CacheRows). z.last ≤ moment) (sym s) h
last-of b d (call.Look moment key) (ans.Fresh fresh) h s = absurd s
last-of b d (call.Look moment key) ans.Flushed h s = absurd s
last-of b d (call.Put moment key value) (ans.Found answer) h s = absurd s
last-of b d (call.Put moment key value) ans.Flushed h s = absurd s
last-of b d (call.Flush moment) (ans.Found answer) h s = absurd s
last-of b d (call.Flush moment) (ans.Fresh fresh) h s = absurd s

rise-from : (low high : ℕ) (calls : List RowCall) → low ≤ high → MomentsRise high calls → MomentsRise low calls
rise-from low high [] h g = tt
rise-from low high (c ∷ calls) h g = (let k = g.0 in omega (arith, h, k), g.1)

module _ (a b d : CacheRows) (calls : List RowCall) (i : ℕ) (c : RowCall) (h : i < length calls) (e : c ≡ get_or calls i c) (answers : List RowAns) (x : RowAns) (run : RowRun a (take i calls) answers b) (step : RowStep b c x d) where
  pub run-more : RowRun a (take (i + 1) calls) (answers ++ x ∷ []) d
  run-more = subst (λ z. RowRun a z (answers ++ x ∷ []) d) (sym (ap (λ n. take n calls) (add-one i) ∙ (take-suc calls i c h ∙ ap (λ z. take i calls ++ z ∷ []) (sym e)))) (run-push a b d (take i calls) answers c x run step)

  pub rise-more : MomentsRise b.last (drop i calls) → MomentsRise d.last (drop (i + 1) calls)
  rise-more r =
      let parts = subst (MomentsRise b.last) (drop-cons calls i c h ∙ ap (λ z. z ∷ drop (suc i) calls) (sym e)) r in
      subst (λ n. MomentsRise d.last (drop n calls)) (sym (add-one i)) (rise-from d.last (moment_of c) (drop (suc i) calls) (last-of b d c x parts.0 step) parts.1)

pub on_err : {A E : Type 0} (r : Result A E) (P : Type 0) → P → OnErr r P
on_err (Ok a) P h = tt
on_err (Err e) P h = h
