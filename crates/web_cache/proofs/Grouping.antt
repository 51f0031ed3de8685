-- What a call on one of the caches of a group makes of them all.
use Rattle.std.proofs.Common.{◌≡◌, inl, ℕ, List, ◌∷◌, ◌++◌, map, slice_get, slice_set, get_or, Some, Result, IfOk, refl, ap, ◌∙◌, subst}
use Rattle.std.proofs.lemmas.Option.{get_or_from_slice_get}
use Rattle.web_data.specs.declared.cache.CacheId.{CacheId}
use Rattle.web_data.specs.declared.cache.CacheOp.{CacheOp}
use Rattle.web_data.specs.declared.cache.CacheAns.{CacheAns}
use Rattle.cache_rows.proofs.Lists.{At, at-place}
use Rattle.web_cache.specs.CacheMachine.{OpStep, RowsStep}
use Rattle.web_cache.specs.Shown.{Kept, standing_of}
use Rattle.web_cache.proofs.Showing.{images, if_ok}

module _ (xs : List Kept) (i : ℕ) (cache : Kept) (there : slice_get xs i ≡ Some cache) (new : Kept) (ys : List Kept) (e : ys ≡ slice_set xs i new) where
  abbrev p : At xs i cache
  p = at-place xs i cache there

  -- a cache that stands acts
  pub acts : (id : CacheId) (moment : ℕ) (call : CacheOp) (answer : CacheAns) → cache.id ≡ id → RowsStep cache.id moment call cache.rows answer new.rows → new.id ≡ cache.id → OpStep id moment call (map standing_of xs) answer (map standing_of ys)
  acts id moment call answer same step kept = inl (record {
    before = map standing_of p.before;
    cache = standing_of cache;
    after = map standing_of p.after;
    found = record { whole = ap (map standing_of) p.whole ∙ images standing_of p.before (cache ∷ p.after); named = same };
    rows = new.rows;
    step = subst (λ z. RowsStep z moment call cache.rows answer new.rows) same step;
    new_is = ap (map standing_of) (e ∙ p.with new) ∙ (images standing_of p.before (new ∷ p.after)
        ∙ ap (λ (z : CacheId). map standing_of p.before ++ record { id = z; rows = new.rows } ∷ map standing_of p.after) (kept ∙ same));
  })

-- a cache that stands acted, and is written back
pub acted : {E : Type 0} (r : Result CacheAns E) (ys xs : List Kept) (i : ℕ) (was new x : Kept) (id : CacheId) (moment : ℕ) (call : CacheOp) → ys ≡ xs → slice_get ys i ≡ Some x → x.id ≡ id → was ≡ get_or xs i was → new.id ≡ was.id → IfOk r (λ a. RowsStep was.id moment call was.rows a new.rows) → IfOk r (λ a. OpStep id moment call (map standing_of xs) a (map standing_of (slice_set xs i new)))
acted r ys xs i was new x id moment call so there same value kept h =
    let there = subst (λ z. slice_get z i ≡ Some x) so there in
    let e : was ≡ x = value ∙ get_or_from_slice_get xs i x was there in
    if_ok r _ _ (λ a g. acts xs i x there new (slice_set xs i new) refl id moment call a same (subst (λ (z : Kept). RowsStep z.id moment call z.rows a new.rows) e g) (kept ∙ ap (λ (z : Kept). z.id) e)) h
