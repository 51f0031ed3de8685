-- The answers of the cache machine fit their calls.
use Rattle.std.proofs.Common.{◌≡◌, inl, inr, ℕ, zero, suc, List, [], ◌∷◌, ◌++◌, Bool, true, false, cond, ◌&&◌, Option, Some, None, nat_le, slice_get, slice_set, refl, ap, sym, ◌∙◌, subst}
use Rattle.std.specs.List.{AllByRecursion}
use Rattle.web_data.specs.declared.datum.Datum.{Datum}
use Rattle.web_data.specs.declared.cache.CacheId.{CacheId}
use Rattle.web_data.specs.declared.cache.CacheOp.{CacheOp}
use Rattle.web_data.specs.declared.cache.CacheOp.TheVariants as op
use Rattle.web_data.specs.declared.cache.CacheCall.{CacheCall}
use Rattle.web_data.specs.declared.cache.CacheAns.{CacheAns}
use Rattle.web_data.specs.declared.cache.CacheAns.TheVariants as ans
use Rattle.web_data.specs.Data.{has_desc}
use Rattle.web_data.specs.CacheCalls.{op_fits, op_answer_fits, cache_call_fits, cache_answer_fits}
use Rattle.cache_rows.specs.RowMachine.{LeavesOut, current, kept, new_row, settled, sizes_from, stays, used}
use Rattle.cache_rows.proofs.Lists.{all-append, all-filter, all-left, all-right}
use Rattle.web_cache.specs.CacheMachine.{DataRow, Standing, Group, RowsStep, AbsentStep, OpStep, CacheStep, group_number, new_groups, new_group, row_size}
use Rattle.history_core.specs.Fitting.{IsFitting, RowsFit, CachesFit, AreFitting}

module _ {X : Type 0} (P : X → Type 0) where
  pub all-at : (xs : List X) (i : ℕ) (x : X) → AllByRecursion P xs → slice_get xs i ≡ Some x → P x
  all-at [] i x h g = absurd cc
  all-at (y ∷ xs) zero x h g = let e : y ≡ x = cc in subst P e h.0
  all-at (y ∷ xs) (suc i) x h g = all-at xs i x h.1 g

  pub all-set : (xs : List X) (i : ℕ) (x : X) → AllByRecursion P xs → P x → AllByRecursion P (slice_set xs i x)
  all-set [] i x h g = h
  all-set (y ∷ xs) zero x h g = (g, h.1)
  all-set (y ∷ xs) (suc i) x h g = (h.0, all-set xs i x h.1 g)

module _ (id : CacheId) where
  used-fits : (b : Bool) (m : ℕ) (r : DataRow) → IsFitting id r → IsFitting id (used b m r)
  used-fits true m r h = h
  used-fits false m r h = h

  kept-fits : (size : Datum → Datum → ℕ) (most : ℕ) (before rows : List DataRow) → RowsFit id rows → RowsFit id (kept size most before rows)
  kept-fits size most before [] h = tt
  kept-fits size most before (r ∷ rows) h = by (nat_le (sizes_from size r.stamp before (r ∷ rows)) most) (kept-fits size most (r ∷ before) rows h.1)
    where
      by : (b : Bool) → RowsFit id (kept size most (r ∷ before) rows) → RowsFit id (cond b (r ∷ kept size most (r ∷ before) rows) (kept size most (r ∷ before) rows))
      by true g = (h.0, g)
      by false g = g

  settled-fits : (size : Datum → Datum → ℕ) (most : Option ℕ) (rest : List DataRow) (r : DataRow) → RowsFit id rest → IsFitting id r → RowsFit id (settled size most rest r)
  settled-fits size None rest r h g = all-append (IsFitting id) rest (r ∷ []) h (g, tt)
  settled-fits size (Some most) rest r h g = by (nat_le (size r.key r.value) most)
    where
      by : (b : Bool) → RowsFit id (cond b (kept size most [] (rest ++ r ∷ [])) rest)
      by true = kept-fits size most [] (rest ++ r ∷ []) (all-append (IsFitting id) rest (r ∷ []) h (g, tt))
      by false = h

  left-fits : (key : Datum) (rows : List DataRow) (b : Bool) (rest : List DataRow) → LeavesOut key rows b rest → RowsFit id rows → RowsFit id rest
  left-fits key rows true rest l h = subst (RowsFit id) (sym l.1) h
  left-fits key rows false rest l h =
      let w = subst (RowsFit id) l.found.whole h in
      subst (RowsFit id) (sym l.rest_is) (all-append (IsFitting id) l.before l.after (all-left (IsFitting id) l.before (l.row ∷ l.after) w) (all-right (IsFitting id) l.before (l.row ∷ l.after) w).1)

  both : (a b : Bool) → (a && b) ≡ true → b ≡ true
  both true b h = h
  both false b h = absurd cc

  current-fits : (m : ℕ) (rows : List DataRow) → RowsFit id rows → RowsFit id (current id.kind.time m rows)
  current-fits m rows h = all-filter (IsFitting id) (λ r. stays id.kind.time m r.stamp) rows h

  rows-fit : (m : ℕ) (o : CacheOp) (old : List DataRow) (a : CacheAns) (new : List DataRow) → op_fits id o ≡ true → RowsFit id old → RowsStep id m o old a new → RowsFit id new × (op_answer_fits id o a ≡ true)
  rows-fit m (op.Look key) old (ans.Found v) new c h f =
      let w = subst (RowsFit id) f.found.whole (current-fits m old h) in
      let before = all-left (IsFitting id) f.before (f.row ∷ f.after) w in
      let here = all-right (IsFitting id) f.before (f.row ∷ f.after) w in
      (subst (RowsFit id) (sym f.rows) (all-append (IsFitting id) f.before (used id.kind.used m f.row ∷ f.after) before (used-fits id.kind.used m f.row here.0, here.1)), ap (has_desc id.value) f.answer ∙ here.0)
  rows-fit m (op.Look key) old ans.Absent new c h f = (subst (RowsFit id) (sym f.rows) (current-fits m old h), refl)
  rows-fit m (op.Put key value) old (ans.Fresh b) new c h f =
      let rest = left-fits key (current id.kind.time m old) b f.rest f.left_out (current-fits m old h) in
      (subst (RowsFit id) (sym f.rows) (settled-fits (row_size id) id.kind.size f.rest (new_row key value m) rest (both (has_desc id.key key) (has_desc id.value value) c)), refl)
  rows-fit m op.Flush old ans.Flushed new c h f = (subst (RowsFit id) (sym f) tt, refl)
  rows-fit m (op.Look key) old (ans.Fresh b) new c h f = absurd f
  rows-fit m (op.Look key) old ans.Flushed new c h f = absurd f
  rows-fit m (op.Look key) old ans.Full new c h f = absurd f
  rows-fit m (op.Put key value) old (ans.Found v) new c h f = absurd f
  rows-fit m (op.Put key value) old ans.Absent new c h f = absurd f
  rows-fit m (op.Put key value) old ans.Flushed new c h f = absurd f
  rows-fit m (op.Put key value) old ans.Full new c h f = absurd f
  rows-fit m op.Flush old (ans.Found v) new c h f = absurd f
  rows-fit m op.Flush old ans.Absent new c h f = absurd f
  rows-fit m op.Flush old (ans.Fresh b) new c h f = absurd f
  rows-fit m op.Flush old ans.Full new c h f = absurd f

  absent-fit : (m : ℕ) (o : CacheOp) (old : List Standing) (a : CacheAns) (new : List Standing) → op_fits id o ≡ true → CachesFit old → AbsentStep id m o old a new → CachesFit new × (op_answer_fits id o a ≡ true)
  absent-fit m (op.Look key) old ans.Absent new c h f = (subst CachesFit (sym f) h, refl)
  absent-fit m (op.Put key value) old (ans.Fresh b) new c h f =
      let rows = rows-fit m (op.Put key value) [] (ans.Fresh b) f.rows c tt f.puts in
      (subst CachesFit (sym f.new_is) (all-append (λ (s : Standing). RowsFit s.id s.rows) old (record { id = id; rows = f.rows } ∷ []) h (rows.0, tt)), refl)
  absent-fit m (op.Put key value) old ans.Full new c h f = (subst CachesFit (sym f.1) h, refl)
  absent-fit m op.Flush old ans.Flushed new c h f = (subst CachesFit (sym f) h, refl)
  absent-fit m (op.Look key) old (ans.Found v) new c h f = absurd f
  absent-fit m (op.Look key) old (ans.Fresh b) new c h f = absurd f
  absent-fit m (op.Look key) old ans.Flushed new c h f = absurd f
  absent-fit m (op.Look key) old ans.Full new c h f = absurd f
  absent-fit m (op.Put key value) old (ans.Found v) new c h f = absurd f
  absent-fit m (op.Put key value) old ans.Absent new c h f = absurd f
  absent-fit m (op.Put key value) old ans.Flushed new c h f = absurd f
  absent-fit m op.Flush old (ans.Found v) new c h f = absurd f
  absent-fit m op.Flush old ans.Absent new c h f = absurd f
  absent-fit m op.Flush old (ans.Fresh b) new c h f = absurd f
  absent-fit m op.Flush old ans.Full new c h f = absurd f

  op-fit : (m : ℕ) (o : CacheOp) (old : List Standing) (a : CacheAns) (new : List Standing) → op_fits id o ≡ true → CachesFit old → OpStep id m o old a new → CachesFit new × (op_answer_fits id o a ≡ true)
  op-fit m o old a new c h (inr s) = absent-fit m o old a new c h s.1
  op-fit m o old a new c h (inl s) =
      let w = subst CachesFit s.found.whole h in
      let before = all-left (λ (x : Standing). RowsFit x.id x.rows) s.before (s.cache ∷ s.after) w in
      let here = all-right (λ (x : Standing). RowsFit x.id x.rows) s.before (s.cache ∷ s.after) w in
      let rows = rows-fit m o s.cache.rows a s.rows c (subst (λ z. RowsFit z s.cache.rows) s.found.named here.0) s.step in
      (subst CachesFit (sym s.new_is) (all-append (λ (x : Standing). RowsFit x.id x.rows) s.before (record { id = id; rows = s.rows } ∷ s.after) before (rows.0, here.1)), rows.1)

module _ (old : List Group) (call : CacheCall) (moment : ℕ) (new : List Group) (a : CacheAns) (fits : cache_call_fits call ≡ true) (h : AreFitting old) (s : CacheStep old call moment new a) where
  on-group : CachesFit s.more.caches × (cache_answer_fits call a ≡ true)
  on-group = op-fit call.id moment call.op s.group.caches a s.more.caches fits (all-at (λ (g : Group). CachesFit g.caches) old (group_number call.id.name) s.group h s.there) s.step.caches

  -- a step keeps it
  pub stay-fitting : AreFitting new
  stay-fitting = subst AreFitting (sym s.new_is) (all-set (λ (g : Group). CachesFit g.caches) old (group_number call.id.name) s.more h on-group.0)

  -- the answer fits
  pub answer-fits : cache_answer_fits call a ≡ true
  answer-fits = on-group.1

-- the groups at the start
pub start-fitting : (n : ℕ) → AreFitting (new_groups n)
start-fitting zero = tt
start-fitting (suc n) = all-append (λ (g : Group). CachesFit g.caches) (new_groups n) (new_group n ∷ []) (start-fitting n) (tt, tt)
