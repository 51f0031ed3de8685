-- The machine leaves caches and keys apart.
use Rattle.std.proofs.Common.{◌≡◌, inl, inr, ℕ, zero, suc, List, [], ◌∷◌, ◌++◌, Bool, true, false, cond, nat_le, Option, Some, None, refl, sym, ◌∙◌, subst}
use Rattle.std.specs.List.{AllByRecursion}
use Rattle.web_data.specs.declared.datum.Datum.{Datum}
use Rattle.web_data.specs.declared.cache.Kind.{Kind}
use Rattle.web_data.specs.declared.cache.CacheId.{CacheId}
use Rattle.web_data.specs.declared.cache.CacheCall.{CacheCall}
use Rattle.web_data.specs.declared.cache.CacheOp.{CacheOp}
use Rattle.web_data.specs.declared.cache.CacheOp.TheVariants as op
use Rattle.web_data.specs.declared.cache.CacheAns.{CacheAns}
use Rattle.cache_rows.specs.RowMachine.{NoneNamed, Looks, Puts, LeavesOut, key_of, used, stays, current, sizes_from, kept, settled, new_row}
use Rattle.cache_rows.proofs.Lists.{all-append, all-left, all-right, at-place}
use Rattle.web_cache.specs.CacheMachine.{DataRow, Standing, Group, RowsStep, AbsentStep, OpStep, GroupStep, id_of, group_number, new_groups, row_size}
use Rattle.web_cache.specs.Apart.{Apart, KeysApart, IsApart, AreApart, StayApart}
use Rattle.web_cache.proofs.Naming.{apart-filter, apart-with, apart-without, apart-last, none-other}
use Rattle.web_cache.proofs.OneAnswer.{look-answer, put-answer, flush-answer, absent-look, absent-put, absent-flush, FirstOrFull}

same-key : (b : Bool) (moment : ℕ) (r : DataRow) → key_of r ≡ key_of (used b moment r)
same-key true moment r = refl
same-key false moment r = refl

looks-apart : (kind : Kind) (moment : ℕ) (key : Datum) (rows : List DataRow) (a : Option Datum) (new : List DataRow) → Apart key_of rows → Looks kind moment key rows a new → Apart key_of new
looks-apart kind moment key rows None new d h = subst (Apart key_of) (sym h.rows) (apart-filter key_of (λ (r : DataRow). stays kind.time moment r.stamp) rows d)
looks-apart kind moment key rows (Some v) new d h =
    let alive = subst (Apart key_of) h.found.whole (apart-filter key_of (λ (r : DataRow). stays kind.time moment r.stamp) rows d) in
    subst (Apart key_of) (sym h.rows) (apart-with key_of h.before h.row (used kind.used moment h.row) h.after (same-key kind.used moment h.row) alive)

left-apart : (key : Datum) (rows : List DataRow) (fresh : Bool) (rest : List DataRow) → Apart key_of rows → LeavesOut key rows fresh rest → NoneNamed key_of key rest × Apart key_of rest
left-apart key rows true rest d h = (subst (NoneNamed key_of key) (sym h.1) h.0, subst (Apart key_of) (sym h.1) d)
left-apart key rows false rest d h =
    let whole = subst (Apart key_of) h.found.whole d in
    let others = subst (λ (k : Datum). NoneNamed key_of k (h.before ++ h.after)) h.found.named (none-other key_of h.before h.row h.after whole) in
    (subst (NoneNamed key_of key) (sym h.rest_is) others, subst (Apart key_of) (sym h.rest_is) (apart-without key_of h.before h.row h.after whole))

module _ (size : Datum → Datum → ℕ) (most : ℕ) where
  kept-all : (P : DataRow → Type 0) (before rows : List DataRow) → AllByRecursion P rows → AllByRecursion P (kept size most before rows)
  kept-all P before [] h = tt
  kept-all P before (r ∷ rows) h = by (nat_le (sizes_from size r.stamp before (r ∷ rows)) most) (kept-all P (r ∷ before) rows h.1)
    where
      by : (b : Bool) → AllByRecursion P (kept size most (r ∷ before) rows) → AllByRecursion P (cond b (r ∷ kept size most (r ∷ before) rows) (kept size most (r ∷ before) rows))
      by true g = (h.0, g)
      by false g = g

  kept-apart : (before rows : List DataRow) → Apart key_of rows → Apart key_of (kept size most before rows)
  kept-apart before [] d = tt
  kept-apart before (r ∷ rows) d = by (nat_le (sizes_from size r.stamp before (r ∷ rows)) most) (kept-apart (r ∷ before) rows d.1)
    where
      by : (b : Bool) → Apart key_of (kept size most (r ∷ before) rows) → Apart key_of (cond b (r ∷ kept size most (r ∷ before) rows) (kept size most (r ∷ before) rows))
      by true g = (kept-all (λ (x : DataRow). key_of x ≡ key_of r → ⊥) (r ∷ before) rows d.0, g)
      by false g = g

settled-apart : (size : Datum → Datum → ℕ) (most : Option ℕ) (rest : List DataRow) (r : DataRow) → NoneNamed key_of r.key rest → Apart key_of rest → Apart key_of (settled size most rest r)
settled-apart size None rest r n d = apart-last key_of rest r n d
settled-apart size (Some most) rest r n d = by (nat_le (size r.key r.value) most)
  where
    by : (b : Bool) → Apart key_of (cond b (kept size most [] (rest ++ r ∷ [])) rest)
    by true = kept-apart size most [] (rest ++ r ∷ []) (apart-last key_of rest r n d)
    by false = d

puts-apart : (size : Datum → Datum → ℕ) (kind : Kind) (moment : ℕ) (key value : Datum) (rows : List DataRow) (fresh : Bool) (new : List DataRow) → Apart key_of rows → Puts size kind moment key value rows fresh new → Apart key_of new
puts-apart size kind moment key value rows fresh new d h =
    let l = left-apart key (current kind.time moment rows) fresh h.rest (apart-filter key_of (λ (r : DataRow). stays kind.time moment r.stamp) rows d) h.left_out in
    subst (Apart key_of) (sym h.rows) (settled-apart size kind.size h.rest (new_row key value moment) l.0 l.1)

rows-apart : (id : CacheId) (moment : ℕ) (call : CacheOp) (old : List DataRow) (a : CacheAns) (new : List DataRow) → Apart key_of old → RowsStep id moment call old a new → Apart key_of new
rows-apart id moment (op.Look key) old a new d h = let x = look-answer id moment key old a new h in looks-apart id.kind moment key old x.0 new d x.1.1
rows-apart id moment (op.Put key value) old a new d h = let x = put-answer id moment key value old a new h in puts-apart (row_size id) id.kind moment key value old x.0 new d x.1.1
rows-apart id moment op.Flush old a new d h = let x = flush-answer id moment old a new h in subst (Apart key_of) (sym x.1) tt

-- the caches of a group
abbrev CachesApart : List Standing → Type 0
CachesApart caches = Apart id_of caches × AllByRecursion KeysApart caches

first-apart : (id : CacheId) (moment : ℕ) (key value : Datum) (old : List Standing) (a : CacheAns) (new : List Standing) → CachesApart old → NoneNamed id_of id old → FirstOrFull id moment key value old a new → CachesApart new
first-apart id moment key value old a new d n (inl x) =
    let cache : Standing = record { id = id; rows = x.1.1.rows } in
    let keys = puts-apart (row_size id) id.kind moment key value [] x.0 x.1.1.rows tt x.1.1.puts in
    subst CachesApart (sym x.1.1.new_is) (apart-last id_of old cache n d.0, all-append KeysApart old (cache ∷ []) d.1 (keys, tt))
first-apart id moment key value old a new d n (inr x) = subst CachesApart (sym x.1.1) d

absent-apart : (id : CacheId) (moment : ℕ) (call : CacheOp) (old : List Standing) (a : CacheAns) (new : List Standing) → CachesApart old → NoneNamed id_of id old → AbsentStep id moment call old a new → CachesApart new
absent-apart id moment (op.Look key) old a new d n h = subst CachesApart (sym (absent-look id moment key old a new h).1) d
absent-apart id moment (op.Put key value) old a new d n h = first-apart id moment key value old a new d n (absent-put id moment key value old a new h)
absent-apart id moment op.Flush old a new d n h = subst CachesApart (sym (absent-flush id moment old a new h).1) d

op-apart : (id : CacheId) (moment : ℕ) (call : CacheOp) (old : List Standing) (a : CacheAns) (new : List Standing) → CachesApart old → OpStep id moment call old a new → CachesApart new
op-apart id moment call old a new d (inr x) = absent-apart id moment call old a new d x.0 x.1
op-apart id moment call old a new d (inl x) =
    let more : Standing = record { id = id; rows = x.rows } in
    let whole = subst CachesApart x.found.whole d in
    let rest = all-right KeysApart x.before (x.cache ∷ x.after) whole.1 in
    let keys = rows-apart id moment call x.cache.rows a x.rows rest.0 x.step in
    subst CachesApart (sym x.new_is) (apart-with id_of x.before x.cache more x.after x.found.named whole.0, all-append KeysApart x.before (more ∷ x.after) (all-left KeysApart x.before (x.cache ∷ x.after) whole.1) (keys, rest.1))

group-apart : (old : Group) (call : CacheCall) (moment : ℕ) (new : Group) (a : CacheAns) → IsApart old → GroupStep old call moment new a → IsApart new
group-apart old call moment new a d h =
    let c = op-apart call.id moment call.op old.caches a new.caches (d.ids, d.keys) h.caches in
    record { ids = c.0; keys = c.1 }

start : (n : ℕ) → AreApart (new_groups n)
start zero = tt
start (suc n) = all-append IsApart (new_groups n) _ (start n) (record { ids = tt; keys = tt }, tt)

pub stay-apart : StayApart
stay-apart = (
  start 16,
  λ old call moment new a d h.
      let n = group_number call.id.name in
      let p = at-place old n h.group h.there in
      let whole = subst AreApart p.whole d in
      let rest = all-right IsApart p.before (h.group ∷ p.after) whole in
      subst AreApart (sym (h.new_is ∙ p.with h.more)) (all-append IsApart p.before (h.more ∷ p.after) (all-left IsApart p.before (h.group ∷ p.after) whole) (group-apart h.group call moment h.more a rest.0 h.step, rest.1)),
)
