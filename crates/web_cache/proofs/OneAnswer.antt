-- A call has one answer, where no two caches are one and no two rows have one key.
use Rattle.std.proofs.Common.{◌≡◌, ◌⊎◌, inl, inr, ℕ, ◌≤◌, List, [], ◌∷◌, ◌++◌, length, slice_set, Bool, true, false, Option, Some, None, refl, ap, sym, ◌∙◌, subst, arith}
use Rattle.web_data.specs.declared.datum.Datum.{Datum}
use Rattle.web_data.specs.declared.cache.Kind.{Kind}
use Rattle.web_data.specs.declared.cache.CacheId.{CacheId}
use Rattle.web_data.specs.declared.cache.CacheCall.{CacheCall}
use Rattle.web_data.specs.declared.cache.CacheOp.{CacheOp}
use Rattle.web_data.specs.declared.cache.CacheOp.TheVariants as op
use Rattle.web_data.specs.declared.cache.CacheAns.{CacheAns}
use Rattle.web_data.specs.declared.cache.CacheAns.TheVariants as ans
use Rattle.std.specs.List.{AllByRecursion}
use Rattle.cache_rows.specs.RowMachine.{Looks, Puts, LeavesOut, key_of, used, stays, current, settled, new_row}
use Rattle.cache_rows.proofs.Lists.{all-right, at-place}
use Rattle.web_cache.specs.CacheMachine.{DataRow, Standing, Group, RowsStep, PutsFirst, AbsentStep, OpStep, GroupStep, most_caches, id_of, group_number, row_size}
use Rattle.web_cache.specs.Shown.{found}
use Rattle.web_cache.specs.Apart.{Apart, KeysApart, IsApart, AreApart, OneAnswer}
use Rattle.web_cache.proofs.Naming.{named-once, named-none, apart-filter}

looks-once : (kind : Kind) (moment : ℕ) (key : Datum) (rows : List DataRow) (a b : Option Datum) (new other : List DataRow) → Apart key_of rows → Looks kind moment key rows a new → Looks kind moment key rows b other → (a ≡ b) × (new ≡ other)
looks-once kind moment key rows None None new other d h g = (refl, h.rows ∙ sym g.rows)
looks-once kind moment key rows (Some v) None new other d h g = absurd (named-none key_of key (current kind.time moment rows) h.before h.row h.after h.found g.absent)
looks-once kind moment key rows None (Some w) new other d h g = absurd (named-none key_of key (current kind.time moment rows) g.before g.row g.after g.found h.absent)
looks-once kind moment key rows (Some v) (Some w) new other d h g =
    let s = named-once key_of key (current kind.time moment rows) h.before h.row h.after g.before g.row g.after (apart-filter key_of (λ r. stays kind.time moment r.stamp) rows d) h.found g.found in
    (ap Some (h.answer ∙ (ap (λ (r : DataRow). r.value) s.item_is ∙ sym g.answer)), h.rows ∙ ((λ i. s.before_is i ++ used kind.used moment (s.item_is i) ∷ s.after_is i) ∙ sym g.rows))

leaves-once : (key : Datum) (rows : List DataRow) (a b : Bool) (rest other : List DataRow) → Apart key_of rows → LeavesOut key rows a rest → LeavesOut key rows b other → (a ≡ b) × (rest ≡ other)
leaves-once key rows true true rest other d h g = (refl, h.1 ∙ sym g.1)
leaves-once key rows false true rest other d h g = absurd (named-none key_of key rows h.before h.row h.after h.found g.0)
leaves-once key rows true false rest other d h g = absurd (named-none key_of key rows g.before g.row g.after g.found h.0)
leaves-once key rows false false rest other d h g =
    let s = named-once key_of key rows h.before h.row h.after g.before g.row g.after d h.found g.found in
    (refl, h.rest_is ∙ ((λ i. s.before_is i ++ s.after_is i) ∙ sym g.rest_is))

puts-once : (size : Datum → Datum → ℕ) (kind : Kind) (moment : ℕ) (key value : Datum) (rows : List DataRow) (a b : Bool) (new other : List DataRow) → Apart key_of rows → Puts size kind moment key value rows a new → Puts size kind moment key value rows b other → (a ≡ b) × (new ≡ other)
puts-once size kind moment key value rows a b new other d h g =
    let l = leaves-once key (current kind.time moment rows) a b h.rest g.rest (apart-filter key_of (λ r. stays kind.time moment r.stamp) rows d) h.left_out g.left_out in
    (l.0, h.rows ∙ (ap (λ z. settled size kind.size z (new_row key value moment)) l.1 ∙ sym g.rows))

-- what an answer to a lookup, an insert and a flush says
pub look-answer : (id : CacheId) (moment : ℕ) (key : Datum) (old : List DataRow) (a : CacheAns) (new : List DataRow) → RowsStep id moment (op.Look key) old a new → (v : Option Datum) × ((a ≡ found v) × Looks id.kind moment key old v new)
look-answer id moment key old (ans.Found v) new h = (Some v, (refl, h))
look-answer id moment key old ans.Absent new h = (None, (refl, h))
look-answer id moment key old (ans.Fresh b) new h = absurd h
look-answer id moment key old ans.Flushed new h = absurd h
look-answer id moment key old ans.Full new h = absurd h

pub put-answer : (id : CacheId) (moment : ℕ) (key value : Datum) (old : List DataRow) (a : CacheAns) (new : List DataRow) → RowsStep id moment (op.Put key value) old a new → (fresh : Bool) × ((a ≡ ans.Fresh fresh) × Puts (row_size id) id.kind moment key value old fresh new)
put-answer id moment key value old (ans.Found v) new h = absurd h
put-answer id moment key value old ans.Absent new h = absurd h
put-answer id moment key value old (ans.Fresh b) new h = (b, (refl, h))
put-answer id moment key value old ans.Flushed new h = absurd h
put-answer id moment key value old ans.Full new h = absurd h

pub flush-answer : (id : CacheId) (moment : ℕ) (old : List DataRow) (a : CacheAns) (new : List DataRow) → RowsStep id moment op.Flush old a new → (a ≡ ans.Flushed) × (new ≡ [])
flush-answer id moment old (ans.Found v) new h = absurd h
flush-answer id moment old ans.Absent new h = absurd h
flush-answer id moment old (ans.Fresh b) new h = absurd h
flush-answer id moment old ans.Flushed new h = (refl, h)
flush-answer id moment old ans.Full new h = absurd h

rows-once : (id : CacheId) (moment : ℕ) (call : CacheOp) (old : List DataRow) (a b : CacheAns) (new other : List DataRow) → Apart key_of old → RowsStep id moment call old a new → RowsStep id moment call old b other → (a ≡ b) × (new ≡ other)
rows-once id moment (op.Look key) old a b new other d h g =
    let x = look-answer id moment key old a new h in
    let y = look-answer id moment key old b other g in
    let l = looks-once id.kind moment key old x.0 y.0 new other d x.1.1 y.1.1 in
    (x.1.0 ∙ (ap found l.0 ∙ sym y.1.0), l.1)
rows-once id moment (op.Put key value) old a b new other d h g =
    let x = put-answer id moment key value old a new h in
    let y = put-answer id moment key value old b other g in
    let l = puts-once (row_size id) id.kind moment key value old x.0 y.0 new other d x.1.1 y.1.1 in
    (x.1.0 ∙ (ap ans.Fresh l.0 ∙ sym y.1.0), l.1)
rows-once id moment op.Flush old a b new other d h g =
    let x = flush-answer id moment old a new h in
    let y = flush-answer id moment old b other g in
    (x.0 ∙ sym y.0, x.1 ∙ sym y.1)

-- what an insert into a cache that doesn't stand comes to
abbrev pub FirstOrFull : CacheId → ℕ → Datum → Datum → List Standing → CacheAns → List Standing → Type 0
FirstOrFull id moment key value old a new = ((fresh : Bool) × ((a ≡ ans.Fresh fresh) × PutsFirst id moment key value fresh old new)) ⊎ ((a ≡ ans.Full) × ((most_caches ≤ length old) × (new ≡ old)))

puts-first-once : (id : CacheId) (moment : ℕ) (key value : Datum) (old : List Standing) (a b : CacheAns) (new other : List Standing) → FirstOrFull id moment key value old a new → FirstOrFull id moment key value old b other → (a ≡ b) × (new ≡ other)
puts-first-once id moment key value old a b new other (inl x) (inl y) =
    let l = puts-once (row_size id) id.kind moment key value [] x.0 y.0 x.1.1.rows y.1.1.rows tt x.1.1.puts y.1.1.puts in
    (x.1.0 ∙ (ap ans.Fresh l.0 ∙ sym y.1.0), x.1.1.new_is ∙ (ap (λ (z : List DataRow). old ++ record { id = id; rows = z } ∷ []) l.1 ∙ sym y.1.1.new_is))
puts-first-once id moment key value old a b new other (inl x) (inr y) = let r = x.1.1.room in let s = y.1.0 in absurd (omega (arith, r, s))
puts-first-once id moment key value old a b new other (inr x) (inl y) = let r = y.1.1.room in let s = x.1.0 in absurd (omega (arith, r, s))
puts-first-once id moment key value old a b new other (inr x) (inr y) = (x.0 ∙ sym y.0, x.1.1 ∙ sym y.1.1)

-- the same where the cache doesn't stand
pub absent-look : (id : CacheId) (moment : ℕ) (key : Datum) (old : List Standing) (a : CacheAns) (new : List Standing) → AbsentStep id moment (op.Look key) old a new → (a ≡ ans.Absent) × (new ≡ old)
absent-look id moment key old (ans.Found v) new h = absurd h
absent-look id moment key old ans.Absent new h = (refl, h)
absent-look id moment key old (ans.Fresh b) new h = absurd h
absent-look id moment key old ans.Flushed new h = absurd h
absent-look id moment key old ans.Full new h = absurd h

pub absent-put : (id : CacheId) (moment : ℕ) (key value : Datum) (old : List Standing) (a : CacheAns) (new : List Standing) → AbsentStep id moment (op.Put key value) old a new → FirstOrFull id moment key value old a new
absent-put id moment key value old (ans.Found v) new h = absurd h
absent-put id moment key value old ans.Absent new h = absurd h
absent-put id moment key value old (ans.Fresh b) new h = inl (b, (refl, h))
absent-put id moment key value old ans.Flushed new h = absurd h
absent-put id moment key value old ans.Full new h = inr (refl, h)

pub absent-flush : (id : CacheId) (moment : ℕ) (old : List Standing) (a : CacheAns) (new : List Standing) → AbsentStep id moment op.Flush old a new → (a ≡ ans.Flushed) × (new ≡ old)
absent-flush id moment old (ans.Found v) new h = absurd h
absent-flush id moment old ans.Absent new h = absurd h
absent-flush id moment old (ans.Fresh b) new h = absurd h
absent-flush id moment old ans.Flushed new h = (refl, h)
absent-flush id moment old ans.Full new h = absurd h

absent-once : (id : CacheId) (moment : ℕ) (call : CacheOp) (old : List Standing) (a b : CacheAns) (new other : List Standing) → AbsentStep id moment call old a new → AbsentStep id moment call old b other → (a ≡ b) × (new ≡ other)
absent-once id moment (op.Look key) old a b new other h g =
    let x = absent-look id moment key old a new h in
    let y = absent-look id moment key old b other g in
    (x.0 ∙ sym y.0, x.1 ∙ sym y.1)
absent-once id moment op.Flush old a b new other h g =
    let x = absent-flush id moment old a new h in
    let y = absent-flush id moment old b other g in
    (x.0 ∙ sym y.0, x.1 ∙ sym y.1)
absent-once id moment (op.Put key value) old a b new other h g = puts-first-once id moment key value old a b new other (absent-put id moment key value old a new h) (absent-put id moment key value old b other g)

op-once : (id : CacheId) (moment : ℕ) (call : CacheOp) (group : Group) (a b : CacheAns) (new other : List Standing) → IsApart group → OpStep id moment call group.caches a new → OpStep id moment call group.caches b other → (a ≡ b) × (new ≡ other)
op-once id moment call group a b new other d (inl x) (inl y) =
    let s = named-once id_of id group.caches x.before x.cache x.after y.before y.cache y.after d.ids x.found y.found in
    let keys = (all-right _ x.before (x.cache ∷ x.after) (subst (AllByRecursion KeysApart) x.found.whole d.keys)).0 in
    let l = rows-once id moment call x.cache.rows a b x.rows y.rows keys x.step (subst (λ (z : Standing). RowsStep id moment call z.rows b y.rows) (sym s.item_is) y.step) in
    (l.0, x.new_is ∙ ((λ i. s.before_is i ++ record { id = id; rows = l.1 i } ∷ s.after_is i) ∙ sym y.new_is))
op-once id moment call group a b new other d (inl x) (inr y) = absurd (named-none id_of id group.caches x.before x.cache x.after x.found y.0)
op-once id moment call group a b new other d (inr x) (inl y) = absurd (named-none id_of id group.caches y.before y.cache y.after y.found x.0)
op-once id moment call group a b new other d (inr x) (inr y) = absent-once id moment call group.caches a b new other x.1 y.1

group-once : (old : Group) (call : CacheCall) (moment : ℕ) (new other : Group) (a b : CacheAns) → IsApart old → GroupStep old call moment new a → GroupStep old call moment other b → (a ≡ b) × (new ≡ other)
group-once old call moment new other a b d h g =
    let l = op-once call.id moment call.op old a b new.caches other.caches d h.caches g.caches in
    let n = h.number ∙ sym g.number in
    let m = h.last ∙ sym g.last in
    (l.0, λ i. record { number = n i; last = m i; caches = l.1 i })

pub one-answer : OneAnswer
one-answer old call moment new other a b d h g =
    let p = at-place old (group_number call.id.name) h.group h.there in
    let same : g.group ≡ h.group = some-same (sym g.there ∙ h.there) in
    let apart = (all-right _ p.before (h.group ∷ p.after) (subst AreApart p.whole d)).0 in
    let l = group-once h.group call moment h.more g.more a b apart h.step (subst (λ z. GroupStep z call moment g.more b) same g.step) in
    (l.0, h.new_is ∙ (ap (slice_set old (group_number call.id.name)) l.1 ∙ sym g.new_is))
  where
    some-same : {x y : Group} → Some x ≡ Some y → x ≡ y
    some-same e = (cc)
