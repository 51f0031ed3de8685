-- An entry makes one thing of the machines, where no two databases have one name.
use Rattle.std.proofs.Common.{◌≡◌, ◌⊎◌, inl, inr, ◌++◌, ℕ, zero, suc, List, [], ◌∷◌, Option, Some, None, slice_get, slice_set, refl, ap, sym, ◌∙◌, subst}
use Rattle.web_data.specs.declared.database.DbCmd.{DbCmd}
use Rattle.web_data.specs.declared.database.DbAns.{DbAns}
use Rattle.web_data.specs.declared.database.DbAns.TheVariants as db
use Rattle.web_data.specs.declared.database.WebCall.{WebCall}
use Rattle.web_data.specs.declared.database.WebCall.TheVariants as call
use Rattle.web_data.specs.declared.database.WebAns.{WebAns}
use Rattle.web_data.specs.declared.database.WebAns.TheVariants as answer
use Rattle.db_keeper.specs.DatabaseMachine.{Tables, effect_of}
use Rattle.db_keeper.specs.Keeping.{KeeperMeaning, AnswersBy}
use Rattle.db_pool.specs.Handling.{KeeperAnswers}
use Rattle.web_cache.specs.CacheMachine.{Group}
use Rattle.web_cache.specs.Apart.{AreApart}
use Rattle.web_cache.proofs.OneAnswer.{one-answer}
use Rattle.web_cache.proofs.StayApart.{stay-apart}
use Rattle.history_core.specs.declared.entry.Entry.{Entry}
use Rattle.history_core.specs.LegalHistory.{Database, Machines, KeeperEntry, KeepersEntry, OnDatabase, GroupsStep, DatabasesStep, EntryStep, LegalRun, LegalHistory, after_answer, start}
use Rattle.history_core.specs.ByObject.{NamesDiffer}
use Rattle.history_core.specs.Fitting.{AreFitting}
use Rattle.history_core.proofs.Fitting.{start-fitting, stay-fitting}
use Rattle.history_core.proofs.PerKey.{one-there, set-from, set-there}
use Rattle.history_check.specs.Replaying.{IsSingle}

-- one keeper

tables-by : (t : Option Tables) (c : DbCmd) (a : DbAns) (x y : Option Tables) → AnswersBy t c a x → AnswersBy t c a y → x ≡ y
tables-by None c a x y h g = h ∙ sym g
tables-by (Some t) c a x y h g = h.2 ∙ (ap (λ e. Some e.tables) (sym h.1 ∙ g.1) ∙ sym g.2)

tables-once : (k : KeeperMeaning) (c : DbCmd) (a : DbAns) (x y : KeeperMeaning) → KeeperAnswers k c a x → KeeperAnswers k c a y → x.tables ≡ y.tables
tables-once k c (db.Fault n) x y h g = h.1.1 ∙ sym g.1.1
tables-once k c db.Done x y h g = tables-by k.tables c db.Done x.tables y.tables h.1 g.1
tables-once k c (db.Rows rows) x y h g = tables-by k.tables c (db.Rows rows) x.tables y.tables h.1 g.1
tables-once k c db.NoTable x y h g = tables-by k.tables c db.NoTable x.tables y.tables h.1 g.1
tables-once k c db.TableStands x y h g = tables-by k.tables c db.TableStands x.tables y.tables h.1 g.1
tables-once k c db.KeyStands x y h g = tables-by k.tables c db.KeyStands x.tables y.tables h.1 g.1

keeper-once : (k : KeeperMeaning) (c : DbCmd) (a : DbAns) (x y : KeeperMeaning) → KeeperEntry k c a x → KeeperEntry k c a y → x ≡ y
keeper-once k c a x y h g =
    let t = tables-once k c a x y h.answers g.answers in
    let p = h.plan ∙ sym g.plan in
    let f = h.count ∙ sym g.count in
    λ i. record { tables = t i; plan = p i; faults = f i }

keepers-once : (ks : List KeeperMeaning) (c : DbCmd) (a : DbAns) (x y : List KeeperMeaning) → KeepersEntry c a ks x → KeepersEntry c a ks y → x ≡ y
keepers-once [] c a x y h g = absurd h
keepers-once (k ∷ ks) c a x y h g = h.2 ∙ (ap (λ z. after_answer a (z ∷ ks)) (keeper-once k c a h.0 g.0 h.1 g.1) ∙ sym g.2)

-- the databases

database-once : (ds : List Database) (name : List ℕ) (c : DbCmd) (a : DbAns) (x y : List Database) → NamesDiffer ds → OnDatabase (KeepersEntry c a) ds name x → OnDatabase (KeepersEntry c a) ds name y → x ≡ y
database-once ds name c a x y d h g =
    let at = d h.place g.place h.database g.database h.there g.there (h.named ∙ sym g.named) in
    let same = one-there ds g.place h.database g.database (ap (slice_get ds) (sym at) ∙ h.there) g.there in
    let keepers = keepers-once g.database.keepers c a h.keepers g.keepers (subst (λ z. KeepersEntry c a z h.keepers) (ap (λ (z : Database). z.keepers) same) h.change) g.change in
    h.new_is ∙ ((λ i. slice_set ds (at i) (record { name = (same i).name; keepers = keepers i })) ∙ sym g.new_is)

differ-stays : (ds : List Database) (place : ℕ) (old more : Database) → slice_get ds place ≡ Some old → more.name ≡ old.name → NamesDiffer ds → NamesDiffer (slice_set ds place more)
differ-stays ds place old more there named d i j a b h g e =
    let p = before i a h in
    let q = before j b g in
    d i j p.0 q.0 p.1 q.1 (sym p.2 ∙ (e ∙ q.2))
  where
    before : (i : ℕ) (a : Database) → slice_get (slice_set ds place more) i ≡ Some a → (z : Database) × (slice_get ds i ≡ Some z) × (a.name ≡ z.name)
    before i a h = by (set-from ds place i more a h)
      where
        by : ((i ≡ place) × (a ≡ more)) ⊎ (slice_get ds i ≡ Some a) → (z : Database) × (slice_get ds i ≡ Some z) × (a.name ≡ z.name)
        by (inl s) = (old, ap (slice_get ds) s.0 ∙ there, ap (λ (z : Database). z.name) s.1 ∙ named)
        by (inr s) = (a, s, refl)

databases-once : (c : WebCall) (m : ℕ) (a : WebAns) (ds x y : List Database) → NamesDiffer ds → DatabasesStep c m a ds x → DatabasesStep c m a ds y → x ≡ y
databases-once (call.Cache c) m a ds x y d h g = h ∙ sym g
databases-once (call.Db name c) m (answer.Db a) ds x y d h g = database-once ds name c a x y d h.1 g.1
databases-once (call.Db name c) m (answer.Cache a) ds x y d h g = absurd h

databases-differ : (c : WebCall) (m : ℕ) (a : WebAns) (ds x : List Database) → NamesDiffer ds → DatabasesStep c m a ds x → NamesDiffer x
databases-differ (call.Cache c) m a ds x d h = subst NamesDiffer (sym h) d
databases-differ (call.Db name c) m (answer.Db a) ds x d h = subst NamesDiffer (sym h.1.new_is) (differ-stays ds h.1.place h.1.database (record { name = h.1.database.name; keepers = h.1.keepers }) h.1.there refl d)
databases-differ (call.Db name c) m (answer.Cache a) ds x d h = absurd h

-- the groups

groups-once : (c : WebCall) (m : ℕ) (a : WebAns) (gs x y : List Group) → AreApart gs → GroupsStep c m a gs x → GroupsStep c m a gs y → x ≡ y
groups-once (call.Cache c) m (answer.Cache a) gs x y d h g = (one-answer gs c m x y a a d h.step g.step).1
groups-once (call.Cache c) m (answer.Db a) gs x y d h g = absurd h
groups-once (call.Db name c) m a gs x y d h g = h ∙ sym g

groups-apart : (c : WebCall) (m : ℕ) (a : WebAns) (gs x : List Group) → AreApart gs → GroupsStep c m a gs x → AreApart x
groups-apart (call.Cache c) m (answer.Cache a) gs x d h = stay-apart.1 gs c m x a d h.step
groups-apart (call.Cache c) m (answer.Db a) gs x d h = absurd h
groups-apart (call.Db name c) m a gs x d h = subst AreApart (sym h) d

groups-fit : (c : WebCall) (m : ℕ) (a : WebAns) (gs x : List Group) → AreFitting gs → GroupsStep c m a gs x → AreFitting x
groups-fit (call.Cache c) m (answer.Cache a) gs x d h = stay-fitting gs c m x a h.fits d h.step
groups-fit (call.Cache c) m (answer.Db a) gs x d h = absurd h
groups-fit (call.Db name c) m a gs x d h = subst AreFitting (sym h) d

-- the machines

pub entry-once : (old : Machines) (e : Entry) (x y : Machines) → IsSingle old → EntryStep old e x → EntryStep old e y → x ≡ y
entry-once old e x y s h g =
    let gs = groups-once e.call e.moment e.answer old.groups x.groups y.groups s.apart h.groups g.groups in
    let ds = databases-once e.call e.moment e.answer old.databases x.databases y.databases s.differ h.databases g.databases in
    λ i. record { groups = gs i; databases = ds i }

pub stays-single : (old : Machines) (e : Entry) (new : Machines) → IsSingle old → EntryStep old e new → IsSingle new
stays-single old e new s h = record {
  apart = groups-apart e.call e.moment e.answer old.groups new.groups s.apart h.groups;
  fitting = groups-fit e.call e.moment e.answer old.groups new.groups s.fitting h.groups;
  differ = databases-differ e.call e.moment e.answer old.databases new.databases s.differ h.databases;
}

pub starts_single : (ds : List Database) → NamesDiffer ds → IsSingle (start ds)
starts_single ds d = record { apart = stay-apart.0; fitting = start-fitting 16; differ = d }

-- runs

pub run-more : (es : List Entry) (old middle : Machines) (e : Entry) (new : Machines) → LegalRun old es middle → EntryStep middle e new → LegalRun old (es ++ e ∷ []) new
run-more [] old middle e new r s = (new, subst (λ z. EntryStep z e new) r s, refl)
run-more (f ∷ es) old middle e new r s = (r.0, r.1, run-more es r.0 middle e new r.2 s)

-- a run over more entries goes on from where the run over the first ones comes to
pub run-back : (es fs : List Entry) (old middle new : Machines) → IsSingle old → LegalRun old es middle → LegalRun old (es ++ fs) new → LegalRun middle fs new
run-back [] fs old middle new s r w = subst (λ z. LegalRun z fs new) (sym r) w
run-back (e ∷ es) fs old middle new s r w =
    let same = entry-once old e w.0 r.0 s w.1 r.1 in
    run-back es fs r.0 middle new (stays-single old e r.0 s r.1) r.2 (subst (λ z. LegalRun z (es ++ fs) new) same w.2)

pub run-single : (es : List Entry) (old new : Machines) → IsSingle old → LegalRun old es new → IsSingle new
run-single [] old new s r = subst IsSingle (sym r) s
run-single (e ∷ es) old new s r = run-single es r.0 new (stays-single old e r.0 s r.1) r.2

-- where an entry has no step, no history goes on with it
pub no-history : (ds : List Database) (es fs : List Entry) (e : Entry) (middle : Machines) → NamesDiffer ds → LegalRun (start ds) es middle → ((other : Machines) → EntryStep middle e other → ⊥) → LegalHistory ds (es ++ e ∷ fs) → ⊥
no-history ds es fs e middle d r none h =
    let rest = run-back es (e ∷ fs) (start ds) middle h.0 (starts_single ds d) r h.1 in
    none rest.0 rest.1
