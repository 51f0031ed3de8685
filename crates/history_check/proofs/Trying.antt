-- An entry is tried on the machines: it steps there, or there is no step.
use Rattle.std.proofs.Common.{◌≡◌, ◌<◌, ◌≤◌, ℕ, zero, suc, List, [], ◌∷◌, length, Bool, true, false, MatchBool, Option, Some, None, Result, Ok, Err, IfOk, slice_get, slice_set, refl, ap, sym, ◌∙◌, subst, arith}
use Rattle.web_data.specs.declared.cache.CacheCall.{CacheCall}
use Rattle.web_data.specs.declared.cache.CacheAns.{CacheAns}
use Rattle.web_data.specs.declared.database.DbCmd.{DbCmd}
use Rattle.web_data.specs.declared.database.DbAns.{DbAns}
use Rattle.web_data.specs.declared.database.DbAns.TheVariants as db
use Rattle.web_data.specs.DatabaseAnswers.{FitsCommand}
use Rattle.web_data.specs.CacheCalls.{cache_call_fits}
use Rattle.outside_world.specs.Told.{Rose}
use Rattle.outside_world.specs.FaultPlan.{FailsAsPlanned, plan_after}
use Rattle.db_keeper.specs.DatabaseMachine.{Tables}
use Rattle.db_keeper.specs.Keeping.{KeeperMeaning, AnswersBy}
use Rattle.db_pool.specs.Handling.{IsFault, KeeperAnswers}
use Rattle.web_cache.specs.CacheMachine.{Group, CacheStep, group_number, last_moment}
use Rattle.web_cache.specs.Apart.{AreApart}
use Rattle.web_cache.proofs.OneAnswer.{one-answer}
use Rattle.history_core.specs.LegalHistory.{Database, Machines, CacheEntry, KeeperEntry, KeepersEntry, OnDatabase, GroupsStep, DatabasesStep, last_fault, after_answer}
use Rattle.history_core.specs.ByObject.{NamesDiffer}
use Rattle.history_core.proofs.PerKey.{one-there}
use Rattle.history_core.specs.declared.entry.Entry.{Entry}
use Rattle.history_check.specs.Replaying.{Tried}
use Rattle.web_data.specs.declared.database.WebCall.TheVariants as call
use Rattle.web_data.specs.declared.database.WebAns.TheVariants as answer

by-test : {P Q : Type 0} (b : Bool) → (b ≡ true → P) → (b ≡ false → Q) → MatchBool b P Q
by-test true f g = f refl
by-test false f g = g refl

-- a cache call
module _ (old new : List Group) (c : CacheCall) (moment : ℕ) (given a : CacheAns) where
  pub cache-tried : AreApart old → cache_call_fits c ≡ true → last_moment old (group_number c.id.name) ≤ moment → CacheStep old c moment new given → (b : Bool) → (b ≡ true → given ≡ a) → (given ≡ a → b ≡ true) →
      MatchBool b (CacheEntry old c moment a new) ((other : List Group) → CacheEntry old c moment a other → ⊥)
  cache-tried d f m s b so if_so = by-test b
      (λ e. record { fits = f; moment_is = m; step = subst (λ z. CacheStep old c moment new z) (so e) s })
      (λ e other h. (let same = (one-answer old c moment new other given a d s h.step).0 in let yes = if_so same in absurd (cc)))

-- a command that the keeper answers
module _ (k more : KeeperMeaning) (c : DbCmd) where
  answers-tried : (a : DbAns) → (IsFault a → ⊥) → FitsCommand c a → AnswersBy k.tables c a more.tables → KeeperAnswers k c a more
  answers-tried (db.Fault n) n_fault f h = absurd (n_fault tt)
  answers-tried db.Done n_fault f h = (f, h)
  answers-tried (db.Rows rows) n_fault f h = (f, h)
  answers-tried db.NoTable n_fault f h = (f, h)
  answers-tried db.TableStands n_fault f h = (f, h)
  answers-tried db.KeyStands n_fault f h = (f, h)

  answers-back : (a : DbAns) → (IsFault a → ⊥) → (other : KeeperMeaning) → KeeperAnswers k c a other → AnswersBy k.tables c a other.tables
  answers-back (db.Fault n) n_fault other h = absurd (n_fault tt)
  answers-back db.Done n_fault other h = h.1
  answers-back (db.Rows rows) n_fault other h = h.1
  answers-back db.NoTable n_fault other h = h.1
  answers-back db.TableStands n_fault other h = h.1
  answers-back db.KeyStands n_fault other h = h.1

  same-count : (a : DbAns) → (IsFault a → ⊥) → last_fault k.faults a ≡ k.faults
  same-count (db.Fault n) n_fault = absurd (n_fault tt)
  same-count db.Done n_fault = refl
  same-count (db.Rows rows) n_fault = refl
  same-count db.NoTable n_fault = refl
  same-count db.TableStands n_fault = refl
  same-count db.KeyStands n_fault = refl

  same-keepers : (a : DbAns) → (IsFault a → ⊥) → (ks : List KeeperMeaning) → ks ≡ after_answer a ks
  same-keepers (db.Fault n) n_fault ks = absurd (n_fault tt)
  same-keepers db.Done n_fault ks = refl
  same-keepers (db.Rows rows) n_fault ks = refl
  same-keepers db.NoTable n_fault ks = refl
  same-keepers db.TableStands n_fault ks = refl
  same-keepers db.KeyStands n_fault ks = refl

  module _ (bare : k.plan ≡ None) (bare_too : more.plan ≡ None) (faults : more.faults ≡ k.faults) where
    keeper-tried : (a : DbAns) → (IsFault a → ⊥) → FitsCommand c a → AnswersBy k.tables c a more.tables → KeeperEntry k c a more
    keeper-tried a n_fault f h = record {
      answers = answers-tried a n_fault f h;
      planned = subst (λ z. FailsAsPlanned z (IsFault a)) (sym bare) tt;
      plan = bare_too ∙ ap plan_after (sym bare);
      count = faults ∙ sym (same-count a n_fault);
    }

    pub command-tried : (items : List KeeperMeaning) → slice_get items 0 ≡ Some k → (given a : DbAns) → (IsFault a → ⊥) → FitsCommand c given → AnswersBy k.tables c given more.tables →
        ((x : DbAns) (other : Option Tables) → AnswersBy k.tables c x other → x ≡ given) → (b : Bool) → (b ≡ true → given ≡ a) → (given ≡ a → b ≡ true) →
        MatchBool b (KeepersEntry c a items (slice_set items 0 more)) ((other : List KeeperMeaning) → KeepersEntry c a items other → ⊥)
    command-tried [] h given a n_fault f s only b so if_so = absurd cc
    command-tried (x ∷ ks) h given a n_fault f s only b so if_so =
        let same : x ≡ k = cc in
        subst (λ z. MatchBool b (KeepersEntry c a (z ∷ ks) (more ∷ ks)) ((other : List KeeperMeaning) → KeepersEntry c a (z ∷ ks) other → ⊥)) (sym same)
        (by-test b
        (λ e. (more, keeper-tried a n_fault (subst (FitsCommand c) (so e) f) (subst (λ z. AnswersBy k.tables c z more.tables) (so e) s), same-keepers a n_fault (more ∷ ks)))
        (λ e other g. (let yes = if_so (sym (only a g.0.tables (answers-back a n_fault g.0 g.1.answers))) in absurd (cc))))

-- a database among the others
module _ (ds : List Database) (name : List ℕ) (c : DbCmd) (a : DbAns) where
  pub database-tried : NamesDiffer ds → (at : ℕ) (d more : Database) → slice_get ds at ≡ Some d → d.name ≡ name → more.name ≡ d.name → (b : Bool) → MatchBool b (KeepersEntry c a d.keepers more.keepers) ((other : List KeeperMeaning) → KeepersEntry c a d.keepers other → ⊥) →
      MatchBool b (OnDatabase (KeepersEntry c a) ds name (slice_set ds at more)) ((other : List Database) → OnDatabase (KeepersEntry c a) ds name other → ⊥)
  database-tried differ at d more there named kept true h = record {
    place = at;
    database = d;
    keepers = more.keepers;
    there = there;
    named = named;
    change = h;
    new_is = λ i. slice_set ds at (record { name = kept i; keepers = more.keepers });
  }
  database-tried differ at d more there named kept false h = λ other g.
      (let here = differ g.place at g.database d g.there there (g.named ∙ sym named) in
      let same = one-there ds at g.database d (ap (slice_get ds) (sym here) ∙ g.there) there in
      h g.keepers (subst (λ (z : Database). KeepersEntry c a z.keepers g.keepers) same g.change))

  pub no-database : ((j : ℕ) (d : Database) → slice_get ds j ≡ Some d → d.name ≡ name → ⊥) → (other : List Database) → OnDatabase (KeepersEntry c a) ds name other → ⊥
  no-database none other g = none g.place g.database g.there g.named

pub ok-map : {A E : Type 0} (r : Result A E) (P Q : A → Type 0) → ((a : A) → P a → Q a) → IfOk r P → IfOk r Q
ok-map (Ok a) P Q f h = f a h
ok-map (Err e) P Q f h = tt

pub ok-both : {A E : Type 0} (r : Result A E) (P Q R : A → Type 0) → ((a : A) → P a → Q a → R a) → IfOk r P → IfOk r Q → IfOk r R
ok-both (Ok a) P Q R f h g = f a h g
ok-both (Err e) P Q R f h g = tt

-- an entry on the machines
module _ (old : Machines) (e : Entry) where
  pub entry-cached : (c : CacheCall) (a : CacheAns) → e.call ≡ call.Cache c → e.answer ≡ answer.Cache a → (gs : List Group) (b : Bool) → MatchBool b (CacheEntry old.groups c e.moment a gs) ((other : List Group) → CacheEntry old.groups c e.moment a other → ⊥) →
      Tried old e (record { groups = gs; databases = old.databases }) b
  entry-cached c a is answered gs true h = record {
    groups = subst (λ z. GroupsStep z e.moment e.answer old.groups gs) (sym is) (subst (λ z. GroupsStep (call.Cache c) e.moment z old.groups gs) (sym answered) h);
    databases = subst (λ z. DatabasesStep z e.moment e.answer old.databases old.databases) (sym is) refl;
  }
  entry-cached c a is answered gs false h = λ other s.
      h other.groups (subst (λ z. GroupsStep (call.Cache c) e.moment z old.groups other.groups) answered (subst (λ z. GroupsStep z e.moment e.answer old.groups other.groups) is s.groups))

  pub entry-commanded : (name : List ℕ) (c : DbCmd) (a : DbAns) → e.call ≡ call.Db name c → e.answer ≡ answer.Db a → e.moment ≡ 0 → (ds : List Database) (b : Bool) → MatchBool b (OnDatabase (KeepersEntry c a) old.databases name ds) ((other : List Database) → OnDatabase (KeepersEntry c a) old.databases name other → ⊥) →
      Tried old e (record { groups = old.groups; databases = ds }) b
  entry-commanded name c a is answered zero_moment ds true h = record {
    groups = subst (λ z. GroupsStep z e.moment e.answer old.groups old.groups) (sym is) refl;
    databases = subst (λ z. DatabasesStep z e.moment e.answer old.databases ds) (sym is) (subst (λ z. DatabasesStep (call.Db name c) e.moment z old.databases ds) (sym answered) (zero_moment, h));
  }
  entry-commanded name c a is answered zero_moment ds false h = λ other s.
      h other.databases (subst (λ z. DatabasesStep (call.Db name c) e.moment z old.databases other.databases) answered (subst (λ z. DatabasesStep z e.moment e.answer old.databases other.databases) is s.databases)).1
