-- What a call of a lone book makes of its handles and caches.
use Rattle.std.proofs.Common.{◌≡◌, ◌<◌, ℕ, zero, suc, max, List, [], ◌∷◌, length, true, Option, Some, Result, Ok, Err, OnErr, slice_get, slice_set, refl, ap, sym, ◌∙◌, subst, arith}
use Rattle.web_data.specs.declared.cache.CacheCall.{CacheCall}
use Rattle.web_data.specs.declared.cache.CacheAns.{CacheAns}
use Rattle.web_data.specs.declared.database.DbCmd.{DbCmd}
use Rattle.web_data.specs.declared.database.DbAns.{DbAns}
use Rattle.web_data.specs.declared.database.WebCall.TheVariants as call
use Rattle.web_data.specs.declared.database.WebAns.TheVariants as answer
use Rattle.web_data.specs.CacheCalls.{cache_call_fits}
use Rattle.db_keeper.specs.Keeping.{KeeperMeaning}
use Rattle.db_pool.specs.Handling.{HandleKept}
use Rattle.outside_world.specs.FaultPlan.{one_more}
use Rattle.web_cache.specs.CacheMachine.{Group, CacheStep, group_number, last_moment}
use Rattle.history_core.specs.LegalHistory.{Database, CacheEntry, OnDatabase}
use Rattle.history_core.specs.Calling.{AnswersCache, AnswersCommand, IsAnswered}
use Rattle.history_core.specs.Book.{Book, BookStep, BookLacks, HandleAnswers, databases_of, names_of, seen}

pub on-err : {A E : Type 0} (r : Result A E) (P : Type 0) → P → OnErr r P
on-err (Ok a) P h = tt
on-err (Err e) P h = h

module _ {H : Type 0} (name : H → List ℕ) (keepers : H → List KeeperMeaning) where
  abbrev one : H → Database
  one h = record { name = name h; keepers = keepers h }

  abbrev pub book : List Group → List H → ℕ → ℕ → Option ℕ → Book
  book groups hs calls requests running = record { machines = record { groups = groups; databases = databases_of name keepers hs }; calls = calls; requests = requests; running = running }

  many : (hs : List H) → length (names_of (databases_of name keepers hs)) ≡ length hs
  many [] = refl
  many (h ∷ hs) = ap suc (many hs)

  -- a number of a database is a number of a handle
  pub within : (v : Book) (groups : List Group) (hs : List H) (calls requests : ℕ) (running : Option ℕ) → v ≡ book groups hs calls requests running → (i : ℕ) → i < length (names_of v.machines.databases) → i < length hs
  within v groups hs calls requests running is i h = subst (λ n. i < n) (ap (λ (b : Book). length (names_of b.machines.databases)) is ∙ many hs) h

  get-one : (hs : List H) (i : ℕ) (h : H) → slice_get hs i ≡ Some h → slice_get (databases_of name keepers hs) i ≡ Some (one h)
  get-one [] i h e = absurd cc
  get-one (g ∷ hs) zero h e = let s : g ≡ h = cc in ap (λ z. Some (one z)) s
  get-one (g ∷ hs) (suc i) h e = get-one hs i h e

  get-name : (hs : List H) (i : ℕ) (h : H) → slice_get hs i ≡ Some h → slice_get (names_of (databases_of name keepers hs)) i ≡ Some (name h)
  get-name [] i h e = absurd cc
  get-name (g ∷ hs) zero h e = let s : g ≡ h = cc in ap (λ z. Some (name z)) s
  get-name (g ∷ hs) (suc i) h e = get-name hs i h e

  set-one : (hs : List H) (i : ℕ) (h : H) → databases_of name keepers (slice_set hs i h) ≡ slice_set (databases_of name keepers hs) i (one h)
  set-one [] i h = refl
  set-one (g ∷ hs) zero h = refl
  set-one (g ∷ hs) (suc i) h = ap (λ z. one g ∷ z) (set-one hs i h)

  same-names : (hs : List H) (i : ℕ) (h more : H) → slice_get hs i ≡ Some h → name more ≡ name h → names_of (databases_of name keepers (slice_set hs i more)) ≡ names_of (databases_of name keepers hs)
  same-names [] i h more e n = refl
  same-names (g ∷ hs) zero h more e n = let s : h ≡ g = cc in ap (λ z. z ∷ names_of (databases_of name keepers hs)) (n ∙ ap name s)
  same-names (g ∷ hs) (suc i) h more e n = ap (λ z. name g ∷ z) (same-names hs i h more e n)

  module _ (hs : List H) (i : ℕ) (h more : H) (there : slice_get hs i ≡ Some h) (kept : name more ≡ name h) where
    on-one : (Change : List KeeperMeaning → List KeeperMeaning → Type 0) → Change (keepers h) (keepers more) → OnDatabase Change (databases_of name keepers hs) (name h) (databases_of name keepers (slice_set hs i more))
    on-one Change c = record {
      place = i;
      database = one h;
      keepers = keepers more;
      there = get-one hs i h there;
      named = refl;
      change = c;
      new_is = set-one hs i more ∙ (λ k. slice_set (databases_of name keepers hs) i (record { name = kept k; keepers = keepers more }));
    }

    module _ (v : Book) (groups : List Group) (calls requests : ℕ) (running : Option ℕ) (is : v ≡ book groups hs calls requests running) where
      -- a command that is answered
      pub answered : (c : DbCmd) (a : DbAns) (more_calls request : ℕ) → more_calls ≡ one_more calls → v.running ≡ Some request → HandleAnswers c a (keepers h) (keepers more) →
          (n : List ℕ) × (slice_get (names_of v.machines.databases) i ≡ Some n) × IsAnswered BookStep AnswersCommand v.running v (call.Db n c) (answer.Db a) (book groups (slice_set hs i more) more_calls requests running)
      answered c a more_calls request m r acts = (
        name h,
        ap (λ (b : Book). slice_get (names_of b.machines.databases) i) is ∙ get-name hs i h there,
        record {
          entry = record { request = request; call = call.Db (name h) c; moment = 0; answer = answer.Db a };
          request = r;
          call_is = refl;
          answer_is = refl;
          step_is = record {
            name = name h;
            c = c;
            a = a;
            request = r;
            call_is = refl;
            answer_is = refl;
            moment_is = refl;
            step = subst (λ (b : Book). OnDatabase (HandleAnswers c a) b.machines.databases (name h) (databases_of name keepers (slice_set hs i more))) (sym is) (on-one (HandleAnswers c a) acts);
            new_is = λ k. record {
              machines = record { groups = (sym is k).machines.groups; databases = databases_of name keepers (slice_set hs i more) };
              calls = (m ∙ ap (λ (b : Book). one_more b.calls) (sym is)) k;
              requests = (sym is k).requests;
              running = (sym is k).running;
            };
          };
        },
      )

      -- a command for which memory was wanting
      pub lacking : HandleKept (keepers h) (keepers more) → BookLacks v (book groups (slice_set hs i more) calls requests running)
      lacking k = record {
        name = name h;
        step = subst (λ (b : Book). OnDatabase HandleKept b.machines.databases (name h) (databases_of name keepers (slice_set hs i more))) (sym is) (on-one HandleKept k);
        new_is = λ j. record {
          machines = record { groups = (sym is j).machines.groups; databases = databases_of name keepers (slice_set hs i more) };
          calls = (sym is j).calls;
          requests = (sym is j).requests;
          running = (sym is j).running;
        };
      }

      -- the names stay
      pub names-stay : (more_calls : ℕ) → seen (book groups (slice_set hs i more) more_calls requests running) ≡ seen v
      names-stay more_calls = (λ k. record { names = same-names hs i h more there kept k; running = running; next = requests }) ∙ ap seen (sym is)

  -- a cache call that is answered
  pub cached : (v : Book) (groups more : List Group) (hs : List H) (calls requests : ℕ) (running : Option ℕ) → v ≡ book groups hs calls requests running → (reading moment group : ℕ) (c : CacheCall) (a : CacheAns) (more_calls request : ℕ) →
      more_calls ≡ one_more calls → v.running ≡ Some request → cache_call_fits c ≡ true → group ≡ last_moment groups (group_number c.id.name) → moment ≡ max group reading → CacheStep groups c moment more a →
      IsAnswered BookStep (AnswersCache reading) v.running v (call.Cache c) (answer.Cache a) (book more hs more_calls requests running)
  cached v groups more hs calls requests running is reading moment group c a more_calls request m r fits g e step = record {
    entry = record { request = request; call = call.Cache c; moment = moment; answer = answer.Cache a };
    request = r;
    call_is = refl;
    answer_is = refl;
    step_is = record {
      c = c;
      a = a;
      request = r;
      call_is = refl;
      answer_is = refl;
      moment_is = e ∙ ap (λ z. max z reading) (g ∙ ap (λ (b : Book). last_moment b.machines.groups (group_number c.id.name)) (sym is));
      step = subst (λ (b : Book). CacheEntry b.machines.groups c moment a more) (sym is) (record { fits = fits; moment_is = omega (arith, g, e); step = step });
      new_is = λ k. record {
        machines = record { groups = more; databases = (sym is k).machines.databases };
        calls = (m ∙ ap (λ (b : Book). one_more b.calls) (sym is)) k;
        requests = (sym is k).requests;
        running = (sym is k).running;
      };
    };
  }
