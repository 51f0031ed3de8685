-- The steps of a book are steps of the machines of its history.
use Rattle.std.proofs.Common.{◌≡◌, ◌≤◌, ℕ, zero, suc, List, [], ◌∷◌, Some, slice_get, slice_set, refl, ap, sym, ◌∙◌, subst, arith}
use Rattle.web_data.specs.declared.database.DbCmd.{DbCmd}
use Rattle.web_data.specs.declared.database.DbAns.{DbAns}
use Rattle.web_data.specs.declared.database.DbAns.TheVariants as db
use Rattle.web_data.specs.declared.database.WebCall.TheVariants as call
use Rattle.web_data.specs.declared.database.WebAns.TheVariants as answer
use Rattle.outside_world.specs.FaultPlan.{FailsAsPlanned, plan_after}
use Rattle.db_keeper.specs.Keeping.{KeeperMeaning, AnswersBy}
use Rattle.db_pool.specs.Handling.{IsFault, KeeperAnswers, KeeperActs, HandleActs, HandleKept, replaced}
use Rattle.history_core.specs.LegalHistory.{Database, Machines, KeeperEntry, KeepersEntry, OnDatabase, GroupsStep, DatabasesStep, LegalRun, LegalHistory, last_fault, after_answer}
use Rattle.history_core.specs.Calling.{Act, Begins, AnswersCache, LacksForCache, AnswersCommand, LacksForCommand, Ends, Chain, entries_of}
use Rattle.history_core.specs.Book.{Book, BookStep, HandleAnswers, KeeperShows, DatabaseShows, MachinesShow, Pairwise, new_book}

module _ {X : Type 0} (R : X → X → Type 0) where
  pairs-at : (xs ys : List X) (i : ℕ) (y : X) → Pairwise R xs ys → slice_get ys i ≡ Some y → (x : X) × (slice_get xs i ≡ Some x) × R x y
  pairs-at [] [] i y h g = absurd cc
  pairs-at [] (z ∷ ys) i y h g = absurd h
  pairs-at (x ∷ xs) [] i y h g = absurd h
  pairs-at (x ∷ xs) (z ∷ ys) zero y h g = let e : z ≡ y = cc in (x, refl, subst (R x) e h.0)
  pairs-at (x ∷ xs) (z ∷ ys) (suc i) y h g = pairs-at xs ys i y h.1 g

  pairs-set : (xs ys : List X) (i : ℕ) (x y : X) → Pairwise R xs ys → R x y → Pairwise R (slice_set xs i x) (slice_set ys i y)
  pairs-set [] [] i x y h r = h
  pairs-set [] (z ∷ ys) i x y h r = absurd h
  pairs-set (w ∷ xs) [] i x y h r = absurd h
  pairs-set (w ∷ xs) (z ∷ ys) zero x y h r = (r, h.1)
  pairs-set (w ∷ xs) (z ∷ ys) (suc i) x y h r = (h.0, pairs-set xs ys i x y h.1 r)

  pairs-same : ((x : X) → R x x) → (xs : List X) → Pairwise R xs xs
  pairs-same s [] = tt
  pairs-same s (x ∷ xs) = (s x, pairs-same s xs)

-- one keeper

count-after : (k : ℕ) (a : DbAns) (old new : KeeperMeaning) (c : DbCmd) → KeeperAnswers old c a new → k ≤ old.faults → old.faults ≤ new.faults → last_fault k a ≤ new.faults
count-after k (db.Fault n) old new c h g l = let e = h.0 in omega (arith, e)
count-after k db.Done old new c h g l = omega (arith, g, l)
count-after k (db.Rows rows) old new c h g l = omega (arith, g, l)
count-after k db.NoTable old new c h g l = omega (arith, g, l)
count-after k db.TableStands old new c h g l = omega (arith, g, l)
count-after k db.KeyStands old new c h g l = omega (arith, g, l)

shown-after : KeeperMeaning → DbAns → KeeperMeaning → KeeperMeaning
shown-after k a new = record { tables = new.tables; plan = new.plan; faults = last_fault k.faults a }

answers-after : (k old new : KeeperMeaning) (c : DbCmd) (a : DbAns) → KeeperShows k old → KeeperAnswers old c a new → KeeperAnswers k c a (shown-after k a new)
unfolding shown-after
answers-after k old new c (db.Fault n) s h = let e = h.0 in let r = h.1.0 in let g = s.count in (refl, (omega (arith, e, r, g), h.1.1 ∙ s.tables))
answers-after k old new c db.Done s h = (h.0, subst (λ z. AnswersBy z c db.Done new.tables) s.tables h.1)
answers-after k old new c (db.Rows rows) s h = (h.0, subst (λ z. AnswersBy z c (db.Rows rows) new.tables) s.tables h.1)
answers-after k old new c db.NoTable s h = (h.0, subst (λ z. AnswersBy z c db.NoTable new.tables) s.tables h.1)
answers-after k old new c db.TableStands s h = (h.0, subst (λ z. AnswersBy z c db.TableStands new.tables) s.tables h.1)
answers-after k old new c db.KeyStands s h = (h.0, subst (λ z. AnswersBy z c db.KeyStands new.tables) s.tables h.1)

keeper-step : (k old new : KeeperMeaning) (c : DbCmd) (a : DbAns) → KeeperShows k old → KeeperActs old c a new → KeeperEntry k c a (shown-after k a new) × KeeperShows (shown-after k a new) new
unfolding shown-after
keeper-step k old new c a s h = (
  record {
    answers = answers-after k old new c a s h.answers;
    planned = subst (λ z. FailsAsPlanned z (IsFault a)) s.plan h.planned;
    plan = h.plan ∙ ap plan_after s.plan;
    count = refl;
  },
  record { tables = refl; plan = refl; count = count-after k.faults a old new c h.answers s.count h.count },
)

-- the keepers of a database

replaced-too : (xs ys : List KeeperMeaning) → Pairwise KeeperShows xs ys → Pairwise KeeperShows (replaced xs) (replaced ys)
replaced-too [] [] h = h
replaced-too [] (y ∷ ys) h = absurd h
replaced-too (x ∷ xs) [] h = absurd h
replaced-too (x ∷ []) (y ∷ []) h = h
replaced-too (x ∷ []) (y ∷ z ∷ ys) h = absurd h.1
replaced-too (x ∷ w ∷ xs) (y ∷ []) h = absurd h.1
replaced-too (x ∷ w ∷ xs) (y ∷ z ∷ ys) h = h.1

after-too : (a : DbAns) (xs ys : List KeeperMeaning) → Pairwise KeeperShows xs ys → Pairwise KeeperShows (after_answer a xs) (after_answer a ys)
after-too (db.Fault n) xs ys h = replaced-too xs ys h
after-too db.Done xs ys h = h
after-too (db.Rows rows) xs ys h = h
after-too db.NoTable xs ys h = h
after-too db.TableStands xs ys h = h
after-too db.KeyStands xs ys h = h

keepers-step : (ks old new : List KeeperMeaning) (c : DbCmd) (a : DbAns) → Pairwise KeeperShows ks old → HandleAnswers c a old new → (ks' : List KeeperMeaning) × KeepersEntry c a ks ks' × Pairwise KeeperShows ks' new
keepers-step ks [] new c a s h = absurd h.1
keepers-step [] (b ∷ bs) new c a s h = absurd s
keepers-step (k ∷ ks) (b ∷ bs) new c a s h = by h.0 h.1 h.2
  where
    by : (middle : List KeeperMeaning) → HandleActs (b ∷ bs) c a middle → new ≡ after_answer a middle → (ks' : List KeeperMeaning) × KeepersEntry c a (k ∷ ks) ks' × Pairwise KeeperShows ks' new
    by [] acts e = absurd acts
    by (m ∷ ms) acts e =
        let step = keeper-step k b m c a s.0 acts.0 in
        let k' = shown-after k a m in
        let pairs : Pairwise KeeperShows (k' ∷ ks) (m ∷ ms) = (step.1, subst (Pairwise KeeperShows ks) (sym acts.1) s.1) in
        (after_answer a (k' ∷ ks), (k', step.0, refl), subst (Pairwise KeeperShows (after_answer a (k' ∷ ks))) (sym e) (after-too a (k' ∷ ks) (m ∷ ms) pairs))

keepers-kept : (ks old new : List KeeperMeaning) → Pairwise KeeperShows ks old → HandleKept old new → Pairwise KeeperShows ks new
keepers-kept ks [] new s h = absurd h
keepers-kept ks (b ∷ bs) [] s h = absurd h
keepers-kept [] (b ∷ bs) (m ∷ ms) s h = absurd s
keepers-kept (k ∷ ks) (b ∷ bs) (m ∷ ms) s h =
    let less = s.0.count in
    let more = h.0.count in
    (record { tables = h.0.tables ∙ s.0.tables; plan = h.0.plan ∙ s.0.plan; count = omega (arith, less, more) }, subst (Pairwise KeeperShows ks) (sym h.1) s.1)

-- all databases

databases-step : (ds old new : List Database) (name : List ℕ) (c : DbCmd) (a : DbAns) → Pairwise DatabaseShows ds old → OnDatabase (HandleAnswers c a) old name new → (ds' : List Database) × OnDatabase (KeepersEntry c a) ds name ds' × Pairwise DatabaseShows ds' new
databases-step ds old new name c a s o =
    let p = pairs-at DatabaseShows ds old o.place o.database s o.there in
    let k = keepers-step p.0.keepers o.database.keepers o.keepers c a p.2.keepers o.change in
    let more : Database = record { name = p.0.name; keepers = k.0 } in
    let same : DatabaseShows more (record { name = o.database.name; keepers = o.keepers }) = record { name = p.2.name; keepers = k.2 } in (
      slice_set ds o.place more,
      record { place = o.place; database = p.0; keepers = k.0; there = p.1; named = p.2.name ∙ o.named; change = k.1; new_is = refl },
      subst (Pairwise DatabaseShows (slice_set ds o.place more)) (sym o.new_is) (pairs-set DatabaseShows ds old o.place more (record { name = o.database.name; keepers = o.keepers }) s same),
    )

set-back : {X : Type 0} (xs : List X) (i : ℕ) (x : X) → slice_get xs i ≡ Some x → slice_set xs i x ≡ xs
set-back [] i x h = refl
set-back (y ∷ xs) zero x h = let e : x ≡ y = cc in ap (λ z. z ∷ xs) e
set-back (y ∷ xs) (suc i) x h = ap (λ z. y ∷ z) (set-back xs i x h)

databases-kept : (ds old new : List Database) (name : List ℕ) → Pairwise DatabaseShows ds old → OnDatabase HandleKept old name new → Pairwise DatabaseShows ds new
databases-kept ds old new name s o =
    let p = pairs-at DatabaseShows ds old o.place o.database s o.there in
    let k = keepers-kept p.0.keepers o.database.keepers o.keepers p.2.keepers o.change in
    let same : DatabaseShows p.0 (record { name = o.database.name; keepers = o.keepers }) = record { name = p.2.name; keepers = k } in
    let pairs = pairs-set DatabaseShows ds old o.place p.0 (record { name = o.database.name; keepers = o.keepers }) s same in
    subst (Pairwise DatabaseShows ds) (sym o.new_is) (subst (λ z. Pairwise DatabaseShows z (slice_set old o.place (record { name = o.database.name; keepers = o.keepers }))) (set-back ds o.place p.0 p.1) pairs)

-- a step of a book

abbrev Goes : Machines → Act → Book → Type 0
Goes m act new = (n : Machines) × LegalRun m (entries_of (act ∷ [])) n × MachinesShow n new

pub book_step : (m : Machines) (old new : Book) (act : Act) → MachinesShow m old → BookStep old act new → Goes m act new
book_step m old new (Begins number) s h = (m, refl, record { groups = s.groups ∙ ap (λ b. b.machines.groups) (sym h.new_is); databases = subst (λ b. Pairwise DatabaseShows m.databases b.machines.databases) (sym h.new_is) s.databases })
book_step m old new (LacksForCache reading) s h = (m, refl, subst (MachinesShow m) (sym h) s)
book_step m old new Ends s h = (m, refl, record { groups = s.groups ∙ ap (λ b. b.machines.groups) (sym h); databases = subst (λ b. Pairwise DatabaseShows m.databases b.machines.databases) (sym h) s.databases })
book_step m old new LacksForCommand s h =
    (m, refl, record { groups = s.groups ∙ ap (λ b. b.machines.groups) (sym h.new_is); databases = databases-kept m.databases old.machines.databases new.machines.databases h.name s.databases h.step })
book_step m old new (AnswersCache reading e) s h =
    let n : Machines = record { groups = new.machines.groups; databases = m.databases } in
    let groups : GroupsStep e.call e.moment e.answer m.groups new.machines.groups =
    subst (λ z. GroupsStep z e.moment e.answer m.groups new.machines.groups) (sym h.call_is)
    (subst (λ z. GroupsStep (call.Cache h.c) e.moment z m.groups new.machines.groups) (sym h.answer_is)
    (subst (λ z. GroupsStep (call.Cache h.c) e.moment (answer.Cache h.a) z new.machines.groups) (sym s.groups) h.step)) in
    let databases : DatabasesStep e.call e.moment e.answer m.databases m.databases = subst (λ z. DatabasesStep z e.moment e.answer m.databases m.databases) (sym h.call_is) refl in (
      n,
      (n, record { groups = groups; databases = databases }, refl),
      record { groups = refl; databases = subst (λ b. Pairwise DatabaseShows m.databases b.machines.databases) (sym h.new_is) s.databases },
    )
book_step m old new (AnswersCommand e) s h =
    let d = databases-step m.databases old.machines.databases new.machines.databases h.name h.c h.a s.databases h.step in
    let n : Machines = record { groups = m.groups; databases = d.0 } in
    let groups : GroupsStep e.call e.moment e.answer m.groups m.groups = subst (λ z. GroupsStep z e.moment e.answer m.groups m.groups) (sym h.call_is) refl in
    let databases : DatabasesStep e.call e.moment e.answer m.databases d.0 =
    subst (λ z. DatabasesStep z e.moment e.answer m.databases d.0) (sym h.call_is)
    (subst (λ z. DatabasesStep (call.Db h.name h.c) e.moment z m.databases d.0) (sym h.answer_is) (h.moment_is, d.1)) in (
      n,
      (n, record { groups = groups; databases = databases }, refl),
      record { groups = s.groups ∙ ap (λ b. b.machines.groups) (sym h.new_is); databases = d.2 },
    )

-- a chain of steps

one-act : (act : Act) (acts : List Act) (m middle n : Machines) → LegalRun m (entries_of (act ∷ [])) middle → LegalRun middle (entries_of acts) n → LegalRun m (entries_of (act ∷ acts)) n
one-act (Begins number) acts m middle n h g = subst (λ z. LegalRun z (entries_of acts) n) h g
one-act (LacksForCache reading) acts m middle n h g = subst (λ z. LegalRun z (entries_of acts) n) h g
one-act Ends acts m middle n h g = subst (λ z. LegalRun z (entries_of acts) n) h g
one-act LacksForCommand acts m middle n h g = subst (λ z. LegalRun z (entries_of acts) n) h g
one-act (AnswersCache reading e) acts m middle n h g = (h.0, h.1, subst (λ z. LegalRun z (entries_of acts) n) h.2 g)
one-act (AnswersCommand e) acts m middle n h g = (h.0, h.1, subst (λ z. LegalRun z (entries_of acts) n) h.2 g)

book-run : (acts : List Act) (m : Machines) (old new : Book) → MachinesShow m old → Chain BookStep old acts new → (n : Machines) × LegalRun m (entries_of acts) n × MachinesShow n new
book-run [] m old new s h = (m, refl, subst (MachinesShow m) (sym h) s)
book-run (act ∷ acts) m old new s h =
    let first = book_step m old h.0 act s h.1 in
    let rest = book-run acts first.0 h.0 new first.2 h.2 in
    (rest.0, one-act act acts m first.0 rest.0 first.1 rest.1, rest.2)

keeper-itself : (k : KeeperMeaning) → KeeperShows k k
keeper-itself k = record { tables = refl; plan = refl; count = omega arith }

database-itself : (d : Database) → DatabaseShows d d
database-itself d = record { name = refl; keepers = pairs-same KeeperShows keeper-itself d.keepers }

-- what is done through a new book is a legal history
pub books_are_legal : (databases : List Database) (acts : List Act) (new : Book) → Chain BookStep (new_book databases) acts new → LegalHistory databases (entries_of acts)
books_are_legal databases acts new h =
    let run = book-run acts (new_book databases).machines (new_book databases) new (record { groups = refl; databases = pairs-same DatabaseShows database-itself databases }) h in
    (run.0, run.1)
