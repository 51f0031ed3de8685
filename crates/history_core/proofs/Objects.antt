-- A run of the machines as runs of the groups and of the databases, and these as runs of each by itself.
use Rattle.std.proofs.Common.{◌≡◌, ◌<◌, ◌≤◌, ◌%◌, ◌==◌, ◌++◌, ◌↔◌, inl, inr, ℕ, zero, suc, List, [], ◌∷◌, length, sum, Bool, true, false, Some, slice_get, slice_set, refl, ap, sym, ◌∙◌, subst, arith}
use Rattle.std.proofs.lemmas.Bool.Decides.{nat_tests}
use Rattle.std.proofs.lemmas.Option.{slice_get_within}
use Rattle.std.proofs.lemmas.Slice.Eq.{bytes_eq-Decides}
use Rattle.std.specs.List.{AllByRecursion}
use Rattle.sml_syntax.proofs.Lists.{slice_get_behind}
use Rattle.web_data.specs.declared.database.WebCall.{WebCall}
use Rattle.web_data.specs.declared.database.WebCall.TheVariants as call
use Rattle.web_data.specs.declared.database.WebAns.{WebAns}
use Rattle.web_data.specs.declared.database.WebAns.TheVariants as answer
use Rattle.web_cache.specs.CacheMachine.{Group, group_number, last_of, new_group, new_groups}
use Rattle.history_core.specs.declared.entry.Entry.{Entry}
use Rattle.history_core.specs.LegalHistory.{Database, Machines, EntryStep, GroupsStep, DatabasesStep, LegalRun, LegalHistory}
use Rattle.history_core.specs.ByObject.{is_on_group, is_on_database, OnGroup, OnOne, LegalByObject, NamesDiffer, NamesOne, EachNamesOne}
use Rattle.history_core.proofs.PerKey as per

abbrev number : Group → ℕ
number g = g.number

abbrev on_group : ℕ → Entry → Bool
on_group n e = is_on_group n e.call

abbrev name : Database → List ℕ
name d = d.name

abbrev on_database : List ℕ → Entry → Bool
on_database n e = is_on_database n e.call

abbrev entry : ℕ → WebCall → ℕ → WebAns → Entry
entry r c m a = record { request = r; call = c; moment = m; answer = a }

-- each group stands at its number
abbrev Numbered : List Group → Type 0
Numbered gs = (i : ℕ) (g : Group) → slice_get gs i ≡ Some g → g.number ≡ i

same-number : (n : ℕ) → (n == n) ≡ true
same-number n = grind (arith, nat_tests)

is-number : (n k : ℕ) → (n == k) ≡ true → n ≡ k
is-number n k h = grind (arith, nat_tests)

-- groups

groups-to : (c : WebCall) (m : ℕ) (a : WebAns) (r : ℕ) (xs ys : List Group) → Numbered xs → GroupsStep c m a xs ys → per.Steps number on_group OnGroup xs (entry r c m a) ys
groups-to (call.Cache c) m (answer.Cache a) r xs ys n s =
    let g = s.step.group in
    let here = n (group_number c.id.name) g s.step.there in
    inl (record {
      place = group_number c.id.name;
      cell = g;
      more = s.step.more;
      there = s.step.there;
      hit = ap (λ k. group_number c.id.name == k) here ∙ same-number (group_number c.id.name);
      change = record { fits = s.fits; moment_is = subst (λ z. last_of z ≤ m) s.step.there s.moment_is; step = s.step.step };
      key_is = s.step.step.number;
      new_is = s.step.new_is;
    })
groups-to (call.Cache c) m (answer.Db a) r xs ys n s = absurd s
groups-to (call.Db d c) m a r xs ys n s = inr ((λ k. refl), s)

groups-from : (c : WebCall) (m : ℕ) (a : WebAns) (r : ℕ) (xs ys : List Group) → Numbered xs → per.Steps number on_group OnGroup xs (entry r c m a) ys → GroupsStep c m a xs ys
groups-from (call.Cache c) m (answer.Cache a) r xs ys n (inl v) =
    let at : v.place ≡ group_number c.id.name = sym (n v.place v.cell v.there) ∙ sym (is-number (group_number c.id.name) v.cell.number v.hit) in
    let there = ap (slice_get xs) (sym at) ∙ v.there in
    record {
      fits = v.change.fits;
      moment_is = subst (λ z. last_of z ≤ m) (sym there) v.change.moment_is;
      step = record { group = v.cell; more = v.more; there = there; step = v.change.step; new_is = v.new_is ∙ ap (λ z. slice_set xs z v.more) at };
    }
groups-from (call.Cache c) m (answer.Db a) r xs ys n (inl v) = absurd v.change
groups-from (call.Cache c) m a r xs ys n (inr s) = let h = s.0 (group_number c.id.name) in let g = same-number (group_number c.id.name) in absurd (cc)
groups-from (call.Db d c) m a r xs ys n (inl v) = let h = v.hit in absurd (cc)
groups-from (call.Db d c) m a r xs ys n (inr s) = s.1

-- databases

databases-to : (c : WebCall) (m : ℕ) (a : WebAns) (r : ℕ) (xs ys : List Database) → DatabasesStep c m a xs ys → per.Steps name on_database OnOne xs (entry r c m a) ys
databases-to (call.Db d c) m (answer.Db a) r xs ys s =
    let o = s.1 in
    inl (record {
      place = o.place;
      cell = o.database;
      more = record { name = o.database.name; keepers = o.keepers };
      there = o.there;
      hit = (bytes_eq-Decides d o.database.name).1 (sym o.named);
      change = record { moment_is = s.0; name = refl; keepers = o.change };
      key_is = refl;
      new_is = o.new_is;
    })
databases-to (call.Db d c) m (answer.Cache a) r xs ys s = absurd s
databases-to (call.Cache c) m a r xs ys s = inr ((λ k. refl), s)

databases-from : (c : WebCall) (m : ℕ) (a : WebAns) (r : ℕ) (xs ys : List Database) → per.Steps name on_database OnOne xs (entry r c m a) ys → DatabasesStep c m a xs ys
databases-from (call.Db d c) m (answer.Db a) r xs ys (inl v) = (
  v.change.moment_is,
  record {
    place = v.place;
    database = v.cell;
    keepers = v.more.keepers;
    there = v.there;
    named = sym ((bytes_eq-Decides d v.cell.name).0 v.hit);
    change = v.change.keepers;
    new_is = v.new_is ∙ (λ i. slice_set xs v.place (record { name = v.key_is i; keepers = v.more.keepers }));
  },
)
databases-from (call.Db d c) m (answer.Cache a) r xs ys (inl v) = absurd v.change
databases-from (call.Db d c) m a r xs ys (inr s) = let h = s.0 d in let g = (bytes_eq-Decides d d).1 refl in absurd (cc)
databases-from (call.Cache c) m a r xs ys (inl v) = let h = v.hit in absurd (cc)
databases-from (call.Cache c) m a r xs ys (inr s) = s.1

-- runs

numbered-after : (xs ys : List Group) (e : Entry) → Numbered xs → per.Steps number on_group OnGroup xs e ys → Numbered ys
numbered-after xs ys e n (inl v) i g h =
    let p = per.before number on_group OnGroup xs v.place v.cell v.more v.there v.key_is i g (ap (λ z. slice_get z i) (sym v.new_is) ∙ h) in
    p.2 ∙ n i p.0 p.1
numbered-after xs ys e n (inr s) i g h = n i g (ap (λ z. slice_get z i) (sym s.1) ∙ h)

abbrev GroupRuns : List Group → List Entry → List Group → Type 0
GroupRuns = per.Runs number on_group OnGroup

abbrev DatabaseRuns : List Database → List Entry → List Database → Type 0
DatabaseRuns = per.Runs name on_database OnOne

parts : (es : List Entry) (old new : Machines) → Numbered old.groups → LegalRun old es new → GroupRuns old.groups es new.groups × DatabaseRuns old.databases es new.databases
parts [] old new n r = (ap (λ m. m.groups) r, ap (λ m. m.databases) r)
parts (e ∷ es) old new n r =
    let g = groups-to e.call e.moment e.answer e.request old.groups r.0.groups n r.1.groups in
    let d = databases-to e.call e.moment e.answer e.request old.databases r.0.databases r.1.databases in
    let rest = parts es r.0 new (numbered-after old.groups r.0.groups e n g) r.2 in
    ((r.0.groups, g, rest.0), (r.0.databases, d, rest.1))

whole : (es : List Entry) (gs hs : List Group) (ds fs : List Database) → Numbered gs → GroupRuns gs es hs → DatabaseRuns ds es fs → LegalRun (record { groups = gs; databases = ds }) es (record { groups = hs; databases = fs })
whole [] gs hs ds fs n g d = λ i. record { groups = g i; databases = d i }
whole (e ∷ es) gs hs ds fs n g d =
    let step : EntryStep (record { groups = gs; databases = ds }) e (record { groups = g.0; databases = d.0 }) = record {
      groups = groups-from e.call e.moment e.answer e.request gs g.0 n g.1;
      databases = databases-from e.call e.moment e.answer e.request ds d.0 d.1;
    } in
    (record { groups = g.0; databases = d.0 }, step, whole es g.0 hs d.0 fs (numbered-after gs g.0 e n g.1) g.2 d.2)

-- the groups at the start

in-front : {X : Type 0} (xs ys : List X) (i : ℕ) (x : X) → slice_get xs i ≡ Some x → slice_get (xs ++ ys) i ≡ Some x
in-front [] ys i x h = absurd cc
in-front (y ∷ xs) ys zero x h = h
in-front (y ∷ xs) ys (suc i) x h = in-front xs ys i x h

how-many : (n : ℕ) → length (new_groups n) ≡ n
how-many zero = refl
how-many (suc n) = more (new_groups n) (new_group n) ∙ ap suc (how-many n)
  where
    more : (xs : List Group) (x : Group) → length (xs ++ x ∷ []) ≡ suc (length xs)
    more [] x = refl
    more (y ∷ xs) x = ap suc (more xs x)

new-step : (n i : ℕ) (b : Bool) → (i == n) ≡ b → i < suc n → (i < n → slice_get (new_groups n) i ≡ Some (new_group i)) → slice_get (new_groups n ++ new_group n ∷ []) i ≡ Some (new_group i)
new-step n i true e h less =
    let at = is-number i n e in
    ap (slice_get (new_groups n ++ new_group n ∷ [])) (at ∙ sym (how-many n)) ∙ (slice_get_behind (new_groups n) (new_group n) [] ∙ ap (λ k. Some (new_group k)) (sym at))
new-step n i false e h less = let within : i < n = grind (arith, nat_tests) in in-front (new_groups n) (new_group n ∷ []) i (new_group i) (less within)

new-at : (n i : ℕ) → i < n → slice_get (new_groups n) i ≡ Some (new_group i)
new-at zero i h = absurd (omega (arith, h))
new-at (suc n) i h = new-step n i (i == n) refl h (λ g. new-at n i g)

new-numbered : Numbered (new_groups 16)
new-numbered i g h =
    let within : i < 16 = subst (λ k. i < k) (how-many 16) (slice_get_within (new_groups 16) i g h) in
    ap number (per.one-there (new_groups 16) i g (new_group i) h (new-at 16 i within))

groups-differ : (c : WebCall) (x y : ℕ) → is_on_group x c ≡ true → is_on_group y c ≡ true → x ≡ y
groups-differ (call.Cache c) x y h g = sym (is-number (group_number c.id.name) x h) ∙ is-number (group_number c.id.name) y g
groups-differ (call.Db d c) x y h g = absurd (cc)

databases-differ : (c : WebCall) (x y : List ℕ) → is_on_database x c ≡ true → is_on_database y c ≡ true → x ≡ y
databases-differ (call.Db d c) x y h g = sym ((bytes_eq-Decides d x).0 h) ∙ (bytes_eq-Decides d y).0 g
databases-differ (call.Cache c) x y h g = absurd (cc)

group-there : (c : WebCall) (r m : ℕ) (a : WebAns) → per.IsOn number on_group OnGroup (new_groups 16) (entry r c m a)
group-there (call.Cache c) r m a =
    let within : sum c.id.name % 16 < 16 = omega arith in
    inr (group_number c.id.name, new_group (group_number c.id.name), new-at 16 (group_number c.id.name) within, same-number (group_number c.id.name))
group-there (call.Db d c) r m a = inl (λ k. refl)

groups-there : (es : List Entry) → AllByRecursion (per.IsOn number on_group OnGroup (new_groups 16)) es
groups-there [] = tt
groups-there (e ∷ es) = (group-there e.call e.request e.moment e.answer, groups-there es)

database-there : (ds : List Database) (c : WebCall) (r m : ℕ) (a : WebAns) → NamesOne ds c → per.IsOn name on_database OnOne ds (entry r c m a)
database-there ds (call.Db d c) r m a h = inr (h.0, h.1, h.2, (bytes_eq-Decides d h.1.name).1 (sym h.3))
database-there ds (call.Cache c) r m a h = inl (λ k. refl)

databases-there : (ds : List Database) (es : List Entry) → EachNamesOne ds es → AllByRecursion (per.IsOn name on_database OnOne ds) es
databases-there ds [] h = tt
databases-there ds (e ∷ es) h = (database-there ds e.call e.request e.moment e.answer h.0, databases-there ds es h.1)

keeps-number : (c : WebCall) (m : ℕ) (a : WebAns) (r : ℕ) (x y : Group) → OnGroup x (entry r c m a) y → y.number ≡ x.number
keeps-number (call.Cache c) m (answer.Cache a) r x y s = s.step.number
keeps-number (call.Cache c) m (answer.Db a) r x y s = absurd s
keeps-number (call.Db d c) m (answer.Cache a) r x y s = absurd s
keeps-number (call.Db d c) m (answer.Db a) r x y s = absurd s

keeps-name : (c : WebCall) (m : ℕ) (a : WebAns) (r : ℕ) (x y : Database) → OnOne x (entry r c m a) y → y.name ≡ x.name
keeps-name (call.Db d c) m (answer.Db a) r x y s = s.name
keeps-name (call.Db d c) m (answer.Cache a) r x y s = absurd s
keeps-name (call.Cache c) m (answer.Cache a) r x y s = absurd s
keeps-name (call.Cache c) m (answer.Db a) r x y s = absurd s

module _ (databases : List Database) (entries : List Entry) (differ : NamesDiffer databases) where
  groups-apart : per.Differ number on_group OnGroup (new_groups 16)
  groups-apart i j x y e h g a b = sym (new-numbered i x h) ∙ (groups-differ e.call x.number y.number a b ∙ new-numbered j y g)

  databases-apart : per.Differ name on_database OnOne databases
  databases-apart i j x y e h g a b = differ i j x y h g (databases-differ e.call x.name y.name a b)

  forth : LegalHistory databases entries → LegalByObject databases entries
  forth h =
      let p = parts entries (record { groups = new_groups 16; databases = databases }) h.0 new-numbered h.1 in
      record {
        groups = λ n less. per.each number on_group OnGroup entries (new_groups 16) h.0.groups p.0 groups-apart n (new_group n) (new-at 16 n less);
        databases_are = λ place d there. per.each name on_database OnOne entries databases h.0.databases p.1 databases-apart place d there;
      }

  back : EachNamesOne databases entries → LegalByObject databases entries → LegalHistory databases entries
  back named h =
      let alone = λ (i : ℕ) (x : Group) (g : slice_get (new_groups 16) i ≡ Some x).
      (let within : i < 16 = subst (λ k. i < k) (how-many 16) (slice_get_within (new_groups 16) i x g) in
      let is = per.one-there (new_groups 16) i (new_group i) x (new-at 16 i within) g in
      subst (λ z. (y : Group) × per.AloneIn number on_group OnGroup z entries y) is (h.groups i within)) in
      let gs = per.all number on_group OnGroup (λ x e y s. keeps-number e.call e.moment e.answer e.request x y s) entries (new_groups 16) (groups-there entries) groups-apart alone in
      let ds = per.all name on_database OnOne (λ x e y s. keeps-name e.call e.moment e.answer e.request x y s) entries databases (databases-there databases entries named) databases-apart h.databases_are in
      (record { groups = gs.0; databases = ds.0 }, whole entries (new_groups 16) gs.0 databases ds.0 new-numbered gs.1 ds.1)

-- a history is legal exactly where its entries on each object are legal by themselves
pub by_object : (databases : List Database) (entries : List Entry) → NamesDiffer databases → EachNamesOne databases entries → LegalHistory databases entries ↔ LegalByObject databases entries
by_object databases entries differ named = (forth databases entries differ, back databases entries differ named)
