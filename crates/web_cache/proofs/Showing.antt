-- What the calls on rows of pickles make of the rows of data that they show.
use Rattle.std.proofs.Common.{◌≡◌, ℕ, ◌+◌, List, [], ◌∷◌, ◌++◌, map, filter, Bool, true, false, cond, nat_le, nat_lt, Option, Some, None, Result, Ok, Err, IfOk, OnErr, refl, ap, sym, ◌∙◌, subst}
use Rattle.web_data.specs.declared.datum.Datum.{Datum}
use Rattle.web_data.specs.declared.cache.Kind.{Kind}
use Rattle.web_data.specs.declared.cache.CacheId.{CacheId}
use Rattle.web_data.specs.declared.cache.CacheOp.{CacheOp}
use Rattle.web_data.specs.declared.cache.CacheOp.TheVariants as op
use Rattle.web_data.specs.declared.cache.CacheAns.{CacheAns}
use Rattle.web_data.specs.declared.cache.CacheAns.TheVariants as ans
use Rattle.web_data.specs.Data.{has_desc}
use Rattle.web_data.specs.Pickles.{pickle, IsPickle}
use Rattle.cache_rows.specs.RowMachine.{PickleRow, CacheRows, flushed, NoneNamed, Looks, Finds, Misses, Puts, Foretells, LeavesOut, key_of, used, stays, current, sizes, sizes_from, pickle_size, kept, settled, new_row}
use Rattle.cache_rows.proofs.Lists.{all-append, all-left, all-right, all-filter}
use Rattle.value_pickle.proofs.OneForm.{equal_pickles}
use Rattle.web_cache.specs.CacheMachine.{DataRow, RowsStep, row_size}
use Rattle.web_cache.specs.Shown.{Kept, Shown, IsOf, AllOf, LooksAs, PutsAs, Reads, found, pickled, same_rows}

-- a front of a list of images, an image and what follows come from such parts of the list
record Parts {A B : Type 0} (f : A → B) (xs : List A) (before : List B) (y : B) (after : List B) : Type 0 where
  pub front : List A
  pub item : A
  pub back : List A
  pub whole : xs ≡ front ++ item ∷ back
  pub before_is : before ≡ map f front
  pub item_is : y ≡ f item
  pub after_is : after ≡ map f back

head_or : {B : Type 0} → B → List B → B
head_or b [] = b
head_or b (x ∷ xs) = x

tail_of : {B : Type 0} → List B → List B
tail_of [] = []
tail_of (x ∷ xs) = xs

parts : {A B : Type 0} (f : A → B) (xs : List A) (before : List B) (y : B) (after : List B) → map f xs ≡ before ++ y ∷ after → Parts f xs before y after
unfolding head_or tail_of
parts f [] [] y after e = absurd cc
parts f [] (b ∷ before) y after e = absurd cc
parts f (x ∷ xs) [] y after e = record { front = []; item = x; back = xs; whole = refl; before_is = refl; item_is = sym (ap (head_or y) e); after_is = sym (ap tail_of e) }
parts f (x ∷ xs) (b ∷ before) y after e =
    let rest = parts f xs before y after (ap tail_of e) in
    let first = sym (ap (head_or y) e) in
    record { front = x ∷ rest.front; item = rest.item; back = rest.back; whole = ap (λ z. x ∷ z) rest.whole; before_is = λ i. first i ∷ rest.before_is i; item_is = rest.item_is; after_is = rest.after_is }

pub images : {A B : Type 0} (f : A → B) (xs ys : List A) → map f (xs ++ ys) ≡ map f xs ++ map f ys
images f [] ys = refl
images f (x ∷ xs) ys = ap (λ z. f x ∷ z) (images f xs ys)

module _ (id : CacheId) where
  abbrev show : DataRow → PickleRow
  show = pickled id

  filter-shown : (test : ℕ → Bool) (xs : List DataRow) → filter (λ (r : PickleRow). test r.stamp) (map show xs) ≡ map show (filter (λ (r : DataRow). test r.stamp) xs)
  filter-shown test [] = refl
  filter-shown test (x ∷ xs) = by (test x.stamp) (filter-shown test xs)
    where
      by : (b : Bool) → filter (λ (r : PickleRow). test r.stamp) (map show xs) ≡ map show (filter (λ (r : DataRow). test r.stamp) xs)
          → cond b (show x ∷ filter (λ (r : PickleRow). test r.stamp) (map show xs)) (filter (λ (r : PickleRow). test r.stamp) (map show xs)) ≡ map show (cond b (x ∷ filter (λ (r : DataRow). test r.stamp) xs) (filter (λ (r : DataRow). test r.stamp) xs))
      by true h = ap (λ z. show x ∷ z) h
      by false h = h

  none-shown : (key : Datum) (xs : List DataRow) → NoneNamed key_of (pickle id.key key) (map show xs) → NoneNamed key_of key xs
  none-shown key [] h = tt
  none-shown key (x ∷ xs) h = ((λ e. h.0 (ap (pickle id.key) e)), none-shown key xs h.1)

  used-shown : (b : Bool) (moment : ℕ) (r : DataRow) → used b moment (show r) ≡ show (used b moment r)
  used-shown true moment r = refl
  used-shown false moment r = refl

  used-of : (b : Bool) (moment : ℕ) (r : DataRow) → IsOf id r → IsOf id (used b moment r)
  used-of true moment r h = h
  used-of false moment r h = h

  sizes-shown : (xs : List DataRow) → sizes pickle_size (map show xs) ≡ sizes (row_size id) xs
  sizes-shown [] = refl
  sizes-shown (x ∷ xs) = ap (λ n. row_size id x.key x.value + n) (sizes-shown xs)

  from-shown : (stamp : ℕ) (before rows : List DataRow) → sizes_from pickle_size stamp (map show before) (map show rows) ≡ sizes_from (row_size id) stamp before rows
  from-shown stamp before rows =
      let a = ap (sizes pickle_size) (filter-shown (nat_lt stamp) before) ∙ sizes-shown (filter (λ (r : DataRow). nat_lt stamp r.stamp) before) in
      let b = ap (sizes pickle_size) (filter-shown (nat_le stamp) rows) ∙ sizes-shown (filter (λ (r : DataRow). nat_le stamp r.stamp) rows) in
      λ i. a i + b i

  kept-shown : (most : ℕ) (before rows : List DataRow) → kept pickle_size most (map show before) (map show rows) ≡ map show (kept (row_size id) most before rows)
  kept-shown most before [] = refl
  kept-shown most before (r ∷ rows) =
      let rest = kept-shown most (r ∷ before) rows in
      ap (λ n. cond (nat_le n most) (show r ∷ kept pickle_size most (map show (r ∷ before)) (map show rows)) (kept pickle_size most (map show (r ∷ before)) (map show rows))) (from-shown r.stamp before (r ∷ rows))
      ∙ by (nat_le (sizes_from (row_size id) r.stamp before (r ∷ rows)) most) rest
    where
      by : (b : Bool) → kept pickle_size most (map show (r ∷ before)) (map show rows) ≡ map show (kept (row_size id) most (r ∷ before) rows)
          → cond b (show r ∷ kept pickle_size most (map show (r ∷ before)) (map show rows)) (kept pickle_size most (map show (r ∷ before)) (map show rows)) ≡ map show (cond b (r ∷ kept (row_size id) most (r ∷ before) rows) (kept (row_size id) most (r ∷ before) rows))
      by true h = ap (λ z. show r ∷ z) h
      by false h = h

  kept-of : (most : ℕ) (before rows : List DataRow) → AllOf id rows → AllOf id (kept (row_size id) most before rows)
  kept-of most before [] h = tt
  kept-of most before (r ∷ rows) h = by (nat_le (sizes_from (row_size id) r.stamp before (r ∷ rows)) most) (kept-of most (r ∷ before) rows h.1)
    where
      by : (b : Bool) → AllOf id (kept (row_size id) most (r ∷ before) rows) → AllOf id (cond b (r ∷ kept (row_size id) most (r ∷ before) rows) (kept (row_size id) most (r ∷ before) rows))
      by true g = (h.0, g)
      by false g = g

  settled-shown : (size : Option ℕ) (rest : List DataRow) (r : DataRow) → settled pickle_size size (map show rest) (show r) ≡ map show (settled (row_size id) size rest r)
  settled-shown None rest r = sym (images show rest (r ∷ []))
  settled-shown (Some most) rest r = by (nat_le (row_size id r.key r.value) most)
    where
      by : (b : Bool) → cond b (kept pickle_size most [] (map show rest ++ show r ∷ [])) (map show rest) ≡ map show (cond b (kept (row_size id) most [] (rest ++ r ∷ [])) rest)
      by true = ap (kept pickle_size most []) (sym (images show rest (r ∷ []))) ∙ kept-shown most [] (rest ++ r ∷ [])
      by false = refl

  settled-of : (size : Option ℕ) (rest : List DataRow) (r : DataRow) → AllOf id rest → IsOf id r → AllOf id (settled (row_size id) size rest r)
  settled-of None rest r h g = all-append _ rest (r ∷ []) h (g, tt)
  settled-of (Some most) rest r h g = by (nat_le (row_size id r.key r.value) most)
    where
      by : (b : Bool) → AllOf id (cond b (kept (row_size id) most [] (rest ++ r ∷ [])) rest)
      by true = kept-of most [] (rest ++ r ∷ []) (all-append _ rest (r ∷ []) h (g, tt))
      by false = h

  module _ (moment : ℕ) (key : Datum) (key_fits : has_desc id.key key ≡ true) (old : List PickleRow) (s : Shown id old) where
    abbrev alive : List DataRow
    alive = current id.kind.time moment s.0

    alive-of : AllOf id alive
    alive-of = all-filter _ (λ (r : DataRow). stays id.kind.time moment r.stamp) s.0 s.1.0

    alive-shown : current id.kind.time moment old ≡ map show alive
    alive-shown = ap (current id.kind.time moment) s.1.1 ∙ filter-shown (stays id.kind.time moment) s.0

    -- the parts of a list in which the key's row stands
    module _ (before : List PickleRow) (row : PickleRow) (after : List PickleRow) (w : current id.kind.time moment old ≡ before ++ row ∷ after) (n : row.key ≡ pickle id.key key) where
      abbrev p : Parts show alive before row after
      p = parts show alive before row after (sym alive-shown ∙ w)

      all-parts : AllOf id (p.front ++ p.item ∷ p.back)
      all-parts = subst (AllOf id) p.whole alive-of

      front-of : AllOf id p.front
      front-of = all-left _ p.front (p.item ∷ p.back) all-parts

      item-of : IsOf id p.item
      item-of = (all-right _ p.front (p.item ∷ p.back) all-parts).0

      back-of : AllOf id p.back
      back-of = (all-right _ p.front (p.item ∷ p.back) all-parts).1

      item-named : p.item.key ≡ key
      item-named = equal_pickles id.key p.item.key key item-of.0 key_fits (ap (λ (r : PickleRow). r.key) (sym p.item_is) ∙ n)

    looks-none : (new : List PickleRow) → Misses id.kind moment (pickle id.key key) old new → (t : Shown id new) × Looks id.kind moment key s.0 None t.0
    looks-none new m = ((alive, (alive-of, m.rows ∙ alive-shown)), record { absent = none-shown key alive (subst (NoneNamed key_of (pickle id.key key)) alive-shown m.absent); rows = refl })

    looks-some : (value : Datum) (text : List ℕ) (new : List PickleRow) → IsPickle id.value value text → Finds id.kind moment (pickle id.key key) old text new → (t : Shown id new) × Looks id.kind moment key s.0 (Some value) t.0
    looks-some value text new h f =
        let p = p f.before f.row f.after f.found.whole f.found.named in
        let i = item-of f.before f.row f.after f.found.whole f.found.named in
        let touched = used id.kind.used moment p.item in
        let row_is : used id.kind.used moment f.row ≡ show touched = ap (used id.kind.used moment) p.item_is ∙ used-shown id.kind.used moment p.item in (
          (
            p.front ++ touched ∷ p.back,
            (
              all-append _ p.front (touched ∷ p.back) (front-of f.before f.row f.after f.found.whole f.found.named) (used-of id.kind.used moment p.item i, back-of f.before f.row f.after f.found.whole f.found.named),
              f.rows ∙ ((λ j. p.before_is j ++ row_is j ∷ p.after_is j) ∙ sym (images show p.front (touched ∷ p.back))),
            ),
          ),
          record {
            before = p.front;
            row = p.item;
            after = p.back;
            found = record { whole = p.whole; named = item-named f.before f.row f.after f.found.whole f.found.named };
            answer = equal_pickles id.value value p.item.value h.described i.1 (sym h.spelled ∙ (f.answer ∙ ap (λ (r : PickleRow). r.value) p.item_is));
            rows = refl;
          },
        )

    -- the rows without the key's row
    left-out : (fresh : Bool) (rest : List PickleRow) → LeavesOut (pickle id.key key) (current id.kind.time moment old) fresh rest → (these : List DataRow) × (LeavesOut key alive fresh these × (AllOf id these × (rest ≡ map show these)))
    left-out true rest l = (alive, ((none-shown key alive (subst (NoneNamed key_of (pickle id.key key)) alive-shown l.0), refl), (alive-of, l.1 ∙ alive-shown)))
    left-out false rest l =
        let p = p l.before l.row l.after l.found.whole l.found.named in (
          p.front ++ p.back,
          (
            record { before = p.front; row = p.item; after = p.back; found = record { whole = p.whole; named = item-named l.before l.row l.after l.found.whole l.found.named }; rest_is = refl },
            (
              all-append _ p.front p.back (front-of l.before l.row l.after l.found.whole l.found.named) (back-of l.before l.row l.after l.found.whole l.found.named),
              l.rest_is ∙ ((λ j. p.before_is j ++ p.after_is j) ∙ sym (images show p.front p.back)),
            ),
          ),
        )

    puts : (value : Datum) → has_desc id.value value ≡ true → (fresh : Bool) (new : List PickleRow) → Puts pickle_size id.kind moment (pickle id.key key) (pickle id.value value) old fresh new → (t : Shown id new) × Puts (row_size id) id.kind moment key value s.0 fresh t.0
    puts value value_fits fresh new h =
        let l = left-out fresh h.rest h.left_out in
        let r = new_row key value moment in (
          (
            settled (row_size id) id.kind.size l.0 r,
            (
              settled-of id.kind.size l.0 r l.1.1.0 (key_fits, value_fits),
              h.rows ∙ (ap (λ z. settled pickle_size id.kind.size z (show r)) l.1.1.1 ∙ settled-shown id.kind.size l.0 r),
            ),
          ),
          record { rest = l.0; left_out = l.1.0; rows = refl },
        )

looks-as : (id : CacheId) (moment : ℕ) (key : Datum) → has_desc id.key key ≡ true → (old new : List PickleRow) (told : Option (List ℕ)) (answer : Option Datum) → Reads id.value told answer → Looks id.kind moment (pickle id.key key) old told new → LooksAs id moment key old answer new
looks-as id moment key h old new None None r l s = looks-none id moment key h old s new l
looks-as id moment key h old new (Some text) (Some value) r l s = looks-some id moment key h old s value text new r l
looks-as id moment key h old new None (Some value) r l s = absurd r
looks-as id moment key h old new (Some text) None r l s = absurd r

-- a lookup among the pickles, after its value was read
pub looked : (id : CacheId) (moment : ℕ) (key : Datum) → has_desc id.key key ≡ true → (kind : Kind) → kind ≡ id.kind → (name : List ℕ) → name ≡ pickle id.key key → (old new : List PickleRow) (told seen : Option (List ℕ)) → Foretells kind moment name old seen → Looks kind moment name old told new → (answer : Option Datum) → Reads id.value seen answer → LooksAs id moment key old answer new
looked id moment key h kind k name n old new told seen f l answer r =
    looks-as id moment key h old new seen answer r
    (subst (λ z. Looks z moment (pickle id.key key) old seen new) k (subst (λ z. Looks kind moment z old seen new) n (subst (λ z. Looks kind moment name old z new) (f told new l) l)))

-- an insert among the pickles
pub put-in : (id : CacheId) (moment : ℕ) (key value : Datum) → has_desc id.key key ≡ true → has_desc id.value value ≡ true → (kind : Kind) → kind ≡ id.kind → (name text : List ℕ) → name ≡ pickle id.key key → text ≡ pickle id.value value → (old new : List PickleRow) (fresh : Bool) → Puts pickle_size kind moment name text old fresh new → PutsAs id moment key value old fresh new
put-in id moment key value h g kind k name text n t old new fresh p s =
    puts id moment key h old s value g fresh new
    (subst (λ z. Puts pickle_size z moment (pickle id.key key) (pickle id.value value) old fresh new) k
    (subst (λ z. Puts pickle_size kind moment z (pickle id.value value) old fresh new) n
    (subst (λ z. Puts pickle_size kind moment name z old fresh new) t p)))

-- What holds of the rows that any proof shows, as there is one list of them at most.
module _ (id : CacheId) (old new : List PickleRow) (s : Shown id old) (t : Shown id new) where
  pub looks-from : (moment : ℕ) (key : Datum) (answer : Option Datum) → LooksAs id moment key old answer new → RowsStep id moment (op.Look key) s.0 (found answer) t.0
  looks-from moment key answer h = by answer (subst (λ z. Looks id.kind moment key s.0 answer z) (same_rows id (h s).0.0 t.0 (h s).0.1.0 t.1.0 (sym (h s).0.1.1 ∙ t.1.1)) (h s).1)
    where
      by : (a : Option Datum) → Looks id.kind moment key s.0 a t.0 → RowsStep id moment (op.Look key) s.0 (found a) t.0
      by None l = l
      by (Some value) l = l

  pub puts-from : (moment : ℕ) (key value : Datum) (fresh : Bool) → PutsAs id moment key value old fresh new → RowsStep id moment (op.Put key value) s.0 (ans.Fresh fresh) t.0
  puts-from moment key value fresh h = subst (λ z. Puts (row_size id) id.kind moment key value s.0 fresh z) (same_rows id (h s).0.0 t.0 (h s).0.1.0 t.1.0 (sym (h s).0.1.1 ∙ t.1.1)) (h s).1

  pub none-from : new ≡ [] → t.0 ≡ []
  none-from e = same_rows id t.0 [] t.1.0 tt (sym t.1.1 ∙ e)

-- what holds of an Ok makes something else hold of it
pub if_ok : {A E : Type 0} (r : Result A E) (P Q : A → Type 0) → ((a : A) → P a → Q a) → IfOk r P → IfOk r Q
if_ok (Ok a) P Q f h = f a h
if_ok (Err e) P Q f h = tt

-- Rows that a lookup and an insert make show rows of data.
pub look-shown : {E : Type 0} (r : Result (Option Datum) E) (id : CacheId) (moment : ℕ) (key : Datum) (old new : CacheRows) → IfOk r (λ answer. LooksAs id moment key old.rows answer new.rows) → OnErr r (new ≡ old) → Shown id old.rows → Shown id new.rows
look-shown (Ok a) id moment key old new h e s = (h s).0
look-shown (Err x) id moment key old new h e s = subst (λ (z : CacheRows). Shown id z.rows) (sym e) s

pub put-shown : {E : Type 0} (r : Result Bool E) (id : CacheId) (moment : ℕ) (key value : Datum) (old new : CacheRows) → IfOk r (λ fresh. PutsAs id moment key value old.rows fresh new.rows) → OnErr r (new ≡ old) → Shown id old.rows → Shown id new.rows
put-shown (Ok a) id moment key value old new h e s = (h s).0
put-shown (Err x) id moment key value old new h e s = subst (λ (z : CacheRows). Shown id z.rows) (sym e) s

-- what is shown, with the id and the last moment
abbrev pub kept-of-rows : (id : CacheId) (rows : CacheRows) → Shown id rows.rows → Kept
kept-of-rows id rows s = record { id = id; rows = s.0; last = rows.last }

pub made : (id i : CacheId) (rows : CacheRows) (s : Shown id rows.rows) → id ≡ i → rows.rows ≡ [] → rows.last ≡ 0 → kept-of-rows id rows s ≡ record { id = i; rows = []; last = 0 }
made id i rows s e f g = let n = same_rows id s.0 [] s.1.0 tt (sym s.1.1 ∙ f) in λ j. record { id = e j; rows = n j; last = g j }

pub unchanged : (id : CacheId) (old new : CacheRows) (s : Shown id old.rows) (t : Shown id new.rows) (cache : Kept) → kept-of-rows id old s ≡ cache → new ≡ old → kept-of-rows id new t ≡ cache
unchanged id old new s t cache v e = let n = same_rows id t.0 s.0 t.1.0 s.1.0 (sym t.1.1 ∙ (ap (λ (z : CacheRows). z.rows) e ∙ s.1.1)) in (λ j. record { id = id; rows = n j; last = (e j).last }) ∙ v

pub on-err : {A E : Type 0} (r : Result A E) (P : Type 0) → P → OnErr r P
on-err (Ok a) P h = tt
on-err (Err x) P h = h

-- what a lookup, an insert and a flush that were made are to the cache
pub look-step : (id : CacheId) (old new : CacheRows) (s : Shown id old.rows) (t : Shown id new.rows) (moment : ℕ) (key : Datum) (call : CacheOp) (answer : Option Datum) (r : CacheAns) (cache : Kept) → call ≡ op.Look key → kept-of-rows id old s ≡ cache → r ≡ found answer → LooksAs id moment key old.rows answer new.rows → RowsStep cache.id moment call cache.rows r t.0
look-step id old new s t moment key call answer r cache e v f h =
    subst (λ (z : Kept). RowsStep z.id moment call z.rows r t.0) v
    (subst (λ z. RowsStep id moment z s.0 r t.0) (sym e)
    (subst (λ z. RowsStep id moment (op.Look key) s.0 z t.0) (sym f) (looks-from id old.rows new.rows s t moment key answer h)))

pub put-step : (id : CacheId) (old new : CacheRows) (s : Shown id old.rows) (t : Shown id new.rows) (moment : ℕ) (key value : Datum) (call : CacheOp) (fresh : Bool) (cache : Kept) → call ≡ op.Put key value → kept-of-rows id old s ≡ cache → PutsAs id moment key value old.rows fresh new.rows → RowsStep cache.id moment call cache.rows (ans.Fresh fresh) t.0
put-step id old new s t moment key value call fresh cache e v h =
    subst (λ (z : Kept). RowsStep z.id moment call z.rows (ans.Fresh fresh) t.0) v
    (subst (λ z. RowsStep id moment z s.0 (ans.Fresh fresh) t.0) (sym e) (puts-from id old.rows new.rows s t moment key value fresh h))

pub flush-step : (id : CacheId) (old new : CacheRows) (s : Shown id old.rows) (t : Shown id new.rows) (moment : ℕ) (call : CacheOp) (cache : Kept) → call ≡ op.Flush → kept-of-rows id old s ≡ cache → new ≡ flushed old → RowsStep cache.id moment call cache.rows ans.Flushed t.0
flush-step id old new s t moment call cache e v h =
    subst (λ (z : Kept). RowsStep z.id moment call z.rows ans.Flushed t.0) v
    (subst (λ z. RowsStep id moment z s.0 ans.Flushed t.0) (sym e) (none-from id old.rows new.rows s t (ap (λ (z : CacheRows). z.rows) h)))
