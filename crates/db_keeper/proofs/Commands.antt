-- The commands on ordered maps are those of the database machine.
use Rattle.std.proofs.Common.{◌≡◌, ℕ, List, Bool, true, false, Some, None, Result, Ok, Err, IfOk, OnOk, OnErr, refl, ap, sym, ◌∙◌}
use Rattle.std.specs.Prelude.{is_some}
use Rattle.std.specs.Map.{set_value}
use Rattle.std.specs.BTreeMap.{BTreeMap, is_at, get_by}
use Rattle.web_data.specs.declared.database.DbAns.{DbAns}
use Rattle.web_data.specs.declared.database.DbAns.TheVariants as ans
use Rattle.db_keeper.specs.DatabaseMachine.{Table, Tables, Effect, effect, on_table, inserted, under, with_new, with_changed, without}
use Rattle.db_keeper.specs.Shown.{table_of, tables_of, insert_answer, with_row}
use Rattle.db_keeper.proofs.Maps.{Key, Tree, query, table-found, table-changed, table-kept, if_so, if_not}

pub if_ok : {A E : Type 0} (r : Result A E) (x : A) (Q : Type 0) (P : A → Type 0) → IfOk r (λ a. a ≡ x) → OnOk r Q → ((a : A) → a ≡ x → Q → P a) → IfOk r P
if_ok (Ok a) x Q P h q f = f a h q
if_ok (Err e) x Q P h q f = tt

pub on_err : {A E : Type 0} (r : Result A E) (P Q : Type 0) → OnErr r P → (P → Q) → OnErr r Q
on_err (Ok a) P Q h f = tt
on_err (Err e) P Q h f = f h

module _ (q : List ℕ) (ts : Tables) (m : Tree) (e : ts ≡ tables_of m) (act : Table → Effect) where
  pub no_table : None ≡ get_by (query q) m → on_table (under q ts) ts act ≡ effect ans.NoTable ts
  no_table h = ap (λ o. on_table o ts act) (table-found q ts m e None h)

  pub at_table : (v : BTreeMap Key (List ℕ)) → Some v ≡ get_by (query q) m → on_table (under q ts) ts act ≡ act (table_of v)
  at_table v h = ap (λ o. on_table o ts act) (table-found q ts m e (Some v) h)

module _ (q : List ℕ) (ts : Tables) (m : Tree) (e : ts ≡ tables_of m) (v w : BTreeMap Key (List ℕ)) (n : Tree) (f : Some v ≡ get_by (query q) m) (h : n.entries ≡ set_value (is_at (query q)) m.entries w) where
  pub deleted : (key : List ℕ) → table_of w ≡ without key (table_of v) →
      on_table (under q ts) ts (λ table. effect ans.Done (with_changed q (without key table) ts)) ≡ effect ans.Done (tables_of n)
  deleted key g =
      at_table q ts m e (λ table. effect ans.Done (with_changed q (without key table) ts)) v f
      ∙ ap (effect ans.Done) (sym (table-changed q ts m e w (without key (table_of v)) n h g))

  pub row_inserted : (key value : List ℕ) (a : DbAns) → a ≡ insert_answer key (table_of v) → table_of w ≡ with_row key value (table_of v) →
      on_table (under q ts) ts (inserted q key value ts) ≡ effect a (tables_of n)
  row_inserted key value a g k = at_table q ts m e (inserted q key value ts) v f ∙ by (is_some (under key (table_of v))) refl
    where
      by : (t : Bool) → is_some (under key (table_of v)) ≡ t → inserted q key value ts (table_of v) ≡ effect a (tables_of n)
      by true s =
          if_so _ _ _ s
          ∙ ((λ i. effect (sym (g ∙ if_so (is_some (under key (table_of v))) ans.KeyStands ans.Done s) i) ts)
          ∙ ap (effect a) (sym (table-kept q ts m e v w n f h (k ∙ if_so (is_some (under key (table_of v))) (table_of v) (with_new key value (table_of v)) s))))
      by false s =
          if_not _ _ _ s
          ∙ ((λ i. effect (sym (g ∙ if_not (is_some (under key (table_of v))) ans.KeyStands ans.Done s) i) (with_changed q (with_new key value (table_of v)) ts))
          ∙ ap (effect a) (sym (table-changed q ts m e w (with_new key value (table_of v)) n h (k ∙ if_not (is_some (under key (table_of v))) (table_of v) (with_new key value (table_of v)) s))))

  pub row_kept : table_of w ≡ table_of v → tables_of n ≡ ts
  row_kept g = table-kept q ts m e v w n f h g
