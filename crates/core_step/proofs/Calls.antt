-- Databases that are given, by their places.
use Rattle.std.proofs.Common.{◌≡◌, ◌<◌, ℕ, zero, suc, List, [], ◌∷◌, length, Some, Result, Ok, Err, OnOk, slice_get, refl, ap, sym, ◌∙◌, subst, arith}
use Rattle.history_check.specs.declared.tables.Tables.{Tables}
use Rattle.web_data.specs.declared.database.DbCmd.{DbCmd}
use Rattle.web_data.specs.declared.database.DbAns.{DbAns}
use Rattle.web_data.specs.declared.database.WebCall.TheVariants as call
use Rattle.web_data.specs.declared.database.WebAns.TheVariants as answer
use Rattle.history_core.specs.declared.entry.Entry.{Entry}
use Rattle.history_core.specs.declared.event.Event.TheVariants as event
use Rattle.history_core.specs.LegalHistory.{Database}
use Rattle.history_core.specs.Core.{Core, CoreStep, Enters, entry_of}
use Rattle.history_core.proofs.PerKey.{one-there}
use Rattle.history_check.specs.Given.{database_given, databases_given}

pub given_at : (names : List (List ℕ)) (lists : List (List Tables)) (i : ℕ) (name : List ℕ) (given : List Tables) → slice_get names i ≡ Some name → slice_get lists i ≡ Some given → slice_get (databases_given names lists) i ≡ Some (database_given (name, given))
given_at [] lists i name given h g = absurd cc
given_at (n ∷ names) [] i name given h g = absurd cc
given_at (n ∷ names) (l ∷ lists) zero name given h g = let e : n ≡ name = cc in let f : l ≡ given = cc in λ k. Some (database_given (e k, f k))
given_at (n ∷ names) (l ∷ lists) (suc i) name given h g = given_at names lists i name given h g

pub given_within : (names : List (List ℕ)) (lists : List (List Tables)) (i : ℕ) (d : Database) → slice_get (databases_given names lists) i ≡ Some d → (i < length names) × (i < length lists)
given_within [] lists i d h = absurd cc
given_within (n ∷ names) [] i d h = absurd cc
given_within (n ∷ names) (l ∷ lists) zero d h = (omega arith, omega arith)
given_within (n ∷ names) (l ∷ lists) (suc i) d h = let w = given_within names lists i d h in (omega (arith, w.0), omega (arith, w.1))

pub on_ok : {T E : Type 0} (r : Result T E) (P Q : Type 0) → (P → Q) → OnOk r P → OnOk r Q
on_ok (Ok a) P Q f h = f h
on_ok (Err e) P Q f h = h

-- a command, by its entry
module _ (old : Core) (request database : ℕ) (c : DbCmd) (a : DbAns) (e : Entry) (d : Database) (there : slice_get old.databases database ≡ Some d) (is : e ≡ entry_of request (call.Db d.name c) 0 (answer.Db a)) where
  pub db_step : slice_get old.holders database ≡ Some (Some request) → (new : Core) → Enters old e new → CoreStep old (event.DbCall request database c a) new
  db_step held new h = (held, d, there, subst (λ z. Enters old z new) is h)

  pub db_back : (new : Core) → CoreStep old (event.DbCall request database c a) new → Enters old e new
  db_back new s =
      let same : d ≡ s.1 = one-there old.databases database d s.1 there s.2 in
      subst (λ z. Enters old z new) (ap (λ (k : Database). entry_of request (call.Db k.name c) 0 (answer.Db a)) (sym same) ∙ sym is) s.3
