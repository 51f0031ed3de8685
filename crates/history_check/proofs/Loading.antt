-- Keepers that are filled by commands.
use Rattle.std.proofs.Common.{◌≡◌, ◌≤◌, ◌+◌, ℕ, zero, suc, min, arith, List, [], ◌∷◌, ◌++◌, take, drop, length, map, zip, Option, Some, None, slice_get, refl, ap, sym, ◌∙◌, add-one}
use Rattle.std.specs.Option.{option_map}
use Rattle.web_data.specs.declared.database.DbCmd.{DbCmd}
use Rattle.web_data.specs.declared.database.DbCmd.TheVariants as cmd
use Rattle.web_data.specs.declared.database.DbAns.{DbAns}
use Rattle.db_keeper.specs.DatabaseMachine.{Tables as TablesValue, effect_of}
use Rattle.db_keeper.specs.Keeping.{KeeperMeaning, AnswersBy}
use Rattle.history_check.specs.declared.tables.Tables.{Tables}
use Rattle.history_core.specs.LegalHistory.{Database}
use Rattle.history_core.specs.ByObject.{NamesDiffer}
use Rattle.history_check.specs.Given.{after_command, filled, created, database_given, databases_given, AllDiffer}

tables-after : (t u : Option TablesValue) (c : DbCmd) (a : DbAns) → AnswersBy t c a u → u ≡ option_map (λ z. (effect_of c z).tables) t
tables-after None u c a h = h
tables-after (Some t) u c a h = h.2 ∙ ap (λ e. Some e.tables) (sym h.1)

-- a command that is answered
pub run_one : (k more : KeeperMeaning) (c : DbCmd) (a : DbAns) → AnswersBy k.tables c a more.tables → more.plan ≡ None → k.plan ≡ None → more.faults ≡ k.faults → more ≡ after_command c k
run_one k more c a h p q f =
    let t = tables-after k.tables more.tables c a h in
    let n = p ∙ sym q in
    λ i. record { tables = t i; plan = n i; faults = f i }

drop-one : {X : Type 0} (xs : List X) (i : ℕ) (x : X) → slice_get xs i ≡ Some x → drop i xs ≡ x ∷ drop (suc i) xs
drop-one [] i x h = absurd cc
drop-one (y ∷ xs) zero x h = let e : y ≡ x = cc in ap (λ z. z ∷ xs) e
drop-one (y ∷ xs) (suc i) x h = drop-one xs i x h

-- one row more
pub fill_one : (name : List ℕ) (rows : List (List ℕ × List ℕ)) (i : ℕ) (row : List ℕ × List ℕ) (k more : KeeperMeaning) → slice_get rows i ≡ Some row → more ≡ after_command (cmd.Insert name row.0 row.1) k → filled name (drop (suc i) rows) more ≡ filled name (drop i rows) k
fill_one name rows i row k more h e = ap (filled name (drop (suc i) rows)) e ∙ ap (λ z. filled name z k) (sym (drop-one rows i row h))

-- one table more
pub create_one : (ts : List (List ℕ × List (List ℕ × List ℕ))) (i : ℕ) (t : List ℕ × List (List ℕ × List ℕ)) (k middle more : KeeperMeaning) → slice_get ts i ≡ Some t → middle ≡ after_command (cmd.Create t.0) k → more ≡ filled t.0 t.1 middle → created (drop (suc i) ts) more ≡ created (drop i ts) k
create_one ts i t k middle more h e g = ap (created (drop (suc i) ts)) (g ∙ ap (filled t.0 t.1) e) ∙ ap (λ z. created z k) (sym (drop-one ts i t h))

-- one database more
given-one : (names : List (List ℕ)) (lists : List (List Tables)) (i : ℕ) (name : List ℕ) (given : List Tables) → slice_get names i ≡ Some name → slice_get lists i ≡ Some given →
    databases_given (take (suc i) names) (take (suc i) lists) ≡ databases_given (take i names) (take i lists) ++ database_given (name, given) ∷ []
given-one [] lists i name given h g = absurd cc
given-one (n ∷ names) [] i name given h g = absurd cc
given-one (n ∷ names) (l ∷ lists) zero name given h g = let e : n ≡ name = cc in let f : l ≡ given = cc in λ k. database_given (e k, f k) ∷ []
given-one (n ∷ names) (l ∷ lists) (suc i) name given h g = ap (λ z. database_given (n, l) ∷ z) (given-one names lists i name given h g)

pub given_more : (names : List (List ℕ)) (lists : List (List Tables)) (i : ℕ) (name : List ℕ) (given : List Tables) → slice_get names i ≡ Some name → slice_get lists i ≡ Some given →
    databases_given (take i names) (take i lists) ++ database_given (name, given) ∷ [] ≡ databases_given (take (i + 1) names) (take (i + 1) lists)
given_more names lists i name given h g = sym (given-one names lists i name given h g) ∙ ap (λ k. databases_given (take k names) (take k lists)) (sym (add-one i))

pub given_all : (names : List (List ℕ)) (lists : List (List Tables)) (n : ℕ) → min (length names) (length lists) ≤ n → databases_given (take n names) (take n lists) ≡ databases_given names lists
given_all [] [] zero h = refl
given_all [] [] (suc n) h = refl
given_all [] (l ∷ lists) zero h = refl
given_all [] (l ∷ lists) (suc n) h = refl
given_all (m ∷ names) [] zero h = refl
given_all (m ∷ names) [] (suc n) h = refl
given_all (m ∷ names) (l ∷ lists) zero h = absurd (omega (arith, h))
given_all (m ∷ names) (l ∷ lists) (suc n) h = ap (λ z. database_given (m, l) ∷ z) (given_all names lists n (omega (arith, h)))

-- a database has its name
named-there : (names : List (List ℕ)) (lists : List (List Tables)) (i : ℕ) (d : Database) → slice_get (databases_given names lists) i ≡ Some d → slice_get names i ≡ Some d.name
named-there [] lists i d h = absurd cc
named-there (n ∷ names) [] i d h = absurd cc
named-there (n ∷ names) (l ∷ lists) zero d h = let e : database_given (n, l) ≡ d = cc in ap (λ (z : Database). Some z.name) e
named-there (n ∷ names) (l ∷ lists) (suc i) d h = named-there names lists i d h

pub given_differ : (names : List (List ℕ)) (lists : List (List Tables)) → AllDiffer names → NamesDiffer (databases_given names lists)
given_differ names lists differ i j a b h g e = differ i j b.name (named-there names lists i a h ∙ ap Some e) (named-there names lists j b g)
