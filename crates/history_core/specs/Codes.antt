-- How the logic stores a book.
use Rattle.std.specs.Prelude.{ℕ, List, Option, refl}
use Rattle.std.specs.Coded.{Coded, code_by, coded×, coded_list, coded_option, coded_ℕ}
use Rattle.outside_world.specs.FaultPlan.{FaultPlan}
use Rattle.db_keeper.specs.DatabaseMachine.{Tables}
use Rattle.db_keeper.specs.Keeping.{KeeperMeaning}
use Rattle.web_cache.specs.CacheMachine.{Group}
use Rattle.web_cache.specs.Codes.{group_code}
use Rattle.history_core.specs.LegalHistory.{Database, Machines}
use Rattle.history_core.specs.Book.{Book}

abbrev pub text_code : Coded (List ℕ)
text_code = coded_list coded_ℕ

abbrev pub tables_code : Coded Tables
tables_code = coded_list (coded× text_code (coded_list (coded× text_code text_code)))

abbrev pub plan_code : Coded FaultPlan
plan_code = code_by (List ℕ × (ℕ × ℕ)) (coded× text_code (coded× coded_ℕ coded_ℕ)) (λ p. (p.fails, (p.calls, p.faults))) (λ t. record { fails = t.0; calls = t.1.0; faults = t.1.1 }) (λ _. refl)

abbrev pub keeper_code : Coded KeeperMeaning
keeper_code = code_by (Option Tables × (Option FaultPlan × ℕ)) (coded× (coded_option tables_code) (coded× (coded_option plan_code) coded_ℕ)) (λ k. (k.tables, (k.plan, k.faults))) (λ t. record { tables = t.0; plan = t.1.0; faults = t.1.1 }) (λ _. refl)

abbrev pub database_code : Coded Database
database_code = code_by (List ℕ × List KeeperMeaning) (coded× text_code (coded_list keeper_code)) (λ d. (d.name, d.keepers)) (λ t. record { name = t.0; keepers = t.1 }) (λ _. refl)

abbrev pub machines_code : Coded Machines
machines_code = code_by (List Group × List Database) (coded× (coded_list group_code) (coded_list database_code)) (λ m. (m.groups, m.databases)) (λ t. record { groups = t.0; databases = t.1 }) (λ _. refl)

abbrev pub book_code : Coded Book
book_code = code_by (Machines × (ℕ × (ℕ × Option ℕ))) (coded× machines_code (coded× coded_ℕ (coded× coded_ℕ (coded_option coded_ℕ)))) (λ b. (b.machines, (b.calls, (b.requests, b.running)))) (λ t. record { machines = t.0; calls = t.1.0; requests = t.1.1.0; running = t.1.1.1 }) (λ _. refl)
