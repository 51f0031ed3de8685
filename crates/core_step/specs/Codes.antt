-- How the logic stores the core.
use Rattle.std.specs.Prelude.{ℕ, List, Option, refl}
use Rattle.std.specs.Coded.{Coded, code_by, coded×, coded_list, coded_option, coded_ℕ}
use Rattle.history_core.specs.declared.entry.Entry.{Entry}
use Rattle.history_core.specs.contracts.entry.Entry as entry
use Rattle.history_core.specs.LegalHistory.{Database}
use Rattle.history_core.specs.Codes.{database_code, text_code}
use Rattle.history_core.specs.declared.event.Owner.{Owner}
use Rattle.history_core.specs.Core.{Core}

abbrev pub owner_code : Coded Owner
owner_code = code_by (ℕ × ℕ) (coded× coded_ℕ coded_ℕ) (λ o. (o.page, o.request)) (λ t. record { page = t.0; request = t.1 }) (λ _. refl)

abbrev pub core_code : Coded Core
core_code =
    code_by (List ℕ × (List Owner × (List (Option ℕ) × (List Database × (List Entry × (List ℕ × ℕ))))))
    (coded× text_code (coded× (coded_list owner_code) (coded× (coded_list (coded_option coded_ℕ)) (coded× (coded_list database_code) (coded× (coded_list entry.the_row.coded) (coded× text_code coded_ℕ))))))
    (λ s. (s.free, (s.owned, (s.holders, (s.databases, (s.history, (s.running, s.begun)))))))
    (λ t. record { free = t.0; owned = t.1.0; holders = t.1.1.0; databases = t.1.1.1.0; history = t.1.1.1.1.0; running = t.1.1.1.1.1.0; begun = t.1.1.1.1.1.1 })
    (λ _. refl)
