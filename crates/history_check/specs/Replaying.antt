-- What is found out by trying an entry on the machines.
use Rattle.std.specs.Prelude.{◌≡◌, Bool, MatchBool}
use Rattle.history_core.specs.declared.entry.Entry.{Entry}
use Rattle.history_core.specs.LegalHistory.{Machines, EntryStep, CacheEntry, KeepersEntry}
use Rattle.history_core.specs.ByObject.{NamesDiffer}
use Rattle.history_core.specs.Fitting.{AreFitting}
use Rattle.web_cache.specs.Apart.{AreApart}

-- an entry steps to the machines, or there are none that it steps to
abbrev pub Tried : Machines → Entry → Machines → Bool → Type 0
Tried old e new found = MatchBool found (EntryStep old e new) ((other : Machines) → EntryStep old e other → ⊥)

-- machines in which each call has one answer, which fits it
pub record IsSingle (m : Machines) : Type 0 where
  pub apart : AreApart m.groups
  pub fitting : AreFitting m.groups
  pub differ : NamesDiffer m.databases
