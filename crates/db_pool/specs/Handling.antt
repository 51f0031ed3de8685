-- What a call does to the keepers of a database. The first of them stands, the others are spares in their order.
use Rattle.std.specs.Prelude.{◌≡◌, ◌≤◌, List, [], ◌∷◌, Bool, true, false}
use Rattle.web_data.specs.declared.database.DbCmd.{DbCmd}
use Rattle.web_data.specs.declared.database.DbAns.{DbAns}
use Rattle.web_data.specs.declared.database.DbAns.TheVariants as ans
use Rattle.web_data.specs.DatabaseAnswers.{FitsCommand}
use Rattle.outside_world.specs.Told.{Rose}
use Rattle.outside_world.specs.FaultPlan.{FailsAsPlanned, plan_after}
use Rattle.db_keeper.specs.Keeping.{KeeperMeaning, AnswersBy}

-- the keeper failed
abbrev pub IsFault : DbAns → Type 0
IsFault (ans.Fault n) = Unit {0}
IsFault answer = ⊥

-- a fault has the keeper's count, which rose, and leaves the tables; any other answer is one of the command's, and the
-- machine's where the tables are told
abbrev pub KeeperAnswers : KeeperMeaning → DbCmd → DbAns → KeeperMeaning → Type 0
KeeperAnswers old command (ans.Fault n) new = (n ≡ new.faults) × (Rose old.faults new.faults × (new.tables ≡ old.tables))
KeeperAnswers old command answer new = FitsCommand command answer × AnswersBy old.tables command answer new.tables

-- a call that is answered
pub record KeeperActs (old : KeeperMeaning) (command : DbCmd) (answer : DbAns) (new : KeeperMeaning) : Type 0 where
  pub answers : KeeperAnswers old command answer new
  pub planned : FailsAsPlanned old.plan (IsFault answer)
  pub plan : new.plan ≡ plan_after old.plan
  pub count : old.faults ≤ new.faults

-- a call for which memory was wanting
pub record KeeperKept (old new : KeeperMeaning) : Type 0 where
  pub tables : new.tables ≡ old.tables
  pub plan : new.plan ≡ old.plan
  pub count : old.faults ≤ new.faults

-- the first keeper acts, and no other changes
abbrev pub HandleActs : List KeeperMeaning → DbCmd → DbAns → List KeeperMeaning → Type 0
HandleActs (k ∷ ks) command answer (k' ∷ ks') = KeeperActs k command answer k' × (ks' ≡ ks)
HandleActs _ command answer _ = ⊥

abbrev pub HandleKept : List KeeperMeaning → List KeeperMeaning → Type 0
HandleKept (k ∷ ks) (k' ∷ ks') = KeeperKept k k' × (ks' ≡ ks)
HandleKept _ _ = ⊥

-- the next spare stands in place of the first keeper, where there is one
abbrev pub replaced : List KeeperMeaning → List KeeperMeaning
replaced [] = []
replaced (k ∷ []) = k ∷ []
replaced (k ∷ l ∷ ks) = l ∷ ks

abbrev pub has_spare : List KeeperMeaning → Bool
has_spare [] = false
has_spare (k ∷ []) = false
has_spare (k ∷ l ∷ ks) = true
