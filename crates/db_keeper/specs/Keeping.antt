-- What a keeper tells of itself, and what one call does to it. `None` is what a keeper doesn't tell.
use Rattle.std.specs.Prelude.{◌≡◌, ℕ, Option, Some, None}
use Rattle.outside_world.specs.FaultPlan.{FaultPlan}
use Rattle.db_keeper.specs.DatabaseMachine.{Tables, TableStep}
use Rattle.web_data.specs.declared.database.DbCmd.{DbCmd}
use Rattle.web_data.specs.declared.database.DbAns.{DbAns}

-- what is seen of a keeper
pub record KeeperMeaning : Type 0 where
  -- the tables
  pub tables : Option Tables
  -- which of its calls fail
  pub plan : Option FaultPlan
  -- how many of its calls failed
  pub faults : ℕ

-- the answer is the machine's, where the tables are told
abbrev pub AnswersBy : Option Tables → DbCmd → DbAns → Option Tables → Type 0
AnswersBy None command answer new = new ≡ None
AnswersBy (Some tables) command answer new = (tables' : Tables) × TableStep tables command answer tables' × (new ≡ Some tables')
