-- What a refusal of the library means for a keeper.
use Rattle.sqlite.specs.declared.error.Error.{Error}
use Rattle.sqlite.specs.declared.error.Error.TheVariants as error
use Rattle.sqlite.specs.declared.error.ErrorCode.TheVariants as code
use Rattle.db_keeper.specs.declared.keeper.KeeperFault.{KeeperFault}
use Rattle.db_keeper.specs.declared.keeper.KeeperFault.TheVariants as fault

-- want of memory is told apart, and every other refusal is a failure
abbrev pub fault_of : Error → KeeperFault
fault_of (error.SqliteFailure code.OutOfMemory) = fault.NoMemory
fault_of refusal = fault.Failed
