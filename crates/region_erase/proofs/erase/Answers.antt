use Rattle.std.proofs.Common.{rules}
use Rattle.region_erase.proofs.ErasedTerms.{program_made}
use Rattle.region_erase.proofs.erase.Goals as goal

pub returns : goal.returns
returns c = search (rules, program_made)
