use Rattle.db_text.proofs.Told.{commands_told, places_told}
use Rattle.db_text.proofs.laws.statements_are_told.Goals as goal

pub returns-clause-command : goal.returns-clause-command
returns-clause-command c = commands_told

pub returns-clause-refusal : goal.returns-clause-refusal
returns-clause-refusal c = places_told
