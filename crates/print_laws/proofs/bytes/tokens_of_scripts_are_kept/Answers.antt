use Rattle.print_laws.proofs.BytesLines.{script_tokens}
use Rattle.print_laws.proofs.bytes.tokens_of_scripts_are_kept.Goals as goal

pub returns : goal.returns
returns c = λ script ts d. script_tokens script ts d
