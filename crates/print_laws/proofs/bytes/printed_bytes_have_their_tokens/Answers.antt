use Rattle.print_laws.proofs.BytesLines.{printed_tokens}
use Rattle.print_laws.proofs.bytes.printed_bytes_have_their_tokens.Goals as goal

pub returns : goal.returns
returns c = λ program h. printed_tokens program h
