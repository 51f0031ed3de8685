use Rattle.std.proofs.Common.{rules}
use Rattle.sml_syntax.proofs.Bytes.{text_of_bytes}
use Rattle.sml_syntax.proofs.text.Text.from_vec.Goals as goal

pub invariant_of-result : goal.invariant_of-result
invariant_of-result c = text_of_bytes c.args.bytes.items (search rules) (search rules)
