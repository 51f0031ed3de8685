use Rattle.std.proofs.lemmas.Bool.Decides.{Decides-eqb}
use Rattle.std.proofs.lemmas.Slice.Eq.{strip_prefix_is}
use Rattle.project_lines.proofs.Fronts.{stripped}
use Rattle.project_lines.proofs.names.after.Goals as goal

pub returns : goal.returns
returns c =
    stripped c.args.bytes.now c.args.token.now c.strip_prefix.result (strip_prefix_is Decides-eqb c.args.bytes.now c.args.token.now c.strip_prefix.result c.strip_prefix.ensures.cases)
