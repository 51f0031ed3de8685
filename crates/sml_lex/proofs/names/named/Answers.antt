use Rattle.std.proofs.Common.{◌≡◌, ◌+◌, ◌<◌, ◌≤◌, arith, refl, sym, ◌∙◌}
use Rattle.sml_lex.proofs.NameSteps.{named_long}
use Rattle.sml_lex.proofs.names.named.Goals as goal

pub returns : goal.returns
returns c =
    (named_long c.args.bytes.now c.args.at c.args.word c.args.end c.in_ok-name.name (omega arith) (omega arith) (omega arith) (sym c.is_plain.ensures ∙ c.if-not-is_plain.false) c.in_ok-name.ensures, refl)
