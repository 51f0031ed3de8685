use Rattle.sml_print.proofs.PrintedParts.{level_con}
use Rattle.sml_print.proofs.patterns.pattern_level.Goals as goal

pub returns-in-Con : goal.returns-in-Con
returns-in-Con c = cc (level_con c.args.pat.now _ _ c.in-Con.is, c.get.ensures, c.applied_level.ensures)
