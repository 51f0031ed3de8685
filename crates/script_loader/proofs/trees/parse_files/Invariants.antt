use Rattle.std.proofs.Common.{drop}
use Rattle.script_loader.specs.Lists.{SoFar}
use Rattle.script_loader.specs.Trees.{IsParsed}
use Rattle.script_loader.proofs.trees.parse_files.Given as goal

abbrev pub invariant-loop-lexed : goal.invariant-loop-lexed
invariant-loop-lexed l = SoFar IsParsed l.files (drop l.lexed-index l.files) l.trees.items
