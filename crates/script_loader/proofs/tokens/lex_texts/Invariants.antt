use Rattle.std.proofs.Common.{drop}
use Rattle.script_loader.specs.Lists.{SoFar}
use Rattle.script_loader.specs.Tokens.{IsLexed}
use Rattle.script_loader.proofs.tokens.lex_texts.Given as goal

abbrev pub invariant-loop-source : goal.invariant-loop-source
invariant-loop-source l = SoFar IsLexed l.sources (drop l.source-index l.sources) l.files.items
