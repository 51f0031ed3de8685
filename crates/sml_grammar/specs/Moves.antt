-- What a symbol does at a token.
use Rattle.std.specs.Prelude.{◌≡◌, List, ◌++◌}
use Rattle.sml_grammar.specs.declared.symbol.Sym.{Sym}
use Rattle.sml_grammar.specs.declared.act.Act.{Act}
use Rattle.sml_grammar.specs.declared.takes.Step.{Step}
use Rattle.sml_grammar.specs.declared.takes.Step.TheVariants as step

pub data Move : Type 0 where
  -- it takes the token, and leaves these symbols
  Takes : List Sym → Move
  -- it derives nothing here, and the symbol below is asked
  Skips : Move
  -- it is an act
  Acts : Act → Move
  Fails : Move

-- what the code did to the stack
abbrev pub Steps : Move → List Sym → Step → List Sym → Type 0
Steps (Takes symbols) old found new = (found ≡ step.Takes) × (new ≡ symbols ++ old)
Steps Skips old found new = (found ≡ step.Skips) × (new ≡ old)
Steps (Acts act) old found new = (found ≡ step.Acts act) × (new ≡ old)
Steps Fails old found new = (found ≡ step.Fails) × (new ≡ old)
