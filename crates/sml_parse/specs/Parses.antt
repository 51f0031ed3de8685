-- What the parser answers, in the terms of the grammar: the tree of the tokens, or why there is none.
use Rattle.std.specs.Prelude.{◌≡◌, ◌⊎◌, ◌<◌, ◌≤◌, ℕ, List, ◌∷◌, ◌++◌, Result, Ok, Err}
use Rattle.sml_syntax.specs.declared.token.Token.{Token}
use Rattle.sml_syntax.specs.declared.tree.Program.{Program}
use Rattle.sml_syntax.specs.NestedTypes.{Found}
use Rattle.grammar_rules.specs.Programs.{IsWide, IsProgram, IsUnexpected, Each, DecFits, highest, IsFirstHigh}
use Rattle.sml_parse.specs.declared.parser.ParseRefusal.{ParseRefusal}
use Rattle.sml_parse.specs.declared.parser.ParseRefusal.TheVariants as refusal

-- the lack of the lowest place, and of several at one place the first in the text
pub record IsLowestLack (lacks : List Found) (found : Found) : Type 0 where
  pub before : List Found
  pub after : List Found
  pub split : lacks ≡ before ++ found ∷ after
  pub higher : Each (λ (other : Found). found.0 < other.0) before
  pub none_lower : Each (λ (other : Found). found.0 ≤ other.0) after

-- a tree of the language, of which no item is too high
pub record IsTree (tokens : List Token) (program : Program) : Type 0 where
  pub is : IsProgram tokens program
  pub fits : Each (DecFits highest) program.items

-- a tree of the wider grammar, whose first lack this is
pub record IsUnsupported (tokens : List Token) (found : Found) : Type 0 where
  pub program : Program
  pub lacks : List Found
  pub wide : IsWide tokens program lacks
  pub lowest : IsLowestLack lacks found

-- a tree of the language, whose first item that is too high begins at this place
pub record IsTooDeep (tokens : List Token) (place : ℕ) : Type 0 where
  pub program : Program
  pub is : IsProgram tokens program
  pub high : IsFirstHigh program place

-- the tree of tokens, or the cause of each refusal; want of memory has none
abbrev pub Parses : List Token → Result Program ParseRefusal → Type 0
Parses tokens (Ok program) = IsTree tokens program
Parses tokens (Err (refusal.Unexpected place)) = IsUnexpected tokens place
Parses tokens (Err (refusal.Unsupported place lack)) = IsUnsupported tokens (place, lack)
Parses tokens (Err (refusal.TooDeep place)) = IsTooDeep tokens place
Parses tokens (Err refusal.NoMemory) = ⊥

-- an answer of the parser: want of memory may be answered at any time
abbrev pub IsAnswer : List Token → Result Program ParseRefusal → Type 0
IsAnswer tokens (Ok program) = IsTree tokens program
IsAnswer tokens (Err (refusal.Unexpected place)) = IsUnexpected tokens place
IsAnswer tokens (Err (refusal.Unsupported place lack)) = IsUnsupported tokens (place, lack)
IsAnswer tokens (Err (refusal.TooDeep place)) = IsTooDeep tokens place
IsAnswer tokens (Err refusal.NoMemory) = Unit {0}

-- this answer, or want of memory
abbrev pub Gives : Result Program ParseRefusal → Result Program ParseRefusal → Type 0
Gives given answer = (given ≡ answer) ⊎ (given ≡ Err refusal.NoMemory)

-- tokens have one answer
abbrev pub OneAnswer : Type 0
OneAnswer = (tokens : List Token) (first second : Result Program ParseRefusal) → Parses tokens first → Parses tokens second → first ≡ second
