-- The tree of a file's text, and what the parser refuses in it.
use Rattle.std.specs.Prelude.{◌≡◌, List, Ok, Err}
use Rattle.sml_syntax.specs.declared.token.Token.{Token}
use Rattle.sml_syntax.specs.declared.tree.Program.{Program}
use Rattle.sml_parse.specs.Parses.{Parses, IsTree}
use Rattle.sml_parse.specs.declared.parser.ParseRefusal.{ParseRefusal}
use Rattle.script_loader.specs.declared.refusal.LoadRefusal.{LoadRefusal}
use Rattle.script_loader.specs.declared.placed.Placed.{Placed}
use Rattle.script_loader.specs.declared.tokens.Lexed.{Lexed}
use Rattle.script_loader.specs.Lists.{Each}
use Rattle.script_loader.specs.Refusals.{grammatical}
use Rattle.script_loader.specs.Tokens.{HasTokensFrom}

-- the tree of a file's text: that of its tokens, at their places in the whole, by the grammar of programs
pub record IsTreeOf (source : Placed) (tree : Program) : Type 0 where
  pub tokens : List Token
  pub has : HasTokensFrom source.start source.text tokens
  pub read : IsTree tokens tree

-- the trees of files, each in its place
abbrev pub AreTrees : List Placed → List Program → Type 0
AreTrees sources trees = Each IsTreeOf sources trees

-- why the tokens of a file's text have no tree, with its place in the file: the first token that is unexpected, the first lack,
-- or the first item that is too high
pub record IsUngrammatical (source : Placed) (e : LoadRefusal) : Type 0 where
  pub tokens : List Token
  pub has : HasTokensFrom source.start source.text tokens
  pub refusal : ParseRefusal
  pub refused : Parses tokens (Err refusal)
  pub told : e ≡ grammatical source.name source.start refusal

-- both of a file whose tokens are known
pub record IsParsed (lexed : Lexed) (tree : Program) : Type 0 where
  pub is : IsTree lexed.tokens tree

pub record IsTreeless (lexed : Lexed) (e : LoadRefusal) : Type 0 where
  pub refusal : ParseRefusal
  pub refused : Parses lexed.tokens (Err refusal)
  pub told : e ≡ grammatical lexed.name lexed.start refusal
