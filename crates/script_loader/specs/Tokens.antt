-- The tokens of a file, or its first lexical mistake.
use Rattle.std.specs.Prelude.{◌≡◌, ℕ, List}
use Rattle.sml_syntax.specs.declared.token.Token.{Token}
use Rattle.grammar_rules.specs.Spelling.{Refusal}
use Rattle.grammar_rules.specs.Tokens.{HasTokens, IsRefused}
use Rattle.script_loader.specs.declared.refusal.LoadRefusal.{LoadRefusal}
use Rattle.script_loader.specs.declared.placed.Placed.{Placed}
use Rattle.script_loader.specs.declared.tokens.Lexed.{Lexed}
use Rattle.script_loader.specs.Places.{moved}
use Rattle.script_loader.specs.Refusals.{lexical}

-- the tokens of a text that starts here, at their places in the whole
pub record HasTokensFrom (start : ℕ) (text : List ℕ) (tokens : List Token) : Type 0 where
  pub own : List Token
  pub has : HasTokens text own
  pub moves : tokens ≡ moved start own

-- the tokens of a file's text, under its name
pub record IsLexed (source : Placed) (lexed : Lexed) : Type 0 where
  pub name_is : lexed.name ≡ source.name
  pub start_is : lexed.start ≡ source.start
  pub has : HasTokensFrom source.start source.text lexed.tokens

-- the lexical refusal that a file's text meets first, with its place in the file
pub record IsMisspelt (source : Placed) (e : LoadRefusal) : Type 0 where
  pub refusal : Refusal
  pub refused : IsRefused source.text refusal
  pub told : e ≡ lexical source.name refusal
