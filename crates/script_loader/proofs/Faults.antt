-- The mistakes of files as refusals.
use Rattle.std.proofs.Common.{◌≡◌, Option, Some, None, Result, Ok, Err, IfErr, inl, inr, subst, sym}
use Rattle.grammar_rules.specs.Spelling.{Refusal}
use Rattle.grammar_rules.specs.Tokens.{IsRefused}
use Rattle.sml_lex.specs.Lexed.{IfRefused}
use Rattle.script_loader.specs.declared.refusal.LoadRefusal.{LoadRefusal}
use Rattle.script_loader.specs.declared.placed.Placed.{Placed}
use Rattle.sml_syntax.specs.declared.tree.Program.{Program}
use Rattle.sml_parse.specs.Parses.{IsTree, IsAnswer}
use Rattle.sml_parse.specs.declared.parser.ParseRefusal.{ParseRefusal}
use Rattle.sml_parse.specs.declared.parser.ParseRefusal.TheVariants as parse
use Rattle.script_loader.specs.declared.tokens.Lexed.{Lexed}
use Rattle.script_loader.specs.Refusals.{Tells, IsTold, lexical_answer, grammatical}
use Rattle.script_loader.specs.Trees.{IsParsed, IsTreeless}
use Rattle.script_loader.specs.Tokens.{IsMisspelt}

pub misspelt : (source : Placed) (found : Option Refusal) (e : LoadRefusal) → IfRefused found (IsRefused source.text) → Tells e (lexical_answer source.name found) → IsTold (IsMisspelt source) e
misspelt source (Some r) e f (inl t) = inl (record { refusal = r; refused = f; told = t })
misspelt source (Some r) e f (inr m) = inr m
misspelt source None e f (inl t) = inr t
misspelt source None e f (inr m) = inr m

pub is_parsed : (lexed : Lexed) (tree : Program) → IsTree lexed.tokens tree → IsParsed lexed tree
is_parsed lexed tree e = record { is = e }

pub treeless : (lexed : Lexed) (r : ParseRefusal) (e : LoadRefusal) → IsAnswer lexed.tokens (Err r) → Tells e (grammatical lexed.name lexed.start r) → IsTold (IsTreeless lexed) e
treeless lexed r e a (inr m) = inr m
treeless lexed parse.NoMemory e a (inl t) = inr t
treeless lexed (parse.Unexpected n) e a (inl t) = inl (record { refusal = parse.Unexpected n; refused = a; told = t })
treeless lexed (parse.Unsupported n l) e a (inl t) = inl (record { refusal = parse.Unsupported n l; refused = a; told = t })
treeless lexed (parse.TooDeep n) e a (inl t) = inl (record { refusal = parse.TooDeep n; refused = a; told = t })

-- a refusal that is handed on
pub err_told : {T : Type 0} (P : LoadRefusal → Type 0) (r : Result T LoadRefusal) (y e : LoadRefusal) → r ≡ Err y → y ≡ e → P e → IfErr r P
err_told P r y e w v p = subst (λ q. IfErr q P) (sym w) (subst P (sym v) p)
