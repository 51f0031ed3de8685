-- What the lexer answers.
use Rattle.std.specs.Prelude.{◌≡◌, ◌⊎◌, ℕ, List, Option, Some, None, Result, Ok, Err}
use Rattle.std.specs.declared.alloc.Global.{Global}
use Rattle.std.specs.declared.vec.Vec.{Vec}
use Rattle.sml_syntax.specs.declared.token.Token.{Token}
use Rattle.grammar_rules.specs.Spelling as spell
use Rattle.grammar_rules.specs.Spelling.{Refusal}
use Rattle.sml_lex.specs.declared.refusal.LexRefusal.{LexRefusal}
use Rattle.sml_lex.specs.declared.refusal.LexRefusal.TheVariants as refusal

-- what an error says of the script; want of memory says nothing
abbrev pub refusal_of : LexRefusal → Option Refusal
refusal_of (refusal.BadByte n) = Some (spell.BadByte n)
refusal_of (refusal.OpenComment n) = Some (spell.OpenComment n)
refusal_of (refusal.OpenString n) = Some (spell.OpenString n)
refusal_of (refusal.OpenQuote n) = Some (spell.OpenQuote n)
refusal_of (refusal.WideNumber n) = Some (spell.WideNumber n)
refusal_of (refusal.Unsupported n l) = Some (spell.Unsupported n l)
refusal_of refusal.NoMemory = None

abbrev pub IfRefused : Option Refusal → (Refusal → Type 0) → Type 0
IfRefused (Some r) P = P r
IfRefused None P = Unit {0}

-- these tokens, or want of memory
abbrev pub GivesTokens : Result (Vec Token Global) LexRefusal → List Token → Type 0
GivesTokens (Ok tokens) ts = tokens.items ≡ ts
GivesTokens (Err e) ts = refusal_of e ≡ None

-- this refusal, or want of memory
abbrev pub GivesRefusal : Result (Vec Token Global) LexRefusal → Refusal → Type 0
GivesRefusal (Ok tokens) r = ⊥
GivesRefusal (Err e) r = (refusal_of e ≡ Some r) ⊎ (refusal_of e ≡ None)
