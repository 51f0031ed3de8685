-- Before what a phrase ends: each of the symbols that may go on derives nothing there.
use Rattle.std.specs.Prelude.{◌≡◌, ℕ, ◌<◌, List, [], ◌∷◌, Bool, true, Option, Some, None}
use Rattle.sml_syntax.specs.declared.token.Token.{Token}
use Rattle.grammar_rules.specs.InfixNames.{groups_right}
use Rattle.sml_grammar.specs.declared.symbol.Sym.{Sym}
use Rattle.sml_grammar.specs.declared.symbol.Sym.TheVariants as s
use Rattle.sml_grammar.specs.declared.symbol.ExpRest.TheVariants as xr
use Rattle.sml_grammar.specs.declared.symbol.PatPhrase.TheVariants as pp
use Rattle.sml_grammar.specs.declared.symbol.TyPhrase.TheVariants as tp
use Rattle.sml_grammar.specs.declared.symbol.DecPhrase.TheVariants as dp
use Rattle.sml_grammar.specs.declared.symbol.HeadPhrase.TheVariants as hp
use Rattle.sml_grammar.specs.declared.symbol.ConPhrase.TheVariants as cp
use Rattle.sml_grammar.specs.declared.symbol.FunPhrase.TheVariants as fp
use Rattle.sml_grammar.specs.declared.symbol.LaterPhrase.TheVariants as lp
use Rattle.sml_grammar.specs.Moves.{Skips}
use Rattle.grammar_trees.specs.Exact.{move_of}

-- the first token
abbrev pub first : List Token → Option Token
first [] = None
first (t ∷ ts) = Some t

abbrev pub Skipped : Sym → Option Token → Type 0
Skipped x z = move_of x z ≡ Skips

-- types joined by `*`
pub record StarsEnds (z : Option Token) : Type 0 where
  pub argument : (from : ℕ) → Skipped (s.Ty (tp.ArgumentRest from)) z
  pub more : (v : Bool) → Skipped (s.Ty (tp.StarMore v)) z

-- the left side of an arrow
pub record TuptyEnds (z : Option Token) : Type 0 where
  pub stars : StarsEnds z
  pub star : (v : Bool) (from : ℕ) → Skipped (s.Ty (tp.StarRest v from)) z

pub record TyEnds (z : Option Token) : Type 0 where
  pub tupty : TuptyEnds z
  pub arrow : (v : Bool) (from : ℕ) → Skipped (s.Ty (tp.ArrowRest v from)) z

-- a pattern without `::`, one without a type, and a whole one
pub record ApatEnds (z : Option Token) : Type 0 where
  pub argument : (from : ℕ) → Skipped (s.Pat (pp.Argument from)) z

pub record CpatEnds (z : Option Token) : Type 0 where
  pub apat : ApatEnds z
  pub cons : (from : ℕ) → Skipped (s.Pat (pp.ConsRest from)) z

pub record PatEnds (z : Option Token) : Type 0 where
  pub cpat : CpatEnds z
  pub typed : (from : ℕ) → Skipped (s.Pat (pp.TypedRest from)) z
  pub type_ : TyEnds z

-- expressions whose infix names are of a level or above: nothing that binds tighter follows
pub record LevelEnds (level : ℕ) (z : Option Token) : Type 0 where
  pub app : (from : ℕ) → Skipped (s.ExpRest (xr.App from)) z
  pub above : (m from : ℕ) → level < m → Skipped (s.ExpRest (xr.Infix m from)) z
  pub right : (from : ℕ) → groups_right level ≡ true → Skipped (s.ExpRest (xr.Infix level from)) z

-- expressions without `andalso`, of which the last may be a type
pub record TyxEnds (z : Option Token) : Type 0 where
  pub app : (from : ℕ) → Skipped (s.ExpRest (xr.App from)) z
  pub levels : (m from : ℕ) → Skipped (s.ExpRest (xr.Infix m from)) z
  pub type_ : TyEnds z

pub record AndEnds (z : Option Token) : Type 0 where
  pub tyx : TyxEnds z
  pub typed : (from : ℕ) → Skipped (s.ExpRest (xr.Typed from)) z
  pub both : (from : ℕ) → Skipped (s.ExpRest (xr.And from)) z

pub record OrEnds (z : Option Token) : Type 0 where
  pub and_ : AndEnds z
  pub either : (from : ℕ) → Skipped (s.ExpRest (xr.Or from)) z

-- whole expressions; the flag says that a match is open, which a bar would go on with
pub record Ends (o : Bool) (z : Option Token) : Type 0 where
  pub or_ : OrEnds z
  pub handle : (from : ℕ) → Skipped (s.ExpRest (xr.Handle from)) z
  pub bar : o ≡ true → Skipped (s.ExpRest xr.Match) z

-- a declaration, and declarations inside `let` or `local`
pub record DecEnds (z : Option Token) : Type 0 where
  pub exp : Ends true z
  pub binds : Skipped (s.Dec dp.ValRest) z
  pub recs : Skipped (s.Dec dp.RecRest) z
  pub funs : Skipped (s.Fun fp.Rest) z
  pub later : (name : List ℕ) (count : ℕ) → Skipped (s.Later (lp.Rest name count)) z
  pub types : Skipped (s.Head hp.TypeRest) z
  pub argument : Skipped (s.Con cp.Argument) z
  pub cons : Skipped (s.Con cp.Rest) z
  pub datas : Skipped (s.Con cp.DataRest) z
  pub exn : (from : ℕ) → Skipped (s.Con (cp.ExnArgument from)) z
  pub exns : Skipped (s.Con cp.ExnRest) z

pub record InnerEnds (z : Option Token) : Type 0 where
  pub dec : DecEnds z
  pub inner : Skipped (s.Dec dp.Inner) z
  pub after : Skipped (s.Dec dp.AfterInner) z
