-- What the machine does at the tokens of each phrase, before any rest that ends it.
use Rattle.std.specs.Prelude.{◌≡◌, ℕ, ◌≤◌, Option, Some, List, [], ◌∷◌, ◌++◌, Bool, true}
use Rattle.sml_syntax.specs.declared.token.Token.{Token}
use Rattle.grammar_rules.specs.Nodes.{last_after}
use Rattle.sml_grammar.specs.declared.act.Made.{Made}
use Rattle.sml_grammar.specs.declared.act.Act.TheVariants as a
use Rattle.sml_grammar.specs.declared.act.TyAct.TheVariants as y
use Rattle.sml_grammar.specs.declared.act.PatAct.TheVariants as p
use Rattle.sml_grammar.specs.declared.token_sort.TokenSort.{TokenSort}
use Rattle.sml_grammar.specs.declared.symbol.Sym.{Sym}
use Rattle.sml_grammar.specs.declared.symbol.Sym.TheVariants as s
use Rattle.sml_grammar.specs.declared.symbol.TyPhrase.TheVariants as tp
use Rattle.sml_grammar.specs.declared.symbol.PatPhrase.TheVariants as pp
use Rattle.sml_grammar.specs.declared.symbol.ExpPhrase.TheVariants as xp
use Rattle.sml_grammar.specs.declared.symbol.ExpRest.TheVariants as xr
use Rattle.sml_grammar.specs.declared.symbol.Quoted.TheVariants as q
use Rattle.sml_grammar.specs.declared.symbol.DecPhrase.TheVariants as dp
use Rattle.sml_grammar.specs.declared.act.ExpAct.TheVariants as e
use Rattle.sml_syntax.specs.declared.token.TokenForm.TheVariants as f
use Rattle.grammar_rules.specs.Grammar.{IsMark}
use Rattle.sml_grammar.specs.declared.mark.Mark.TheVariants as m
use Rattle.sml_grammar.specs.declared.token_sort.TokenSort.TheVariants as o
use Rattle.sml_grammar.specs.Moves.{Takes}
use Rattle.sml_grammar.specs.Sorts.{sort_of}
use Rattle.sml_grammar.specs.Takes.{ty_take, atpat_take, apat_take, pat_take, atom_take, tail_take, exp_take}
use Rattle.grammar_trees.specs.Exact.{run, move_at}
use Rattle.grammar_trees.specs.Ends.{first, StarsEnds, TuptyEnds, TyEnds, ApatEnds, CpatEnds, PatEnds, LevelEnds, TyxEnds, Ends, InnerEnds}

-- From these tokens, this stack and this end of the last token, the machine comes to those, and tells these acts on the way.
pub record Comes (ts : List Token) (st : List Sym) (to : ℕ) (new : List Made) (us : List Token) (st' : List Sym) (to' : ℕ) : Type 0 where
  pub runs : (acc : List Made) → run ts st to acc ≡ run us st' to' (acc ++ new)

-- the tokens begin with one of such a sort, of which and of the others this holds
pub data Starting (test : TokenSort → Bool) (P : Token → List Token → Type 0) : List Token → Type 0 where
  starting : (x : Token) (us : List Token) → test (sort_of x.form) ≡ true → P x us → Starting test P (x ∷ us)

-- Types. Of a type without an arrow the first token is taken: the rest is read.
pub record ContyC (v : Bool) (new : List Made) (x : Token) (us : List Token) : Type 0 where
  pub comes : (st : List Sym) (rest : List Token) →
      Comes (us ++ rest) (ty_take v (sort_of x.form) x ++ (s.Ty (tp.ArgumentRest x.span.from) ∷ st)) x.span.to new rest (s.Ty (tp.ArgumentRest x.span.from) ∷ st) (last_after x.span.to us)

pub record StarsC (v : Bool) (new : List Made) (x : Token) (us : List Token) : Type 0 where
  pub comes : (st : List Sym) (rest : List Token) → StarsEnds (first rest) →
      Comes (us ++ rest) (ty_take v (sort_of x.form) x ++ (s.Ty (tp.ArgumentRest x.span.from) ∷ s.Do (a.Ty y.Push) ∷ s.Ty (tp.StarMore v) ∷ st)) x.span.to new rest st (last_after x.span.to us)

pub record TuptyC (v : Bool) (new : List Made) (x : Token) (us : List Token) : Type 0 where
  pub comes : (st : List Sym) (rest : List Token) → TuptyEnds (first rest) →
      Comes (us ++ rest) (ty_take v (sort_of x.form) x ++ (s.Ty (tp.ArgumentRest x.span.from) ∷ s.Ty (tp.StarRest v x.span.from) ∷ st)) x.span.to new rest st (last_after x.span.to us)

pub record TyC (v : Bool) (new : List Made) (x : Token) (us : List Token) : Type 0 where
  pub comes : (st : List Sym) (rest : List Token) (to : ℕ) → TyEnds (first rest) →
      Comes ((x ∷ us) ++ rest) (s.Ty (tp.Whole v) ∷ st) to new rest st (last_after x.span.to us)

-- types between commas, which join those before them
pub record TysC (v : Bool) (new : List Made) (ts : List Token) : Type 0 where
  pub comes : (from : ℕ) (st : List Sym) (rest : List Token) (to : ℕ) → TyEnds (first rest) →
      Comes (ts ++ rest) (s.Ty (tp.Whole v) ∷ s.Do (a.Ty y.Push) ∷ s.Ty (tp.More v from) ∷ st) to new rest (s.Ty (tp.More v from) ∷ st) (last_after to ts)

-- Patterns. A name of a pattern at its place: as one that takes no argument, and before its argument.
pub record HeadC (place : ℕ) (new : List Made) (x : Token) (us : List Token) : Type 0 where
  pub atomic : (st : List Sym) (rest : List Token) →
      Comes (us ++ rest) (atpat_take (sort_of x.form) x ++ st) x.span.to new rest st (last_after x.span.to us)
  pub applied : (st : List Sym) (rest : List Token) →
      Comes (us ++ rest) (apat_take (sort_of x.form) x ++ st) x.span.to new rest (s.Pat (pp.Argument place) ∷ st) (last_after x.span.to us)

-- an atomic pattern, and where a name may have an argument
pub record AtpatC (new : List Made) (x : Token) (us : List Token) : Type 0 where
  pub comes : (st : List Sym) (rest : List Token) →
      Comes (us ++ rest) (atpat_take (sort_of x.form) x ++ st) x.span.to new rest st (last_after x.span.to us)
  pub alone : (st : List Sym) (rest : List Token) → ApatEnds (first rest) →
      Comes (us ++ rest) (apat_take (sort_of x.form) x ++ st) x.span.to new rest st (last_after x.span.to us)

pub record ApatC (new : List Made) (x : Token) (us : List Token) : Type 0 where
  pub comes : (st : List Sym) (rest : List Token) → ApatEnds (first rest) →
      Comes (us ++ rest) (apat_take (sort_of x.form) x ++ st) x.span.to new rest st (last_after x.span.to us)

pub record CpatC (new : List Made) (x : Token) (us : List Token) : Type 0 where
  pub comes : (st : List Sym) (rest : List Token) → CpatEnds (first rest) →
      Comes (us ++ rest) (apat_take (sort_of x.form) x ++ (s.Pat (pp.ConsRest x.span.from) ∷ st)) x.span.to new rest st (last_after x.span.to us)

pub record PatC (new : List Made) (x : Token) (us : List Token) : Type 0 where
  pub comes : (st : List Sym) (rest : List Token) → PatEnds (first rest) →
      Comes (us ++ rest) (pat_take (sort_of x.form) x ++ st) x.span.to new rest st (last_after x.span.to us)

-- patterns between commas, which join those before them, by a symbol that goes on at a comma
abbrev pub PatsGo : Sym → Type 0
PatsGo z = (t : Token) → move_at z (o.Mark m.Comma) t ≡ Takes (s.Pat pp.Whole ∷ s.Do (a.Pat p.Push) ∷ z ∷ [])

pub record PatsC (new : List Made) (x : Token) (us : List Token) : Type 0 where
  pub comes : (z : Sym) → PatsGo z → (st : List Sym) (rest : List Token) → PatEnds (first rest) →
      Comes (us ++ rest) (pat_take (sort_of x.form) x ++ (s.Do (a.Pat p.Push) ∷ z ∷ st)) x.span.to new rest (z ∷ st) (last_after x.span.to us)

-- Expressions. An atomic one, one that may be applied further, and one of a level whose infix names are asked for from another one on.
pub record AtomC (new : List Made) (x : Token) (us : List Token) : Type 0 where
  pub comes : (st : List Sym) (rest : List Token) →
      Comes (us ++ rest) (atom_take (sort_of x.form) x ++ st) x.span.to new rest st (last_after x.span.to us)

pub record AppC (new : List Made) (x : Token) (us : List Token) : Type 0 where
  pub comes : (st : List Sym) (rest : List Token) →
      Comes (us ++ rest) (atom_take (sort_of x.form) x ++ (s.ExpRest (xr.App x.span.from) ∷ st)) x.span.to new rest (s.ExpRest (xr.App x.span.from) ∷ st) (last_after x.span.to us)

pub record InfC (level : ℕ) (new : List Made) (x : Token) (us : List Token) : Type 0 where
  pub comes : (m : ℕ) (st : List Sym) (rest : List Token) → m ≤ level → LevelEnds level (first rest) →
      Comes (us ++ rest) (atom_take (sort_of x.form) x ++ (s.ExpRest (xr.App x.span.from) ∷ s.ExpRest (xr.Infix m x.span.from) ∷ st)) x.span.to new rest (s.ExpRest (xr.Infix m x.span.from) ∷ st) (last_after x.span.to us)

pub record TyxC (new : List Made) (x : Token) (us : List Token) : Type 0 where
  pub comes : (st : List Sym) (rest : List Token) → TyxEnds (first rest) →
      Comes (us ++ rest) (atom_take (sort_of x.form) x ++ (s.ExpRest (xr.App x.span.from) ∷ s.ExpRest (xr.Infix 0 x.span.from) ∷ s.ExpRest (xr.Typed x.span.from) ∷ st)) x.span.to new rest (s.ExpRest (xr.Typed x.span.from) ∷ st) (last_after x.span.to us)

-- with `andalso`, and with `orelse`, before what ends it
pub record AndC (E : Option Token → Type 0) (new : List Made) (x : Token) (us : List Token) : Type 0 where
  pub comes : (st : List Sym) (rest : List Token) → E (first rest) →
      Comes (us ++ rest) (atom_take (sort_of x.form) x ++ (s.ExpRest (xr.App x.span.from) ∷ s.ExpRest (xr.Infix 0 x.span.from) ∷ s.ExpRest (xr.Typed x.span.from) ∷ s.ExpRest (xr.And x.span.from) ∷ st)) x.span.to new rest st (last_after x.span.to us)

pub record OrC (E : Option Token → Type 0) (new : List Made) (x : Token) (us : List Token) : Type 0 where
  pub comes : (st : List Sym) (rest : List Token) → E (first rest) →
      Comes (us ++ rest) (atom_take (sort_of x.form) x ++ (s.ExpRest (xr.App x.span.from) ∷ s.ExpRest (xr.Infix 0 x.span.from) ∷ s.ExpRest (xr.Typed x.span.from) ∷ s.ExpRest (xr.And x.span.from) ∷ s.ExpRest (xr.Or x.span.from) ∷ st)) x.span.to new rest st (last_after x.span.to us)

pub record TailC (o : Bool) (new : List Made) (x : Token) (us : List Token) : Type 0 where
  pub comes : (st : List Sym) (rest : List Token) → Ends o (first rest) →
      Comes (us ++ rest) (tail_take (sort_of x.form) x.span.from ++ st) x.span.to new rest st (last_after x.span.to us)

pub record ExprC (o : Bool) (new : List Made) (x : Token) (us : List Token) : Type 0 where
  pub comes : (st : List Sym) (rest : List Token) → Ends o (first rest) →
      Comes (us ++ rest) (exp_take (sort_of x.form) x ++ st) x.span.to new rest st (last_after x.span.to us)

-- expressions between marks, which join those before them, by a symbol that goes on at such a mark
pub record Parts (spelling : List ℕ) (z : Sym) : Type 0 where
  pub ends : (t : Token) → IsMark spelling t → Ends true (Some t)
  pub goes : (t : Token) → IsMark spelling t → move_at z (sort_of t.form) t ≡ Takes (s.Exp xp.Whole ∷ s.Do (a.Exp e.Push) ∷ z ∷ [])

pub record ExpsC (spelling : List ℕ) (new : List Made) (x : Token) (us : List Token) : Type 0 where
  pub comes : (z : Sym) → Parts spelling z → (st : List Sym) (rest : List Token) → Ends true (first rest) →
      Comes (us ++ rest) (exp_take (sort_of x.form) x ++ (s.Do (a.Exp e.Push) ∷ z ∷ st)) x.span.to new rest (z ∷ st) (last_after x.span.to us)

-- a rule, and a match whose rules join those before them
pub record RuleC (o : Bool) (new : List Made) (ts : List Token) : Type 0 where
  pub comes : (st : List Sym) (rest : List Token) (to : ℕ) → Ends o (first rest) →
      Comes (ts ++ rest) (s.Pat pp.Whole ∷ s.Want m.DoubleArrow ∷ s.Exp xp.Whole ∷ s.Do (a.Exp e.AddRule) ∷ st) to new rest st (last_after to ts)

pub record MatchC (new : List Made) (ts : List Token) : Type 0 where
  pub comes : (st : List Sym) (rest : List Token) (to : ℕ) → Ends true (first rest) →
      Comes (ts ++ rest) (s.Pat pp.Whole ∷ s.Want m.DoubleArrow ∷ s.Exp xp.Whole ∷ s.Do (a.Exp e.AddRule) ∷ s.ExpRest xr.Match ∷ st) to new rest st (last_after to ts)

-- the text of a quotation before a token that goes on behind it, an antiquotation, and the inside of a quotation with its end
pub record TextC (next : ℕ) (new : List Made) (ts : List Token) : Type 0 where
  pub comes : (t : Token) (β st : List Sym) (rest : List Token) (to : ℕ) → t.span.to ≡ next →
      move_at (s.Quoted q.AfterPlain) (sort_of t.form) t ≡ Takes β → move_at (s.Quoted q.Any) (sort_of t.form) t ≡ Takes (s.Do (a.Exp e.EmptyPlain) ∷ β) →
      Comes (ts ++ (t ∷ rest)) (s.Quoted q.Any ∷ st) to new rest (β ++ st) next

pub record AntiC (new : List Made) (x : Token) (us : List Token) : Type 0 where
  pub symbols : List Sym
  pub after : move_at (s.Quoted q.AfterPlain) (sort_of x.form) x ≡ Takes (symbols ++ (s.Do (a.Exp e.AddAnti) ∷ s.Quoted q.Any ∷ []))
  pub any : move_at (s.Quoted q.Any) (sort_of x.form) x ≡ Takes (s.Do (a.Exp e.EmptyPlain) ∷ (symbols ++ (s.Do (a.Exp e.AddAnti) ∷ s.Quoted q.Any ∷ [])))
  pub comes : (st : List Sym) (rest : List Token) →
      Comes (us ++ rest) (symbols ++ st) x.span.to new rest st (last_after x.span.to us)

pub record QuotedC (next : ℕ) (new : List Made) (ts : List Token) : Type 0 where
  pub comes : (t : Token) (st : List Sym) (rest : List Token) (to : ℕ) → t.form ≡ f.QuoteTo → t.span.to ≡ next →
      Comes (ts ++ (t ∷ rest)) (s.Quoted q.Any ∷ st) to new rest st next

-- declarations inside `let` or `local`
pub record DecsC (new : List Made) (ts : List Token) : Type 0 where
  pub comes : (st : List Sym) (rest : List Token) (to : ℕ) → InnerEnds (first rest) →
      Comes (ts ++ rest) (s.Dec dp.Inner ∷ st) to new rest st (last_after to ts)
