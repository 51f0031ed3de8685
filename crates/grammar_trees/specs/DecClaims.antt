-- What the machine does at the tokens of declarations, and of their parts.
use Rattle.std.specs.Prelude.{◌≡◌, ℕ, List, [], ◌∷◌, ◌++◌, Bool, false, Option, codes}
use Rattle.sml_syntax.specs.declared.token.Token.{Token}
use Rattle.grammar_rules.specs.Nodes.{last_after}
use Rattle.grammar_rules.specs.Grammar.{IsMark, IsName}
use Rattle.sml_grammar.specs.declared.mark.Mark.TheVariants as m
use Rattle.sml_grammar.specs.declared.act.Made.{Made}
use Rattle.sml_grammar.specs.declared.act.Act.TheVariants as a
use Rattle.sml_grammar.specs.declared.act.DecAct.TheVariants as b
use Rattle.sml_grammar.specs.declared.token_sort.TokenSort.TheVariants as o
use Rattle.sml_grammar.specs.declared.symbol.Sym.{Sym}
use Rattle.sml_grammar.specs.declared.symbol.Sym.TheVariants as s
use Rattle.sml_grammar.specs.declared.symbol.ExpPhrase.TheVariants as xp
use Rattle.sml_grammar.specs.declared.symbol.DecPhrase.TheVariants as dp
use Rattle.sml_grammar.specs.declared.symbol.HeadPhrase.TheVariants as hp
use Rattle.sml_grammar.specs.declared.symbol.ConPhrase.TheVariants as cp
use Rattle.sml_grammar.specs.declared.symbol.FunPhrase.TheVariants as fp
use Rattle.sml_grammar.specs.Sorts.{sort_of}
use Rattle.sml_grammar.specs.Tokens.{text_of}
use Rattle.sml_grammar.specs.Takes.{pat_take, dec_take}
use Rattle.sml_grammar.specs.Moves.{Takes}
use Rattle.sml_grammar.specs.Machine.{made}
use Rattle.grammar_trees.specs.Exact.{move_at}
use Rattle.grammar_trees.specs.Tells.{first_to}
use Rattle.grammar_trees.specs.Ends.{first, Skipped, TyEnds, DecEnds, InnerEnds}
use Rattle.grammar_trees.specs.Claims.{Comes}

-- a symbol that reads variables and a name, and one that reads the name, before what follows
pub record HeadGoes (head name : Sym) (more : Bool → List Sym) (alone : Bool) : Type 0 where
  pub named : (t : Token) → move_at head o.Name t ≡ Takes (s.Do (a.Dec b.NoVars) ∷ s.Do (a.Dec (b.Head (text_of t.form))) ∷ more alone)
  pub var : (t : Token) → move_at head o.TyVar t ≡ Takes (s.Do (a.Dec b.NoVars) ∷ s.Do (a.Dec (b.AddVar (text_of t.form))) ∷ name ∷ [])
  pub several : (t : Token) → move_at head (o.Mark m.Open) t ≡ Takes (s.Do (a.Dec b.NoVars) ∷ s.Head hp.Var ∷ s.Want m.Comma ∷ s.Head hp.Var ∷ s.Head hp.Vars ∷ name ∷ [])
  pub after : (t : Token) → move_at name o.Name t ≡ Takes (s.Do (a.Dec (b.Head (text_of t.form))) ∷ more false)

-- the variables of a type, and its name
pub record VarsC (new : List Made) (ts : List Token) : Type 0 where
  pub comes : (head name : Sym) (more : Bool → List Sym) (alone : Bool) → HeadGoes head name more alone → (word : Token) (text : List ℕ) → IsName text word → (st : List Sym) (rest : List Token) (to : ℕ) →
      (flag : Bool) × Comes (ts ++ (word ∷ rest)) (head ∷ st) to (made (a.Dec b.NoVars) (first_to (ts ++ word ∷ [])) ∷ (new ++ (made (a.Dec (b.Head text)) word.span.to ∷ []))) rest (more flag ++ st) word.span.to

-- variables between commas, and the bracket behind them
pub record MoreVarsC (new : List Made) (ts : List Token) : Type 0 where
  pub comes : (closing : Token) → IsMark (codes ")") closing → (st : List Sym) (rest : List Token) (to : ℕ) →
      Comes (ts ++ (closing ∷ rest)) (s.Head hp.Var ∷ s.Head hp.Vars ∷ st) to new rest st closing.span.to

-- before what constructors end
pub record ConsEnds (z : Option Token) : Type 0 where
  pub type_ : TyEnds z
  pub argument : Skipped (s.Con cp.Argument) z
  pub more : Skipped (s.Con cp.Rest) z

-- constructors, behind the name of the first
pub record ConsC (new : List Made) (x : Token) (us : List Token) : Type 0 where
  pub comes : (st : List Sym) (rest : List Token) → ConsEnds (first rest) →
      Comes (us ++ rest) (s.Do (a.Dec (b.Con (text_of x.form))) ∷ s.Con cp.Argument ∷ s.Do (a.Dec b.AddCon) ∷ s.Con cp.Rest ∷ st) x.span.to new rest st (last_after x.span.to us)

pub record ExnsC (new : List Made) (x : Token) (us : List Token) : Type 0 where
  pub comes : (st : List Sym) (rest : List Token) → DecEnds (first rest) →
      Comes (us ++ rest) (s.Do (a.Dec (b.Con (text_of x.form))) ∷ s.Con (cp.ExnArgument x.span.from) ∷ s.Do (a.Dec b.AddCon) ∷ s.Con cp.ExnRest ∷ st) x.span.to new rest st (last_after x.span.to us)

pub record DatasC (new : List Made) (ts : List Token) : Type 0 where
  pub comes : (alone : Bool) (st : List Sym) (rest : List Token) (to : ℕ) → DecEnds (first rest) →
      Comes (ts ++ rest) (s.Head (hp.Data alone) ∷ st) to new rest st (last_after to ts)

pub record AbbrevsC (new : List Made) (ts : List Token) : Type 0 where
  pub comes : (st : List Sym) (rest : List Token) (to : ℕ) → DecEnds (first rest) →
      Comes (ts ++ rest) (s.Head hp.Type ∷ st) to new rest st (last_after to ts)

-- bindings, of which the first token is taken
pub record BindsC (new : List Made) (x : Token) (us : List Token) : Type 0 where
  pub comes : (st : List Sym) (rest : List Token) → DecEnds (first rest) →
      Comes (us ++ rest) (pat_take (sort_of x.form) x ++ (s.Want m.Equal ∷ s.Exp xp.Whole ∷ s.Do (a.Dec b.AddBind) ∷ s.Dec dp.ValRest ∷ st)) x.span.to new rest st (last_after x.span.to us)

pub record RecsC (new : List Made) (ts : List Token) : Type 0 where
  pub comes : (st : List Sym) (rest : List Token) (to : ℕ) → DecEnds (first rest) →
      Comes (ts ++ rest) (s.Dec dp.RecBind ∷ s.Dec dp.RecRest ∷ st) to new rest st (last_after to ts)

pub record FunsC (new : List Made) (ts : List Token) : Type 0 where
  pub comes : (st : List Sym) (rest : List Token) (to : ℕ) → DecEnds (first rest) →
      Comes (ts ++ rest) (s.Fun fp.Bind ∷ s.Fun fp.Rest ∷ st) to new rest st (last_after to ts)

-- a declaration, of which the first token is taken
pub record DecC (inner : Bool) (new : List Made) (x : Token) (us : List Token) : Type 0 where
  pub comes : (st : List Sym) (rest : List Token) → DecEnds (first rest) →
      Comes (us ++ rest) (dec_take inner (sort_of x.form) x.span.from ++ st) x.span.to new rest st (last_after x.span.to us)

-- declarations inside `let` or `local`, at the start and behind another one
pub record InnersC (new : List Made) (ts : List Token) : Type 0 where
  pub begins : (st : List Sym) (rest : List Token) (to : ℕ) → InnerEnds (first rest) → Comes (ts ++ rest) (s.Dec dp.Inner ∷ st) to new rest st (last_after to ts)
  pub follows : (st : List Sym) (rest : List Token) (to : ℕ) → InnerEnds (first rest) → Comes (ts ++ rest) (s.Dec dp.AfterInner ∷ st) to new rest st (last_after to ts)
  pub ends : (rest : List Token) → InnerEnds (first rest) → DecEnds (first (ts ++ rest))

-- items, at the start, and behind a declaration
pub record ItemsC (new : List Made) (ts : List Token) : Type 0 where
  pub comes : (to : ℕ) → Comes ts (s.Dec dp.Items ∷ []) to new [] [] (last_after to ts)

pub record ItemsAfterC (new : List Made) (ts : List Token) : Type 0 where
  pub comes : (to : ℕ) → Comes ts (s.Dec dp.AfterDec ∷ []) to new [] [] (last_after to ts)
  pub ends : DecEnds (first ts)
