-- What the machine does at the tokens of clauses, and of their parts.
use Rattle.std.specs.Prelude.{◌≡◌, ℕ, ◌+◌, ◌≤◌, List, [], ◌∷◌, ◌++◌, Bool, true, false, Option}
use Rattle.sml_syntax.specs.declared.token.Token.{Token}
use Rattle.grammar_rules.specs.Nodes.{last_after}
use Rattle.sml_grammar.specs.declared.act.Made.{Made}
use Rattle.sml_grammar.specs.declared.act.Act.TheVariants as a
use Rattle.sml_grammar.specs.declared.act.ExpAct.TheVariants as e
use Rattle.sml_grammar.specs.declared.act.PatAct.TheVariants as p
use Rattle.sml_grammar.specs.declared.symbol.Sym.{Sym}
use Rattle.sml_grammar.specs.declared.symbol.Sym.TheVariants as s
use Rattle.sml_grammar.specs.declared.symbol.FunPhrase.TheVariants as fp
use Rattle.sml_grammar.specs.declared.symbol.LaterPhrase.TheVariants as lp
use Rattle.sml_grammar.specs.Sorts.{sort_of}
use Rattle.sml_grammar.specs.Tokens.{may_be_infix}
use Rattle.sml_grammar.specs.Takes.{body_take, end_take}
use Rattle.sml_grammar.specs.Machine.{made}
use Rattle.grammar_trees.specs.Ends.{first, Skipped, Ends}
use Rattle.grammar_trees.specs.Claims.{Comes}

-- the name of a clause: of the first one, and of a later one of a function of that name or of an infix one
pub record ClauseHead (place : ℕ) (name : List ℕ) (x : Token) (us : List Token) : Type 0 where
  pub begins : (st : List Sym) (rest : List Token) (to : ℕ) →
      Comes ((x ∷ us) ++ rest) (s.Fun fp.Bind ∷ st) to (made (a.Exp e.NoRules) x.span.to ∷ made (a.Pat p.NoPats) x.span.to ∷ []) rest (s.Fun (fp.Head x.span.from place name) ∷ st) (last_after x.span.to us)
  pub follows : (count : ℕ) → may_be_infix name count ≡ false → (st : List Sym) (rest : List Token) (to : ℕ) →
      Comes ((x ∷ us) ++ rest) (s.Later (lp.Clause name count) ∷ st) to (made (a.Pat p.NoPats) x.span.to ∷ []) rest (s.Later (lp.Patterns count) ∷ s.Fun (fp.Equals x.span.from count) ∷ st) (last_after x.span.to us)
  pub infixed : (full : List ℕ) (count : ℕ) → may_be_infix full count ≡ true → (st : List Sym) (rest : List Token) (to : ℕ) →
      Comes ((x ∷ us) ++ rest) (s.Later (lp.Clause full count) ∷ st) to (made (a.Pat p.NoPats) x.span.to ∷ []) rest (s.Later (lp.Head x.span.from place name full) ∷ st) (last_after x.span.to us)

-- the patterns of a clause: of a later one, further ones of the first, all of the first, and the only one of an infix function
pub record AtpatsC (count : ℕ) (new : List Made) (ts : List Token) : Type 0 where
  pub none : count ≡ 0 → (ts ≡ []) × (new ≡ [])
  pub later : (st : List Sym) (rest : List Token) (to : ℕ) →
      Comes (ts ++ rest) (s.Later (lp.Patterns count) ∷ st) to new rest st (last_after to ts)
  pub further : (so_far from : ℕ) (name : List ℕ) → (st : List Sym) (rest : List Token) (to : ℕ) →
      Comes (ts ++ rest) (s.Fun (fp.Patterns from name so_far) ∷ st) to new rest (s.Fun (fp.Patterns from name (so_far + count)) ∷ st) (last_after to ts)
  pub all : 1 ≤ count → (from place : ℕ) (name : List ℕ) (st : List Sym) (rest : List Token) (to : ℕ) →
      Comes (ts ++ rest) (s.Fun (fp.Head from place name) ∷ st) to new rest (s.Fun (fp.Patterns from name count) ∷ st) (last_after to ts)
  pub only : count ≡ 1 → (from place : ℕ) (name : List ℕ) (st : List Sym) (rest : List Token) (to : ℕ) →
      Comes (ts ++ rest) (s.Later (lp.Head from place name name) ∷ st) to new rest (s.Fun (fp.Equals from 1) ∷ st) (last_after to ts)

-- the result type and the body of a clause, of which the first token is taken
pub record BodyC (o : Bool) (from count : ℕ) (new : List Made) (x : Token) (us : List Token) : Type 0 where
  pub comes : (st : List Sym) (rest : List Token) → Ends o (first rest) →
      Comes (us ++ rest) (body_take from count (sort_of x.form) ++ st) x.span.to new rest st (last_after x.span.to us)

-- a clause, as the first one and as a later one
pub record ClauseC (name : List ℕ) (count : ℕ) (o : Bool) (new : List Made) (x : Token) (us : List Token) : Type 0 where
  pub begins : (st : List Sym) (rest : List Token) (to : ℕ) → Ends o (first rest) →
      Comes ((x ∷ us) ++ rest) (s.Fun fp.Bind ∷ st) to (made (a.Exp e.NoRules) x.span.to ∷ new) rest (s.Later (lp.Rest name count) ∷ (end_take x.span.from name count ++ st)) (last_after x.span.to us)
  pub follows : (st : List Sym) (rest : List Token) (to : ℕ) → Ends o (first rest) →
      Comes ((x ∷ us) ++ rest) (s.Later (lp.Clause name count) ∷ st) to new rest st (last_after x.span.to us)

-- before what the clauses of a function end
pub record FunEnds (z : Option Token) : Type 0 where
  pub exp : Ends true z
  pub later : (name : List ℕ) (count : ℕ) → Skipped (s.Later (lp.Rest name count)) z

pub record ClausesC (name : List ℕ) (count : ℕ) (new : List Made) (x : Token) (us : List Token) : Type 0 where
  pub begins : (st : List Sym) (rest : List Token) (to : ℕ) → FunEnds (first rest) →
      Comes ((x ∷ us) ++ rest) (s.Fun fp.Bind ∷ st) to (made (a.Exp e.NoRules) x.span.to ∷ new) rest (end_take x.span.from name count ++ st) (last_after x.span.to us)
  pub follows : (st : List Sym) (rest : List Token) (to : ℕ) → FunEnds (first rest) →
      Comes ((x ∷ us) ++ rest) (s.Later (lp.Clause name count) ∷ s.Later (lp.Rest name count) ∷ st) to new rest st (last_after x.span.to us)
