-- What acts do to the heights of what was made before them: they put that of a tree on top, or join what is gathered there.
use Rattle.std.specs.Prelude.{◌≡◌, ℕ, ◌≤◌, List, ◌∷◌, ◌++◌, Option}
use Rattle.sml_syntax.specs.declared.tree.Exp.{Exp}
use Rattle.sml_syntax.specs.declared.tree.Pat.{Pat}
use Rattle.sml_syntax.specs.declared.tree.Ty.{Ty}
use Rattle.sml_syntax.specs.declared.tree.Rule.{Rule}
use Rattle.sml_syntax.specs.declared.tree.Piece.{Piece, out-Piece}
use Rattle.grammar_rules.specs.Programs.{Each, TyFits, PatFits, ExpFits, DecFits, RuleFits, PieceFits, ArgumentFits}
use Rattle.grammar_rules.specs.Grammar as g
use Rattle.sml_grammar.specs.declared.act.Made.{Made}
use Rattle.parse_limits.specs.Heights.{first_high}

-- a number that tells, up to the highest that is allowed, from where on something holds
pub record Fit (h : ℕ) (P : ℕ → Type 0) : Type 0 where
  pub holds : (n : ℕ) → n ≤ 200 → h ≤ n → P n
  pub bounds : (n : ℕ) → n ≤ 200 → P n → h ≤ n

-- acts that put such a height on these in place of those, and find no item that is too high
pub record Grows (new : List Made) (old below : List ℕ) (P : ℕ → Type 0) : Type 0 where
  pub height : ℕ
  pub fit : Fit height P
  pub grows : (more : List Made) → first_high (new ++ more) old ≡ first_high more (height ∷ below)

-- acts that put the height of something on top
abbrev pub Puts : List Made → (ℕ → Type 0) → Type 0
Puts new P = (hs : List ℕ) → Grows new hs hs P

-- acts that join something to what is gathered on top
abbrev pub Joins : List Made → (ℕ → Type 0) → Type 0
Joins new P = (g : ℕ) (hs : List ℕ) → Grows new (g ∷ hs) hs (λ n. (g ≤ n) × P n)

-- what is bound to an expression
abbrev pub BindFits : ℕ → Pat × Exp → Type 0
BindFits n b = PatFits n b.0 × ExpFits n b.1

-- a function by its name and rules
abbrev pub RecFits : ℕ → List ℕ × List Rule → Type 0
RecFits n b = Each (RuleFits n (ExpFits n)) b.1

abbrev pub AbbrevFits : ℕ → List (List ℕ) × List ℕ × Ty → Type 0
AbbrevFits n b = TyFits n b.2

abbrev pub ConFits : ℕ → List ℕ × Option Ty → Type 0
ConFits n c = ArgumentFits n c.1

abbrev pub DataFits : ℕ → List (List ℕ) × List ℕ × List (List ℕ × Option Ty) → Type 0
DataFits n b = Each (ConFits n) b.2

-- the heights of a tree
abbrev pub Rises : g.Tree → List Made → Type 0
Rises (g.exp_tree x) new = Puts new (λ n. ExpFits n x)
Rises (g.exps_tree xs) new = Joins new (λ n. Each (ExpFits n) xs)
Rises (g.rule_tree x) new = Joins new (λ n. RuleFits n (ExpFits n) x)
Rises (g.rules_tree xs) new = Joins new (λ n. Each (RuleFits n (ExpFits n)) xs)
Rises (g.text_tree text) new = Joins new (λ n. Unit {0})
Rises (g.pieces_tree xs) new = Joins new (λ n. Each (λ (p : Piece). PieceFits (ExpFits n) (out-Piece p)) xs)
Rises (g.name_tree place name) new = Puts new (λ n. 1 ≤ n)
Rises (g.pat_tree x) new = Puts new (λ n. PatFits n x)
Rises (g.pats_tree xs) new = Joins new (λ n. Each (PatFits n) xs)
Rises (g.ty_tree x) new = Puts new (λ n. TyFits n x)
Rises (g.tys_tree xs) new = Joins new (λ n. Each (TyFits n) xs)
Rises (g.vars_tree xs) new = Joins new (λ n. Unit {0})
Rises (g.dec_tree x) new = Puts new (λ n. DecFits n x)
Rises (g.decs_tree xs) new = Joins new (λ n. Each (DecFits n) xs)
Rises (g.binds_tree xs) new = Joins new (λ n. Each (BindFits n) xs)
Rises (g.recs_tree xs) new = Joins new (λ n. Each (RecFits n) xs)
Rises (g.abbrevs_tree xs) new = Joins new (λ n. Each (AbbrevFits n) xs)
Rises (g.cons_tree xs) new = Joins new (λ n. Each (ConFits n) xs)
Rises (g.datas_tree xs) new = Joins new (λ n. Each (DataFits n) xs)
