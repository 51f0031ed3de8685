-- What acts build: for all values below, the values of a tree are pushed on them, or join what is gathered on top.
use Rattle.std.specs.Prelude.{◌≡◌, ℕ, List, [], ◌∷◌, ◌++◌, Option}
use Rattle.sml_syntax.specs.declared.token.Token.{Token}
use Rattle.sml_syntax.specs.declared.tree.Exp.{Exp}
use Rattle.sml_syntax.specs.declared.tree.Pat.{Pat}
use Rattle.sml_syntax.specs.declared.tree.PatForm.TheVariants as pf
use Rattle.sml_syntax.specs.declared.tree.Ty.{Ty}
use Rattle.sml_syntax.specs.declared.tree.Rule.{Rule}
use Rattle.sml_syntax.specs.declared.tree.Piece.{Piece}
use Rattle.sml_syntax.specs.declared.tree.Piece.TheVariants as piece
use Rattle.sml_syntax.specs.declared.tree.Dec.{Dec}
use Rattle.grammar_rules.specs.Nodes.{span_of, last_of, pat_at}
use Rattle.grammar_rules.specs.Grammar as g
use Rattle.sml_grammar.specs.declared.act.Made.{Made}
use Rattle.parse_values.specs.declared.value.Val.{Val}
use Rattle.parse_values.specs.declared.value.Val.TheVariants as v
use Rattle.parse_values.specs.declared.value.ExpVal.TheVariants as xv
use Rattle.parse_values.specs.declared.value.PatVal.TheVariants as pv
use Rattle.parse_values.specs.declared.value.TyVal.TheVariants as tv
use Rattle.parse_values.specs.declared.value.DecVal.TheVariants as dv
use Rattle.parse_values.specs.declared.value.DefVal.TheVariants as fv
use Rattle.parse_build.specs.Building.{apply_all}

-- acts make these values of those
pub record Makes (new : List Made) (old : List Val) (made : List Val) : Type 0 where
  pub makes : apply_all new old ≡ made

-- what acts build where tokens stand for a tree
abbrev pub Builds : List Token → g.Tree → List Made → Type 0
Builds ts (g.exp_tree x) new = (vs : List Val) → Makes new vs (v.Exp (xv.One x) ∷ vs)
Builds ts (g.exps_tree xs) new = (acc : List Exp) (vs : List Val) → Makes new (v.Exp (xv.Many acc) ∷ vs) (v.Exp (xv.Many (acc ++ xs)) ∷ vs)
Builds ts (g.rule_tree x) new = (acc : List Rule) (vs : List Val) → Makes new (v.Exp (xv.Rules acc) ∷ vs) (v.Exp (xv.Rules (acc ++ x ∷ [])) ∷ vs)
Builds ts (g.rules_tree xs) new = (acc : List Rule) (vs : List Val) → Makes new (v.Exp (xv.Rules acc) ∷ vs) (v.Exp (xv.Rules (acc ++ xs)) ∷ vs)
Builds ts (g.text_tree text) new = (acc : List Piece) (vs : List Val) → Makes new (v.Exp (xv.Pieces acc) ∷ vs) (v.Exp (xv.Pieces (acc ++ piece.Plain text ∷ [])) ∷ vs)
Builds ts (g.pieces_tree xs) new = (acc : List Piece) (vs : List Val) → Makes new (v.Exp (xv.Pieces acc) ∷ vs) (v.Exp (xv.Pieces (acc ++ xs)) ∷ vs)
Builds ts (g.name_tree place name) new = (vs : List Val) → Makes new vs (v.Pat (pv.One (pat_at (span_of place (last_of ts)) (pf.Name name))) ∷ vs)
Builds ts (g.pat_tree x) new = (vs : List Val) → Makes new vs (v.Pat (pv.One x) ∷ vs)
Builds ts (g.pats_tree xs) new = (acc : List Pat) (vs : List Val) → Makes new (v.Pat (pv.Many acc) ∷ vs) (v.Pat (pv.Many (acc ++ xs)) ∷ vs)
Builds ts (g.ty_tree x) new = (vs : List Val) → Makes new vs (v.Ty (tv.One x) ∷ vs)
Builds ts (g.tys_tree xs) new = (acc : List Ty) (vs : List Val) → Makes new (v.Ty (tv.Many acc) ∷ vs) (v.Ty (tv.Many (acc ++ xs)) ∷ vs)
Builds ts (g.vars_tree xs) new = (acc : List (List ℕ)) (vs : List Val) → Makes new (v.Def (fv.Vars acc) ∷ vs) (v.Def (fv.Vars (acc ++ xs)) ∷ vs)
Builds ts (g.dec_tree x) new = (vs : List Val) → Makes new vs (v.Dec (dv.One x) ∷ vs)
Builds ts (g.decs_tree xs) new = (acc : List Dec) (vs : List Val) → Makes new (v.Dec (dv.Many acc) ∷ vs) (v.Dec (dv.Many (acc ++ xs)) ∷ vs)
Builds ts (g.binds_tree xs) new = (acc : List (Pat × Exp)) (vs : List Val) → Makes new (v.Dec (dv.Binds acc) ∷ vs) (v.Dec (dv.Binds (acc ++ xs)) ∷ vs)
Builds ts (g.recs_tree xs) new = (acc : List (List ℕ × List Rule)) (vs : List Val) → Makes new (v.Dec (dv.Recs acc) ∷ vs) (v.Dec (dv.Recs (acc ++ xs)) ∷ vs)
Builds ts (g.abbrevs_tree xs) new = (acc : List (List (List ℕ) × List ℕ × Ty)) (vs : List Val) → Makes new (v.Def (fv.Abbrevs acc) ∷ vs) (v.Def (fv.Abbrevs (acc ++ xs)) ∷ vs)
Builds ts (g.cons_tree xs) new = (acc : List (List ℕ × Option Ty)) (vs : List Val) → Makes new (v.Def (fv.Cons acc) ∷ vs) (v.Def (fv.Cons (acc ++ xs)) ∷ vs)
Builds ts (g.datas_tree xs) new = (acc : List (List (List ℕ) × List ℕ × List (List ℕ × Option Ty))) (vs : List Val) → Makes new (v.Def (fv.Datas acc) ∷ vs) (v.Def (fv.Datas (acc ++ xs)) ∷ vs)
