-- Trees that are the same, spans aside: one rule for each form.
use Rattle.std.specs.Prelude.{ℕ, ℤ, List, [], ◌∷◌, Option, Some, None}
use Rattle.sml_syntax.specs.declared.tree.Span.{Span}
use Rattle.sml_syntax.specs.declared.tree.Exp.{Exp}
use Rattle.sml_syntax.specs.declared.tree.ExpForm.TheVariants as e
use Rattle.sml_syntax.specs.declared.tree.Pat.{Pat}
use Rattle.sml_syntax.specs.declared.tree.PatForm.TheVariants as p
use Rattle.sml_syntax.specs.declared.tree.Ty.{Ty}
use Rattle.sml_syntax.specs.declared.tree.TyForm.TheVariants as t
use Rattle.sml_syntax.specs.declared.tree.Dec.{Dec}
use Rattle.sml_syntax.specs.declared.tree.DecForm.TheVariants as d
use Rattle.sml_syntax.specs.declared.tree.Rule.{Rule}
use Rattle.sml_syntax.specs.declared.tree.Piece.{Piece}
use Rattle.sml_syntax.specs.declared.tree.Piece.TheVariants as piece
use Rattle.sml_syntax.specs.declared.tree.Program.{Program}
use Rattle.grammar_rules.specs.Nodes.{exp_at, pat_at, ty_at, dec_at, rule_of}
use Rattle.grammar_rules.specs.Grammar.{Tree, exp_tree, exps_tree, rule_tree, rules_tree, pieces_tree, pat_tree, pats_tree, ty_tree, tys_tree, dec_tree, decs_tree, binds_tree, recs_tree, abbrevs_tree, cons_tree, datas_tree}

pub data Same : Tree → Tree → Type 0 where
  -- expressions
  same_int : (s r : Span) (n : ℤ) → Same (exp_tree (exp_at s (e.Int n))) (exp_tree (exp_at r (e.Int n)))
  same_char : (s r : Span) (b : ℕ) → Same (exp_tree (exp_at s (e.Char b))) (exp_tree (exp_at r (e.Char b)))
  same_str : (s r : Span) (text : List ℕ) → Same (exp_tree (exp_at s (e.Str text))) (exp_tree (exp_at r (e.Str text)))
  same_name : (s r : Span) (name : List ℕ) → Same (exp_tree (exp_at s (e.Name name))) (exp_tree (exp_at r (e.Name name)))
  same_unit : (s r : Span) → Same (exp_tree (exp_at s e.Unit)) (exp_tree (exp_at r e.Unit))
  same_tuple : (s r : Span) {a0 b0 : List Exp} → Same (exps_tree a0) (exps_tree b0) → Same (exp_tree (exp_at s (e.Tuple a0))) (exp_tree (exp_at r (e.Tuple b0)))
  same_list : (s r : Span) {a0 b0 : List Exp} → Same (exps_tree a0) (exps_tree b0) → Same (exp_tree (exp_at s (e.List a0))) (exp_tree (exp_at r (e.List b0)))
  same_seq : (s r : Span) {a0 b0 : List Exp} → Same (exps_tree a0) (exps_tree b0) → Same (exp_tree (exp_at s (e.Seq a0))) (exp_tree (exp_at r (e.Seq b0)))
  same_app : (s r : Span) {a0 b0 : Exp} {a1 b1 : Exp} → Same (exp_tree a0) (exp_tree b0) → Same (exp_tree a1) (exp_tree b1) → Same (exp_tree (exp_at s (e.App a0 a1))) (exp_tree (exp_at r (e.App b0 b1)))
  same_let : (s r : Span) {a0 b0 : List Dec} {a1 b1 : List Exp} → Same (decs_tree a0) (decs_tree b0) → Same (exps_tree a1) (exps_tree b1) → Same (exp_tree (exp_at s (e.Let a0 a1))) (exp_tree (exp_at r (e.Let b0 b1)))
  same_fn : (s r : Span) {a0 b0 : List Rule} → Same (rules_tree a0) (rules_tree b0) → Same (exp_tree (exp_at s (e.Fn a0))) (exp_tree (exp_at r (e.Fn b0)))
  same_case : (s r : Span) {a0 b0 : Exp} {a1 b1 : List Rule} → Same (exp_tree a0) (exp_tree b0) → Same (rules_tree a1) (rules_tree b1) → Same (exp_tree (exp_at s (e.Case a0 a1))) (exp_tree (exp_at r (e.Case b0 b1)))
  same_handle : (s r : Span) {a0 b0 : Exp} {a1 b1 : List Rule} → Same (exp_tree a0) (exp_tree b0) → Same (rules_tree a1) (rules_tree b1) → Same (exp_tree (exp_at s (e.Handle a0 a1))) (exp_tree (exp_at r (e.Handle b0 b1)))
  same_raise : (s r : Span) {a0 b0 : Exp} → Same (exp_tree a0) (exp_tree b0) → Same (exp_tree (exp_at s (e.Raise a0))) (exp_tree (exp_at r (e.Raise b0)))
  same_if : (s r : Span) {a0 b0 : Exp} {a1 b1 : Exp} {a2 b2 : Exp} → Same (exp_tree a0) (exp_tree b0) → Same (exp_tree a1) (exp_tree b1) → Same (exp_tree a2) (exp_tree b2) → Same (exp_tree (exp_at s (e.If a0 a1 a2))) (exp_tree (exp_at r (e.If b0 b1 b2)))
  same_both : (s r : Span) {a0 b0 : Exp} {a1 b1 : Exp} → Same (exp_tree a0) (exp_tree b0) → Same (exp_tree a1) (exp_tree b1) → Same (exp_tree (exp_at s (e.Both a0 a1))) (exp_tree (exp_at r (e.Both b0 b1)))
  same_either : (s r : Span) {a0 b0 : Exp} {a1 b1 : Exp} → Same (exp_tree a0) (exp_tree b0) → Same (exp_tree a1) (exp_tree b1) → Same (exp_tree (exp_at s (e.Either a0 a1))) (exp_tree (exp_at r (e.Either b0 b1)))
  same_quote : (s r : Span) {a0 b0 : List Piece} → Same (pieces_tree a0) (pieces_tree b0) → Same (exp_tree (exp_at s (e.Quote a0))) (exp_tree (exp_at r (e.Quote b0)))
  same_typed : (s r : Span) {a0 b0 : Exp} {a1 b1 : Ty} → Same (exp_tree a0) (exp_tree b0) → Same (ty_tree a1) (ty_tree b1) → Same (exp_tree (exp_at s (e.Typed a0 a1))) (exp_tree (exp_at r (e.Typed b0 b1)))
  no_exps : Same (exps_tree []) (exps_tree [])
  more_exps : {x y : Exp} {xs ys : List Exp} → Same (exp_tree x) (exp_tree y) → Same (exps_tree xs) (exps_tree ys) → Same (exps_tree (x ∷ xs)) (exps_tree (y ∷ ys))
  -- rules and pieces
  same_rule : {p q : Pat} {x y : Exp} → Same (pat_tree p) (pat_tree q) → Same (exp_tree x) (exp_tree y) → Same (rule_tree (rule_of p x)) (rule_tree (rule_of q y))
  no_rules : Same (rules_tree []) (rules_tree [])
  more_rules : {x y : Rule} {xs ys : List Rule} → Same (rule_tree x) (rule_tree y) → Same (rules_tree xs) (rules_tree ys) → Same (rules_tree (x ∷ xs)) (rules_tree (y ∷ ys))
  no_pieces : Same (pieces_tree []) (pieces_tree [])
  plain_piece : (text : List ℕ) {ps qs : List Piece} → Same (pieces_tree ps) (pieces_tree qs) → Same (pieces_tree (piece.Plain text ∷ ps)) (pieces_tree (piece.Plain text ∷ qs))
  anti_piece : {x y : Exp} {ps qs : List Piece} → Same (exp_tree x) (exp_tree y) → Same (pieces_tree ps) (pieces_tree qs) → Same (pieces_tree (piece.Anti x ∷ ps)) (pieces_tree (piece.Anti y ∷ qs))
  -- patterns
  same_any : (s r : Span) → Same (pat_tree (pat_at s p.Any)) (pat_tree (pat_at r p.Any))
  same_pat_int : (s r : Span) (n : ℤ) → Same (pat_tree (pat_at s (p.Int n))) (pat_tree (pat_at r (p.Int n)))
  same_pat_char : (s r : Span) (b : ℕ) → Same (pat_tree (pat_at s (p.Char b))) (pat_tree (pat_at r (p.Char b)))
  same_pat_str : (s r : Span) (text : List ℕ) → Same (pat_tree (pat_at s (p.Str text))) (pat_tree (pat_at r (p.Str text)))
  same_pat_unit : (s r : Span) → Same (pat_tree (pat_at s p.Unit)) (pat_tree (pat_at r p.Unit))
  same_pat_name : (s r : Span) (name : List ℕ) → Same (pat_tree (pat_at s (p.Name name))) (pat_tree (pat_at r (p.Name name)))
  same_pat_tuple : (s r : Span) {a0 b0 : List Pat} → Same (pats_tree a0) (pats_tree b0) → Same (pat_tree (pat_at s (p.Tuple a0))) (pat_tree (pat_at r (p.Tuple b0)))
  same_pat_list : (s r : Span) {a0 b0 : List Pat} → Same (pats_tree a0) (pats_tree b0) → Same (pat_tree (pat_at s (p.List a0))) (pat_tree (pat_at r (p.List b0)))
  same_pat_con : (s r : Span) (name : List ℕ) {a0 b0 : Pat} → Same (pat_tree a0) (pat_tree b0) → Same (pat_tree (pat_at s (p.Con name a0))) (pat_tree (pat_at r (p.Con name b0)))
  same_pat_typed : (s r : Span) {a0 b0 : Pat} {a1 b1 : Ty} → Same (pat_tree a0) (pat_tree b0) → Same (ty_tree a1) (ty_tree b1) → Same (pat_tree (pat_at s (p.Typed a0 a1))) (pat_tree (pat_at r (p.Typed b0 b1)))
  no_pats : Same (pats_tree []) (pats_tree [])
  more_pats : {x y : Pat} {xs ys : List Pat} → Same (pat_tree x) (pat_tree y) → Same (pats_tree xs) (pats_tree ys) → Same (pats_tree (x ∷ xs)) (pats_tree (y ∷ ys))
  -- types
  same_var : (s r : Span) (name : List ℕ) → Same (ty_tree (ty_at s (t.Var name))) (ty_tree (ty_at r (t.Var name)))
  same_con : (s r : Span) (name : List ℕ) {a0 b0 : List Ty} → Same (tys_tree a0) (tys_tree b0) → Same (ty_tree (ty_at s (t.Con name a0))) (ty_tree (ty_at r (t.Con name b0)))
  same_ty_tuple : (s r : Span) {a0 b0 : List Ty} → Same (tys_tree a0) (tys_tree b0) → Same (ty_tree (ty_at s (t.Tuple a0))) (ty_tree (ty_at r (t.Tuple b0)))
  same_arrow : (s r : Span) {a0 b0 : Ty} {a1 b1 : Ty} → Same (ty_tree a0) (ty_tree b0) → Same (ty_tree a1) (ty_tree b1) → Same (ty_tree (ty_at s (t.Arrow a0 a1))) (ty_tree (ty_at r (t.Arrow b0 b1)))
  no_tys : Same (tys_tree []) (tys_tree [])
  more_tys : {x y : Ty} {xs ys : List Ty} → Same (ty_tree x) (ty_tree y) → Same (tys_tree xs) (tys_tree ys) → Same (tys_tree (x ∷ xs)) (tys_tree (y ∷ ys))
  -- declarations
  same_val : (s r : Span) {a0 b0 : List (Pat × Exp)} → Same (binds_tree a0) (binds_tree b0) → Same (dec_tree (dec_at s (d.Val a0))) (dec_tree (dec_at r (d.Val b0)))
  same_rec : (s r : Span) {a0 b0 : List (List ℕ × List Rule)} → Same (recs_tree a0) (recs_tree b0) → Same (dec_tree (dec_at s (d.ValRec a0))) (dec_tree (dec_at r (d.ValRec b0)))
  same_abbrev : (s r : Span) {a0 b0 : List (List (List ℕ) × List ℕ × Ty)} → Same (abbrevs_tree a0) (abbrevs_tree b0) → Same (dec_tree (dec_at s (d.Abbrev a0))) (dec_tree (dec_at r (d.Abbrev b0)))
  same_data : (s r : Span) {a0 b0 : List (List (List ℕ) × List ℕ × List (List ℕ × Option Ty))} → Same (datas_tree a0) (datas_tree b0) → Same (dec_tree (dec_at s (d.DataDef a0))) (dec_tree (dec_at r (d.DataDef b0)))
  same_exn : (s r : Span) {a0 b0 : List (List ℕ × Option Ty)} → Same (cons_tree a0) (cons_tree b0) → Same (dec_tree (dec_at s (d.ExnDef a0))) (dec_tree (dec_at r (d.ExnDef b0)))
  same_local : (s r : Span) {a0 b0 : List Dec} {a1 b1 : List Dec} → Same (decs_tree a0) (decs_tree b0) → Same (decs_tree a1) (decs_tree b1) → Same (dec_tree (dec_at s (d.Local a0 a1))) (dec_tree (dec_at r (d.Local b0 b1)))
  no_decs : Same (decs_tree []) (decs_tree [])
  more_decs : {x y : Dec} {xs ys : List Dec} → Same (dec_tree x) (dec_tree y) → Same (decs_tree xs) (decs_tree ys) → Same (decs_tree (x ∷ xs)) (decs_tree (y ∷ ys))
  no_binds : Same (binds_tree []) (binds_tree [])
  more_binds : {p q : Pat} {x y : Exp} {bs cs : List (Pat × Exp)} → Same (pat_tree p) (pat_tree q) → Same (exp_tree x) (exp_tree y) → Same (binds_tree bs) (binds_tree cs) → Same (binds_tree ((p, x) ∷ bs)) (binds_tree ((q, y) ∷ cs))
  no_recs : Same (recs_tree []) (recs_tree [])
  more_recs : (name : List ℕ) {rs qs : List Rule} {fs gs : List (List ℕ × List Rule)} → Same (rules_tree rs) (rules_tree qs) → Same (recs_tree fs) (recs_tree gs) → Same (recs_tree ((name, rs) ∷ fs)) (recs_tree ((name, qs) ∷ gs))
  no_abbrevs : Same (abbrevs_tree []) (abbrevs_tree [])
  more_abbrevs : (names : List (List ℕ)) (name : List ℕ) {t u : Ty} {xs ys : List (List (List ℕ) × List ℕ × Ty)} → Same (ty_tree t) (ty_tree u) → Same (abbrevs_tree xs) (abbrevs_tree ys) → Same (abbrevs_tree ((names, name, t) ∷ xs)) (abbrevs_tree ((names, name, u) ∷ ys))
  no_cons : Same (cons_tree []) (cons_tree [])
  more_cons : (name : List ℕ) {xs ys : List (List ℕ × Option Ty)} → Same (cons_tree xs) (cons_tree ys) → Same (cons_tree ((name, None) ∷ xs)) (cons_tree ((name, None) ∷ ys))
  more_cons_of : (name : List ℕ) {t u : Ty} {xs ys : List (List ℕ × Option Ty)} → Same (ty_tree t) (ty_tree u) → Same (cons_tree xs) (cons_tree ys) → Same (cons_tree ((name, Some t) ∷ xs)) (cons_tree ((name, Some u) ∷ ys))
  no_datas : Same (datas_tree []) (datas_tree [])
  more_datas : (names : List (List ℕ)) (name : List ℕ) {cs gs : List (List ℕ × Option Ty)} {xs ys : List (List (List ℕ) × List ℕ × List (List ℕ × Option Ty))} → Same (cons_tree cs) (cons_tree gs) → Same (datas_tree xs) (datas_tree ys) → Same (datas_tree ((names, name, cs) ∷ xs)) (datas_tree ((names, name, gs) ∷ ys))

-- programs that are the same, spans aside
abbrev pub SameTree : Program → Program → Type 0
SameTree program other = Same (decs_tree program.items) (decs_tree other.items)
