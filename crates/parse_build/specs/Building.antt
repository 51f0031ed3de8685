-- What an act makes of the values so far, the newest first. Where values of another kind stand there, nothing is built.
use Rattle.std.specs.Prelude.{ℕ, List, [], ◌∷◌, ◌++◌, Option, Some, None}
use Rattle.sml_syntax.specs.declared.tree.Exp.{Exp}
use Rattle.sml_syntax.specs.declared.tree.ExpForm.{ExpForm}
use Rattle.sml_syntax.specs.declared.tree.ExpForm.TheVariants as e
use Rattle.sml_syntax.specs.declared.tree.Pat.{Pat}
use Rattle.sml_syntax.specs.declared.tree.PatForm.{PatForm}
use Rattle.sml_syntax.specs.declared.tree.PatForm.TheVariants as pf
use Rattle.sml_syntax.specs.declared.tree.Ty.{Ty}
use Rattle.sml_syntax.specs.declared.tree.TyForm.{TyForm}
use Rattle.sml_syntax.specs.declared.tree.TyForm.TheVariants as tf
use Rattle.sml_syntax.specs.declared.tree.Dec.{Dec}
use Rattle.sml_syntax.specs.declared.tree.DecForm.{DecForm}
use Rattle.sml_syntax.specs.declared.tree.DecForm.TheVariants as df
use Rattle.sml_syntax.specs.declared.tree.Piece.TheVariants as piece
use Rattle.sml_syntax.specs.Layers.{form_of_pat, PatLayer}
use Rattle.grammar_rules.specs.Nodes.{span_of, exp_at, pat_at, ty_at, dec_at, rule_of, infix_exp, cons_pat, it_dec, curried}
use Rattle.sml_syntax.specs.declared.tree.PatForm.TheOpen.{PatForm-F}
use Rattle.sml_grammar.specs.declared.act.Act.{Act}
use Rattle.sml_grammar.specs.declared.act.Act.TheVariants as a
use Rattle.sml_grammar.specs.declared.act.ExpAct.{ExpAct}
use Rattle.sml_grammar.specs.declared.act.ExpAct.TheVariants as x
use Rattle.sml_grammar.specs.declared.act.PatAct.{PatAct}
use Rattle.sml_grammar.specs.declared.act.PatAct.TheVariants as p
use Rattle.sml_grammar.specs.declared.act.TyAct.{TyAct}
use Rattle.sml_grammar.specs.declared.act.TyAct.TheVariants as y
use Rattle.sml_grammar.specs.declared.act.DecAct.{DecAct}
use Rattle.sml_grammar.specs.declared.act.DecAct.TheVariants as d
use Rattle.sml_grammar.specs.declared.act.Made.{Made}
use Rattle.parse_values.specs.declared.value.Val.{Val}
use Rattle.parse_values.specs.declared.value.Val.TheVariants as v
use Rattle.parse_values.specs.declared.value.ExpVal.TheVariants as xv
use Rattle.parse_values.specs.declared.value.PatVal.TheVariants as pv
use Rattle.parse_values.specs.declared.value.TyVal.TheVariants as tv
use Rattle.parse_values.specs.declared.value.DecVal.TheVariants as dv
use Rattle.parse_values.specs.declared.value.DefVal.TheVariants as fv
use Rattle.parse_values.specs.Values.{on_exp, on_exps, on_pat, on_pats, on_ty, on_tys, on_rules, on_pieces, on_dec, on_decs, on_binds, on_recs, on_vars, on_abbrevs, on_cons, on_datas, on_head, on_con, on_clause_pat}

abbrev pub exp : ℕ → ℕ → ExpForm → Exp
exp from to form = exp_at (span_of from to) form

abbrev pub pat : ℕ → ℕ → PatForm → Pat
pat from to form = pat_at (span_of from to) form

abbrev pub ty : ℕ → ℕ → TyForm → Ty
ty from to form = ty_at (span_of from to) form

abbrev pub dec : ℕ → ℕ → DecForm → Dec
dec from to form = dec_at (span_of from to) form

-- an act of two expressions
abbrev pub on_two : (Exp → Exp → Val) → List Val → List Val
on_two f = on_exp (λ second. on_exp (λ first vs. f first second ∷ vs))

-- acts on expressions, rules and pieces
unfoldable pub apply_exp : ExpAct → ℕ → List Val → List Val
apply_exp (x.Int from number) to vs = v.Exp (xv.One (exp from to (e.Int number))) ∷ vs
apply_exp (x.Char from byte) to vs = v.Exp (xv.One (exp from to (e.Char byte))) ∷ vs
apply_exp (x.Str from text) to vs = v.Exp (xv.One (exp from to (e.Str text))) ∷ vs
apply_exp (x.Name from name) to vs = v.Exp (xv.One (exp from to (e.Name name))) ∷ vs
apply_exp (x.Unit from) to vs = v.Exp (xv.One (exp from to e.Unit)) ∷ vs
apply_exp x.NoExps to vs = v.Exp (xv.Many []) ∷ vs
apply_exp x.First to vs = on_exp (λ first ws. v.Exp (xv.Many (first ∷ [])) ∷ ws) vs
apply_exp x.Push to vs = on_exp (λ next. on_exps (λ es ws. v.Exp (xv.Many (es ++ next ∷ [])) ∷ ws)) vs
apply_exp (x.Tuple from) to vs = on_exps (λ es ws. v.Exp (xv.One (exp from to (e.Tuple es))) ∷ ws) vs
apply_exp (x.List from) to vs = on_exps (λ es ws. v.Exp (xv.One (exp from to (e.List es))) ∷ ws) vs
apply_exp (x.Seq from) to vs = on_exps (λ es ws. v.Exp (xv.One (exp from to (e.Seq es))) ∷ ws) vs
apply_exp (x.App from) to vs = on_two (λ f arg. v.Exp (xv.One (exp from to (e.App f arg)))) vs
apply_exp (x.Infix from) to vs =
    on_exp (λ right. on_exp (λ operator. on_exp (λ left ws. v.Exp (xv.One (infix_exp (span_of from to) operator left right)) ∷ ws))) vs
apply_exp (x.Typed from) to vs = on_ty (λ t. on_exp (λ body ws. v.Exp (xv.One (exp from to (e.Typed body t))) ∷ ws)) vs
apply_exp (x.Both from) to vs = on_two (λ left right. v.Exp (xv.One (exp from to (e.Both left right)))) vs
apply_exp (x.Either from) to vs = on_two (λ left right. v.Exp (xv.One (exp from to (e.Either left right)))) vs
apply_exp (x.Handle from) to vs = on_rules (λ rs. on_exp (λ body ws. v.Exp (xv.One (exp from to (e.Handle body rs))) ∷ ws)) vs
apply_exp (x.Raise from) to vs = on_exp (λ body ws. v.Exp (xv.One (exp from to (e.Raise body))) ∷ ws) vs
apply_exp (x.If from) to vs = on_exp (λ no'. on_exp (λ yes'. on_exp (λ test ws. v.Exp (xv.One (exp from to (e.If test yes' no'))) ∷ ws))) vs
apply_exp (x.Case from) to vs = on_rules (λ rs. on_exp (λ body ws. v.Exp (xv.One (exp from to (e.Case body rs))) ∷ ws)) vs
apply_exp (x.Fn from) to vs = on_rules (λ rs ws. v.Exp (xv.One (exp from to (e.Fn rs))) ∷ ws) vs
apply_exp (x.Let from) to vs = on_exps (λ es. on_decs (λ ds ws. v.Exp (xv.One (exp from to (e.Let ds es))) ∷ ws)) vs
apply_exp x.NoRules to vs = v.Exp (xv.Rules []) ∷ vs
apply_exp x.AddRule to vs = on_exp (λ body. on_pat (λ head. on_rules (λ rs ws. v.Exp (xv.Rules (rs ++ rule_of head body ∷ [])) ∷ ws))) vs
apply_exp x.NoPieces to vs = v.Exp (xv.Pieces []) ∷ vs
apply_exp (x.Plain text) to vs = on_pieces (λ ps ws. v.Exp (xv.Pieces (ps ++ piece.Plain text ∷ [])) ∷ ws) vs
apply_exp x.EmptyPlain to vs = on_pieces (λ ps ws. v.Exp (xv.Pieces (ps ++ piece.Plain [] ∷ [])) ∷ ws) vs
apply_exp x.AddAnti to vs = on_exp (λ body. on_pieces (λ ps ws. v.Exp (xv.Pieces (ps ++ piece.Anti body ∷ [])) ∷ ws)) vs
apply_exp (x.Quote from) to vs = on_pieces (λ ps ws. v.Exp (xv.One (exp from to (e.Quote ps))) ∷ ws) vs

-- a constructor pattern, where what stands before the argument is a name
abbrev pub con_pat : ℕ → ℕ → Pat → List Val → PatLayer → List Val
con_pat from to argument vs (PatForm-F.Name name) = v.Pat (pv.One (pat from to (pf.Con name argument))) ∷ vs
con_pat from to argument vs _ = []

-- acts on patterns
unfoldable pub apply_pat : PatAct → ℕ → List Val → List Val
apply_pat (p.Any from) to vs = v.Pat (pv.One (pat from to pf.Any)) ∷ vs
apply_pat (p.Int from number) to vs = v.Pat (pv.One (pat from to (pf.Int number))) ∷ vs
apply_pat (p.Char from byte) to vs = v.Pat (pv.One (pat from to (pf.Char byte))) ∷ vs
apply_pat (p.Str from text) to vs = v.Pat (pv.One (pat from to (pf.Str text))) ∷ vs
apply_pat (p.Unit from) to vs = v.Pat (pv.One (pat from to pf.Unit)) ∷ vs
apply_pat (p.Name from name) to vs = v.Pat (pv.One (pat from to (pf.Name name))) ∷ vs
apply_pat p.NoPats to vs = v.Pat (pv.Many []) ∷ vs
apply_pat p.First to vs = on_pat (λ first ws. v.Pat (pv.Many (first ∷ [])) ∷ ws) vs
apply_pat p.Push to vs = on_pat (λ next. on_pats (λ ps ws. v.Pat (pv.Many (ps ++ next ∷ [])) ∷ ws)) vs
apply_pat (p.Tuple from) to vs = on_pats (λ ps ws. v.Pat (pv.One (pat from to (pf.Tuple ps))) ∷ ws) vs
apply_pat (p.List from) to vs = on_pats (λ ps ws. v.Pat (pv.One (pat from to (pf.List ps))) ∷ ws) vs
apply_pat (p.Con from) to vs = on_pat (λ argument. on_pat (λ name ws. con_pat from to argument ws (form_of_pat name))) vs
apply_pat (p.Cons from) to vs =
    on_pat (λ right. on_pat (λ left ws. v.Pat (pv.One (cons_pat (span_of from to) left right)) ∷ ws)) vs
apply_pat (p.Typed from) to vs = on_ty (λ t. on_pat (λ body ws. v.Pat (pv.One (pat from to (pf.Typed body t))) ∷ ws)) vs
apply_pat (p.Pair from) to vs = on_pat (λ right. on_pat (λ left ws. v.Pat (pv.One (pat from to (pf.Tuple (left ∷ right ∷ [])))) ∷ ws)) vs
apply_pat p.Tupled to vs = on_pats (λ ps ws. v.Pat (pv.Tupled ps) ∷ ws) vs

-- acts on types
unfoldable pub apply_ty : TyAct → ℕ → List Val → List Val
apply_ty (y.Var from name) to vs = v.Ty (tv.One (ty from to (tf.Var name))) ∷ vs
apply_ty y.NoTys to vs = v.Ty (tv.Many []) ∷ vs
apply_ty y.First to vs = on_ty (λ first ws. v.Ty (tv.Many (first ∷ [])) ∷ ws) vs
apply_ty y.Push to vs = on_ty (λ next. on_tys (λ ts ws. v.Ty (tv.Many (ts ++ next ∷ [])) ∷ ws)) vs
apply_ty (y.Con from name) to vs = on_tys (λ ts ws. v.Ty (tv.One (ty from to (tf.Con name ts))) ∷ ws) vs
apply_ty (y.Tuple from) to vs = on_tys (λ ts ws. v.Ty (tv.One (ty from to (tf.Tuple ts))) ∷ ws) vs
apply_ty (y.Arrow from) to vs = on_ty (λ right. on_ty (λ left ws. v.Ty (tv.One (ty from to (tf.Arrow left right))) ∷ ws)) vs

-- acts on declarations and their parts
unfoldable pub apply_dec : DecAct → ℕ → List Val → List Val
apply_dec d.NoBinds to vs = v.Dec (dv.Binds []) ∷ vs
apply_dec d.AddBind to vs = on_exp (λ body. on_pat (λ head. on_binds (λ bs ws. v.Dec (dv.Binds (bs ++ (head, body) ∷ [])) ∷ ws))) vs
apply_dec (d.Val from) to vs = on_binds (λ bs ws. v.Dec (dv.One (dec from to (df.Val bs))) ∷ ws) vs
apply_dec d.NoRecs to vs = v.Dec (dv.Recs []) ∷ vs
apply_dec (d.Constrain from) to vs = on_exp (λ body. on_ty (λ t ws. v.Exp (xv.One (exp from to (e.Typed body t))) ∷ ws)) vs
apply_dec (d.AddClause from) to vs =
    on_exp (λ body. on_clause_pat (span_of from to) (λ head. on_rules (λ rs ws. v.Exp (xv.Rules (rs ++ rule_of head body ∷ [])) ∷ ws))) vs
apply_dec (d.Curry from count) to vs = on_rules (λ rs ws. v.Exp (xv.Rules (curried (span_of from to) count rs ∷ [])) ∷ ws) vs
apply_dec (d.AddRec name) to vs = on_rules (λ rs. on_recs (λ bs ws. v.Dec (dv.Recs (bs ++ (name, rs) ∷ [])) ∷ ws)) vs
apply_dec (d.ValRec from) to vs = on_recs (λ bs ws. v.Dec (dv.One (dec from to (df.ValRec bs))) ∷ ws) vs
apply_dec d.NoVars to vs = v.Def (fv.Vars []) ∷ vs
apply_dec (d.AddVar name) to vs = on_vars (λ names ws. v.Def (fv.Vars (names ++ name ∷ [])) ∷ ws) vs
apply_dec (d.Head name) to vs = on_vars (λ names ws. v.Def (fv.Head names name) ∷ ws) vs
apply_dec d.NoAbbrevs to vs = v.Def (fv.Abbrevs []) ∷ vs
apply_dec d.AddAbbrev to vs = on_ty (λ t. on_head (λ names name. on_abbrevs (λ bs ws. v.Def (fv.Abbrevs (bs ++ (names, name, t) ∷ [])) ∷ ws))) vs
apply_dec (d.Abbrev from) to vs = on_abbrevs (λ bs ws. v.Dec (dv.One (dec from to (df.Abbrev bs))) ∷ ws) vs
apply_dec d.NoCons to vs = v.Def (fv.Cons []) ∷ vs
apply_dec (d.Con name) to vs = v.Def (fv.Con name None) ∷ vs
apply_dec d.ConOf to vs = on_ty (λ t. on_con (λ name argument ws. v.Def (fv.Con name (Some t)) ∷ ws)) vs
apply_dec d.AddCon to vs = on_con (λ name argument. on_cons (λ cs ws. v.Def (fv.Cons (cs ++ (name, argument) ∷ [])) ∷ ws)) vs
apply_dec d.NoDatas to vs = v.Def (fv.Datas []) ∷ vs
apply_dec d.AddData to vs = on_cons (λ cs. on_head (λ names name. on_datas (λ bs ws. v.Def (fv.Datas (bs ++ (names, name, cs) ∷ [])) ∷ ws))) vs
apply_dec (d.DataDef from) to vs = on_datas (λ bs ws. v.Dec (dv.One (dec from to (df.DataDef bs))) ∷ ws) vs
apply_dec (d.ExnDef from) to vs = on_cons (λ cs ws. v.Dec (dv.One (dec from to (df.ExnDef cs))) ∷ ws) vs
apply_dec d.NoDecs to vs = v.Dec (dv.Many []) ∷ vs
apply_dec d.AddDec to vs = on_dec (λ next. on_decs (λ ds ws. v.Dec (dv.Many (ds ++ next ∷ [])) ∷ ws)) vs
apply_dec (d.Local from) to vs = on_decs (λ second. on_decs (λ first ws. v.Dec (dv.One (dec from to (df.Local first second))) ∷ ws)) vs
apply_dec (d.It from) to vs = on_exp (λ body ws. v.Dec (dv.One (it_dec (span_of from to) body)) ∷ ws) vs
apply_dec (d.Item from) to vs = on_dec (λ next. on_decs (λ ds ws. v.Dec (dv.Many (ds ++ next ∷ [])) ∷ ws)) vs

-- an act; a lack builds nothing
unfoldable pub apply : Act → ℕ → List Val → List Val
apply (a.Exp act) to vs = apply_exp act to vs
apply (a.Pat act) to vs = apply_pat act to vs
apply (a.Ty act) to vs = apply_ty act to vs
apply (a.Dec act) to vs = apply_dec act to vs
apply (a.Lack place lack) to vs = vs

-- acts one after the other
unfoldable pub apply_all : List Made → List Val → List Val
apply_all [] vs = vs
apply_all (m ∷ ms) vs = apply_all ms (apply m.act m.to vs)

abbrev pub items_of : List Val → List Dec
items_of (v.Dec (dv.Many ds) ∷ vs) = ds
items_of _ = []

-- the items that acts build
unfoldable pub program_of : List Made → List Dec
program_of acts = items_of (apply_all acts [])
