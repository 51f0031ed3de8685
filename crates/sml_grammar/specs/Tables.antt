-- The table of the machine: what each phrase does at a token.
use Rattle.std.specs.Prelude.{◌==◌, ◌-◌, [], ◌∷◌, ◌++◌, true, false, cond, nat_le}
use Rattle.std.specs.Str.{bytes_eq}
use Rattle.sml_syntax.specs.declared.token.Token.{Token}
use Rattle.sml_syntax.specs.declared.token.Lack.TheVariants as l
use Rattle.sml_grammar.specs.declared.mark.Mark.TheVariants as m
use Rattle.sml_grammar.specs.declared.token_sort.TokenSort.{TokenSort}
use Rattle.sml_grammar.specs.declared.act.Act.TheVariants as a
use Rattle.sml_grammar.specs.declared.act.ExpAct.TheVariants as x
use Rattle.sml_grammar.specs.declared.act.PatAct.TheVariants as p
use Rattle.sml_grammar.specs.declared.act.TyAct.TheVariants as y
use Rattle.sml_grammar.specs.declared.act.DecAct.TheVariants as d
use Rattle.sml_grammar.specs.declared.symbol.Sym.TheVariants as s
use Rattle.sml_grammar.specs.declared.symbol.ExpPhrase.{ExpPhrase}
use Rattle.sml_grammar.specs.declared.symbol.ExpPhrase.TheVariants as xp
use Rattle.sml_grammar.specs.declared.symbol.ExpRest.{ExpRest}
use Rattle.sml_grammar.specs.declared.symbol.ExpRest.TheVariants as xr
use Rattle.sml_grammar.specs.declared.symbol.ExpItems.{ExpItems}
use Rattle.sml_grammar.specs.declared.symbol.ExpItems.TheVariants as xi
use Rattle.sml_grammar.specs.declared.symbol.Quoted.{Quoted}
use Rattle.sml_grammar.specs.declared.symbol.Quoted.TheVariants as q
use Rattle.sml_grammar.specs.declared.symbol.PatPhrase.{PatPhrase}
use Rattle.sml_grammar.specs.declared.symbol.PatPhrase.TheVariants as pp
use Rattle.sml_grammar.specs.declared.symbol.PatItems.{PatItems}
use Rattle.sml_grammar.specs.declared.symbol.PatItems.TheVariants as pi
use Rattle.sml_grammar.specs.declared.symbol.TyPhrase.{TyPhrase}
use Rattle.sml_grammar.specs.declared.symbol.TyPhrase.TheVariants as tp
use Rattle.sml_grammar.specs.declared.symbol.DecPhrase.{DecPhrase}
use Rattle.sml_grammar.specs.declared.symbol.DecPhrase.TheVariants as dp
use Rattle.sml_grammar.specs.declared.symbol.HeadPhrase.{HeadPhrase}
use Rattle.sml_grammar.specs.declared.symbol.HeadPhrase.TheVariants as hp
use Rattle.sml_grammar.specs.declared.symbol.ConPhrase.{ConPhrase}
use Rattle.sml_grammar.specs.declared.symbol.ConPhrase.TheVariants as cp
use Rattle.sml_grammar.specs.declared.symbol.FunPhrase.{FunPhrase}
use Rattle.sml_grammar.specs.declared.symbol.FunPhrase.TheVariants as fp
use Rattle.sml_grammar.specs.declared.symbol.LaterPhrase.{LaterPhrase}
use Rattle.sml_grammar.specs.declared.symbol.LaterPhrase.TheVariants as lp
use Rattle.sml_grammar.specs.Sorts.{is_mark, level_of, begins_exp, begins_atom, begins_tail, begins_pat, begins_ty, begins_dec, begins_body, is_infix, is_infix_name, is_any_name, is_op_name, is_type_name, is_name, is_ty_var, is_star, is_cons, is_plain, is_anti, is_anti_from, is_anti_to, is_quote_to}
use Rattle.grammar_rules.specs.Nodes.{name_place}
use Rattle.sml_grammar.specs.Tokens.{text_of, one_more, operand_level, may_be_infix}
use Rattle.sml_grammar.specs.Moves.{Move, Takes, Skips, Fails}
use Rattle.sml_grammar.specs.Takes.{atom_take, exp_take, tail_take, pat_take, apat_take, atpat_take, ty_take, dec_take, body_take, end_take}

-- expressions
abbrev pub at_exp : ExpPhrase → TokenSort → Token → Move
at_exp xp.Whole sort t = cond (begins_exp sort) (Takes (exp_take sort t)) Fails
at_exp xp.AndPart sort t = cond (begins_atom sort) (Takes (atom_take sort t ++ (s.ExpRest (xr.App t.span.from) ∷ s.ExpRest (xr.Infix 0 t.span.from) ∷ s.ExpRest (xr.Typed t.span.from) ∷ s.ExpRest (xr.And t.span.from) ∷ []))) (cond (begins_tail sort) (Takes (tail_take sort t.span.from)) Fails)
at_exp xp.OrPart sort t = cond (begins_atom sort) (Takes (atom_take sort t ++ (s.ExpRest (xr.App t.span.from) ∷ s.ExpRest (xr.Infix 0 t.span.from) ∷ s.ExpRest (xr.Typed t.span.from) ∷ s.ExpRest (xr.And t.span.from) ∷ s.ExpRest (xr.Or t.span.from) ∷ []))) (cond (begins_tail sort) (Takes (tail_take sort t.span.from)) Fails)
at_exp (xp.Operand m) sort t = cond (begins_atom sort) (Takes (atom_take sort t ++ (s.ExpRest (xr.App t.span.from) ∷ s.ExpRest (xr.Infix m t.span.from) ∷ []))) Fails
at_exp xp.OpName sort t = cond (is_op_name sort) (Takes (s.Do (a.Exp (x.Name t.span.from (text_of t.form))) ∷ [])) Fails

-- what may follow an expression or a part of one
abbrev pub at_exp_rest : ExpRest → TokenSort → Token → Move
at_exp_rest (xr.App from) sort t = cond (begins_atom sort) (Takes (atom_take sort t ++ (s.Do (a.Exp (x.App from)) ∷ s.ExpRest (xr.App from) ∷ []))) Skips
at_exp_rest (xr.Infix m from) sort t = cond (is_infix sort) (cond (nat_le m (level_of sort)) (Takes (s.Do (a.Exp (x.Name t.span.from (text_of t.form))) ∷ s.Exp (xp.Operand (operand_level (level_of sort))) ∷ s.Do (a.Exp (x.Infix from)) ∷ s.ExpRest (xr.Infix m from) ∷ [])) Skips) Skips
at_exp_rest (xr.Typed from) sort t = cond (is_mark m.Colon sort) (Takes (s.Ty (tp.Whole false) ∷ s.Do (a.Exp (x.Typed from)) ∷ s.ExpRest (xr.Typed from) ∷ [])) Skips
at_exp_rest (xr.And from) sort t = cond (is_mark m.AndAlso sort) (Takes (s.Exp xp.AndPart ∷ s.Do (a.Exp (x.Both from)) ∷ [])) Skips
at_exp_rest (xr.Or from) sort t = cond (is_mark m.OrElse sort) (Takes (s.Exp xp.OrPart ∷ s.Do (a.Exp (x.Either from)) ∷ [])) Skips
at_exp_rest (xr.Handle from) sort t = cond (is_mark m.Handle sort) (Takes (s.Do (a.Exp x.NoRules) ∷ s.Pat pp.Whole ∷ s.Want m.DoubleArrow ∷ s.Exp xp.Whole ∷ s.Do (a.Exp x.AddRule) ∷ s.ExpRest xr.Match ∷ s.Do (a.Exp (x.Handle from)) ∷ [])) Skips
at_exp_rest xr.Match sort t = cond (is_mark m.Bar sort) (Takes (s.Pat pp.Whole ∷ s.Want m.DoubleArrow ∷ s.Exp xp.Whole ∷ s.Do (a.Exp x.AddRule) ∷ s.ExpRest xr.Match ∷ [])) Skips

-- expressions in brackets, and of `let`
abbrev pub at_exp_items : ExpItems → TokenSort → Token → Move
at_exp_items (xi.Opened from) sort t = cond (is_mark m.Close sort) (Takes (s.Do (a.Exp (x.Unit from)) ∷ [])) (cond (begins_exp sort) (Takes (exp_take sort t ++ (s.ExpItems (xi.AfterFirst from) ∷ []))) Fails)
at_exp_items (xi.AfterFirst from) sort t = cond (is_mark m.Close sort) (Takes []) (cond (is_mark m.Comma sort) (Takes (s.Do (a.Exp x.First) ∷ s.Exp xp.Whole ∷ s.Do (a.Exp x.Push) ∷ s.ExpItems (xi.Tuple from) ∷ [])) (cond (is_mark m.Semicolon sort) (Takes (s.Do (a.Exp x.First) ∷ s.Exp xp.Whole ∷ s.Do (a.Exp x.Push) ∷ s.ExpItems (xi.Seq from) ∷ [])) Fails))
at_exp_items (xi.Tuple from) sort t = cond (is_mark m.Comma sort) (Takes (s.Exp xp.Whole ∷ s.Do (a.Exp x.Push) ∷ s.ExpItems (xi.Tuple from) ∷ [])) (cond (is_mark m.Close sort) (Takes (s.Do (a.Exp (x.Tuple from)) ∷ [])) Fails)
at_exp_items (xi.Seq from) sort t = cond (is_mark m.Semicolon sort) (Takes (s.Exp xp.Whole ∷ s.Do (a.Exp x.Push) ∷ s.ExpItems (xi.Seq from) ∷ [])) (cond (is_mark m.Close sort) (Takes (s.Do (a.Exp (x.Seq from)) ∷ [])) Fails)
at_exp_items (xi.OpenedList from) sort t = cond (is_mark m.CloseBracket sort) (Takes (s.Do (a.Exp x.NoExps) ∷ s.Do (a.Exp (x.List from)) ∷ [])) (cond (begins_exp sort) (Takes ((s.Do (a.Exp x.NoExps) ∷ []) ++ (exp_take sort t ++ (s.Do (a.Exp x.Push) ∷ s.ExpItems (xi.List from) ∷ [])))) Fails)
at_exp_items (xi.List from) sort t = cond (is_mark m.Comma sort) (Takes (s.Exp xp.Whole ∷ s.Do (a.Exp x.Push) ∷ s.ExpItems (xi.List from) ∷ [])) (cond (is_mark m.CloseBracket sort) (Takes (s.Do (a.Exp (x.List from)) ∷ [])) Fails)
at_exp_items xi.Let sort t = cond (is_mark m.Semicolon sort) (Takes (s.Exp xp.Whole ∷ s.Do (a.Exp x.Push) ∷ s.ExpItems xi.Let ∷ [])) (cond (is_mark m.End sort) (Takes []) Fails)

-- the inside of a quotation
abbrev pub at_quoted : Quoted → TokenSort → Token → Move
at_quoted q.Any sort t = cond (is_plain sort) (Takes (s.Do (a.Exp (x.Plain (text_of t.form))) ∷ s.Quoted q.AfterPlain ∷ [])) (cond (is_anti sort) (Takes (s.Do (a.Exp x.EmptyPlain) ∷ s.Do (a.Exp (x.Name (name_place t.span) (text_of t.form))) ∷ s.Do (a.Exp x.AddAnti) ∷ s.Quoted q.Any ∷ [])) (cond (is_anti_from sort) (Takes (s.Do (a.Exp x.EmptyPlain) ∷ s.Exp xp.Whole ∷ s.Quoted q.AntiEnd ∷ s.Do (a.Exp x.AddAnti) ∷ s.Quoted q.Any ∷ [])) (cond (is_quote_to sort) (Takes (s.Do (a.Exp x.EmptyPlain) ∷ [])) Fails)))
at_quoted q.AfterPlain sort t = cond (is_anti sort) (Takes (s.Do (a.Exp (x.Name (name_place t.span) (text_of t.form))) ∷ s.Do (a.Exp x.AddAnti) ∷ s.Quoted q.Any ∷ [])) (cond (is_anti_from sort) (Takes (s.Exp xp.Whole ∷ s.Quoted q.AntiEnd ∷ s.Do (a.Exp x.AddAnti) ∷ s.Quoted q.Any ∷ [])) (cond (is_quote_to sort) (Takes []) Fails))
at_quoted q.AntiEnd sort t = cond (is_anti_to sort) (Takes []) Fails

-- patterns
abbrev pub at_pat : PatPhrase → TokenSort → Token → Move
at_pat pp.Whole sort t = cond (begins_pat sort) (Takes (pat_take sort t)) Fails
at_pat pp.ConsPart sort t = cond (begins_pat sort) (Takes (apat_take sort t ++ (s.Pat (pp.ConsRest t.span.from) ∷ []))) Fails
at_pat (pp.ConsRest from) sort t = cond (is_cons sort) (Takes (s.Pat pp.ConsPart ∷ s.Do (a.Pat (p.Cons from)) ∷ [])) Skips
at_pat (pp.TypedRest from) sort t = cond (is_mark m.Colon sort) (Takes (s.Ty (tp.Whole false) ∷ s.Do (a.Pat (p.Typed from)) ∷ [])) Skips
at_pat pp.OpName sort t = cond (is_any_name sort) (Takes (s.Do (a.Pat (p.Name t.span.from (text_of t.form))) ∷ s.Pat (pp.Argument t.span.from) ∷ [])) Fails
at_pat (pp.Argument from) sort t = cond (begins_pat sort) (Takes (atpat_take sort t ++ (s.Do (a.Pat (p.Con from)) ∷ []))) Skips
at_pat pp.Atomic sort t = cond (begins_pat sort) (Takes (atpat_take sort t)) Fails
at_pat pp.OpAtomic sort t = cond (is_any_name sort) (Takes (s.Do (a.Pat (p.Name t.span.from (text_of t.form))) ∷ [])) Fails

-- patterns in brackets
abbrev pub at_pat_items : PatItems → TokenSort → Token → Move
at_pat_items (pi.Opened from) sort t = cond (is_mark m.Close sort) (Takes (s.Do (a.Pat (p.Unit from)) ∷ [])) (cond (begins_pat sort) (Takes (pat_take sort t ++ (s.PatItems (pi.AfterFirst from) ∷ []))) Fails)
at_pat_items (pi.AfterFirst from) sort t = cond (is_mark m.Close sort) (Takes []) (cond (is_mark m.Comma sort) (Takes (s.Do (a.Pat p.First) ∷ s.Pat pp.Whole ∷ s.Do (a.Pat p.Push) ∷ s.PatItems (pi.Tuple from) ∷ [])) Fails)
at_pat_items (pi.Tuple from) sort t = cond (is_mark m.Comma sort) (Takes (s.Pat pp.Whole ∷ s.Do (a.Pat p.Push) ∷ s.PatItems (pi.Tuple from) ∷ [])) (cond (is_mark m.Close sort) (Takes (s.Do (a.Pat (p.Tuple from)) ∷ [])) Fails)
at_pat_items (pi.OpenedList from) sort t = cond (is_mark m.CloseBracket sort) (Takes (s.Do (a.Pat p.NoPats) ∷ s.Do (a.Pat (p.List from)) ∷ [])) (cond (begins_pat sort) (Takes ((s.Do (a.Pat p.NoPats) ∷ []) ++ (pat_take sort t ++ (s.Do (a.Pat p.Push) ∷ s.PatItems (pi.List from) ∷ [])))) Fails)
at_pat_items (pi.List from) sort t = cond (is_mark m.Comma sort) (Takes (s.Pat pp.Whole ∷ s.Do (a.Pat p.Push) ∷ s.PatItems (pi.List from) ∷ [])) (cond (is_mark m.CloseBracket sort) (Takes (s.Do (a.Pat (p.List from)) ∷ [])) Fails)

-- types
abbrev pub at_ty : TyPhrase → TokenSort → Token → Move
at_ty (tp.Whole v) sort t = cond (begins_ty sort) (Takes (ty_take v sort t ++ (s.Ty (tp.ArgumentRest t.span.from) ∷ s.Ty (tp.StarRest v t.span.from) ∷ s.Ty (tp.ArrowRest v t.span.from) ∷ []))) Fails
at_ty (tp.Part v) sort t = cond (begins_ty sort) (Takes (ty_take v sort t ++ (s.Ty (tp.ArgumentRest t.span.from) ∷ []))) Fails
at_ty (tp.ArgumentRest from) sort t = cond (is_type_name sort) (Takes (s.Do (a.Ty y.First) ∷ s.Do (a.Ty (y.Con from (text_of t.form))) ∷ s.Ty (tp.ArgumentRest from) ∷ [])) Skips
at_ty (tp.StarRest v from) sort t = cond (is_star sort) (Takes (s.Do (a.Ty y.First) ∷ s.Ty (tp.Part v) ∷ s.Do (a.Ty y.Push) ∷ s.Ty (tp.StarMore v) ∷ s.Do (a.Ty (y.Tuple from)) ∷ [])) Skips
at_ty (tp.StarMore v) sort t = cond (is_star sort) (Takes (s.Ty (tp.Part v) ∷ s.Do (a.Ty y.Push) ∷ s.Ty (tp.StarMore v) ∷ [])) Skips
at_ty (tp.ArrowRest v from) sort t = cond (is_mark m.Arrow sort) (Takes (s.Ty (tp.Whole v) ∷ s.Do (a.Ty (y.Arrow from)) ∷ [])) Skips
at_ty (tp.AfterFirst v from) sort t = cond (is_mark m.Close sort) (Takes []) (cond (is_mark m.Comma sort) (Takes (s.Do (a.Ty y.First) ∷ s.Ty (tp.Whole v) ∷ s.Do (a.Ty y.Push) ∷ s.Ty (tp.More v from) ∷ [])) Fails)
at_ty (tp.More v from) sort t = cond (is_mark m.Comma sort) (Takes (s.Ty (tp.Whole v) ∷ s.Do (a.Ty y.Push) ∷ s.Ty (tp.More v from) ∷ [])) (cond (is_mark m.Close sort) (Takes (s.Ty (tp.Name from) ∷ [])) Fails)
at_ty (tp.Name from) sort t = cond (is_type_name sort) (Takes (s.Do (a.Ty (y.Con from (text_of t.form))) ∷ [])) Fails

-- items and declarations
abbrev pub at_dec : DecPhrase → TokenSort → Token → Move
at_dec dp.Items sort t = cond (begins_dec sort) (Takes (dec_take false sort t.span.from ++ (s.Do (a.Dec (d.Item t.span.from)) ∷ s.Dec dp.AfterDec ∷ []))) (cond (begins_exp sort) (Takes (exp_take sort t ++ (s.Do (a.Dec (d.It t.span.from)) ∷ s.Do (a.Dec (d.Item t.span.from)) ∷ s.Dec dp.AfterExp ∷ []))) Fails)
at_dec dp.AfterDec sort t = cond (is_mark m.Semicolon sort) (Takes (s.Dec dp.Items ∷ [])) (cond (begins_dec sort) (Takes (dec_take false sort t.span.from ++ (s.Do (a.Dec (d.Item t.span.from)) ∷ s.Dec dp.AfterDec ∷ []))) Fails)
at_dec dp.AfterExp sort t = cond (is_mark m.Semicolon sort) (Takes (s.Dec dp.Items ∷ [])) Fails
at_dec dp.Inner sort t = cond (begins_dec sort) (Takes (dec_take true sort t.span.from ++ (s.Do (a.Dec d.AddDec) ∷ s.Dec dp.AfterInner ∷ []))) Skips
at_dec dp.AfterInner sort t = cond (is_mark m.Semicolon sort) (Takes (s.Dec dp.Inner ∷ [])) (cond (begins_dec sort) (Takes (dec_take true sort t.span.from ++ (s.Do (a.Dec d.AddDec) ∷ s.Dec dp.AfterInner ∷ []))) Skips)
at_dec (dp.ValFirst from) sort t = cond (is_mark m.Rec sort) (Takes (s.Do (a.Dec d.NoRecs) ∷ s.Dec dp.RecBind ∷ s.Dec dp.RecRest ∷ s.Do (a.Dec (d.ValRec from)) ∷ [])) (cond (begins_pat sort) (Takes ((s.Do (a.Dec d.NoBinds) ∷ []) ++ (pat_take sort t ++ (s.Want m.Equal ∷ s.Exp xp.Whole ∷ s.Do (a.Dec d.AddBind) ∷ s.Dec dp.ValRest ∷ s.Do (a.Dec (d.Val from)) ∷ [])))) Fails)
at_dec dp.ValRest sort t = cond (is_mark m.And sort) (Takes (s.Pat pp.Whole ∷ s.Want m.Equal ∷ s.Exp xp.Whole ∷ s.Do (a.Dec d.AddBind) ∷ s.Dec dp.ValRest ∷ [])) Skips
at_dec dp.RecBind sort t = cond (is_name sort) (Takes (s.Want m.Equal ∷ s.Want m.Fn ∷ s.Do (a.Exp x.NoRules) ∷ s.Pat pp.Whole ∷ s.Want m.DoubleArrow ∷ s.Exp xp.Whole ∷ s.Do (a.Exp x.AddRule) ∷ s.ExpRest xr.Match ∷ s.Do (a.Dec (d.AddRec (text_of t.form))) ∷ [])) Fails
at_dec dp.RecRest sort t = cond (is_mark m.And sort) (Takes (s.Dec dp.RecBind ∷ s.Dec dp.RecRest ∷ [])) Skips

-- variables and names of `type` and `datatype`
abbrev pub at_head : HeadPhrase → TokenSort → Token → Move
at_head hp.Type sort t = cond (is_name sort) (Takes (s.Do (a.Dec d.NoVars) ∷ s.Do (a.Dec (d.Head (text_of t.form))) ∷ s.Want m.Equal ∷ s.Ty (tp.Whole true) ∷ s.Do (a.Dec d.AddAbbrev) ∷ s.Head hp.TypeRest ∷ [])) (cond (is_ty_var sort) (Takes (s.Do (a.Dec d.NoVars) ∷ s.Do (a.Dec (d.AddVar (text_of t.form))) ∷ s.Head hp.TypeName ∷ [])) (cond (is_mark m.Open sort) (Takes (s.Do (a.Dec d.NoVars) ∷ s.Head hp.Var ∷ s.Want m.Comma ∷ s.Head hp.Var ∷ s.Head hp.Vars ∷ s.Head hp.TypeName ∷ [])) Fails))
at_head hp.TypeName sort t = cond (is_name sort) (Takes (s.Do (a.Dec (d.Head (text_of t.form))) ∷ s.Want m.Equal ∷ s.Ty (tp.Whole true) ∷ s.Do (a.Dec d.AddAbbrev) ∷ s.Head hp.TypeRest ∷ [])) Fails
at_head (hp.Data first) sort t = cond (is_name sort) (Takes (s.Do (a.Dec d.NoVars) ∷ s.Do (a.Dec (d.Head (text_of t.form))) ∷ s.Want m.Equal ∷ s.Con (cp.Body first) ∷ [])) (cond (is_ty_var sort) (Takes (s.Do (a.Dec d.NoVars) ∷ s.Do (a.Dec (d.AddVar (text_of t.form))) ∷ s.Head hp.DataName ∷ [])) (cond (is_mark m.Open sort) (Takes (s.Do (a.Dec d.NoVars) ∷ s.Head hp.Var ∷ s.Want m.Comma ∷ s.Head hp.Var ∷ s.Head hp.Vars ∷ s.Head hp.DataName ∷ [])) Fails))
at_head hp.DataName sort t = cond (is_name sort) (Takes (s.Do (a.Dec (d.Head (text_of t.form))) ∷ s.Want m.Equal ∷ s.Con (cp.Body false) ∷ [])) Fails
at_head hp.Var sort t = cond (is_ty_var sort) (Takes (s.Do (a.Dec (d.AddVar (text_of t.form))) ∷ [])) Fails
at_head hp.Vars sort t = cond (is_mark m.Comma sort) (Takes (s.Head hp.Var ∷ s.Head hp.Vars ∷ [])) (cond (is_mark m.Close sort) (Takes []) Fails)
at_head hp.TypeRest sort t = cond (is_mark m.And sort) (Takes (s.Head hp.Type ∷ [])) Skips

-- constructors and exceptions
abbrev pub at_con : ConPhrase → TokenSort → Token → Move
at_con (cp.Body first) sort t = cond (is_name sort) (Takes (s.Do (a.Dec d.NoCons) ∷ s.Do (a.Dec (d.Con (text_of t.form))) ∷ s.Con cp.Argument ∷ s.Do (a.Dec d.AddCon) ∷ s.Con cp.Rest ∷ s.Do (a.Dec d.AddData) ∷ s.Con cp.DataRest ∷ [])) (cond (is_mark m.Datatype sort) (cond first (Takes (s.Do (a.Lack t.span.from l.Replication) ∷ s.Do (a.Dec d.NoCons) ∷ s.Con cp.Original ∷ s.Do (a.Dec d.AddData) ∷ [])) Fails) Fails)
at_con cp.Original sort t = cond (is_type_name sort) (Takes []) Fails
at_con cp.Bind sort t = cond (is_name sort) (Takes (s.Do (a.Dec (d.Con (text_of t.form))) ∷ s.Con cp.Argument ∷ s.Do (a.Dec d.AddCon) ∷ [])) Fails
at_con cp.Argument sort t = cond (is_mark m.Of sort) (Takes (s.Ty (tp.Whole true) ∷ s.Do (a.Dec d.ConOf) ∷ [])) Skips
at_con cp.Rest sort t = cond (is_mark m.Bar sort) (Takes (s.Con cp.Bind ∷ s.Con cp.Rest ∷ [])) Skips
at_con cp.DataRest sort t = cond (is_mark m.And sort) (Takes (s.Head (hp.Data false) ∷ [])) Skips
at_con cp.Exn sort t = cond (is_name sort) (Takes (s.Do (a.Dec (d.Con (text_of t.form))) ∷ s.Con (cp.ExnArgument t.span.from) ∷ s.Do (a.Dec d.AddCon) ∷ [])) Fails
at_con (cp.ExnArgument from) sort t = cond (is_mark m.Of sort) (Takes (s.Ty (tp.Whole false) ∷ s.Do (a.Dec d.ConOf) ∷ [])) (cond (is_mark m.Equal sort) (Takes (s.Do (a.Lack from l.Replication) ∷ s.Con cp.Original ∷ [])) Skips)
at_con cp.ExnRest sort t = cond (is_mark m.And sort) (Takes (s.Con cp.Exn ∷ s.Con cp.ExnRest ∷ [])) Skips

-- the first clause of a function
abbrev pub at_fun : FunPhrase → TokenSort → Token → Move
at_fun fp.Bind sort t = cond (is_mark m.Op sort) (Takes (s.Do (a.Exp x.NoRules) ∷ s.Do (a.Pat p.NoPats) ∷ s.Fun (fp.Op t.span.from) ∷ [])) (cond (is_type_name sort) (Takes (s.Do (a.Exp x.NoRules) ∷ s.Do (a.Pat p.NoPats) ∷ s.Fun (fp.Head t.span.from t.span.from (text_of t.form)) ∷ [])) (cond (begins_pat sort) (Takes ((s.Do (a.Exp x.NoRules) ∷ s.Do (a.Pat p.NoPats) ∷ []) ++ (atpat_take sort t ++ (s.Fun (fp.Infix t.span.from) ∷ [])))) Fails))
at_fun fp.Rest sort t = cond (is_mark m.And sort) (Takes (s.Fun fp.Bind ∷ s.Fun fp.Rest ∷ [])) Skips
at_fun (fp.Op from) sort t = cond (is_any_name sort) (Takes (s.Fun (fp.Head from t.span.from (text_of t.form)) ∷ [])) Fails
at_fun (fp.Head from name_at head) sort t = cond (is_infix_name sort) (Takes (s.Do (a.Pat (p.Name name_at head)) ∷ s.Do (a.Lack t.span.from l.InfixClause) ∷ s.Pat pp.Atomic ∷ s.Do (a.Pat (p.Pair from)) ∷ s.Do (a.Pat p.Push) ∷ s.Fun (fp.Equals from 1) ∷ s.Later (lp.Rest (text_of t.form) 1) ∷ s.Do (a.Dec (d.AddRec (text_of t.form))) ∷ [])) (cond (begins_pat sort) (Takes (atpat_take sort t ++ (s.Do (a.Pat p.Push) ∷ s.Fun (fp.Patterns from head 1) ∷ []))) Fails)
at_fun (fp.Infix from) sort t = cond (is_infix_name sort) (Takes (s.Do (a.Lack t.span.from l.InfixClause) ∷ s.Pat pp.Atomic ∷ s.Do (a.Pat (p.Pair from)) ∷ s.Do (a.Pat p.Push) ∷ s.Fun (fp.Equals from 1) ∷ s.Later (lp.Rest (text_of t.form) 1) ∷ s.Do (a.Dec (d.AddRec (text_of t.form))) ∷ [])) Fails
at_fun (fp.Patterns from name count) sort t = cond (begins_pat sort) (Takes (atpat_take sort t ++ (s.Do (a.Pat p.Push) ∷ s.Fun (fp.Patterns from name (one_more count)) ∷ []))) (cond (begins_body sort) (Takes (body_take from count sort ++ ((s.Later (lp.Rest name count) ∷ []) ++ end_take from name count))) Fails)
at_fun (fp.Equals from count) sort t = cond (begins_body sort) (Takes (body_take from count sort)) Fails

-- its later clauses
abbrev pub at_later : LaterPhrase → TokenSort → Token → Move
at_later (lp.Rest name count) sort t = cond (is_mark m.Bar sort) (Takes (s.Later (lp.Clause name count) ∷ s.Later (lp.Rest name count) ∷ [])) Skips
at_later (lp.Clause name count) sort t = cond (is_mark m.Op sort) (Takes (s.Do (a.Pat p.NoPats) ∷ s.Later (lp.Op t.span.from name count) ∷ [])) (cond (is_type_name sort) (cond (may_be_infix name count) (Takes (s.Do (a.Pat p.NoPats) ∷ s.Later (lp.Head t.span.from t.span.from (text_of t.form) name) ∷ [])) (cond (bytes_eq name (text_of t.form)) (Takes (s.Do (a.Pat p.NoPats) ∷ s.Later (lp.Patterns count) ∷ s.Fun (fp.Equals t.span.from count) ∷ [])) Fails)) (cond (begins_pat sort) (cond (may_be_infix name count) (Takes ((s.Do (a.Pat p.NoPats) ∷ []) ++ (atpat_take sort t ++ (s.Later (lp.Infix t.span.from name) ∷ [])))) Fails) Fails))
at_later (lp.Op from name count) sort t = cond (is_any_name sort) (cond (may_be_infix name count) (Takes (s.Later (lp.Head from t.span.from (text_of t.form) name) ∷ [])) (cond (bytes_eq name (text_of t.form)) (Takes (s.Later (lp.Patterns count) ∷ s.Fun (fp.Equals from count) ∷ [])) Fails)) Fails
at_later (lp.Head from name_at head name) sort t = cond (is_infix_name sort) (cond (bytes_eq name (text_of t.form)) (Takes (s.Do (a.Pat (p.Name name_at head)) ∷ s.Do (a.Lack t.span.from l.InfixClause) ∷ s.Pat pp.Atomic ∷ s.Do (a.Pat (p.Pair from)) ∷ s.Do (a.Pat p.Push) ∷ s.Fun (fp.Equals from 1) ∷ [])) Fails) (cond (begins_pat sort) (cond (bytes_eq head name) (Takes (atpat_take sort t ++ (s.Do (a.Pat p.Push) ∷ s.Fun (fp.Equals from 1) ∷ []))) Fails) Fails)
at_later (lp.Infix from name) sort t = cond (is_infix_name sort) (cond (bytes_eq name (text_of t.form)) (Takes (s.Do (a.Lack t.span.from l.InfixClause) ∷ s.Pat pp.Atomic ∷ s.Do (a.Pat (p.Pair from)) ∷ s.Do (a.Pat p.Push) ∷ s.Fun (fp.Equals from 1) ∷ [])) Fails) Fails
at_later (lp.Patterns count) sort t = cond (count == 0) Skips (cond (begins_pat sort) (Takes (atpat_take sort t ++ (s.Do (a.Pat p.Push) ∷ s.Later (lp.Patterns (count - 1)) ∷ []))) Fails)
