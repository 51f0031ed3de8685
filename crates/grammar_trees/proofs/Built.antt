-- The acts of a derivation build its tree, where it has no lacks.
use Rattle.std.proofs.Common.{◌≡◌, ℕ, suc, List, [], ◌∷◌, ◌++◌, length, Bool, true, false, cond, nat_lt, refl, ap, sym, ◌∙◌, append_assoc, subst, arith, Some, None}
use Rattle.std.proofs.lemmas.List.{append-nil}
use Rattle.std.proofs.lemmas.Bool.{lt-ltb}
use Rattle.sml_syntax.specs.declared.token.Token.{Token}
use Rattle.sml_syntax.specs.declared.tree.Span.{Span}
use Rattle.sml_syntax.specs.declared.tree.Exp.{Exp}
use Rattle.sml_syntax.specs.declared.tree.Pat.{Pat}
use Rattle.sml_syntax.specs.declared.tree.PatForm.{out-PatForm, out-roll-PatForm}
use Rattle.sml_syntax.specs.declared.tree.PatForm.TheOpen.{PatForm-F}
use Rattle.sml_syntax.specs.declared.tree.PatForm.TheVariants as pf
use Rattle.sml_syntax.specs.declared.tree.Rule.{Rule}
use Rattle.sml_syntax.specs.declared.tree.Piece.TheVariants as piece
use Rattle.sml_syntax.specs.NestedTypes.{Found, nested_in_bindings}
use Rattle.grammar_rules.specs.Nodes.{span_of, extent, first_of, last_of, pat_at, rule_of, clause_pat, function_rules, curried, it_dec}
use Rattle.grammar_rules.specs.Grammar as g
use Rattle.grammar_rules.specs.Grammar.{local_lack}
use Rattle.sml_grammar.specs.declared.act.Made.{Made}
use Rattle.sml_grammar.specs.declared.act.Act.{Act}
use Rattle.sml_grammar.specs.declared.act.Act.TheVariants as a
use Rattle.sml_grammar.specs.declared.act.PatAct.TheVariants as q
use Rattle.sml_grammar.specs.declared.act.DecAct.TheVariants as b
use Rattle.sml_grammar.specs.Machine.{made}
use Rattle.parse_values.specs.declared.value.Val.{Val}
use Rattle.parse_values.specs.declared.value.Val.TheVariants as v
use Rattle.parse_values.specs.declared.value.ExpVal.TheVariants as xv
use Rattle.parse_values.specs.declared.value.PatVal.{PatVal}
use Rattle.parse_values.specs.declared.value.PatVal.TheVariants as pv
use Rattle.parse_values.specs.declared.value.TyVal.TheVariants as tv
use Rattle.parse_values.specs.declared.value.DecVal.TheVariants as dv
use Rattle.parse_values.specs.declared.value.DefVal.TheVariants as fv
use Rattle.parse_values.specs.Values.{on_exp, on_exps, on_rules, on_pieces, on_pat, on_pats, on_ty, on_tys, on_dec, on_decs, on_binds, on_recs, on_vars, on_abbrevs, on_cons, on_datas, on_head, on_con, on_clause_pat}
use Rattle.parse_build.specs.Building.{apply_all, con_pat, apply, apply_ty, apply_pat, apply_exp, apply_dec}
use Rattle.grammar_trees.specs.Tells as t
use Rattle.grammar_trees.specs.Tells.{Tells, local_acts, tupled_acts, end_acts}
use Rattle.grammar_trees.specs.Builds.{Makes, Builds}

-- nothing more
pub end : (vs : List Val) → Makes [] vs vs
unfolding apply_all
end vs = record { makes = refl }

-- acts, and then others
pub m-then : {n m : List Made} {vs ws us : List Val} → Makes n vs ws → Makes m ws us → Makes (n ++ m) vs us
unfolding apply_all
m-then {n = []} {m} {vs} p q = record { makes = ap (apply_all m) p.makes ∙ q.makes }
m-then {n = x ∷ n} {m} {vs} {ws} {us} p q = record { makes = (m-then {n = n} {m = m} {vs = apply x.act x.to vs} {ws = ws} {us = us} (record { makes = p.makes }) q).makes }

-- an act, and then others
pub m-act : {f : Act} {to : ℕ} {n : List Made} {vs ws us : List Val} → apply f to vs ≡ ws → Makes n ws us → Makes (made f to ∷ n) vs us
unfolding apply_all
m-act {n = n} e p = record { makes = ap (apply_all n) e ∙ p.makes }

-- one that joined what is gathered, and then more
pub joined : {A : Type 0} {n : List Made} {old : List Val} (f : List A → Val) (acc : List A) (one : A) (more : List A) (vs : List Val) → Makes n old (f ((acc ++ one ∷ []) ++ more) ∷ vs) → Makes n old (f (acc ++ one ∷ more) ∷ vs)
joined {n = n} {old = old} f acc one more vs p = subst (λ z. Makes n old (f z ∷ vs)) (append_assoc acc (one ∷ []) more) p

-- no lacks in both parts
pub none-left : {ls : List Found} (ms : List Found) → ls ++ ms ≡ [] → ls ≡ []
none-left {ls = []} ms h = refl
none-left {ls = l ∷ ls} ms h = cc

pub none-right : (ls : List Found) {ms : List Found} → ls ++ ms ≡ [] → ms ≡ []
none-right [] h = h
none-right (l ∷ ls) h = cc

-- nothing more joins what is gathered
pub gathered : {A : Type 0} (f : List A → Val) (acc : List A) (vs : List Val) → Makes [] (f acc ∷ vs) (f (acc ++ []) ∷ vs)
gathered f acc vs = subst (λ z. Makes [] (f acc ∷ vs) (f z ∷ vs)) (sym (append-nil acc)) (end (f acc ∷ vs))

-- lacks that are there
pub not-none : (ls : List Found) (found : Found) (ms : List Found) → ls ++ found ∷ ms ≡ [] → ⊥
not-none [] found ms h = cc
not-none (l ∷ ls) found ms h = cc

-- a lack builds nothing
pub local-made : (i : Bool) (word : Token) (vs : List Val) → Makes (local_acts i word) vs vs
unfolding apply
local-made false word vs = end vs
local-made true word vs = m-act refl (end vs)

-- a name and an argument
con-act : (from to : ℕ) (span : Span) (name : List ℕ) (argument : Pat) (vs : List Val)
    → apply (a.Pat (q.Con from)) to (v.Pat (pv.One argument) ∷ v.Pat (pv.One (pat_at span (pf.Name name))) ∷ vs) ≡ v.Pat (pv.One (pat_at (span_of from to) (pf.Con name argument))) ∷ vs
unfolding apply apply_pat on_pat
con-act from to span name argument vs = ap (con_pat from to argument vs) (ap out-PatForm (sym (pf.rolls-Name name)) ∙ out-roll-PatForm (PatForm-F.Name name))

-- the patterns of a clause: several are a tuple
abbrev taken : Bool → List Pat → PatVal
taken false ps = pv.Many ps
taken true ps = pv.Tupled ps

tupled-made : (w : Bool) (to : ℕ) (ps : List Pat) (vs : List Val) → Makes (cond w (made (a.Pat q.Tupled) to ∷ []) []) (v.Pat (pv.Many ps) ∷ vs) (v.Pat (taken w ps) ∷ vs)
unfolding apply apply_pat on_pats
tupled-made false to ps vs = end _
tupled-made true to ps vs = m-act refl (end _)

-- so many patterns
pub so-many : {n next : ℕ} {ts : List Token} {ps : List Pat} {ls : List Found} {new : List Made} → Tells (g.atpats n) next ts (g.pats_tree ps) ls new → length ps ≡ n
so-many t.atpats_none = refl
so-many (t.atpats_more d f) = ap suc (so-many f)

several : (n : ℕ) → nat_lt 1 (suc (suc n)) ≡ true
several n = lt-ltb 1 (suc (suc n)) (omega arith)

clause-head : (span : Span) (f : Pat → List Val → List Val) (count : ℕ) (first : Pat) (more : List Pat) (vs : List Val) → length (first ∷ more) ≡ suc count → on_clause_pat span f (v.Pat (taken (nat_lt 1 (suc count)) (first ∷ more)) ∷ vs) ≡ f (clause_pat span first more) vs
unfolding on_clause_pat
clause-head span f count first [] vs e = ap (λ n. on_clause_pat span f (v.Pat (taken (nat_lt 1 n) (first ∷ [])) ∷ vs)) (sym e)
clause-head span f count first (next ∷ more) vs e = ap (λ n. on_clause_pat span f (v.Pat (taken (nat_lt 1 n) (first ∷ next ∷ more)) ∷ vs)) (sym e) ∙ ap (λ w. on_clause_pat span f (v.Pat (taken w (first ∷ next ∷ more)) ∷ vs)) (several (length more))

add-clause : (from to count : ℕ) (first : Pat) (more : List Pat) (body : Exp) (acc : List Rule) (vs : List Val) → length (first ∷ more) ≡ suc count
    → apply (a.Dec (b.AddClause from)) to (v.Exp (xv.One body) ∷ v.Pat (taken (nat_lt 1 (suc count)) (first ∷ more)) ∷ v.Exp (xv.Rules acc) ∷ vs) ≡ v.Exp (xv.Rules (acc ++ rule_of (clause_pat (span_of from to) first more) body ∷ [])) ∷ vs
unfolding apply apply_dec on_exp on_rules
add-clause from to count first more body acc vs e = clause-head (span_of from to) (λ head. on_rules (λ rs ws. v.Exp (xv.Rules (rs ++ rule_of head body ∷ [])) ∷ ws)) count first more (v.Exp (xv.Rules acc) ∷ vs) e

-- the end of a function
end-made : (from to count : ℕ) (name : List ℕ) (rules : List Rule) (acc : List (List ℕ × List Rule)) (vs : List Val)
    → Makes (end_acts from name count to) (v.Exp (xv.Rules rules) ∷ v.Dec (dv.Recs acc) ∷ vs) (v.Dec (dv.Recs (acc ++ (name, function_rules (span_of from to) count rules) ∷ [])) ∷ vs)
unfolding apply apply_dec on_rules on_recs
end-made from to count name rules acc vs = go (nat_lt 1 count)
  where
    go : (w : Bool) → Makes (cond w (made (a.Dec (b.Curry from count)) to ∷ made (a.Dec (b.AddRec name)) to ∷ []) (made (a.Dec (b.AddRec name)) to ∷ [])) (v.Exp (xv.Rules rules) ∷ v.Dec (dv.Recs acc) ∷ vs) (v.Dec (dv.Recs (acc ++ (name, cond w (curried (span_of from to) count rules ∷ []) rules) ∷ [])) ∷ vs)
    go true = m-act refl (m-act refl (end _))
    go false = m-act refl (end _)

-- What the acts of a phrase without lacks build is its tree.
pub builds : {c : g.Phrase} {next : ℕ} {ts : List Token} {tree : g.Tree} {ls : List Found} {new : List Made} → Tells c next ts tree ls new → ls ≡ [] → Builds ts tree new
unfolding apply apply_exp apply_pat apply_ty apply_dec on_exp on_exps on_rules on_pieces on_pat on_pats on_ty on_tys on_dec on_decs on_binds on_recs on_vars on_abbrevs on_cons on_datas on_head on_con
builds (t.atx_int word number h0) e = λ vs. m-act refl (end _)
builds (t.atx_char word byte h0) e = λ vs. m-act refl (end _)
builds (t.atx_str word text h0) e = λ vs. m-act refl (end _)
builds (t.atx_name word name h0) e = λ vs. m-act refl (end _)
builds (t.atx_op op word name h0 h1) e = λ vs. m-act refl (end _)
builds (t.atx_op_equals op word h0 h1) e = λ vs. m-act refl (end _)
builds (t.atx_quote from to h0 d1 h2) e = λ vs. m-act refl (m-then (builds d1 e _ _) (m-act refl (end _)))
builds (t.atx_unit opening closing h0 h1) e = λ vs. m-act refl (end _)
builds (t.atx_paren opening closing h0 d1 h2) e = λ vs. builds d1 e _
builds (t.atx_tuple {ls = ls} {ms = ms} opening word closing h0 d1 h2 d2 h4) e = λ vs. m-then (builds d1 (none-left ms e) _) (m-act refl (m-then (builds d2 (none-right ls e) _ _) (m-act refl (end _))))
builds (t.atx_seq {ls = ls} {ms = ms} opening word closing h0 d1 h2 d2 h4) e = λ vs. m-then (builds d1 (none-left ms e) _) (m-act refl (m-then (builds d2 (none-right ls e) _ _) (m-act refl (end _))))
builds (t.atx_no_list opening closing h0 h1) e = λ vs. m-act refl (m-act refl (end _))
builds (t.atx_list opening closing h0 d1 h2) e = λ vs. m-act refl (m-then (builds d1 e _ _) (m-act refl (end _)))
builds (t.atx_let {ls = ls} {ms = ms} let_ in_ end_ h0 d1 h2 d2 h4) e = λ vs. m-act refl (m-then (builds d1 (none-left ms e) _ _) (m-act refl (m-then (builds d2 (none-right ls e) _ _) (m-act refl (end _)))))
builds (t.quoted_last next d1) e = λ acc vs. builds d1 refl _ _
builds (t.no_text next) e = λ acc vs. m-act refl (end _)
builds (t.some_text next word byte bytes h0) e = λ acc vs. m-act refl (end _)
builds (t.anti_name word name h0) e = λ vs. m-act refl (end _)
builds (t.anti_exp from to h0 d1 h2) e = λ vs. builds d1 e _
builds (t.exps_one d1) e = λ acc vs. m-then (builds d1 e _) (m-act refl (end _))
builds (t.exps_more {one = one} {more = more} {ls = ls} {ms = ms} word d1 h1 d2) e = λ acc vs. m-then (builds d1 (none-left ms e) _) (m-act refl (joined (λ z. v.Exp (xv.Many z)) acc one more vs (builds d2 (none-right ls e) _ _)))
builds (t.app_one d1) e = builds d1 e
builds (t.app_to {ls = ls} {ms = ms} d1 d2) e = λ vs. m-then (builds d1 (none-left ms e) _) (m-then (builds d2 (none-right ls e) _) (m-act refl (end _)))
builds (t.inf_top d1) e = builds d1 e
builds (t.inf_up d1) e = builds d1 e
builds (t.inf_left {ls = ls} {ms = ms} word h0 h1 d1 d2) e = λ vs. m-then (builds d1 (none-left ms e) _) (m-act refl (m-then (builds d2 (none-right ls e) _) (m-act refl (end _))))
builds (t.inf_right {ls = ls} {ms = ms} word h0 h1 d1 d2) e = λ vs. m-then (builds d1 (none-left ms e) _) (m-act refl (m-then (builds d2 (none-right ls e) _) (m-act refl (end _))))
builds (t.tyx_one d1) e = builds d1 e
builds (t.tyx_typed {ls = ls} {ms = ms} word d1 h1 d2) e = λ vs. m-then (builds d1 (none-left ms e) _) (m-then (builds d2 (none-right ls e) _) (m-act refl (end _)))
builds (t.andc_one d1) e = builds d1 e
builds (t.andc_both {ls = ls} {ms = ms} word d1 h1 d2) e = λ vs. m-then (builds d1 (none-left ms e) _) (m-then (builds d2 (none-right ls e) _) (m-act refl (end _)))
builds (t.ande_tail {ls = ls} {ms = ms} word d1 h1 d2) e = λ vs. m-then (builds d1 (none-left ms e) _) (m-then (builds d2 (none-right ls e) _) (m-act refl (end _)))
builds (t.ande_more {ls = ls} {ms = ms} word d1 h1 d2) e = λ vs. m-then (builds d1 (none-left ms e) _) (m-then (builds d2 (none-right ls e) _) (m-act refl (end _)))
builds (t.orc_one d1) e = builds d1 e
builds (t.orc_either {ls = ls} {ms = ms} word d1 h1 d2) e = λ vs. m-then (builds d1 (none-left ms e) _) (m-then (builds d2 (none-right ls e) _) (m-act refl (end _)))
builds (t.ore_one d1) e = builds d1 e
builds (t.ore_tail {ls = ls} {ms = ms} word d1 h1 d2) e = λ vs. m-then (builds d1 (none-left ms e) _) (m-then (builds d2 (none-right ls e) _) (m-act refl (end _)))
builds (t.ore_more {ls = ls} {ms = ms} word d1 h1 d2) e = λ vs. m-then (builds d1 (none-left ms e) _) (m-then (builds d2 (none-right ls e) _) (m-act refl (end _)))
builds (t.exp_tail d1) e = builds d1 e
builds (t.exp_orc d1) e = builds d1 e
builds (t.exp_ore d1) e = builds d1 e
builds (t.exp_handle {ls = ls} {ms = ms} word d1 h1 d2) e = λ vs. m-then (builds d1 (none-left ms e) _) (m-act refl (m-then (builds d2 (none-right ls e) _ _) (m-act refl (end _))))
builds (t.tail_raise word h0 d1) e = λ vs. m-then (builds d1 e _) (m-act refl (end _))
builds (t.tail_if {ls = ls} {ms = ms} {ns = ns} if_ then_ else_ h0 d1 h2 d2 h4 d3) e = λ vs. m-then (builds d1 (none-left ms (none-left ns e)) _) (m-then (builds d2 (none-right ls (none-left ns e)) _) (m-then (builds d3 (none-right (ls ++ ms) e) _) (m-act refl (end _))))
builds (t.tail_case {ls = ls} {ms = ms} case_ of_ h0 d1 h2 d2) e = λ vs. m-then (builds d1 (none-left ms e) _) (m-act refl (m-then (builds d2 (none-right ls e) _ _) (m-act refl (end _))))
builds (t.tail_fn word h0 d1) e = λ vs. m-act refl (m-then (builds d1 e _ _) (m-act refl (end _)))
builds (t.match_last d1) e = λ acc vs. builds d1 e _ _
builds (t.match_more {one = one} {more = more} {ls = ls} {ms = ms} bar d1 h1 d2) e = λ acc vs. m-then (builds d1 (none-left ms e) _ _) (joined (λ z. v.Exp (xv.Rules z)) acc one more vs (builds d2 (none-right ls e) _ _))
builds (t.one_rule {ls = ls} {ms = ms} arrow d1 h1 d2) e = λ acc vs. m-then (builds d1 (none-left ms e) _) (m-then (builds d2 (none-right ls e) _) (m-act refl (end _)))
builds (t.head_name word name h0) e = λ vs. m-act refl (end _)
builds (t.head_op op word name h0 h1) e = λ vs. m-act refl (end _)
builds (t.atpat_any word h0) e = λ vs. m-act refl (end _)
builds (t.atpat_int word number h0) e = λ vs. m-act refl (end _)
builds (t.atpat_char word byte h0) e = λ vs. m-act refl (end _)
builds (t.atpat_str word text h0) e = λ vs. m-act refl (end _)
builds (t.atpat_name d1) e = λ vs. builds d1 refl _
builds (t.atpat_unit opening closing h0 h1) e = λ vs. m-act refl (end _)
builds (t.atpat_paren opening closing h0 d1 h2) e = λ vs. builds d1 e _
builds (t.atpat_tuple {ls = ls} {ms = ms} opening comma closing h0 d1 h2 d2 h4) e = λ vs. m-then (builds d1 (none-left ms e) _) (m-act refl (m-then (builds d2 (none-right ls e) _ _) (m-act refl (end _))))
builds (t.atpat_no_list opening closing h0 h1) e = λ vs. m-act refl (m-act refl (end _))
builds (t.atpat_list opening closing h0 d1 h2) e = λ vs. m-act refl (m-then (builds d1 e _ _) (m-act refl (end _)))
builds (t.pats_one d1) e = λ acc vs. m-then (builds d1 e _) (m-act refl (end _))
builds (t.pats_more {one = one} {more = more} {ls = ls} {ms = ms} comma d1 h1 d2) e = λ acc vs. m-then (builds d1 (none-left ms e) _) (m-act refl (joined (λ z. v.Pat (pv.Many z)) acc one more vs (builds d2 (none-right ls e) _ _)))
builds (t.atpats_more {one = one} {more = more} {ls = ls} {ms = ms} d1 d2) e = λ acc vs. m-then (builds d1 (none-left ms e) _) (m-act refl (joined (λ z. v.Pat (pv.Many z)) acc one more vs (builds d2 (none-right ls e) _ _)))
builds (t.apat_one d1) e = builds d1 e
builds (t.cpat_one d1) e = builds d1 e
builds (t.cpat_cons {ls = ls} {ms = ms} word d1 h1 d2) e = λ vs. m-then (builds d1 (none-left ms e) _) (m-then (builds d2 (none-right ls e) _) (m-act refl (end _)))
builds (t.pat_one d1) e = builds d1 e
builds (t.pat_typed {ls = ls} {ms = ms} word d1 h1 d2) e = λ vs. m-then (builds d1 (none-left ms e) _) (m-then (builds d2 (none-right ls e) _) (m-act refl (end _)))
builds (t.conty_name word name h0) e = λ vs. m-act refl (m-act refl (end _))
builds (t.conty_paren opening closing h0 d1 h2) e = λ vs. builds d1 e _
builds (t.conty_one word name d1 h1) e = λ vs. m-then (builds d1 e _) (m-act refl (m-act refl (end _)))
builds (t.conty_several {ls = ls} {ms = ms} opening comma closing word name h0 d1 h2 d2 h4 h5) e = λ vs. m-then (builds d1 (none-left ms e) _) (m-act refl (m-then (builds d2 (none-right ls e) _ _) (m-act refl (end _))))
builds (t.tys_one d1) e = λ acc vs. m-then (builds d1 e _) (m-act refl (end _))
builds (t.tys_more {one = one} {more = more} {ls = ls} {ms = ms} comma d1 h1 d2) e = λ acc vs. m-then (builds d1 (none-left ms e) _) (m-act refl (joined (λ z. v.Ty (tv.Many z)) acc one more vs (builds d2 (none-right ls e) _ _)))
builds (t.stars_one d1) e = λ acc vs. m-then (builds d1 e _) (m-act refl (end _))
builds (t.stars_more {one = one} {more = more} {ls = ls} {ms = ms} word d1 h1 d2) e = λ acc vs. m-then (builds d1 (none-left ms e) _) (m-act refl (joined (λ z. v.Ty (tv.Many z)) acc one more vs (builds d2 (none-right ls e) _ _)))
builds (t.tupty_one d1) e = λ vs. builds d1 e _
builds (t.tupty_several {ls = ls} {ms = ms} word d1 h1 d2) e = λ vs. m-then (builds d1 (none-left ms e) _) (m-act refl (m-then (builds d2 (none-right ls e) _ _) (m-act refl (end _))))
builds (t.ty_one d1) e = builds d1 e
builds (t.ty_arrow {ls = ls} {ms = ms} word d1 h1 d2) e = λ vs. m-then (builds d1 (none-left ms e) _) (m-then (builds d2 (none-right ls e) _) (m-act refl (end _)))
builds (t.vars_one word name h0) e = λ acc vs. m-act refl (end _)
builds (t.more_vars_one word name h0) e = λ acc vs. m-act refl (end _)
builds (t.more_vars_more {more = more} word comma name h0 h1 d1) e = λ acc vs. m-act refl (joined (λ z. v.Def (fv.Vars z)) acc name more vs (builds d1 refl _ _))
builds (t.dec_val word h0 d1) e = λ vs. m-act refl (m-then (builds d1 e _ _) (m-act refl (end _)))
builds (t.dec_rec word rec_ h0 h1 d1) e = λ vs. m-act refl (m-then (builds d1 e _ _) (m-act refl (end _)))
builds (t.dec_fun word h0 d1) e = λ vs. m-act refl (m-then (builds d1 e _ _) (m-act refl (end _)))
builds (t.dec_type {i = i} word h0 d1) e = λ vs. m-then (local-made i word _) (m-act refl (m-then (builds d1 (none-right (local_lack i word) e) _ _) (m-act refl (end _))))
builds (t.dec_datatype {i = i} {ts = ts} {all = all} word h0 d1) e = λ vs. m-then (local-made i word _) (m-act refl (m-then (builds d1 (none-right (local_lack i word) (none-left (nested_in_bindings (length ts) all all) e)) _ _) (m-act refl (end _))))
builds (t.dec_exception {i = i} word h0 d1) e = λ vs. m-then (local-made i word _) (m-act refl (m-then (builds d1 (none-right (local_lack i word) e) _ _) (m-act refl (end _))))
builds (t.dec_local {ls = ls} {ms = ms} local_ in_ end_ h0 d1 h2 d2 h4) e = λ vs. m-act refl (m-then (builds d1 (none-left ms e) _ _) (m-act refl (m-then (builds d2 (none-right ls e) _ _) (m-act refl (end _)))))
builds (t.decs_more {one = one} {more = more} {ls = ls} {ms = ms} d1 d2) e = λ acc vs. m-then (builds d1 (none-left ms e) _) (m-act refl (joined (λ z. v.Dec (dv.Many z)) acc one more vs (builds d2 (none-right ls e) _ _)))
builds (t.decs_parted {one = one} {more = more} {ls = ls} {ms = ms} word d1 h1 d2) e = λ acc vs. m-then (builds d1 (none-left ms e) _) (m-act refl (joined (λ z. v.Dec (dv.Many z)) acc one more vs (builds d2 (none-right ls e) _ _)))
builds (t.binds_one {ls = ls} {ms = ms} equals d1 h1 d2) e = λ acc vs. m-then (builds d1 (none-left ms e) _) (m-then (builds d2 (none-right ls e) _) (m-act refl (end _)))
builds (t.binds_more {left = left} {body = body} {more = more} {ls = ls} {ms = ms} {ns = ns} equals and_ d1 h1 d2 h3 d3) e = λ acc vs. m-then (builds d1 (none-left ms (none-left ns e)) _) (m-then (builds d2 (none-right ls (none-left ns e)) _) (m-act refl (joined (λ z. v.Dec (dv.Binds z)) acc (left, body) more vs (builds d3 (none-right (ls ++ ms) e) _ _))))
builds (t.recs_one word equals fn_ name h0 h1 h2 d1) e = λ acc vs. m-act refl (m-then (builds d1 e _ _) (m-act refl (end _)))
builds (t.recs_more {rules = rules} {more = more} {ls = ls} {ms = ms} word equals fn_ and_ name h0 h1 h2 d1 h4 d2) e = λ acc vs. m-act refl (m-then (builds d1 (none-left ms e) _ _) (m-act refl (joined (λ z. v.Dec (dv.Recs z)) acc (name, rules) more vs (builds d2 (none-right ls e) _ _))))
builds (t.clauses_last d1) e = λ acc vs. builds d1 e _ _
builds (t.clauses_more {one = one} {more = more} {ls = ls} {ms = ms} bar d1 h1 d2) e = λ acc vs. m-then (builds d1 (none-left ms e) _ _) (joined (λ z. v.Exp (xv.Rules z)) acc one more vs (builds d2 (none-right ls e) _ _))
builds (t.abbrevs_one word equals name d1 h1 h2 d2) e = λ acc vs. m-act refl (m-then (builds d1 refl _ _) (m-act refl (m-then (builds d2 e _) (m-act refl (end _)))))
builds (t.abbrevs_more {names = names} {type_ = type_} {more = more} {ls = ls} {ms = ms} word equals and_ name d1 h1 h2 d2 h4 d3) e = λ acc vs. m-act refl (m-then (builds d1 refl _ _) (m-act refl (m-then (builds d2 (none-left ms e) _) (m-act refl (joined (λ z. v.Def (fv.Abbrevs z)) acc (names, name, type_) more vs (builds d3 (none-right ls e) _ _))))))
builds (t.datas_one word equals name d1 h1 h2 d2) e = λ acc vs. m-act refl (m-then (builds d1 refl _ _) (m-act refl (m-act refl (m-then (builds d2 e _ _) (m-act refl (end _))))))
builds (t.datas_more {names = names} {all = all} {more = more} {ls = ls} {ms = ms} word equals and_ name d1 h1 h2 d2 h4 d3) e = λ acc vs. m-act refl (m-then (builds d1 refl _ _) (m-act refl (m-act refl (m-then (builds d2 (none-left ms e) _ _) (m-act refl (joined (λ z. v.Def (fv.Datas z)) acc (names, name, all) more vs (builds d3 (none-right ls e) _ _)))))))
builds (t.cons_one word name h0) e = λ acc vs. m-act refl (m-act refl (end _))
builds (t.cons_of word of_ name h0 h1 d1) e = λ acc vs. m-act refl (m-then (builds d1 e _) (m-act refl (m-act refl (end _))))
builds (t.cons_more {more = more} word bar name h0 h1 d1) e = λ acc vs. m-act refl (m-act refl (joined (λ z. v.Def (fv.Cons z)) acc (name, None) more vs (builds d1 e _ _)))
builds (t.cons_of_more {type_ = type_} {more = more} {ls = ls} {ms = ms} word of_ bar name h0 h1 d1 h3 d2) e = λ acc vs. m-act refl (m-then (builds d1 (none-left ms e) _) (m-act refl (m-act refl (joined (λ z. v.Def (fv.Cons z)) acc (name, Some type_) more vs (builds d2 (none-right ls e) _ _)))))
builds (t.exns_one word name h0) e = λ acc vs. m-act refl (m-act refl (end _))
builds (t.exns_of word of_ name h0 h1 d1) e = λ acc vs. m-act refl (m-then (builds d1 e _) (m-act refl (m-act refl (end _))))
builds (t.exns_more {more = more} word and_ name h0 h1 d1) e = λ acc vs. m-act refl (m-act refl (joined (λ z. v.Def (fv.Cons z)) acc (name, None) more vs (builds d1 e _ _)))
builds (t.exns_of_more {type_ = type_} {more = more} {ls = ls} {ms = ms} word of_ and_ name h0 h1 d1 h3 d2) e = λ acc vs. m-act refl (m-then (builds d1 (none-left ms e) _) (m-act refl (m-act refl (joined (λ z. v.Def (fv.Cons z)) acc (name, Some type_) more vs (builds d2 (none-right ls e) _ _)))))
builds (t.items_dec {one = one} {more = more} {ls = ls} {ms = ms} d1 d2) e = λ acc vs. m-then (builds d1 (none-left ms e) _) (m-act refl (joined (λ z. v.Dec (dv.Many z)) acc one more vs (builds d2 (none-right ls e) _ _)))
builds (t.items_exp d1) e = λ acc vs. m-then (builds d1 e _) (m-act refl (m-act refl (end _)))
builds (t.items_exp_more {ts = ts} {body = body} {more = more} {ls = ls} {ms = ms} word d1 h1 d2) e = λ acc vs. m-then (builds d1 (none-left ms e) _) (m-act refl (m-act refl (joined (λ z. v.Dec (dv.Many z)) acc (it_dec (extent ts) body) more vs (builds d2 (none-right ls e) _ _))))
builds (t.items_after_dec {one = one} {more = more} {ls = ls} {ms = ms} d1 d2) e = λ acc vs. m-then (builds d1 (none-left ms e) _) (m-act refl (joined (λ z. v.Dec (dv.Many z)) acc one more vs (builds d2 (none-right ls e) _ _)))
builds (t.items_after_semicolon word h0 d1) e = λ acc vs. builds d1 e _ _
builds (t.apat_con {ts = ts} {us = us} {place = place} {name = name} {argument = argument} d1 d2) e = λ vs. m-then (builds d1 refl _) (m-then (builds d2 e _) (m-act (con-act place (last_of us) (span_of place (last_of ts)) name argument vs) (end _)))
builds t.vars_none e = λ acc vs. gathered (λ z. v.Def (fv.Vars z)) acc vs
builds (t.vars_several opening closing h0 d1 h2) e = λ acc vs. builds d1 refl acc vs
builds t.atpats_none e = λ acc vs. gathered (λ z. v.Pat (pv.Many z)) acc vs
builds t.decs_none e = λ acc vs. gathered (λ z. v.Dec (dv.Many z)) acc vs
builds t.items_none e = λ acc vs. gathered (λ z. v.Dec (dv.Many z)) acc vs
builds t.items_after_none e = λ acc vs. gathered (λ z. v.Dec (dv.Many z)) acc vs
builds (t.conty_var {v = true} word name h0) e = λ vs. m-act refl (end _)
builds (t.conty_var {v = false} word name h0) e = λ vs. m-act refl (m-act refl (end _))
builds (t.quoted_more {text = text} {anti = anti} {pieces = pieces} {ls = ls} {ms = ms} next d1 d2 d3) e = λ acc vs.
    m-then (builds d1 refl acc vs) (m-then (builds d2 (none-left ms e) _) (m-act refl (joined (λ z. v.Exp (xv.Pieces z)) acc (piece.Plain text) (piece.Anti anti ∷ pieces) vs (joined (λ z. v.Exp (xv.Pieces z)) (acc ++ piece.Plain text ∷ []) (piece.Anti anti) pieces vs (builds d3 (none-right ls e) _ _)))))
builds (t.dec_replication {i = i} word short_ equals again long_ name other h0 h1 h2 h3 h4) e = absurd (not-none (local_lack i word) _ _ e)
builds (t.exns_same word equals long_ name other h0 h1 h2) e = absurd (not-none [] _ _ e)
builds (t.exns_same_more word equals long_ and_ name other h0 h1 h2 h3 d1) e = absurd (not-none [] _ _ e)
builds (t.clause_infix_name {ms = ms} {ns = ns} word equals h0 h1 d1 h2 d2) e = absurd (not-none [] _ _ e)
builds (t.clause_infix {ls = ls} {ms = ms} {ns = ns} word equals d1 h1 h2 d2 h3 d3) e = absurd (not-none ls _ _ (none-left ns e))
builds (t.clause_infix_typed_name {ms = ms} {ns = ns} {ks = ks} word colon equals h0 h1 d1 h2 d2 h3 d3) e = absurd (not-none [] _ _ e)
builds (t.clause_infix_typed {ls = ls} {ms = ms} {ns = ns} {ks = ks} word colon equals d1 h1 h2 d2 h3 d3 h4 d4) e = absurd (not-none ls _ _ (none-left ns (none-left ks e)))
builds (t.funs_one {name = name} {count = count} {ts = ts} {rules = rules} d1) e = λ acc vs. m-act refl (m-then (builds d1 e _ _) (end-made (first_of ts) (last_of ts) count name rules acc vs))
builds (t.funs_more {name = name} {count = count} {ts = ts} {rules = rules} {more = more} {ls = ls} {ms = ms} and_ d1 h1 d2) e = λ acc vs.
    m-act refl (m-then (builds d1 (none-left ms e) _ _) (m-then (end-made (first_of ts) (last_of ts) count name rules acc vs) (joined (λ z. v.Dec (dv.Recs z)) acc (name, function_rules (extent ts) count rules) more vs (builds d2 (none-right ls e) _ _))))
builds (t.clause_plain {count = count} {ts = ts} {us = us} {ws = ws} {first = first} {more = more} {body = body} {ls = ls} {ms = ms} equals d1 d2 h2 d3) e = λ acc vs.
    m-act refl (m-then (builds d2 (none-left ms e) _ _) (m-then (tupled-made (nat_lt 1 (suc count)) equals.span.to (first ∷ more) _) (m-then (builds d3 (none-right ls e) _) (m-act (add-clause (first_of (ts ++ us ++ equals ∷ ws)) (last_of (ts ++ us ++ equals ∷ ws)) count first more body acc vs (so-many d2)) (end _)))))
builds (t.clause_typed {count = count} {ts = ts} {us = us} {vs = types} {ws = ws} {first = first} {more = more} {type_ = type_} {body = body} {ls = ls} {ms = ms} {ns = ns} colon equals d1 d2 h2 d3 h3 d4) e = λ acc vs.
    m-act refl (m-then (builds d2 (none-left ms (none-left ns e)) _ _) (m-then (tupled-made (nat_lt 1 (suc count)) colon.span.to (first ∷ more) _) (m-then (builds d3 (none-right ls (none-left ns e)) _) (m-then (builds d4 (none-right (ls ++ ms) e) _) (m-act refl (m-act (add-clause (first_of (ts ++ us ++ colon ∷ types ++ equals ∷ ws)) (last_of (ts ++ us ++ colon ∷ types ++ equals ∷ ws)) count first more _ acc vs (so-many d2)) (end _)))))))
