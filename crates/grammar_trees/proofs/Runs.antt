-- The machine reads what the grammar derives, and tells the acts of the derivation.
use Rattle.std.proofs.Common.{◌≡◌, ℕ, List, ◌∷◌, sym, ◌∙◌}
use Rattle.sml_syntax.specs.declared.token.Token.{Token}
use Rattle.sml_syntax.specs.NestedTypes.{Found}
use Rattle.grammar_rules.specs.Grammar as g
use Rattle.sml_grammar.specs.Sorts.{is_name, begins_dec, begins_ty, begins_pat, begins_atom, begins_tail, begins_exp}
use Rattle.sml_grammar.specs.declared.act.Made.{Made}
use Rattle.grammar_trees.specs.Tells as t
use Rattle.grammar_trees.specs.Tells.{Tells}
use Rattle.grammar_trees.specs.Claims.{Starting, ContyC, StarsC, TuptyC, TyC, TysC, HeadC, AtpatC, ApatC, CpatC, PatC, PatsC, AtomC, AppC, InfC, TyxC, AndC, OrC, TailC, ExprC, ExpsC, RuleC, MatchC, TextC, AntiC, QuotedC, DecsC}
use Rattle.grammar_trees.specs.Ends.{AndEnds, OrEnds, Ends}
use Rattle.grammar_trees.proofs.Types as ty
use Rattle.grammar_trees.proofs.Patterns as pa
use Rattle.grammar_trees.proofs.Expressions as ex
use Rattle.grammar_trees.proofs.Tails as ta
use Rattle.grammar_trees.proofs.Tails.{any-first}
use Rattle.grammar_trees.proofs.Functions as fu
use Rattle.grammar_trees.specs.FunClaims.{AtpatsC, ClauseC, ClausesC}
use Rattle.grammar_trees.specs.DecClaims.{VarsC, MoreVarsC, ConsC, ExnsC, DatasC, AbbrevsC, BindsC, RecsC, FunsC, DecC, InnersC, ItemsC, ItemsAfterC}
use Rattle.grammar_trees.proofs.Definitions as df
use Rattle.grammar_trees.proofs.Declarations as de
use Rattle.grammar_trees.proofs.Items as it
use Rattle.grammar_trees.proofs.Steps.{after-both}
use Rattle.grammar_rules.specs.Nodes.{last_of, last_after}

abbrev pub Claim : g.Phrase → ℕ → List Token → g.Tree → List Made → Type 0
Claim (g.conty v) next ts tree new = Starting begins_ty (ContyC v new) ts
Claim (g.stars v) next ts tree new = Starting begins_ty (StarsC v new) ts
Claim (g.tupty v) next ts tree new = Starting begins_ty (TuptyC v new) ts
Claim (g.ty v) next ts tree new = Starting begins_ty (TyC v new) ts
Claim (g.tys v) next ts tree new = TysC v new ts
Claim g.head next ts (g.name_tree place name) new = Starting begins_pat (HeadC place new) ts
Claim g.atpat next ts tree new = Starting begins_pat (AtpatC new) ts
Claim g.apat next ts tree new = Starting begins_pat (ApatC new) ts
Claim g.cpat next ts tree new = Starting begins_pat (CpatC new) ts
Claim g.pat next ts tree new = Starting begins_pat (PatC new) ts
Claim g.pats next ts tree new = Starting begins_pat (PatsC new) ts
Claim g.atx next ts tree new = Starting begins_atom (AtomC new) ts
Claim g.app next ts tree new = Starting begins_atom (AppC new) ts
Claim (g.inf level) next ts tree new = Starting begins_atom (InfC level new) ts
Claim g.tyx next ts tree new = Starting begins_atom (TyxC new) ts
Claim g.andc next ts tree new = Starting begins_atom (AndC AndEnds new) ts
Claim (g.ande open_) next ts tree new = Starting begins_atom (AndC (Ends open_) new) ts
Claim g.orc next ts tree new = Starting begins_atom (OrC OrEnds new) ts
Claim (g.ore open_) next ts tree new = Starting begins_atom (OrC (Ends open_) new) ts
Claim (g.tail open_) next ts tree new = Starting begins_tail (TailC open_ new) ts
Claim (g.expr open_) next ts tree new = Starting begins_exp (ExprC open_ new) ts
Claim (g.exps spelling) next ts tree new = Starting begins_exp (ExpsC spelling new) ts
Claim (g.rule_of_match open_) next ts tree new = RuleC open_ new ts
Claim g.match_of next ts tree new = MatchC new ts
Claim g.quoted next ts tree new = QuotedC next new ts
Claim g.text_part next ts tree new = TextC next new ts
Claim g.antiquoted next ts tree new = Starting any-first (AntiC new) ts
Claim (g.atpats count) next ts tree new = AtpatsC count new ts
Claim (g.clause name count open_) next ts tree new = Starting any-first (ClauseC name count open_ new) ts
Claim (g.clauses name count) next ts tree new = Starting any-first (ClausesC name count new) ts
Claim g.funs next ts tree new = FunsC new ts
Claim g.ty_vars next ts tree new = VarsC new ts
Claim g.more_vars next ts tree new = MoreVarsC new ts
Claim g.cons next ts tree new = Starting is_name (ConsC new) ts
Claim g.exns next ts tree new = Starting is_name (ExnsC new) ts
Claim g.datas next ts tree new = DatasC new ts
Claim g.abbrevs next ts tree new = AbbrevsC new ts
Claim g.binds next ts tree new = Starting begins_pat (BindsC new) ts
Claim g.recs next ts tree new = RecsC new ts
Claim (g.dec i) next ts tree new = Starting begins_dec (DecC i new) ts
Claim g.decs next ts tree new = InnersC new ts
Claim g.items next ts tree new = ItemsC new ts
Claim g.items_after next ts tree new = ItemsAfterC new ts
Claim _ next ts tree new = Unit {0}

-- a match has tokens
match-last : {next : ℕ} {ts : List Token} {tree : g.Tree} {ls : List Found} {new : List Made} → Tells g.match_of next ts tree ls new → (to : ℕ) → last_after to ts ≡ last_of ts
match-last (t.match_last (t.one_rule {ts = ts} {us = us} arrow d h e)) to = after-both to ts (arrow ∷ us) ∙ sym (after-both 0 ts (arrow ∷ us))
match-last (t.match_more {ts = ts} {us = us} bar d h e) to = after-both to ts (bar ∷ us) ∙ sym (after-both 0 ts (bar ∷ us))

inner : {new : List Made} {ts : List Token} → InnersC new ts → DecsC new ts
inner d = record { comes = d.begins }

pub runs : {c : g.Phrase} {next : ℕ} {ts : List Token} {tree : g.Tree} {ls : List Found} {new : List Made} → Tells c next ts tree ls new → Claim c next ts tree new
-- types
runs (t.conty_name word name h) = ty.c-conty-name h
runs (t.conty_var word name h) = ty.c-conty-var h
runs (t.conty_paren opening closing h d i) = ty.c-conty-paren h (runs d) i
runs (t.conty_one word name d h) = ty.c-conty-one (runs d) h
runs (t.conty_several opening comma closing word name h d i e j k) = ty.c-conty-several h (runs d) i (runs e) j k
runs (t.tys_one d) = ty.c-tys-one (runs d)
runs (t.tys_more comma d h e) = ty.c-tys-more (runs d) h (runs e)
runs (t.stars_one d) = ty.c-stars-one (runs d)
runs (t.stars_more word d h e) = ty.c-stars-more (runs d) h (runs e)
runs (t.tupty_one d) = ty.c-tupty-one (runs d)
runs (t.tupty_several word d h e) = ty.c-tupty-several (runs d) h (runs e)
runs (t.ty_one d) = ty.c-ty-one (runs d)
runs (t.ty_arrow word d h e) = ty.c-ty-arrow (runs d) h (runs e)
-- patterns
runs (t.head_name word name h) = pa.c-head-name h
runs (t.head_op op word name h i) = pa.c-head-op h i
runs (t.atpat_any word h) = pa.c-atpat-any h
runs (t.atpat_int word number h) = pa.c-atpat-int h
runs (t.atpat_char word byte h) = pa.c-atpat-char h
runs (t.atpat_str word text h) = pa.c-atpat-str h
runs (t.atpat_name d) = pa.c-atpat-name (runs d)
runs (t.atpat_unit opening closing h i) = pa.c-atpat-unit h i
runs (t.atpat_paren opening closing h d i) = pa.c-atpat-paren h (runs d) i
runs (t.atpat_tuple opening comma closing h d i e j) = pa.c-atpat-tuple h (runs d) i (runs e) j
runs (t.atpat_no_list opening closing h i) = pa.c-atpat-no-list h i
runs (t.atpat_list opening closing h d i) = pa.c-atpat-list h (runs d) i
runs (t.pats_one d) = pa.c-pats-one (runs d)
runs (t.pats_more comma d h e) = pa.c-pats-more (runs d) h (runs e)
runs (t.apat_one d) = pa.c-apat-one (runs d)
runs (t.apat_con d e) = pa.c-apat-con (runs d) (runs e)
runs (t.cpat_one d) = pa.c-cpat-one (runs d)
runs (t.cpat_cons word d h e) = pa.c-cpat-cons (runs d) h (runs e)
runs (t.pat_one d) = pa.c-pat-one (runs d)
runs (t.pat_typed word d h e) = pa.c-pat-typed (runs d) h (runs e)
-- expressions
runs (t.atx_int word number h) = ex.c-atx-int h
runs (t.atx_char word byte h) = ex.c-atx-char h
runs (t.atx_str word text h) = ex.c-atx-str h
runs (t.atx_name word name h) = ex.c-atx-name h
runs (t.atx_op op word name h i) = ex.c-atx-op h i
runs (t.atx_op_equals op word h i) = ex.c-atx-op-equals h i
runs (t.atx_quote from to h d i) = ta.c-atx-quote from to h (runs d) i
runs (t.atx_unit opening closing h i) = ta.c-atx-unit h i
runs (t.atx_paren opening closing h d i) = ta.c-atx-paren h (runs d) i
runs (t.atx_tuple opening word closing h d i e j) = ta.c-atx-tuple h (runs d) i (runs e) j
runs (t.atx_seq opening word closing h d i e j) = ta.c-atx-seq h (runs d) i (runs e) j
runs (t.atx_no_list opening closing h i) = ta.c-atx-no-list h i
runs (t.atx_list opening closing h d i) = ta.c-atx-list h (runs d) i
runs (t.quoted_last next d) = ta.c-quoted-last (runs d)
runs (t.quoted_more next d e k) = ta.c-quoted-more (runs d) (runs e) (runs k)
runs (t.no_text next) = ta.c-no-text
runs (t.some_text next word byte bytes h) = ta.c-some-text h
runs (t.anti_name word name h) = ta.c-anti-name h
runs (t.anti_exp from to h d i) = ta.c-anti-exp from to h (runs d) i
runs (t.exps_one d) = ta.c-exps-one (runs d)
runs (t.exps_more word d h e) = ta.c-exps-more (runs d) h (runs e)
runs (t.app_one d) = ex.c-app-one (runs d)
runs (t.app_to d e) = ex.c-app-to (runs d) (runs e)
runs (t.inf_top d) = ex.c-inf-top (runs d)
runs (t.inf_up d) = ex.c-inf-up (runs d)
runs (t.inf_left word h i d e) = ex.c-inf-left h i (runs d) (runs e)
runs (t.inf_right word h i d e) = ex.c-inf-right h i (runs d) (runs e)
runs (t.tyx_one d) = ex.c-tyx-one (runs d)
runs (t.tyx_typed word d h e) = ex.c-tyx-typed (runs d) h (runs e)
runs (t.andc_one d) = ex.c-andc-one (runs d)
runs (t.andc_both word d h e) = ex.c-and-more (runs d) h (runs e)
runs (t.ande_tail word d h e) = ex.c-and-tail (runs d) h (runs e)
runs (t.ande_more word d h e) = ex.c-and-more (runs d) h (runs e)
runs (t.orc_one d) = ex.c-orc-one (runs d)
runs (t.orc_either word d h e) = ex.c-or-more (runs d) h (runs e)
runs (t.ore_one d) = ex.c-ore-one (runs d)
runs (t.ore_tail word d h e) = ex.c-or-tail (runs d) h (runs e)
runs (t.ore_more word d h e) = ex.c-or-more (runs d) h (runs e)
runs (t.exp_tail d) = ex.c-exp-tail (runs d)
runs (t.exp_orc d) = ex.c-exp-orc (runs d)
runs (t.exp_ore d) = ex.c-exp-ore (runs d)
runs (t.exp_handle word d h e) = ex.c-exp-handle (runs d) h (runs e)
runs (t.tail_raise word h d) = ta.c-tail-raise h (runs d)
runs (t.tail_if if_ then_ else_ h d i e j k) = ta.c-tail-if h (runs d) i (runs e) j (runs k)
runs (t.tail_case case_ of_ h d i e) = ta.c-tail-case h (runs d) i (runs e)
runs (t.tail_fn word h d) = ta.c-tail-fn h (runs d)
runs (t.match_last d) = ta.c-match-last (runs d)
runs (t.match_more bar d h e) = ta.c-match-more (runs d) h (runs e)
runs (t.one_rule arrow d h e) = ta.c-one-rule (runs d) h (runs e)
-- functions
runs t.atpats_none = fu.c-atpats-none
runs (t.atpats_more d e) = fu.c-atpats-more (runs d) (runs e)
runs (t.clause_plain equals d e h f) = fu.c-clause-plain (fu.head-told d) (runs e) h (runs f)
runs (t.clause_typed colon equals d e h i j f) = fu.c-clause-typed (fu.head-told d) (runs e) h (runs i) j (runs f)
runs (t.clause_infix_name word equals d h e i f) = fu.c-infix-name (fu.head-of d) h (runs e) i (runs f)
runs (t.clause_infix word equals d k h e i f) = fu.c-infix-other (runs d) k h (runs e) i (runs f)
runs (t.clause_infix_typed_name word colon equals d h e i j k f) = fu.c-infix-typed-name (fu.head-of d) h (runs e) i (runs j) k (runs f)
runs (t.clause_infix_typed word colon equals d n h e i j k f) = fu.c-infix-typed-other (runs d) n h (runs e) i (runs j) k (runs f)
runs (t.clauses_last d) = fu.c-clauses-last (runs d)
runs (t.clauses_more bar d h e) = fu.c-clauses-more (runs d) h (runs e)
runs (t.funs_one d) = fu.c-funs-one (runs d)
runs (t.funs_more and_ d h e) = fu.c-funs-more (runs d) h (runs e)
-- declarations and items
runs t.vars_none = df.c-vars-none
runs (t.vars_one word name h) = df.c-vars-one h
runs (t.vars_several opening closing h (t.more_vars_more word comma name v i d) j) = df.c-vars-several h v i (runs d) j
runs (t.more_vars_one word name h) = df.c-more-vars-one h
runs (t.more_vars_more word comma name v h d) = df.c-more-vars-more v h (runs d)
runs (t.cons_one word name h) = df.c-cons-one h
runs (t.cons_of word of_ name h i d) = df.c-cons-of h i (runs d)
runs (t.cons_more word bar name h i d) = df.c-cons-more h i (runs d)
runs (t.cons_of_more word of_ bar name h i d j e) = df.c-cons-of-more h i (runs d) j (runs e)
runs (t.exns_one word name h) = df.c-exns-one h
runs (t.exns_of word of_ name h i d) = df.c-exns-of h i (runs d)
runs (t.exns_same word equals long_ name other h i j) = df.c-exns-same h i j
runs (t.exns_more word and_ name h i d) = df.c-exns-more h i (runs d)
runs (t.exns_of_more word of_ and_ name h i d j e) = df.c-exns-of-more h i (runs d) j (runs e)
runs (t.exns_same_more word equals long_ and_ name other h i j k d) = df.c-exns-same-more h i j k (runs d)
runs (t.datas_one word equals name d h i e) = df.c-datas-one (runs d) h i (runs e)
runs (t.datas_more word equals and_ name d h i e j f) = df.c-datas-more (runs d) h i (runs e) j (runs f)
runs (t.abbrevs_one word equals name d h i e) = df.c-abbrevs-one (runs d) h i (runs e)
runs (t.abbrevs_more word equals and_ name d h i e j f) = df.c-abbrevs-more (runs d) h i (runs e) j (runs f)
runs (t.binds_one equals d h e) = de.c-binds-one (runs d) h (runs e)
runs (t.binds_more equals and_ d h e i f) = de.c-binds-more (runs d) h (runs e) i (runs f)
runs (t.recs_one word equals fn_ name h i j d) = de.c-recs-one h i j (runs d) (match-last d fn_.span.to)
runs (t.recs_more word equals fn_ and_ name h i j d k e) = de.c-recs-more h i j (runs d) (match-last d fn_.span.to) k (runs e)
runs (t.dec_val word h d) = de.c-dec-val h (runs d)
runs (t.dec_rec word rec_ h i d) = de.c-dec-rec h i (runs d)
runs (t.dec_fun word h d) = de.c-dec-fun h (runs d)
runs (t.dec_type word h d) = de.c-dec-type h (runs d)
runs (t.dec_datatype word h d) = de.c-dec-datatype h (runs d)
runs (t.dec_exception word h d) = de.c-dec-exception h (runs d)
runs (t.dec_local local_ in_ end_ h d i e j) = de.c-dec-local h (runs d) i (runs e) j
runs (t.dec_replication word short_ equals again long_ name other h i j k l) = de.c-dec-replication h i j k l
runs t.decs_none = de.c-decs-none
runs (t.decs_more d e) = de.c-decs-more (runs d) (runs e)
runs (t.decs_parted word d h e) = de.c-decs-parted (runs d) h (runs e)
runs t.items_none = it.c-items-none
runs (t.items_dec d e) = it.c-items-dec (runs d) (runs e)
runs (t.items_exp d) = it.c-items-exp (runs d)
runs (t.items_exp_more word d h e) = it.c-items-exp-more (runs d) h (runs e)
runs t.items_after_none = it.c-after-none
runs (t.items_after_dec d e) = it.c-after-dec (runs d) (runs e)
runs (t.items_after_semicolon word h d) = it.c-after-semicolon h (runs d)
runs (t.atx_let let_ in_ end_ h d i e j) = ta.c-atx-let h (inner (runs d)) i (runs e) j
