-- Each derivation tells acts.
use Rattle.std.proofs.Common.{◌≡◌, ℕ, List, [], ◌∷◌, ◌++◌, Bool, false, refl, ap, ◌∙◌, codes}
use Rattle.sml_syntax.specs.declared.token.Token.{Token}
use Rattle.sml_syntax.specs.declared.tree.Exp.{Exp}
use Rattle.sml_syntax.specs.declared.tree.ExpForm.TheVariants as e
use Rattle.sml_syntax.specs.declared.tree.Pat.{Pat}
use Rattle.sml_syntax.specs.declared.tree.PatForm.TheVariants as p
use Rattle.sml_syntax.specs.declared.tree.Ty.{Ty}
use Rattle.sml_syntax.specs.declared.token.Lack.TheVariants as l
use Rattle.sml_syntax.specs.NestedTypes.{Found}
use Rattle.grammar_rules.specs.Nodes.{span_of, extent, last_of, exp_at, pat_at, rule_of}
use Rattle.grammar_rules.specs.Grammar as g
use Rattle.sml_grammar.specs.declared.mark.Mark.{Mark}
use Rattle.sml_grammar.specs.declared.mark.Mark.TheVariants as m
use Rattle.sml_grammar.specs.declared.act.Made.{Made}
use Rattle.sml_grammar.specs.declared.token_sort.TokenSort.TheVariants as o
use Rattle.sml_grammar.specs.Marks.{same_mark, mark_number}
use Rattle.sml_grammar.specs.Sorts.{sort_of, is_mark, is_type_name}
use Rattle.grammar_trees.specs.Tells as tl
use Rattle.grammar_trees.specs.Tells.{Tells, NotHead, first_to}
use Rattle.grammar_trees.proofs.Words

pub record Told (c : g.Phrase) (next : ℕ) (ts : List Token) (tree : g.Tree) (ls : List Found) : Type 0 where
  pub new : List Made
  pub tells : Tells c next ts tree ls new

told : {c : g.Phrase} {next : ℕ} {ts : List Token} {tree : g.Tree} {ls : List Found} {new : List Made} → Tells c next ts tree ls new → Told c next ts tree ls
told {new = new} d = record { new = new; tells = d }

-- a quotation tells acts before each end of a token behind it
abbrev pub Telling : g.Phrase → List Token → g.Tree → List Found → Type 0
Telling g.quoted ts tree ls = (next : ℕ) → Told g.quoted next ts tree ls
Telling g.text_part ts tree ls = (next : ℕ) → Told g.text_part next ts tree ls
Telling c ts tree ls = Told c 0 ts tree ls

-- an atomic pattern is a name, or begins with none
data AtpatView : List Token → g.Tree → List Found → Type 0 where
  named : {ts : List Token} {place : ℕ} {name : List ℕ} → g.Is g.head ts (g.name_tree place name) [] → AtpatView ts (g.pat_tree (pat_at (span_of place (last_of ts)) (p.Name name))) []
  no_head : {ts : List Token} {tree : g.Tree} {ls : List Found} → NotHead ts → AtpatView ts tree ls

mark-no-name : (t : Token) {mark : Mark} → sort_of t.form ≡ o.Mark mark → same_mark mark m.Op ≡ false → (is_type_name (sort_of t.form) ≡ false) × (is_mark m.Op (sort_of t.form) ≡ false)
unfolding is_type_name is_mark
mark-no-name t e h = (ap is_type_name e, ap (is_mark m.Op) e ∙ h)

atpat-view : {ts : List Token} {tree : g.Tree} {ls : List Found} → g.Is g.atpat ts tree ls → AtpatView ts tree ls
unfolding same_mark mark_number is_type_name is_mark sort_of
atpat-view (g.atpat_any word h) = no_head (mark-no-name word (Words.is-wildcard h) refl)
atpat-view (g.atpat_int word number h) = no_head (ap (λ z. is_type_name (sort_of z)) h, ap (λ z. is_mark m.Op (sort_of z)) h)
atpat-view (g.atpat_char word byte h) = no_head (ap (λ z. is_type_name (sort_of z)) h, ap (λ z. is_mark m.Op (sort_of z)) h)
atpat-view (g.atpat_str word text h) = no_head (ap (λ z. is_type_name (sort_of z)) h, ap (λ z. is_mark m.Op (sort_of z)) h)
atpat-view (g.atpat_name h) = named h
atpat-view (g.atpat_unit opening closing h i) = no_head (mark-no-name opening (Words.is-open h) refl)
atpat-view (g.atpat_paren opening closing h q i) = no_head (mark-no-name opening (Words.is-open h) refl)
atpat-view (g.atpat_tuple opening closing h qs i) = no_head (mark-no-name opening (Words.is-open h) refl)
atpat-view (g.atpat_no_list opening closing h i) = no_head (mark-no-name opening (Words.is-open-bracket h) refl)
atpat-view (g.atpat_list opening closing h qs i) = no_head (mark-no-name opening (Words.is-open-bracket h) refl)

infix-told : {name : List ℕ} {level : ℕ} {o : Bool} {ts us ws : List Token} {left right : Pat} {body : Exp} {ls ms ns : List Found} {n1 n2 n3 : List Made} (word equals : Token) →
    AtpatView ts (g.pat_tree left) ls → Tells g.atpat 0 ts (g.pat_tree left) ls n1 → g.IsInfixName level name word → Tells g.atpat 0 us (g.pat_tree right) ms n2 → g.IsMark (codes "=") equals → Tells (g.expr o) 0 ws (g.exp_tree body) ns n3 →
    Told (g.clause name 1 o) 0 (ts ++ word ∷ us ++ equals ∷ ws) (g.rule_tree (rule_of (pat_at (extent (ts ++ word ∷ us)) (p.Tuple (left ∷ right ∷ []))) body)) (ls ++ (word.span.from, l.InfixClause) ∷ ms ++ ns)
infix-told word equals (named h) q i r j e = told (tl.clause_infix_name word equals h i r j e)
infix-told word equals (no_head n) q i r j e = told (tl.clause_infix word equals q n i r j e)

infix-typed-told : {name : List ℕ} {level : ℕ} {o : Bool} {ts us vs ws : List Token} {left right : Pat} {type_ : Ty} {body : Exp} {ls ms ns ks : List Found} {n1 n2 n3 n4 : List Made} (word colon equals : Token) →
    AtpatView ts (g.pat_tree left) ls → Tells g.atpat 0 ts (g.pat_tree left) ls n1 → g.IsInfixName level name word → Tells g.atpat 0 us (g.pat_tree right) ms n2 → g.IsMark (codes ":") colon → Tells (g.ty false) 0 vs (g.ty_tree type_) ns n3 →
    g.IsMark (codes "=") equals → Tells (g.expr o) 0 ws (g.exp_tree body) ks n4 →
    Told (g.clause name 1 o) 0 (ts ++ word ∷ us ++ colon ∷ vs ++ equals ∷ ws) (g.rule_tree (rule_of (pat_at (extent (ts ++ word ∷ us)) (p.Tuple (left ∷ right ∷ []))) (exp_at (extent (ts ++ word ∷ us ++ colon ∷ vs ++ equals ∷ ws)) (e.Typed body type_)))) (ls ++ (word.span.from, l.InfixClause) ∷ ms ++ ns ++ ks)
infix-typed-told word colon equals (named h) q i r j t k e = told (tl.clause_infix_typed_name word colon equals h i r j t k e)
infix-typed-told word colon equals (no_head n) q i r j t k e = told (tl.clause_infix_typed word colon equals q n i r j t k e)

pub tells : {c : g.Phrase} {ts : List Token} {tree : g.Tree} {ls : List Found} → g.Is c ts tree ls → Telling c ts tree ls
tells (g.atx_int word number h) = told (tl.atx_int word number h)
tells (g.atx_char word byte h) = told (tl.atx_char word byte h)
tells (g.atx_str word text h) = told (tl.atx_str word text h)
tells (g.atx_name word name h) = told (tl.atx_name word name h)
tells (g.atx_op op word name h i) = told (tl.atx_op op word name h i)
tells (g.atx_op_equals op word h i) = told (tl.atx_op_equals op word h i)
tells (g.atx_quote from to h q i) = told (tl.atx_quote from to h (tells q to.span.to).tells i)
tells (g.atx_unit opening closing h i) = told (tl.atx_unit opening closing h i)
tells (g.atx_paren opening closing h e i) = told (tl.atx_paren opening closing h (tells e).tells i)
tells (g.atx_no_list opening closing h i) = told (tl.atx_no_list opening closing h i)
tells (g.atx_list opening closing h es i) = told (tl.atx_list opening closing h (tells es).tells i)
tells (g.atx_let let_ in_ end_ h ds i es j) = told (tl.atx_let let_ in_ end_ h (tells ds).tells i (tells es).tells j)
tells (g.quoted_last t) = λ next. told (tl.quoted_last next (tells t next).tells)
tells (g.quoted_more {us = us} t e q) = λ next. told (tl.quoted_more next (tells t (first_to us)).tells (tells e).tells (tells q next).tells)
tells g.no_text = λ next. told (tl.no_text next)
tells (g.some_text word byte bytes h) = λ next. told (tl.some_text next word byte bytes h)
tells (g.anti_name word name h) = told (tl.anti_name word name h)
tells (g.anti_exp from to h e i) = told (tl.anti_exp from to h (tells e).tells i)
tells (g.exps_one e) = told (tl.exps_one (tells e).tells)
tells (g.exps_more word e h es) = told (tl.exps_more word (tells e).tells h (tells es).tells)
tells (g.app_one e) = told (tl.app_one (tells e).tells)
tells (g.app_to e f) = told (tl.app_to (tells e).tells (tells f).tells)
tells (g.inf_top e) = told (tl.inf_top (tells e).tells)
tells (g.inf_up e) = told (tl.inf_up (tells e).tells)
tells (g.inf_left word h i e f) = told (tl.inf_left word h i (tells e).tells (tells f).tells)
tells (g.inf_right word h i e f) = told (tl.inf_right word h i (tells e).tells (tells f).tells)
tells (g.tyx_one e) = told (tl.tyx_one (tells e).tells)
tells (g.tyx_typed word e h t) = told (tl.tyx_typed word (tells e).tells h (tells t).tells)
tells (g.andc_one e) = told (tl.andc_one (tells e).tells)
tells (g.andc_both word e h f) = told (tl.andc_both word (tells e).tells h (tells f).tells)
tells (g.ande_tail word e h f) = told (tl.ande_tail word (tells e).tells h (tells f).tells)
tells (g.ande_more word e h f) = told (tl.ande_more word (tells e).tells h (tells f).tells)
tells (g.orc_one e) = told (tl.orc_one (tells e).tells)
tells (g.orc_either word e h f) = told (tl.orc_either word (tells e).tells h (tells f).tells)
tells (g.ore_one e) = told (tl.ore_one (tells e).tells)
tells (g.ore_tail word e h f) = told (tl.ore_tail word (tells e).tells h (tells f).tells)
tells (g.ore_more word e h f) = told (tl.ore_more word (tells e).tells h (tells f).tells)
tells (g.exp_tail e) = told (tl.exp_tail (tells e).tells)
tells (g.exp_orc e) = told (tl.exp_orc (tells e).tells)
tells (g.exp_ore e) = told (tl.exp_ore (tells e).tells)
tells (g.exp_handle word e h m) = told (tl.exp_handle word (tells e).tells h (tells m).tells)
tells (g.tail_raise word h e) = told (tl.tail_raise word h (tells e).tells)
tells (g.tail_if if_ then_ else_ h e i f j k) = told (tl.tail_if if_ then_ else_ h (tells e).tells i (tells f).tells j (tells k).tells)
tells (g.tail_case case_ of_ h e i m) = told (tl.tail_case case_ of_ h (tells e).tells i (tells m).tells)
tells (g.tail_fn word h m) = told (tl.tail_fn word h (tells m).tells)
tells (g.match_last r) = told (tl.match_last (tells r).tells)
tells (g.match_more bar r h m) = told (tl.match_more bar (tells r).tells h (tells m).tells)
tells (g.one_rule arrow q h e) = told (tl.one_rule arrow (tells q).tells h (tells e).tells)
tells (g.head_name word name h) = told (tl.head_name word name h)
tells (g.head_op op word name h i) = told (tl.head_op op word name h i)
tells (g.atpat_any word h) = told (tl.atpat_any word h)
tells (g.atpat_int word number h) = told (tl.atpat_int word number h)
tells (g.atpat_char word byte h) = told (tl.atpat_char word byte h)
tells (g.atpat_str word text h) = told (tl.atpat_str word text h)
tells (g.atpat_name h) = told (tl.atpat_name (tells h).tells)
tells (g.atpat_unit opening closing h i) = told (tl.atpat_unit opening closing h i)
tells (g.atpat_paren opening closing h q i) = told (tl.atpat_paren opening closing h (tells q).tells i)
tells (g.atpat_no_list opening closing h i) = told (tl.atpat_no_list opening closing h i)
tells (g.atpat_list opening closing h qs i) = told (tl.atpat_list opening closing h (tells qs).tells i)
tells (g.pats_one q) = told (tl.pats_one (tells q).tells)
tells (g.pats_more comma q h qs) = told (tl.pats_more comma (tells q).tells h (tells qs).tells)
tells g.atpats_none = told tl.atpats_none
tells (g.atpats_more q qs) = told (tl.atpats_more (tells q).tells (tells qs).tells)
tells (g.apat_one q) = told (tl.apat_one (tells q).tells)
tells (g.apat_con h q) = told (tl.apat_con (tells h).tells (tells q).tells)
tells (g.cpat_one q) = told (tl.cpat_one (tells q).tells)
tells (g.cpat_cons word q h r) = told (tl.cpat_cons word (tells q).tells h (tells r).tells)
tells (g.pat_one q) = told (tl.pat_one (tells q).tells)
tells (g.pat_typed word q h t) = told (tl.pat_typed word (tells q).tells h (tells t).tells)
tells (g.conty_name word name h) = told (tl.conty_name word name h)
tells (g.conty_var word name h) = told (tl.conty_var word name h)
tells (g.conty_paren opening closing h t i) = told (tl.conty_paren opening closing h (tells t).tells i)
tells (g.conty_one word name t h) = told (tl.conty_one word name (tells t).tells h)
tells (g.tys_one t) = told (tl.tys_one (tells t).tells)
tells (g.tys_more comma t h us) = told (tl.tys_more comma (tells t).tells h (tells us).tells)
tells (g.stars_one t) = told (tl.stars_one (tells t).tells)
tells (g.stars_more word t h us) = told (tl.stars_more word (tells t).tells h (tells us).tells)
tells (g.ty_one t) = told (tl.ty_one (tells t).tells)
tells (g.ty_arrow word t h u) = told (tl.ty_arrow word (tells t).tells h (tells u).tells)
tells g.vars_none = told tl.vars_none
tells (g.vars_one word name h) = told (tl.vars_one word name h)
tells (g.vars_several opening closing h vs i) = told (tl.vars_several opening closing h (tells vs).tells i)
tells (g.more_vars_one word name h) = told (tl.more_vars_one word name h)
tells (g.more_vars_more word comma name h i vs) = told (tl.more_vars_more word comma name h i (tells vs).tells)
tells (g.dec_val word h bs) = told (tl.dec_val word h (tells bs).tells)
tells (g.dec_rec word rec_ h i rs) = told (tl.dec_rec word rec_ h i (tells rs).tells)
tells (g.dec_fun word h fs) = told (tl.dec_fun word h (tells fs).tells)
tells (g.dec_type word h bs) = told (tl.dec_type word h (tells bs).tells)
tells (g.dec_datatype word h bs) = told (tl.dec_datatype word h (tells bs).tells)
tells (g.dec_exception word h cs) = told (tl.dec_exception word h (tells cs).tells)
tells (g.dec_local local_ in_ end_ h ds i es j) = told (tl.dec_local local_ in_ end_ h (tells ds).tells i (tells es).tells j)
tells (g.dec_replication word short_ equals again long_ name other h j k m n) = told (tl.dec_replication word short_ equals again long_ name other h j k m n)
tells g.decs_none = told tl.decs_none
tells (g.decs_more one ds) = told (tl.decs_more (tells one).tells (tells ds).tells)
tells (g.decs_parted word one h ds) = told (tl.decs_parted word (tells one).tells h (tells ds).tells)
tells (g.binds_one equals q h e) = told (tl.binds_one equals (tells q).tells h (tells e).tells)
tells (g.binds_more equals and_ q h e i bs) = told (tl.binds_more equals and_ (tells q).tells h (tells e).tells i (tells bs).tells)
tells (g.recs_one word equals fn_ name h i j m) = told (tl.recs_one word equals fn_ name h i j (tells m).tells)
tells (g.recs_more word equals fn_ and_ name h i j m k rs) = told (tl.recs_more word equals fn_ and_ name h i j (tells m).tells k (tells rs).tells)
tells (g.funs_one cs) = told (tl.funs_one (tells cs).tells)
tells (g.funs_more and_ cs h fs) = told (tl.funs_more and_ (tells cs).tells h (tells fs).tells)
tells (g.clauses_last c) = told (tl.clauses_last (tells c).tells)
tells (g.clauses_more bar c h cs) = told (tl.clauses_more bar (tells c).tells h (tells cs).tells)
tells (g.clause_plain equals h qs i e) = told (tl.clause_plain equals (tells h).tells (tells qs).tells i (tells e).tells)
tells (g.clause_typed colon equals h qs i t j e) = told (tl.clause_typed colon equals (tells h).tells (tells qs).tells i (tells t).tells j (tells e).tells)
tells (g.abbrevs_one word equals name vs h i t) = told (tl.abbrevs_one word equals name (tells vs).tells h i (tells t).tells)
tells (g.abbrevs_more word equals and_ name vs h i t j bs) = told (tl.abbrevs_more word equals and_ name (tells vs).tells h i (tells t).tells j (tells bs).tells)
tells (g.datas_one word equals name vs h i cs) = told (tl.datas_one word equals name (tells vs).tells h i (tells cs).tells)
tells (g.datas_more word equals and_ name vs h i cs j bs) = told (tl.datas_more word equals and_ name (tells vs).tells h i (tells cs).tells j (tells bs).tells)
tells (g.cons_one word name h) = told (tl.cons_one word name h)
tells (g.cons_of word of_ name h i t) = told (tl.cons_of word of_ name h i (tells t).tells)
tells (g.cons_more word bar name h i cs) = told (tl.cons_more word bar name h i (tells cs).tells)
tells (g.cons_of_more word of_ bar name h i t j cs) = told (tl.cons_of_more word of_ bar name h i (tells t).tells j (tells cs).tells)
tells (g.exns_one word name h) = told (tl.exns_one word name h)
tells (g.exns_of word of_ name h i t) = told (tl.exns_of word of_ name h i (tells t).tells)
tells (g.exns_same word equals long_ name other h i j) = told (tl.exns_same word equals long_ name other h i j)
tells (g.exns_more word and_ name h i cs) = told (tl.exns_more word and_ name h i (tells cs).tells)
tells (g.exns_of_more word of_ and_ name h i t j cs) = told (tl.exns_of_more word of_ and_ name h i (tells t).tells j (tells cs).tells)
tells (g.exns_same_more word equals long_ and_ name other h i j k cs) = told (tl.exns_same_more word equals long_ and_ name other h i j k (tells cs).tells)
tells g.items_none = told tl.items_none
tells (g.items_dec one ds) = told (tl.items_dec (tells one).tells (tells ds).tells)
tells (g.items_exp e) = told (tl.items_exp (tells e).tells)
tells (g.items_exp_more word e h ds) = told (tl.items_exp_more word (tells e).tells h (tells ds).tells)
tells g.items_after_none = told tl.items_after_none
tells (g.items_after_dec one ds) = told (tl.items_after_dec (tells one).tells (tells ds).tells)
tells (g.items_after_semicolon word h ds) = told (tl.items_after_semicolon word h (tells ds).tells)
tells (g.atx_tuple opening closing h (g.exps_more word e i es) j) = told (tl.atx_tuple opening word closing h (tells e).tells i (tells es).tells j)
tells (g.atx_seq opening closing h (g.exps_more word e i es) j) = told (tl.atx_seq opening word closing h (tells e).tells i (tells es).tells j)
tells (g.atpat_tuple opening closing h (g.pats_more comma q i qs) j) = told (tl.atpat_tuple opening comma closing h (tells q).tells i (tells qs).tells j)
tells (g.conty_several opening closing word name h (g.tys_more comma t i ts) j k) = told (tl.conty_several opening comma closing word name h (tells t).tells i (tells ts).tells j k)
tells (g.tupty_one (g.stars_one t)) = told (tl.tupty_one (tells t).tells)
tells (g.tupty_one (g.stars_more word t h us)) = elim us [ ]
tells (g.tupty_several (g.stars_more word t h us)) = told (tl.tupty_several word (tells t).tells h (tells us).tells)
tells (g.clause_infix word equals q i r j e) = infix-told word equals (atpat-view q) (tells q).tells i (tells r).tells j (tells e).tells
tells (g.clause_infix_typed word colon equals q i r j t k e) = infix-typed-told word colon equals (atpat-view q) (tells q).tells i (tells r).tells j (tells t).tells k (tells e).tells
