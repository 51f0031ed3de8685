-- The forms that are printed of a program fit, where those of its tokens are spelt: by recursion over the derivation, one line a production.
use Rattle.std.proofs.Common.{◌≡◌, inl, inr, ℕ, suc, List, [], ◌∷◌, ◌++◌, length, refl, ap, ◌∙◌, subst, Some, None, append_assoc, append-nil}
use Rattle.std.specs.Prelude.{codes, flat_map, nat_lt, false}
use Rattle.sml_syntax.specs.declared.token.Token.{Token}
use Rattle.sml_syntax.specs.declared.token.TokenForm.{TokenForm}
use Rattle.sml_syntax.specs.declared.token.TokenForm.TheVariants as f
use Rattle.sml_syntax.specs.declared.token.Lack.TheVariants as l
use Rattle.sml_syntax.specs.declared.tree.Span.{Span}
use Rattle.sml_syntax.specs.declared.tree.Pat.{Pat}
use Rattle.sml_syntax.specs.declared.tree.PatForm.TheVariants as p
use Rattle.sml_syntax.specs.declared.tree.Rule.{Rule}
use Rattle.sml_syntax.specs.declared.tree.Dec.{Dec}
use Rattle.sml_syntax.specs.declared.tree.Program.{Program}
use Rattle.sml_syntax.specs.declared.tree.Exp.{Exp}
use Rattle.sml_syntax.specs.declared.tree.ExpForm.TheVariants as e
use Rattle.grammar_rules.specs.Programs.{IsProgram, Each}
use Rattle.sml_syntax.specs.Layers.{form_of_pat}
use Rattle.sml_syntax.specs.NestedTypes.{Found, nested_in_bindings}
use Rattle.grammar_rules.specs.Nodes.{exp_at, pat_at, rule_of, span_of, extent, last_of, name_place, clause_pat}
use Rattle.grammar_rules.specs.Grammar.{IsTypeName, short, long, IsInfix, by_name, by_equals, IsTyVar, Tree, Phrase, Is, exp_tree, exps_tree, rule_tree, rules_tree, text_tree, pieces_tree, name_tree, pat_tree, pats_tree, ty_tree, tys_tree, vars_tree, dec_tree, decs_tree, binds_tree, recs_tree, abbrevs_tree, cons_tree, datas_tree, antiquoted, atpats, clause, clauses, local_lack}
use Rattle.grammar_rules.specs.Grammar.{atx_int, atx_char, atx_str, atx_name, atx_op, atx_op_equals, atx_quote, atx_unit, atx_paren, atx_tuple, atx_seq, atx_no_list, atx_list, atx_let, quoted_last, quoted_more, no_text, some_text, anti_name, anti_exp, exps_one, exps_more, app_one, app_to, inf_top, inf_up, inf_left, inf_right, tyx_one, tyx_typed, andc_one, andc_both, ande_tail, ande_more, orc_one, orc_either, ore_one, ore_tail, ore_more, exp_tail, exp_orc, exp_ore, exp_handle, tail_raise, tail_if, tail_case, tail_fn, match_last, match_more, one_rule, head_name, head_op, atpat_any, atpat_int, atpat_char, atpat_str, atpat_name, atpat_unit, atpat_paren, atpat_tuple, atpat_no_list, atpat_list, pats_one, pats_more, atpats_none, atpats_more, apat_one, apat_con, cpat_one, cpat_cons, pat_one, pat_typed, conty_name, conty_var, conty_paren, conty_one, conty_several, tys_one, tys_more, stars_one, stars_more, tupty_one, tupty_several, ty_one, ty_arrow, vars_none, vars_one, vars_several, more_vars_one, more_vars_more, dec_val, dec_rec, dec_fun, dec_type, dec_datatype, dec_exception, dec_local, dec_replication, decs_none, decs_more, decs_parted, binds_one, binds_more, recs_one, recs_more, funs_one, funs_more, clauses_last, clauses_more, clause_plain, clause_typed, clause_infix, clause_infix_typed, abbrevs_one, abbrevs_more, datas_one, datas_more, cons_one, cons_of, cons_more, cons_of_more, exns_one, exns_of, exns_same, exns_more, exns_of_more, exns_same_more, items_none, items_dec, items_exp, items_exp_more, items_after_none, items_after_dec, items_after_semicolon}
use Rattle.print_laws.specs.Printing.{RuleInk, head_forms, begins_number, is_number, is_lone, rule_ink, dec_forms, abbrev_forms, con_def_forms, data_forms}
use Rattle.print_laws.specs.Bytes.{Outside, Fits, fits_none}
use Rattle.print_laws.specs.ReadBack.{IsFine}
use Rattle.print_laws.specs.Spelt.{SpeltWord, SpeltLong, IsSpelt, Starts, Followed, QuotesFit, FormsFit}
use Rattle.print_laws.proofs.Made.{form-Any, form-Int, form-Char, form-Str, form-Unit, form-Name, form-Tuple, form-List, form-Con, form-Typed, ink-rule}
use Rattle.print_laws.proofs.Claims.{each_map}
use Rattle.print_laws.proofs.Nested.{nil_front, nil_back}
use Rattle.print_laws.proofs.FitForms.{Goes, Steady, none, one, row, named, headed, long_headed, operated, long_operated, equals_operated, expressed, op_equals, typed_name}
use Rattle.print_laws.proofs.FitClaims.{TyGoes, var_goes, con_goes, ty_tuple_goes, arrow_goes, PatGoes, any_goes, pat_int_goes, pat_char_goes, pat_str_goes, pat_unit_goes, pat_name_goes, pat_tuple_goes, pat_list_goes, pat_con_goes, pat_typed_goes, ExpGoes, int_goes, char_goes, str_goes, name_goes, unit_goes, tuple_goes, seq_goes, list_goes, app_goes, infix_goes, both_goes, either_goes, typed_goes, raise_goes, if_goes, RuleGoes, rule_goes, fn_goes, case_goes, handle_goes, DecGoes, let_goes, local_goes, BindGoes, val_goes, it_goes, VarsGo, abbrev_goes, con_def_goes, of_goes, data_goes, abbrevs_go, datas_go, exns_go, NotNumber, ClauseGoes, FunGoes, clause_read, fun_goes, rec_goes, funs_go, Spelt, TextGoes, AntiGoes, PiecesGo, no_text_goes, text_goes, anti_goes, anti_name_goes, last_goes, more_goes, quote_goes}

-- parts of lists
starts_front : (xs ys : List Token) → Starts (xs ++ ys) → Starts xs
starts_front [] ys h = tt
starts_front (x ∷ xs) ys h = h

followed_front : (form : TokenForm) (xs ys : List Token) → Followed form (xs ++ ys) → Followed form xs
followed_front (f.Int n) xs ys h = tt
followed_front (f.Char b) xs ys h = tt
followed_front (f.Str text) xs ys h = tt
followed_front (f.Name name) xs ys h = tt
followed_front (f.Long name) xs ys h = tt
followed_front (f.TyVar name) xs ys h = tt
followed_front (f.Mark text) xs ys h = tt
followed_front f.QuoteFrom xs ys h = tt
followed_front (f.Plain text) xs ys h = tt
followed_front (f.Anti name) xs ys h = starts_front xs ys h
followed_front f.AntiFrom xs ys h = tt
followed_front f.AntiTo xs ys h = tt
followed_front f.QuoteTo xs ys h = tt

each_front : (xs ys : List Token) → Spelt (xs ++ ys) → Spelt xs
each_front [] ys h = tt
each_front (x ∷ xs) ys h = ((h.0.0, h.0.1, followed_front x.form xs ys h.0.2), each_front xs ys h.1)

each_back : (xs ys : List Token) → Spelt (xs ++ ys) → Spelt ys
each_back [] ys h = h
each_back (x ∷ xs) ys h = each_back xs ys h.1

not_cons : (x : Found) (xs : List Found) → x ∷ xs ≡ [] → ⊥
not_cons x xs h = cc

not_mid : (xs : List Found) (y : Found) (ys : List Found) → xs ++ y ∷ ys ≡ [] → ⊥
not_mid xs y ys h = not_cons y ys (nil_back xs (y ∷ ys) h)

-- the claim of each kind of phrase
data Kind : Type 0 where
  plain behind_caret : Kind
  rows : ℕ → Kind
  clausal : List ℕ → ℕ → Kind

abbrev kind : Phrase → Kind
kind antiquoted = behind_caret
kind (atpats n) = rows n
kind (clause name n o) = clausal name n
kind (clauses name n) = clausal name n
kind _ = plain

abbrev PatNum : Pat → Type 0
PatNum x = PatGoes x × (is_number (form_of_pat x) ≡ false)

abbrev HeadRead : List ℕ → Type 0
HeadRead name = Goes (head_forms name) × (begins_number name ≡ false)

abbrev RuleRead : Rule → Type 0
RuleRead r = RuleGoes r × NotNumber (rule_ink r)

abbrev RuleBy : Kind → Rule → Type 0
RuleBy (clausal name n) r = ClauseGoes (nat_lt 1 n) name (rule_ink r)
RuleBy _ r = RuleRead r

abbrev PatsBy : Kind → List Pat → Type 0
PatsBy (rows n) ps = Each PatNum ps × (length ps ≡ n)
PatsBy _ ps = Each PatNum ps

abbrev ExpBy : Kind → List Token → Exp → Type 0
ExpBy behind_caret ts x = AntiGoes ts x
ExpBy _ ts x = ExpGoes x

abbrev ClaimOf : Kind → List Token → Tree → Type 0
ClaimOf k ts (exp_tree x) = ExpBy k ts x
ClaimOf k ts (exps_tree xs) = Each ExpGoes xs
ClaimOf k ts (rule_tree r) = RuleBy k r
ClaimOf k ts (rules_tree rs) = Each (RuleBy k) rs
ClaimOf k ts (text_tree w) = TextGoes ts w
ClaimOf k ts (pieces_tree ps) = PiecesGo ts ps
ClaimOf k ts (name_tree n w) = HeadRead w
ClaimOf k ts (pat_tree x) = PatNum x
ClaimOf k ts (pats_tree xs) = PatsBy k xs
ClaimOf k ts (ty_tree x) = TyGoes x
ClaimOf k ts (tys_tree xs) = Each TyGoes xs
ClaimOf k ts (vars_tree xs) = VarsGo xs
ClaimOf k ts (dec_tree x) = DecGoes x
ClaimOf k ts (decs_tree xs) = Each DecGoes xs
ClaimOf k ts (binds_tree bs) = Each BindGoes bs
ClaimOf k ts (recs_tree gs) = Each FunGoes gs
ClaimOf k ts (abbrevs_tree xs) = Each (λ a. Goes (abbrev_forms a)) xs
ClaimOf k ts (cons_tree xs) = Each (λ a. Goes (con_def_forms a)) xs
ClaimOf k ts (datas_tree xs) = Each (λ a. Goes (data_forms a)) xs

-- names
any_headed : (name : List ℕ) (w : Token) → w.form ≡ f.Name name → IsSpelt w.form → Goes (head_forms name)
any_headed name w i k = let s : SpeltWord name = subst IsSpelt i k in headed name s.spelt

any_steady : (name : List ℕ) (w : Token) → w.form ≡ f.Name name → IsSpelt w.form → Steady (f.Name name)
any_steady name w i k = let s : SpeltWord name = subst IsSpelt i k in named name s.spelt

head_any : (name : List ℕ) (w : Token) → w.form ≡ f.Name name → IsFine w → IsSpelt w.form → HeadRead name
head_any name w i h k = (any_headed name w i k, h name (inl i))

head_read : (name : List ℕ) (w : Token) → IsTypeName name w → IsFine w → IsSpelt w.form → HeadRead name
head_read name w (short _ _ i) h k = head_any name w i.is h k
head_read name w (long _ _ i) h k = let s : SpeltLong name = subst IsSpelt i.is k in (long_headed name s, h name (inr i.is))

exp_any : (s : Span) (name : List ℕ) (w : Token) → w.form ≡ f.Name name → IsSpelt w.form → ExpGoes (exp_at s (e.Name name))
exp_any s name w i k = let c : SpeltWord name = subst IsSpelt i k in name_goes s name c.not_lone (operated name c.spelt) (expressed name (headed name c.spelt))

exp_named : (s : Span) (name : List ℕ) (w : Token) → IsTypeName name w → IsSpelt w.form → ExpGoes (exp_at s (e.Name name))
exp_named s name w (short _ _ i) k = exp_any s name w i.is k
exp_named s name w (long _ _ i) k = let c : SpeltLong name = subst IsSpelt i.is k in name_goes s name c.not_lone (long_operated name c) (expressed name (long_headed name c))

exp_equals : (s : Span) → ExpGoes (exp_at s (e.Name (codes "=")))
unfolding is_lone
exp_equals s = name_goes s (codes "=") refl equals_operated op_equals

exp_infix : {level : ℕ} (s : Span) (name : List ℕ) (w : Token) → IsInfix level name w → IsSpelt w.form → ExpGoes (exp_at s (e.Name name))
exp_infix s name w (by_name _ _ _ i) k = exp_any s name w i.is k
exp_infix s _ w (by_equals _ _) k = exp_equals s

one_var : (name : List ℕ) (w : Token) → IsTyVar name w → IsSpelt w.form → Goes (f.TyVar name ∷ [])
one_var name w i k = one (f.TyVar name) (record { stands = subst IsSpelt i.is k; keeps = λ n. refl })

-- productions with a list
rule_claims : (rs : List Rule) → Each RuleRead rs → Each RuleGoes rs
rule_claims rs h = each_map RuleRead RuleGoes (λ r c. c.0) rs h

rule_read : (x : Pat) (b : Exp) → PatNum x → ExpGoes b → RuleRead (rule_of x b)
rule_read x b h g = (rule_goes x b h.0 g, ap (λ (q : RuleInk). is_number (form_of_pat q.pat)) (ink-rule x b) ∙ h.1)

pat_listed : (s : Span) (xs : List Pat) → Each PatNum xs → PatNum (pat_at s (p.List xs))
pat_listed s xs h = (pat_list_goes s xs (each_map PatNum PatGoes (λ x c. c.0) xs h), ap is_number (form-List s xs))

clause_step : (name : List ℕ) (n : ℕ) (s : Span) (x : Pat) (xs : List Pat) (b : Exp) → Goes (head_forms name) → Each PatNum (x ∷ xs) × (length (x ∷ xs) ≡ n) → ExpGoes b → ClauseGoes (nat_lt 1 n) name (rule_ink (rule_of (clause_pat s x xs) b))
clause_step name n s x xs b k h a = clause_read name n s x xs b k (each_map PatNum PatGoes (λ x c. c.0) (x ∷ xs) h.0) h.0.0.1 h.1 a

fits : {phrase : Phrase} {ts : List Token} {tree : Tree} {ls : List Found} → Is phrase ts tree ls → Spelt ts → ls ≡ [] → ClaimOf (kind phrase) ts tree
fits (atx_int word number i) h g = int_goes word.span number (subst IsSpelt i h.0.1)
fits (atx_char word byte i) h g = char_goes word.span byte (subst IsSpelt i h.0.1)
fits (atx_str word text i) h g = str_goes word.span text (subst IsSpelt i h.0.1)
fits (atx_name word name i) h g = exp_named word.span name word i h.0.1
fits (atx_op op word name _ i) h g = exp_any word.span name word i.is h.1.0.1
fits (atx_op_equals _ word _ _) h g = exp_equals word.span
fits (atx_quote {ts = ts} {pieces = pieces} from to _ d0 _) h g = quote_goes (span_of from.span.from to.span.to) ts pieces (fits d0 (each_front (from ∷ ts) (to ∷ []) h).1 g)
fits (atx_unit opening closing _ _) h g = unit_goes (span_of opening.span.from closing.span.to)
fits (atx_paren {ts = ts} opening closing _ d0 _) h g = (fits d0 (each_front (opening ∷ ts) (closing ∷ []) h).1 g)
fits (atx_tuple {ts = ts} {first = first} {next = next} {more = more} opening closing _ d0 _) h g = tuple_goes (span_of opening.span.from closing.span.to) (first ∷ next ∷ more) (fits d0 (each_front (opening ∷ ts) (closing ∷ []) h).1 g)
fits (atx_seq {ts = ts} {first = first} {next = next} {more = more} opening closing _ d0 _) h g = seq_goes (span_of opening.span.from closing.span.to) (first ∷ next ∷ more) (fits d0 (each_front (opening ∷ ts) (closing ∷ []) h).1 g)
fits (atx_no_list opening closing _ _) h g = list_goes (span_of opening.span.from closing.span.to) [] tt
fits (atx_list {ts = ts} {all = all} opening closing _ d0 _) h g = list_goes (span_of opening.span.from closing.span.to) all (fits d0 (each_front (opening ∷ ts) (closing ∷ []) h).1 g)
fits (atx_let {ts = ts} {us = us} {locals = locals} {all = all} {ls = ls} {ms = ms} let_ in_ end_ _ d0 _ d1 _) h g = let_goes (span_of let_.span.from end_.span.to) locals all (fits d0 (each_front (let_ ∷ ts) (in_ ∷ us) (each_front (let_ ∷ ts ++ in_ ∷ us) (end_ ∷ []) h)).1 (nil_front (ls) (ms) g)) (fits d1 (each_back (let_ ∷ ts) (in_ ∷ us) (each_front (let_ ∷ ts ++ in_ ∷ us) (end_ ∷ []) h)).1 (nil_back (ls) (ms) g))
fits (quoted_last {ts = ts} {text = text} d0) h g = last_goes ts text (fits d0 h refl)
fits (quoted_more {ts = ts} {us = us} {ws = ws} {text = text} {anti = anti} {pieces = pieces} {ls = ls} {ms = ms} d0 d1 d2) h g = more_goes ts us ws text anti pieces (each_back ts (us ++ ws) (subst Spelt (append_assoc ts us ws) h)) (fits d0 (each_front (ts) (us) (each_front (ts ++ us) (ws) h)) refl) (fits d1 (each_back (ts) (us) (each_front (ts ++ us) (ws) h)) (nil_front (ls) (ms) g)) (fits d2 (each_back (ts ++ us) (ws) h) (nil_back (ls) (ms) g))
fits (no_text) h g = no_text_goes
fits (some_text word byte bytes i) h g = text_goes word byte bytes i h.0.1
fits (anti_name word name i) h g = anti_name_goes (span_of (name_place word.span) word.span.to) word name i h.0.1
fits (anti_exp {ts = ts} {body = body} from to _ d0 _) h g = anti_goes (from ∷ ts ++ to ∷ []) body (fits d0 (each_front (from ∷ ts) (to ∷ []) h).1 g)
fits (exps_one d0) h g = ((fits d0 h g), tt)
fits (exps_more {ts = ts} {us = us} {more = more} {ls = ls} {ms = ms} word d0 _ d1) h g = ((fits d0 (each_front (ts) (word ∷ us) h) (nil_front (ls) (ms) g)), (fits d1 (each_back (ts) (word ∷ us) h).1 (nil_back (ls) (ms) g)))
fits (app_one d0) h g = (fits d0 h g)
fits (app_to {ts = ts} {us = us} {function = function} {argument = argument} {ls = ls} {ms = ms} d0 d1) h g = app_goes (extent (ts ++ us)) function argument (fits d0 (each_front (ts) (us) h) (nil_front (ls) (ms) g)) (fits d1 (each_back (ts) (us) h) (nil_back (ls) (ms) g))
fits (inf_top d0) h g = (fits d0 h g)
fits (inf_up d0) h g = (fits d0 h g)
fits (inf_left {name = name} {ts = ts} {us = us} {left = left} {right = right} {ls = ls} {ms = ms} word i _ d0 d1) h g = infix_goes (extent (ts ++ word ∷ us)) word.span name left right (exp_infix word.span name word i (each_back (ts) (word ∷ us) h).0.1) (fits d0 (each_front (ts) (word ∷ us) h) (nil_front (ls) (ms) g)) (fits d1 (each_back (ts) (word ∷ us) h).1 (nil_back (ls) (ms) g))
fits (inf_right {name = name} {ts = ts} {us = us} {left = left} {right = right} {ls = ls} {ms = ms} word i _ d0 d1) h g = infix_goes (extent (ts ++ word ∷ us)) word.span name left right (exp_infix word.span name word i (each_back (ts) (word ∷ us) h).0.1) (fits d0 (each_front (ts) (word ∷ us) h) (nil_front (ls) (ms) g)) (fits d1 (each_back (ts) (word ∷ us) h).1 (nil_back (ls) (ms) g))
fits (tyx_one d0) h g = (fits d0 h g)
fits (tyx_typed {ts = ts} {us = us} {body = body} {type_ = type_} {ls = ls} {ms = ms} word d0 _ d1) h g = typed_goes (extent (ts ++ word ∷ us)) body type_ (fits d0 (each_front (ts) (word ∷ us) h) (nil_front (ls) (ms) g)) (fits d1 (each_back (ts) (word ∷ us) h).1 (nil_back (ls) (ms) g))
fits (andc_one d0) h g = (fits d0 h g)
fits (andc_both {ts = ts} {us = us} {left = left} {right = right} {ls = ls} {ms = ms} word d0 _ d1) h g = both_goes (extent (ts ++ word ∷ us)) left right (fits d0 (each_front (ts) (word ∷ us) h) (nil_front (ls) (ms) g)) (fits d1 (each_back (ts) (word ∷ us) h).1 (nil_back (ls) (ms) g))
fits (ande_tail {ts = ts} {us = us} {left = left} {right = right} {ls = ls} {ms = ms} word d0 _ d1) h g = both_goes (extent (ts ++ word ∷ us)) left right (fits d0 (each_front (ts) (word ∷ us) h) (nil_front (ls) (ms) g)) (fits d1 (each_back (ts) (word ∷ us) h).1 (nil_back (ls) (ms) g))
fits (ande_more {ts = ts} {us = us} {left = left} {right = right} {ls = ls} {ms = ms} word d0 _ d1) h g = both_goes (extent (ts ++ word ∷ us)) left right (fits d0 (each_front (ts) (word ∷ us) h) (nil_front (ls) (ms) g)) (fits d1 (each_back (ts) (word ∷ us) h).1 (nil_back (ls) (ms) g))
fits (orc_one d0) h g = (fits d0 h g)
fits (orc_either {ts = ts} {us = us} {left = left} {right = right} {ls = ls} {ms = ms} word d0 _ d1) h g = either_goes (extent (ts ++ word ∷ us)) left right (fits d0 (each_front (ts) (word ∷ us) h) (nil_front (ls) (ms) g)) (fits d1 (each_back (ts) (word ∷ us) h).1 (nil_back (ls) (ms) g))
fits (ore_one d0) h g = (fits d0 h g)
fits (ore_tail {ts = ts} {us = us} {left = left} {right = right} {ls = ls} {ms = ms} word d0 _ d1) h g = either_goes (extent (ts ++ word ∷ us)) left right (fits d0 (each_front (ts) (word ∷ us) h) (nil_front (ls) (ms) g)) (fits d1 (each_back (ts) (word ∷ us) h).1 (nil_back (ls) (ms) g))
fits (ore_more {ts = ts} {us = us} {left = left} {right = right} {ls = ls} {ms = ms} word d0 _ d1) h g = either_goes (extent (ts ++ word ∷ us)) left right (fits d0 (each_front (ts) (word ∷ us) h) (nil_front (ls) (ms) g)) (fits d1 (each_back (ts) (word ∷ us) h).1 (nil_back (ls) (ms) g))
fits (exp_tail d0) h g = (fits d0 h g)
fits (exp_orc d0) h g = (fits d0 h g)
fits (exp_ore d0) h g = (fits d0 h g)
fits (exp_handle {ts = ts} {us = us} {body = body} {rules = rules} {ls = ls} {ms = ms} word d0 _ d1) h g = handle_goes (extent (ts ++ word ∷ us)) body rules (fits d0 (each_front (ts) (word ∷ us) h) (nil_front (ls) (ms) g)) (rule_claims rules (fits d1 (each_back (ts) (word ∷ us) h).1 (nil_back (ls) (ms) g)))
fits (tail_raise {ts = ts} {body = body} word _ d0) h g = raise_goes (extent (word ∷ ts)) body (fits d0 h.1 g)
fits (tail_if {ts = ts} {us = us} {ws = ws} {test = test} {chosen = chosen} {otherwise = otherwise} {ls = ls} {ms = ms} {ns = ns} if_ then_ else_ _ d0 _ d1 _ d2) h g = if_goes (extent (if_ ∷ ts ++ then_ ∷ us ++ else_ ∷ ws)) test chosen otherwise (fits d0 (each_front (if_ ∷ ts) (then_ ∷ us) (each_front (if_ ∷ ts ++ then_ ∷ us) (else_ ∷ ws) h)).1 (nil_front (ls) (ms) (nil_front (ls ++ ms) (ns) g))) (fits d1 (each_back (if_ ∷ ts) (then_ ∷ us) (each_front (if_ ∷ ts ++ then_ ∷ us) (else_ ∷ ws) h)).1 (nil_back (ls) (ms) (nil_front (ls ++ ms) (ns) g))) (fits d2 (each_back (if_ ∷ ts ++ then_ ∷ us) (else_ ∷ ws) h).1 (nil_back (ls ++ ms) (ns) g))
fits (tail_case {ts = ts} {us = us} {body = body} {rules = rules} {ls = ls} {ms = ms} case_ of_ _ d0 _ d1) h g = case_goes (extent (case_ ∷ ts ++ of_ ∷ us)) body rules (fits d0 (each_front (case_ ∷ ts) (of_ ∷ us) h).1 (nil_front (ls) (ms) g)) (rule_claims rules (fits d1 (each_back (case_ ∷ ts) (of_ ∷ us) h).1 (nil_back (ls) (ms) g)))
fits (tail_fn {ts = ts} {rules = rules} word _ d0) h g = fn_goes (extent (word ∷ ts)) rules (rule_claims rules (fits d0 h.1 g))
fits (match_last d0) h g = ((fits d0 h g), tt)
fits (match_more {ts = ts} {us = us} {more = more} {ls = ls} {ms = ms} bar d0 _ d1) h g = ((fits d0 (each_front (ts) (bar ∷ us) h) (nil_front (ls) (ms) g)), (fits d1 (each_back (ts) (bar ∷ us) h).1 (nil_back (ls) (ms) g)))
fits (one_rule {ts = ts} {us = us} {left = left} {body = body} {ls = ls} {ms = ms} arrow d0 _ d1) h g = rule_read left body (fits d0 (each_front (ts) (arrow ∷ us) h) (nil_front (ls) (ms) g)) (fits d1 (each_back (ts) (arrow ∷ us) h).1 (nil_back (ls) (ms) g))
fits (head_name word name i) h g = head_read name word i h.0.0 h.0.1
fits (head_op op word name m i) h g = head_any name word i.is h.1.0.0 h.1.0.1
fits (atpat_any word _) h g = (any_goes word.span, ap is_number (form-Any word.span))
fits (atpat_int word number i) h g = (pat_int_goes word.span number (subst IsSpelt i h.0.1), ap is_number (form-Int word.span number))
fits (atpat_char word byte i) h g = (pat_char_goes word.span byte (subst IsSpelt i h.0.1), ap is_number (form-Char word.span byte))
fits (atpat_str word text i) h g = (pat_str_goes word.span text (subst IsSpelt i h.0.1), ap is_number (form-Str word.span text))
fits (atpat_name {ts = ts} {place = place} {name = name} d0) h g = let k = fits d0 h refl in (pat_name_goes (span_of place (last_of ts)) name k.0, ap is_number (form-Name (span_of place (last_of ts)) name) ∙ k.1)
fits (atpat_unit opening closing _ _) h g = (pat_unit_goes (span_of opening.span.from closing.span.to), ap is_number (form-Unit (span_of opening.span.from closing.span.to)))
fits (atpat_paren {ts = ts} opening closing _ d0 _) h g = (fits d0 (each_front (opening ∷ ts) (closing ∷ []) h).1 g)
fits (atpat_tuple {ts = ts} {first = first} {next = next} {more = more} opening closing _ d0 _) h g = (pat_tuple_goes (span_of opening.span.from closing.span.to) (first ∷ next ∷ more) (each_map PatNum PatGoes (λ x c. c.0) (first ∷ next ∷ more) (fits d0 (each_front (opening ∷ ts) (closing ∷ []) h).1 g)), ap is_number (form-Tuple (span_of opening.span.from closing.span.to) (first ∷ next ∷ more)))
fits (atpat_no_list opening closing _ _) h g = (pat_list_goes (span_of opening.span.from closing.span.to) [] tt, ap is_number (form-List (span_of opening.span.from closing.span.to) []))
fits (atpat_list {ts = ts} {all = all} opening closing _ d0 _) h g = pat_listed (span_of opening.span.from closing.span.to) all (fits d0 (each_front (opening ∷ ts) (closing ∷ []) h).1 g)
fits (pats_one d0) h g = ((fits d0 h g), tt)
fits (pats_more {ts = ts} {us = us} {more = more} {ls = ls} {ms = ms} comma d0 _ d1) h g = ((fits d0 (each_front (ts) (comma ∷ us) h) (nil_front (ls) (ms) g)), (fits d1 (each_back (ts) (comma ∷ us) h).1 (nil_back (ls) (ms) g)))
fits (atpats_none) h g = (tt, refl)
fits (atpats_more {ts = ts} {us = us} {ls = ls} {ms = ms} d0 d1) h g = (((fits d0 (each_front (ts) (us) h) (nil_front (ls) (ms) g)), (fits d1 (each_back (ts) (us) h) (nil_back (ls) (ms) g)).0), ap suc (fits d1 (each_back (ts) (us) h) (nil_back (ls) (ms) g)).1)
fits (apat_one d0) h g = (fits d0 h g)
fits (apat_con {ts = ts} {us = us} {place = place} {name = name} {argument = argument} d0 d1) h g = (pat_con_goes (span_of place (last_of us)) name argument (fits d0 (each_front (ts) (us) h) refl).0 (fits d1 (each_back (ts) (us) h) g).0, ap is_number (form-Con (span_of place (last_of us)) name argument))
fits (cpat_one d0) h g = (fits d0 h g)
fits (cpat_cons {ts = ts} {us = us} {left = left} {right = right} {ls = ls} {ms = ms} word d0 i d1) h g = (pat_con_goes (extent (ts ++ word ∷ us)) (codes "::") (pat_at (extent (ts ++ word ∷ us)) (p.Tuple (left ∷ right ∷ []))) (any_headed (codes "::") word i.is (each_back (ts) (word ∷ us) h).0.1) (pat_tuple_goes (extent (ts ++ word ∷ us)) (left ∷ right ∷ []) ((fits d0 (each_front (ts) (word ∷ us) h) (nil_front (ls) (ms) g)).0, ((fits d1 (each_back (ts) (word ∷ us) h).1 (nil_back (ls) (ms) g)).0, tt))), ap is_number (form-Con (extent (ts ++ word ∷ us)) (codes "::") (pat_at (extent (ts ++ word ∷ us)) (p.Tuple (left ∷ right ∷ [])))))
fits (pat_one d0) h g = (fits d0 h g)
fits (pat_typed {ts = ts} {us = us} {body = body} {type_ = type_} {ls = ls} {ms = ms} word d0 _ d1) h g = (pat_typed_goes (extent (ts ++ word ∷ us)) body type_ (fits d0 (each_front (ts) (word ∷ us) h) (nil_front (ls) (ms) g)).0 (fits d1 (each_back (ts) (word ∷ us) h).1 (nil_back (ls) (ms) g)), ap is_number (form-Typed (extent (ts ++ word ∷ us)) body type_))
fits (conty_name word name i) h g = con_goes word.span name [] (typed_name name word i h.0.1) tt
fits (conty_var word name i) h g = var_goes word.span name (subst IsSpelt i.is h.0.1)
fits (conty_paren {ts = ts} opening closing _ d0 _) h g = (fits d0 (each_front (opening ∷ ts) (closing ∷ []) h).1 g)
fits (conty_one {v = v} {ts = ts} {argument = argument} word name d0 i) h g = con_goes (extent (ts ++ word ∷ [])) name (argument ∷ []) (typed_name name word i (each_back (ts) (word ∷ []) h).0.1) (fits d0 (each_front (ts) (word ∷ []) h) g, tt)
fits (conty_several {v = v} {ts = ts} {first = first} {next = next} {more = more} opening closing word name _ d0 _ i) h g = con_goes (span_of opening.span.from word.span.to) name (first ∷ next ∷ more) (typed_name name word i (each_back (opening ∷ ts) (closing ∷ word ∷ []) h).1.0.1) (fits d0 (each_front (opening ∷ ts) (closing ∷ word ∷ []) h).1 g)
fits (tys_one d0) h g = ((fits d0 h g), tt)
fits (tys_more {ts = ts} {us = us} {ls = ls} {ms = ms} comma d0 _ d1) h g = ((fits d0 (each_front (ts) (comma ∷ us) h) (nil_front (ls) (ms) g)), (fits d1 (each_back (ts) (comma ∷ us) h).1 (nil_back (ls) (ms) g)))
fits (stars_one d0) h g = ((fits d0 h g), tt)
fits (stars_more {ts = ts} {us = us} {ls = ls} {ms = ms} word d0 _ d1) h g = ((fits d0 (each_front (ts) (word ∷ us) h) (nil_front (ls) (ms) g)), (fits d1 (each_back (ts) (word ∷ us) h).1 (nil_back (ls) (ms) g)))
fits (tupty_one d0) h g = (fits d0 h g).0
fits (tupty_several {v = v} {ts = ts} {first = first} {next = next} {more = more} d0) h g = ty_tuple_goes (extent ts) (first ∷ next ∷ more) (fits d0 h g)
fits (ty_one d0) h g = (fits d0 h g)
fits (ty_arrow {v = v} {ts = ts} {us = us} {left = left} {right = right} {ls = ls} {ms = ms} word d0 _ d1) h g = arrow_goes (extent (ts ++ word ∷ us)) left right (fits d0 (each_front (ts) (word ∷ us) h) (nil_front (ls) (ms) g)) (fits d1 (each_back (ts) (word ∷ us) h).1 (nil_back (ls) (ms) g))
fits (vars_none) h g = tt
fits (vars_one word name i) h g = (one_var name word i h.0.1, tt)
fits (vars_several {ts = ts} opening closing _ d0 _) h g = fits d0 (each_front (opening ∷ ts) (closing ∷ []) h).1 refl
fits (more_vars_one word name i) h g = (one_var name word i h.0.1, tt)
fits (more_vars_more word comma name i _ d0) h g = (one_var name word i h.0.1, fits d0 h.1.1 refl)
fits (dec_val {i = i} {ts = ts} {all = all} word _ d0) h g = val_goes (extent (word ∷ ts)) all (fits d0 h.1 g)
fits (dec_rec {i = i} {ts = ts} {all = all} word rec_ _ _ d0) h g = funs_go (extent (word ∷ rec_ ∷ ts)) all (fits d0 h.1.1 g)
fits (dec_fun {i = i} {ts = ts} {all = all} word _ d0) h g = funs_go (extent (word ∷ ts)) all (fits d0 h.1 g)
fits (dec_type {i = i} {ts = ts} {all = all} {ls = ls} word _ d0) h g = abbrevs_go (extent (word ∷ ts)) all (fits d0 h.1 (nil_back (local_lack i word) ls g))
fits (dec_datatype {i = i} {ts = ts} {all = all} {ls = ls} word _ d0) h g = datas_go (extent (word ∷ ts)) all (fits d0 h.1 (nil_back (local_lack i word) ls (nil_front (local_lack i word ++ ls) (nested_in_bindings (length ts) all all) g)))
fits (dec_exception {i = i} {ts = ts} {all = all} {ls = ls} word _ d0) h g = exns_go (extent (word ∷ ts)) all (fits d0 h.1 (nil_back (local_lack i word) ls g))
fits (dec_local {i = i} {ts = ts} {us = us} {first = first} {second = second} {ls = ls} {ms = ms} local_ in_ end_ _ d0 _ d1 _) h g = local_goes (span_of local_.span.from end_.span.to) first second (fits d0 (each_front (local_ ∷ ts) (in_ ∷ us) (each_front (local_ ∷ ts ++ in_ ∷ us) (end_ ∷ []) h)).1 (nil_front (ls) (ms) g)) (fits d1 (each_back (local_ ∷ ts) (in_ ∷ us) (each_front (local_ ∷ ts ++ in_ ∷ us) (end_ ∷ []) h)).1 (nil_back (ls) (ms) g))
fits (dec_replication {i = i} word _ _ _ _ _ _ _ _ _ _ _) h g = absurd (not_mid (local_lack i word) _ [] g)
fits (decs_none) h g = tt
fits (decs_more {ts = ts} {us = us} {ls = ls} {ms = ms} d0 d1) h g = ((fits d0 (each_front (ts) (us) h) (nil_front (ls) (ms) g)), (fits d1 (each_back (ts) (us) h) (nil_back (ls) (ms) g)))
fits (decs_parted {ts = ts} {us = us} {ls = ls} {ms = ms} word d0 _ d1) h g = ((fits d0 (each_front (ts) (word ∷ us) h) (nil_front (ls) (ms) g)), (fits d1 (each_back (ts) (word ∷ us) h).1 (nil_back (ls) (ms) g)))
fits (binds_one {ts = ts} {us = us} {ls = ls} {ms = ms} equals d0 _ d1) h g = (((fits d0 (each_front (ts) (equals ∷ us) h) (nil_front (ls) (ms) g)).0, (fits d1 (each_back (ts) (equals ∷ us) h).1 (nil_back (ls) (ms) g))), tt)
fits (binds_more {ts = ts} {us = us} {ws = ws} {more = more} {ls = ls} {ms = ms} {ns = ns} equals and_ d0 _ d1 _ d2) h g = (((fits d0 (each_front (ts) (equals ∷ us) (each_front (ts ++ equals ∷ us) (and_ ∷ ws) h)) (nil_front (ls) (ms) (nil_front (ls ++ ms) (ns) g))).0, (fits d1 (each_back (ts) (equals ∷ us) (each_front (ts ++ equals ∷ us) (and_ ∷ ws) h)).1 (nil_back (ls) (ms) (nil_front (ls ++ ms) (ns) g)))), (fits d2 (each_back (ts ++ equals ∷ us) (and_ ∷ ws) h).1 (nil_back (ls ++ ms) (ns) g)))
fits (recs_one {rules = rules} word equals fn_ name i _ _ d0) h g = (rec_goes name rules (any_headed name word i.is h.0.1) (fits d0 h.1.1.1 g), tt)
fits (recs_more {ts = ts} {us = us} {rules = rules} {more = more} {ls = ls} {ms = ms} word equals fn_ and_ name i _ _ d0 _ d1) h g = (rec_goes name rules (any_headed name word i.is (each_front (word ∷ equals ∷ fn_ ∷ ts) (and_ ∷ us) h).0.1) (fits d0 (each_front (word ∷ equals ∷ fn_ ∷ ts) (and_ ∷ us) h).1.1.1 (nil_front (ls) (ms) g)), (fits d1 (each_back (word ∷ equals ∷ fn_ ∷ ts) (and_ ∷ us) h).1 (nil_back (ls) (ms) g)))
fits (funs_one {name = name} {count = count} {ts = ts} {rules = rules} d0) h g = (fun_goes (extent ts) name count rules (fits d0 h g), tt)
fits (funs_more {name = name} {count = count} {ts = ts} {us = us} {rules = rules} {more = more} {ls = ls} {ms = ms} and_ d0 _ d1) h g = (fun_goes (extent ts) name count rules (fits d0 (each_front (ts) (and_ ∷ us) h) (nil_front (ls) (ms) g)), (fits d1 (each_back (ts) (and_ ∷ us) h).1 (nil_back (ls) (ms) g)))
fits (clauses_last d0) h g = ((fits d0 h g), tt)
fits (clauses_more {name = name} {count = count} {ts = ts} {us = us} {more = more} {ls = ls} {ms = ms} bar d0 _ d1) h g = ((fits d0 (each_front (ts) (bar ∷ us) h) (nil_front (ls) (ms) g)), (fits d1 (each_back (ts) (bar ∷ us) h).1 (nil_back (ls) (ms) g)))
fits (clause_plain {name = name} {count = count} {ts = ts} {us = us} {ws = ws} {first = first} {more = more} {body = body} {ls = ls} {ms = ms} equals d0 d1 _ d2) h g = clause_step name (suc count) (extent (ts ++ us ++ equals ∷ ws)) first more body (fits d0 (each_front (ts) (us) (each_front (ts ++ us) (equals ∷ ws) h)) refl).0 (fits d1 (each_back (ts) (us) (each_front (ts ++ us) (equals ∷ ws) h)) (nil_front (ls) (ms) g)) (fits d2 (each_back (ts ++ us) (equals ∷ ws) h).1 (nil_back (ls) (ms) g))
fits (clause_typed {name = name} {count = count} {ts = ts} {us = us} {vs = vs} {ws = ws} {first = first} {more = more} {type_ = type_} {body = body} {ls = ls} {ms = ms} {ns = ns} colon equals d0 d1 _ d2 _ d3) h g = clause_step name (suc count) (extent (ts ++ us ++ colon ∷ vs ++ equals ∷ ws)) first more (exp_at (extent (ts ++ us ++ colon ∷ vs ++ equals ∷ ws)) (e.Typed body type_)) (fits d0 (each_front (ts) (us) (each_front (ts ++ us) (colon ∷ vs) (each_front (ts ++ us ++ colon ∷ vs) (equals ∷ ws) h))) refl).0 (fits d1 (each_back (ts) (us) (each_front (ts ++ us) (colon ∷ vs) (each_front (ts ++ us ++ colon ∷ vs) (equals ∷ ws) h))) (nil_front (ls) (ms) (nil_front (ls ++ ms) (ns) g))) (typed_goes (extent (ts ++ us ++ colon ∷ vs ++ equals ∷ ws)) body type_ (fits d3 (each_back (ts ++ us ++ colon ∷ vs) (equals ∷ ws) h).1 (nil_back (ls ++ ms) (ns) g)) (fits d2 (each_back (ts ++ us) (colon ∷ vs) (each_front (ts ++ us ++ colon ∷ vs) (equals ∷ ws) h)).1 (nil_back (ls) (ms) (nil_front (ls ++ ms) (ns) g))))
fits (clause_infix {ls = ls} {ms = ms} {ns = ns} word _ _ _ _ _ _) h g = absurd (not_mid ls _ ms (nil_front (ls ++ (word.span.from, l.InfixClause) ∷ ms) ns g))
fits (clause_infix_typed {ls = ls} {ms = ms} {ns = ns} {ks = ks} word _ _ _ _ _ _ _ _ _) h g = absurd (not_mid ls _ ms (nil_front (ls ++ (word.span.from, l.InfixClause) ∷ ms) ns (nil_front (ls ++ (word.span.from, l.InfixClause) ∷ ms ++ ns) ks g)))
fits (abbrevs_one {ts = ts} {us = us} {names = names} {type_ = type_} word equals name dv i _ d0) h g = (abbrev_goes names name type_ (fits dv (each_front (ts) (word ∷ equals ∷ us) h) refl) (any_steady name word i.is (each_back (ts) (word ∷ equals ∷ us) h).0.1) (fits d0 (each_back (ts) (word ∷ equals ∷ us) h).1.1 g), tt)
fits (abbrevs_more {ts = ts} {us = us} {ws = ws} {names = names} {type_ = type_} {more = more} {ls = ls} {ms = ms} word equals and_ name dv i _ d0 _ d1) h g = (abbrev_goes names name type_ (fits dv (each_front (ts) (word ∷ equals ∷ us) (each_front (ts ++ word ∷ equals ∷ us) (and_ ∷ ws) h)) refl) (any_steady name word i.is (each_back (ts) (word ∷ equals ∷ us) (each_front (ts ++ word ∷ equals ∷ us) (and_ ∷ ws) h)).0.1) (fits d0 (each_back (ts) (word ∷ equals ∷ us) (each_front (ts ++ word ∷ equals ∷ us) (and_ ∷ ws) h)).1.1 (nil_front (ls) (ms) g)), fits d1 (each_back (ts ++ word ∷ equals ∷ us) (and_ ∷ ws) h).1 (nil_back (ls) (ms) g))
fits (datas_one {ts = ts} {us = us} {names = names} {all = all} word equals name dv i _ d0) h g = (data_goes names name all (fits dv (each_front (ts) (word ∷ equals ∷ us) h) refl) (any_steady name word i.is (each_back (ts) (word ∷ equals ∷ us) h).0.1) (fits d0 (each_back (ts) (word ∷ equals ∷ us) h).1.1 g), tt)
fits (datas_more {ts = ts} {us = us} {ws = ws} {names = names} {all = all} {more = more} {ls = ls} {ms = ms} word equals and_ name dv i _ d0 _ d1) h g = (data_goes names name all (fits dv (each_front (ts) (word ∷ equals ∷ us) (each_front (ts ++ word ∷ equals ∷ us) (and_ ∷ ws) h)) refl) (any_steady name word i.is (each_back (ts) (word ∷ equals ∷ us) (each_front (ts ++ word ∷ equals ∷ us) (and_ ∷ ws) h)).0.1) (fits d0 (each_back (ts) (word ∷ equals ∷ us) (each_front (ts ++ word ∷ equals ∷ us) (and_ ∷ ws) h)).1.1 (nil_front (ls) (ms) g)), fits d1 (each_back (ts ++ word ∷ equals ∷ us) (and_ ∷ ws) h).1 (nil_back (ls) (ms) g))
fits (cons_one word name i) h g = (con_def_goes name None (any_steady name word i.is h.0.1) none, tt)
fits (cons_of {type_ = type_} word of_ name i _ d0) h g = (con_def_goes name (Some type_) (any_steady name word i.is h.0.1) (of_goes type_ (fits d0 h.1.1 g)), tt)
fits (cons_more word bar name i _ d0) h g = (con_def_goes name None (any_steady name word i.is h.0.1) none, fits d0 h.1.1 g)
fits (cons_of_more {ts = ts} {us = us} {type_ = type_} {ls = ls} {ms = ms} word of_ bar name i _ d0 _ d1) h g = (con_def_goes name (Some type_) (any_steady name word i.is (each_front (word ∷ of_ ∷ ts) (bar ∷ us) h).0.1) (of_goes type_ (fits d0 (each_front (word ∷ of_ ∷ ts) (bar ∷ us) h).1.1 (nil_front (ls) (ms) g))), fits d1 (each_back (word ∷ of_ ∷ ts) (bar ∷ us) h).1 (nil_back (ls) (ms) g))
fits (exns_one word name i) h g = (con_def_goes name None (any_steady name word i.is h.0.1) none, tt)
fits (exns_of {type_ = type_} word of_ name i _ d0) h g = (con_def_goes name (Some type_) (any_steady name word i.is h.0.1) (of_goes type_ (fits d0 h.1.1 g)), tt)
fits (exns_same _ _ _ _ _ _ _ _) h g = absurd (not_cons _ _ g)
fits (exns_more word and_ name i _ d0) h g = (con_def_goes name None (any_steady name word i.is h.0.1) none, fits d0 h.1.1 g)
fits (exns_of_more {ts = ts} {us = us} {type_ = type_} {ls = ls} {ms = ms} word of_ and_ name i _ d0 _ d1) h g = (con_def_goes name (Some type_) (any_steady name word i.is (each_front (word ∷ of_ ∷ ts) (and_ ∷ us) h).0.1) (of_goes type_ (fits d0 (each_front (word ∷ of_ ∷ ts) (and_ ∷ us) h).1.1 (nil_front (ls) (ms) g))), fits d1 (each_back (word ∷ of_ ∷ ts) (and_ ∷ us) h).1 (nil_back (ls) (ms) g))
fits (exns_same_more _ _ _ _ _ _ _ _ _ _ _) h g = absurd (not_cons _ _ g)
fits (items_none) h g = tt
fits (items_dec {ts = ts} {us = us} {ls = ls} {ms = ms} d0 d1) h g = ((fits d0 (each_front (ts) (us) h) (nil_front (ls) (ms) g)), (fits d1 (each_back (ts) (us) h) (nil_back (ls) (ms) g)))
fits (items_exp {ts = ts} {body = body} d0) h g = (it_goes (extent ts) body (fits d0 h g), tt)
fits (items_exp_more {ts = ts} {us = us} {body = body} {ls = ls} {ms = ms} word d0 _ d1) h g = (it_goes (extent ts) body (fits d0 (each_front (ts) (word ∷ us) h) (nil_front (ls) (ms) g)), (fits d1 (each_back (ts) (word ∷ us) h).1 (nil_back (ls) (ms) g)))
fits (items_after_none) h g = tt
fits (items_after_dec {ts = ts} {us = us} {ls = ls} {ms = ms} d0 d1) h g = ((fits d0 (each_front (ts) (us) h) (nil_front (ls) (ms) g)), (fits d1 (each_back (ts) (us) h) (nil_back (ls) (ms) g)))
fits (items_after_semicolon _ _ d0) h g = fits d0 h.1 g

spelt : (ts : List Token) → Each (λ (t : Token). IsSpelt t.form) ts → QuotesFit ts → Each IsFine ts → Spelt ts
spelt [] h q g = tt
spelt (t ∷ ts) h q g = ((g.0, h.0, q.0), spelt ts h.1 q.1 g.1)

pub forms_fit : FormsFit
forms_fit ts x h q g d = subst (Fits Outside) (append-nil (flat_map dec_forms x.items)) (row dec_forms x.items (fits d (spelt ts h q g) refl) Outside [] tt fits_none)

dec_fits : (d : Dec) → DecGoes d → Fits Outside (dec_forms d)
dec_fits d k = subst (Fits Outside) (append-nil (dec_forms d)) (k Outside [] tt fits_none)

-- those of each declaration, too
pub decs_fit : (ts : List Token) (x : Program) → Each (λ (t : Token). IsSpelt t.form) ts → QuotesFit ts → Each IsFine ts → IsProgram ts x → Each (λ (d : Dec). Fits Outside (dec_forms d)) x.items
decs_fit ts x h q g d = each_map DecGoes (λ (d : Dec). Fits Outside (dec_forms d)) dec_fits x.items (fits d (spelt ts h q g) refl)
