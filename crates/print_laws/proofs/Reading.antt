-- What is printed of each tree that has tokens is read as a tree that is the same, spans aside: by recursion over the derivation,
-- one line a production.
use Rattle.std.proofs.Common.{◌≡◌, ℕ, suc, inl, inr, List, [], ◌∷◌, ◌++◌, length, refl, ap, ◌∙◌, arith, Option}
use Rattle.std.specs.Prelude.{codes, flat_map, Bool, true, false}
use Rattle.sml_syntax.specs.declared.token.Token.{Token}
use Rattle.sml_syntax.specs.declared.token.Lack.TheVariants as l
use Rattle.sml_syntax.specs.declared.tree.Span.{Span}
use Rattle.sml_syntax.specs.declared.tree.Ty.{Ty}
use Rattle.sml_syntax.specs.declared.tree.TyForm.TheVariants as t
use Rattle.sml_syntax.specs.declared.tree.Pat.{Pat}
use Rattle.sml_syntax.specs.declared.tree.PatForm.TheVariants as p
use Rattle.sml_syntax.specs.declared.tree.Rule.{Rule}
use Rattle.sml_syntax.specs.declared.tree.Exp.{Exp}
use Rattle.sml_syntax.specs.declared.tree.ExpForm.TheVariants as e
use Rattle.sml_syntax.specs.declared.tree.Dec.{Dec}
use Rattle.sml_syntax.specs.declared.tree.DecForm.TheVariants as d
use Rattle.grammar_rules.specs.Programs.{Each}
use Rattle.sml_syntax.specs.Layers.{form_of_pat}
use Rattle.sml_syntax.specs.NestedTypes.{Found, Datatypes, nested_in_bindings}
use Rattle.grammar_rules.specs.Nodes.{exp_at, pat_at, ty_at, dec_at, rule_of, span_of, extent, last_of, name_place, clause_pat, function_rules, it_dec}
use Rattle.grammar_rules.specs.Grammar.{short, long, Tree, Phrase, Is, exp_tree, exps_tree, rule_tree, rules_tree, text_tree, pieces_tree, name_tree, pat_tree, pats_tree, ty_tree, tys_tree, vars_tree, dec_tree, decs_tree, binds_tree, recs_tree, abbrevs_tree, cons_tree, datas_tree, head, atpats, conty, tupty, ty, stars, tys, dec, cons, exns, items, items_after, clause, clauses, variable_lack, local_lack}
use Rattle.grammar_rules.specs.Grammar.{atx_int, atx_char, atx_str, atx_name, atx_op, atx_op_equals, atx_quote, atx_unit, atx_paren, atx_tuple, atx_seq, atx_no_list, atx_list, atx_let, quoted_last, quoted_more, no_text, some_text, anti_name, anti_exp, exps_one, exps_more, app_one, app_to, inf_top, inf_up, inf_left, inf_right, tyx_one, tyx_typed, andc_one, andc_both, ande_tail, ande_more, orc_one, orc_either, ore_one, ore_tail, ore_more, exp_tail, exp_orc, exp_ore, exp_handle, tail_raise, tail_if, tail_case, tail_fn, match_last, match_more, one_rule, head_name, head_op, atpat_any, atpat_int, atpat_char, atpat_str, atpat_name, atpat_unit, atpat_paren, atpat_tuple, atpat_no_list, atpat_list, pats_one, pats_more, atpats_none, atpats_more, apat_one, apat_con, cpat_one, cpat_cons, pat_one, pat_typed, conty_name, conty_var, conty_paren, conty_one, conty_several, tys_one, tys_more, stars_one, stars_more, tupty_one, tupty_several, ty_one, ty_arrow, vars_none, vars_one, vars_several, more_vars_one, more_vars_more, dec_val, dec_rec, dec_fun, dec_type, dec_datatype, dec_exception, dec_local, dec_replication, decs_none, decs_more, decs_parted, binds_one, binds_more, recs_one, recs_more, funs_one, funs_more, clauses_last, clauses_more, clause_plain, clause_typed, clause_infix, clause_infix_typed, abbrevs_one, abbrevs_more, datas_one, datas_more, cons_one, cons_of, cons_more, cons_of_more, exns_one, exns_of, exns_same, exns_more, exns_of_more, exns_same_more, items_none, items_dec, items_exp, items_exp_more, items_after_none, items_after_dec, items_after_semicolon}
use Rattle.print_laws.specs.Printing.{begins_number, is_number, rule_ink, RuleInk, exp_forms, ty_forms, pat_forms, dec_forms, program_forms}
use Rattle.print_laws.specs.SameTree.{no_decs, more_decs}
use Rattle.print_laws.proofs.Bearing.{At, none, both, bears}
use Rattle.print_laws.specs.ReadBack.{IsFine, ExpressionsReadBack, TypesReadBack, PatternsReadBack, DeclarationsReadBack, ProgramsReadBack}
use Rattle.print_laws.proofs.Made.{form-Any, form-Int, form-Char, form-Str, form-Unit, form-Name, form-Tuple, form-List, form-Con, form-Typed, ink-rule}
use Rattle.print_laws.proofs.Claims.{Of, row_at, Some_of, some_each, TyClaim, PatClaim, ExpClaim, each_map}
use Rattle.print_laws.proofs.TypeClaims.{var_claim, con_claim, con_one_claim, con_several_claim, arrow_claim}
use Rattle.print_laws.proofs.TypeClaims as types
use Rattle.print_laws.proofs.PatternClaims.{any_claim, pat_int_claim, pat_char_claim, pat_str_claim, pat_unit_claim, pat_name_claim, pat_tuple_claim, pat_no_list_claim, pat_list_claim, pat_con_claim, pat_typed_claim}
use Rattle.print_laws.proofs.ExpClaims.{int_claim, char_claim, str_claim, name_claim, unit_claim, tuple_claim, seq_claim, no_list_claim, list_claim, app_claim, both_claim, either_claim, typed_claim, raise_claim, if_claim, RuleClaim, fn_claim, case_claim, handle_claim}
use Rattle.print_laws.proofs.DecClaims.{QuotedAt, last_quoted, more_quoted, quote_claim, DecClaim, let_claim, local_claim, BindClaim, val_claim}
use Rattle.print_laws.proofs.Nested.{nil_front, nil_back, deep_datas}
use Rattle.print_laws.proofs.TypeDecClaims.{AbbrevClaim, abbrev_claim, ConClaim, DataClaim, data_claim, exn_claim}
use Rattle.print_laws.proofs.FunClaims.{ClauseClaim, FunClaim, rec_claim}

-- parts of lists
each_front : (xs ys : List Token) → Each IsFine (xs ++ ys) → Each IsFine xs
each_front [] ys h = tt
each_front (x ∷ xs) ys h = (h.0, each_front xs ys h.1)

each_back : (xs ys : List Token) → Each IsFine (xs ++ ys) → Each IsFine ys
each_back [] ys h = h
each_back (x ∷ xs) ys h = each_back xs ys h.1

not_cons : (x : Found) (xs : List Found) → x ∷ xs ≡ [] → ⊥
not_cons x xs h = cc

not_mid : (xs : List Found) (y : Found) (ys : List Found) → xs ++ y ∷ ys ≡ [] → ⊥
not_mid xs y ys h = not_cons y ys (nil_back xs (y ∷ ys) h)

-- the claim of each kind of phrase
pub data Kind : Type 0 where
  plain top : Kind
  rows : ℕ → Kind
  types_of : Bool → Kind
  clausal : List ℕ → ℕ → Kind
  dec_of : Bool → Kind

abbrev pub kind : Phrase → Kind
kind (atpats n) = rows n
kind (conty v) = types_of v
kind (tupty v) = types_of v
kind (ty v) = types_of v
kind (stars v) = types_of v
kind (tys v) = types_of v
kind (clause name n o) = clausal name n
kind (clauses name n) = clausal name n
kind (dec i) = dec_of i
kind cons = types_of true
kind exns = types_of false
kind items = top
kind items_after = top
kind _ = plain

abbrev pub PatNum : Pat → Type 0
PatNum x = PatClaim x × (is_number (form_of_pat x) ≡ false)

abbrev pub NotNumber : Rule → Type 0
NotNumber r = is_number (form_of_pat (rule_ink r).pat) ≡ false

abbrev pub RuleRead : Rule → Type 0
RuleRead r = RuleClaim r × NotNumber r

abbrev pub ClauseRead : List ℕ → ℕ → Rule → Type 0
ClauseRead name n r = ClauseClaim name n r × NotNumber r

abbrev pub RuleBy : Kind → Rule → Type 0
RuleBy (clausal name n) r = ClauseRead name n r
RuleBy _ r = RuleRead r

abbrev pub PatsBy : Kind → List Pat → Type 0
PatsBy (rows n) ps = Each PatNum ps × (length ps ≡ n)
PatsBy _ ps = Some_of PatNum ps

abbrev pub TyBy : Kind → Ty → Type 0
TyBy (types_of v) x = TyClaim v x
TyBy _ x = Unit {0}

abbrev pub TysBy : Kind → List Ty → Type 0
TysBy (types_of v) xs = Each (TyClaim v) xs
TysBy _ xs = Unit {0}

abbrev pub ConsBy : Kind → List (List ℕ × Option Ty) → Type 0
ConsBy (types_of v) cs = Some_of (ConClaim v) cs
ConsBy _ cs = Unit {0}

abbrev pub DecBy : Kind → Dec → Type 0
DecBy (dec_of i) x = DecClaim i x
DecBy _ x = Unit {0}

abbrev pub DecsBy : Kind → List Dec → Type 0
DecsBy top xs = Each (DecClaim false) xs
DecsBy _ xs = Each (DecClaim true) xs

abbrev pub ClaimOf : Kind → Tree → Type 0
ClaimOf k (exp_tree x) = ExpClaim x
ClaimOf k (exps_tree xs) = Some_of ExpClaim xs
ClaimOf k (rule_tree r) = RuleBy k r
ClaimOf k (rules_tree rs) = Some_of (RuleBy k) rs
ClaimOf k (text_tree w) = Unit {0}
ClaimOf k (pieces_tree ps) = QuotedAt ps
ClaimOf k (name_tree n w) = Unit {0}
ClaimOf k (pat_tree x) = PatNum x
ClaimOf k (pats_tree xs) = PatsBy k xs
ClaimOf k (ty_tree x) = TyBy k x
ClaimOf k (tys_tree xs) = TysBy k xs
ClaimOf k (vars_tree xs) = Unit {0}
ClaimOf k (dec_tree x) = DecBy k x
ClaimOf k (decs_tree xs) = DecsBy k xs
ClaimOf k (binds_tree bs) = Some_of BindClaim bs
ClaimOf k (recs_tree gs) = Some_of FunClaim gs
ClaimOf k (abbrevs_tree xs) = Some_of AbbrevClaim xs
ClaimOf k (cons_tree xs) = ConsBy k xs
ClaimOf k (datas_tree xs) = Some_of DataClaim xs

-- productions with a list
listed : (s : Span) (xs : List Exp) → Some_of ExpClaim xs → ExpClaim (exp_at s (e.List xs))
listed s [] h = absurd h
listed s (x ∷ xs) h = list_claim s x xs h

let_in : (s : Span) (ds : List Dec) (xs : List Exp) → Each (DecClaim true) ds → Some_of ExpClaim xs → ExpClaim (exp_at s (e.Let ds xs))
let_in s ds [] g h = absurd h
let_in s ds (x ∷ xs) g h = let_claim s ds x xs g h

infix_claim : (s r : Span) (name : List ℕ) (x y : Exp) → ExpClaim x → ExpClaim y → ExpClaim (exp_at s (e.App (exp_at r (e.Name name)) (exp_at s (e.Tuple (x ∷ y ∷ [])))))
infix_claim s r name x y a b = app_claim s (exp_at r (e.Name name)) (exp_at s (e.Tuple (x ∷ y ∷ []))) (name_claim r name) (tuple_claim s x y [] (a, (b, tt)))

rule_claims : (rs : List Rule) → Each RuleRead rs → Each RuleClaim rs
rule_claims rs h = each_map RuleRead RuleClaim (λ r c. c.0) rs h

fn_read : (s : Span) (rs : List Rule) → Some_of RuleRead rs → ExpClaim (exp_at s (e.Fn rs))
fn_read s [] h = absurd h
fn_read s (r ∷ rs) h = fn_claim s r rs (rule_claims (r ∷ rs) h)

cased : (s : Span) (x : Exp) (rs : List Rule) → ExpClaim x → Some_of RuleRead rs → ExpClaim (exp_at s (e.Case x rs))
cased s x [] a h = absurd h
cased s x (r ∷ rs) a h = case_claim s x r rs a (rule_claims (r ∷ rs) h)

handled : (s : Span) (x : Exp) (rs : List Rule) → ExpClaim x → Some_of RuleRead rs → ExpClaim (exp_at s (e.Handle x rs))
handled s x [] a h = absurd h
handled s x (r ∷ rs) a h = handle_claim s x r rs a (rule_claims (r ∷ rs) h)

rule_read : (x : Pat) (b : Exp) → PatNum x → ExpClaim b → RuleRead (rule_of x b)
rule_read x b h g = (record { left = x; body = b; is = refl; pat_claim = h.0; exp_claim = g }, ap (λ (q : RuleInk). is_number (form_of_pat q.pat)) (ink-rule x b) ∙ h.1)

pat_listed : (s : Span) (xs : List Pat) → Some_of PatNum xs → PatNum (pat_at s (p.List xs))
pat_listed s [] h = absurd h
pat_listed s (x ∷ xs) h = (pat_list_claim s x xs (each_map PatNum PatClaim (λ x c. c.0) (x ∷ xs) h), ap is_number (form-List s (x ∷ xs)))

head_plain : {ts : List Token} {place : ℕ} {name : List ℕ} {ls : List Found} → Is head ts (name_tree place name) ls → Each IsFine ts → begins_number name ≡ false
head_plain (head_name word name (short _ _ i)) h = h.0 name (inl i.is)
head_plain (head_name word name (long _ _ i)) h = h.0 name (inr i.is)
head_plain (head_op op word name _ i) h = h.1.0 name (inl i.is)

var_read : (v : Bool) (w : Token) (name : List ℕ) → variable_lack v w ≡ [] → TyClaim v (ty_at w.span (t.Var name))
var_read true w name h = var_claim w.span name
var_read false w name h = absurd (not_cons _ _ h)

bound : (i : Bool) (s : Span) (bs : List (Pat × Exp)) → Some_of BindClaim bs → DecClaim i (dec_at s (d.Val bs))
bound i s [] h = absurd h
bound i s (b ∷ bs) h = val_claim i s b bs h

recursive : (i : Bool) (s : Span) (gs : List (List ℕ × List Rule)) → Some_of FunClaim gs → DecClaim i (dec_at s (d.ValRec gs))
recursive i s [] h = absurd h
recursive i s (g ∷ gs) h = rec_claim i s g gs h

-- an expression at the top level is a declaration of `it`
it_read : (s : Span) (x : Exp) → ExpClaim x → DecClaim false (it_dec s x)
it_read s x h = val_claim false s (pat_at s (p.Name (codes "it")), x) [] ((pat_name_claim s (codes "it"), h), tt)

-- declarations of types and exceptions stand at the top level only
abbrev_read : (i : Bool) (w : Token) (s : Span) (xs : List (List (List ℕ) × List ℕ × Ty)) → local_lack i w ≡ [] → Some_of AbbrevClaim xs → DecClaim i (dec_at s (d.Abbrev xs))
abbrev_read true w s xs g h = absurd (not_cons _ _ g)
abbrev_read false w s [] g h = absurd h
abbrev_read false w s (x ∷ xs) g h = abbrev_claim s x xs h

data_read : (i : Bool) (w : Token) (s : Span) (xs : Datatypes) → local_lack i w ≡ [] → ((m : ℕ) → nested_in_bindings m xs xs ≡ []) → Some_of DataClaim xs → DecClaim i (dec_at s (d.DataDef xs))
data_read true w s xs g k h = absurd (not_cons _ _ g)
data_read false w s [] g k h = absurd h
data_read false w s (x ∷ xs) g k h = data_claim s x xs k h

exn_read : (i : Bool) (w : Token) (s : Span) (xs : List (List ℕ × Option Ty)) → local_lack i w ≡ [] → Some_of (ConClaim false) xs → DecClaim i (dec_at s (d.ExnDef xs))
exn_read true w s xs g h = absurd (not_cons _ _ g)
exn_read false w s [] g h = absurd h
exn_read false w s (x ∷ xs) g h = exn_claim s x xs h

clause_read : (name : List ℕ) (n : ℕ) (s : Span) (x : Pat) (xs : List Pat) (b : Exp) → Each PatNum (x ∷ xs) × (length (x ∷ xs) ≡ n) → ExpClaim b → ClauseRead name n (rule_of (clause_pat s x xs) b)
clause_read name n s x xs b h g = (
  record { span = s; first = x; more = xs; body = b; is = refl; count_is = h.1; pats_claim = each_map PatNum PatClaim (λ x c. c.0) (x ∷ xs) h.0; exp_claim = g },
  ap (λ (q : RuleInk). is_number (form_of_pat q.pat)) (ink-rule (clause_pat s x xs) b) ∙ go xs,
)
  where
    go : (ys : List Pat) → is_number (form_of_pat (clause_pat s x ys)) ≡ false
    go [] = h.0.0.1
    go (y ∷ ys) = ap is_number (form-Tuple s (x ∷ y ∷ ys))

fun_read : (s : Span) (name : List ℕ) (n : ℕ) (rs : List Rule) → Some_of (ClauseRead name n) rs → FunClaim (name, function_rules s n rs)
fun_read s name n [] h = absurd h
fun_read s name n (r ∷ rs) h = record { span = s; count = n; rule = r; rules = rs; is = refl; plain = h.0.1; clause_claims = each_map (ClauseRead name n) (ClauseClaim name n) (λ q c. c.0) (r ∷ rs) h }

rec_read : (s : Span) (name : List ℕ) (rs : List Rule) → Some_of RuleRead rs → FunClaim (name, rs)
rec_read s name [] h = absurd h
rec_read s name (r ∷ rs) h = record { span = s; count = 1; rule = r; rules = rs; is = refl; plain = h.0.1; clause_claims = each_map RuleRead (ClauseClaim name 1) one (r ∷ rs) h }
  where
    one : (q : Rule) → RuleRead q → ClauseClaim name 1 q
    one q c = record { span = s; first = c.0.left; more = []; body = c.0.body; is = c.0.is; count_is = refl; pats_claim = (c.0.pat_claim, tt); exp_claim = c.0.exp_claim }

pub reads : {phrase : Phrase} {ts : List Token} {tree : Tree} {ls : List Found} → Is phrase ts tree ls → Each IsFine ts → ls ≡ [] → ClaimOf (kind phrase) tree
reads (atx_int word number _) h g = int_claim word.span number
reads (atx_char word byte _) h g = char_claim word.span byte
reads (atx_str word text _) h g = str_claim word.span text
reads (atx_name word name _) h g = name_claim word.span name
reads (atx_op _ word name _ _) h g = name_claim word.span name
reads (atx_op_equals _ word _ _) h g = name_claim word.span (codes "=")
reads (atx_quote {ts = ts} {pieces = pieces} from to _ d0 _) h g = quote_claim (span_of from.span.from to.span.to) pieces (reads d0 (each_front (from ∷ ts) (to ∷ []) h).1 g)
reads (atx_unit opening closing _ _) h g = unit_claim (span_of opening.span.from closing.span.to)
reads (atx_paren {ts = ts} opening closing _ d0 _) h g = (reads d0 (each_front (opening ∷ ts) (closing ∷ []) h).1 g)
reads (atx_tuple {ts = ts} {first = first} {next = next} {more = more} opening closing _ d0 _) h g = tuple_claim (span_of opening.span.from closing.span.to) first next more (reads d0 (each_front (opening ∷ ts) (closing ∷ []) h).1 g)
reads (atx_seq {ts = ts} {first = first} {next = next} {more = more} opening closing _ d0 _) h g = seq_claim (span_of opening.span.from closing.span.to) first next more (reads d0 (each_front (opening ∷ ts) (closing ∷ []) h).1 g)
reads (atx_no_list opening closing _ _) h g = no_list_claim (span_of opening.span.from closing.span.to)
reads (atx_list {ts = ts} {all = all} opening closing _ d0 _) h g = listed (span_of opening.span.from closing.span.to) all (reads d0 (each_front (opening ∷ ts) (closing ∷ []) h).1 g)
reads (atx_let {ts = ts} {us = us} {locals = locals} {all = all} {ls = ls} {ms = ms} let_ in_ end_ _ d0 _ d1 _) h g = let_in (span_of let_.span.from end_.span.to) locals all (reads d0 (each_front (let_ ∷ ts) (in_ ∷ us) (each_front (let_ ∷ ts ++ in_ ∷ us) (end_ ∷ []) h)).1 (nil_front (ls) (ms) g)) (reads d1 (each_back (let_ ∷ ts) (in_ ∷ us) (each_front (let_ ∷ ts ++ in_ ∷ us) (end_ ∷ []) h)).1 (nil_back (ls) (ms) g))
reads (quoted_last {text = text} _) h g = last_quoted text
reads (quoted_more {ts = ts} {us = us} {ws = ws} {text = text} {anti = anti} {pieces = pieces} {ls = ls} {ms = ms} _ d1 d2) h g = more_quoted text anti pieces (reads d1 (each_back (ts) (us) (each_front (ts ++ us) (ws) h)) (nil_front (ls) (ms) g)) (reads d2 (each_back (ts ++ us) (ws) h) (nil_back (ls) (ms) g))
reads (no_text) h g = tt
reads (some_text _ _ _ _) h g = tt
reads (anti_name word name _) h g = name_claim (span_of (name_place word.span) word.span.to) name
reads (anti_exp {ts = ts} from to _ d0 _) h g = (reads d0 (each_front (from ∷ ts) (to ∷ []) h).1 g)
reads (exps_one d0) h g = ((reads d0 h g), tt)
reads (exps_more {ts = ts} {us = us} {more = more} {ls = ls} {ms = ms} word d0 _ d1) h g = ((reads d0 (each_front (ts) (word ∷ us) h) (nil_front (ls) (ms) g)), some_each ExpClaim more (reads d1 (each_back (ts) (word ∷ us) h).1 (nil_back (ls) (ms) g)))
reads (app_one d0) h g = (reads d0 h g)
reads (app_to {ts = ts} {us = us} {function = function} {argument = argument} {ls = ls} {ms = ms} d0 d1) h g = app_claim (extent (ts ++ us)) function argument (reads d0 (each_front (ts) (us) h) (nil_front (ls) (ms) g)) (reads d1 (each_back (ts) (us) h) (nil_back (ls) (ms) g))
reads (inf_top d0) h g = (reads d0 h g)
reads (inf_up d0) h g = (reads d0 h g)
reads (inf_left {name = name} {ts = ts} {us = us} {left = left} {right = right} {ls = ls} {ms = ms} word _ _ d0 d1) h g = infix_claim (extent (ts ++ word ∷ us)) word.span name left right (reads d0 (each_front (ts) (word ∷ us) h) (nil_front (ls) (ms) g)) (reads d1 (each_back (ts) (word ∷ us) h).1 (nil_back (ls) (ms) g))
reads (inf_right {name = name} {ts = ts} {us = us} {left = left} {right = right} {ls = ls} {ms = ms} word _ _ d0 d1) h g = infix_claim (extent (ts ++ word ∷ us)) word.span name left right (reads d0 (each_front (ts) (word ∷ us) h) (nil_front (ls) (ms) g)) (reads d1 (each_back (ts) (word ∷ us) h).1 (nil_back (ls) (ms) g))
reads (tyx_one d0) h g = (reads d0 h g)
reads (tyx_typed {ts = ts} {us = us} {body = body} {type_ = type_} {ls = ls} {ms = ms} word d0 _ d1) h g = typed_claim (extent (ts ++ word ∷ us)) body type_ (reads d0 (each_front (ts) (word ∷ us) h) (nil_front (ls) (ms) g)) (reads d1 (each_back (ts) (word ∷ us) h).1 (nil_back (ls) (ms) g))
reads (andc_one d0) h g = (reads d0 h g)
reads (andc_both {ts = ts} {us = us} {left = left} {right = right} {ls = ls} {ms = ms} word d0 _ d1) h g = both_claim (extent (ts ++ word ∷ us)) left right (reads d0 (each_front (ts) (word ∷ us) h) (nil_front (ls) (ms) g)) (reads d1 (each_back (ts) (word ∷ us) h).1 (nil_back (ls) (ms) g))
reads (ande_tail {ts = ts} {us = us} {left = left} {right = right} {ls = ls} {ms = ms} word d0 _ d1) h g = both_claim (extent (ts ++ word ∷ us)) left right (reads d0 (each_front (ts) (word ∷ us) h) (nil_front (ls) (ms) g)) (reads d1 (each_back (ts) (word ∷ us) h).1 (nil_back (ls) (ms) g))
reads (ande_more {ts = ts} {us = us} {left = left} {right = right} {ls = ls} {ms = ms} word d0 _ d1) h g = both_claim (extent (ts ++ word ∷ us)) left right (reads d0 (each_front (ts) (word ∷ us) h) (nil_front (ls) (ms) g)) (reads d1 (each_back (ts) (word ∷ us) h).1 (nil_back (ls) (ms) g))
reads (orc_one d0) h g = (reads d0 h g)
reads (orc_either {ts = ts} {us = us} {left = left} {right = right} {ls = ls} {ms = ms} word d0 _ d1) h g = either_claim (extent (ts ++ word ∷ us)) left right (reads d0 (each_front (ts) (word ∷ us) h) (nil_front (ls) (ms) g)) (reads d1 (each_back (ts) (word ∷ us) h).1 (nil_back (ls) (ms) g))
reads (ore_one d0) h g = (reads d0 h g)
reads (ore_tail {ts = ts} {us = us} {left = left} {right = right} {ls = ls} {ms = ms} word d0 _ d1) h g = either_claim (extent (ts ++ word ∷ us)) left right (reads d0 (each_front (ts) (word ∷ us) h) (nil_front (ls) (ms) g)) (reads d1 (each_back (ts) (word ∷ us) h).1 (nil_back (ls) (ms) g))
reads (ore_more {ts = ts} {us = us} {left = left} {right = right} {ls = ls} {ms = ms} word d0 _ d1) h g = either_claim (extent (ts ++ word ∷ us)) left right (reads d0 (each_front (ts) (word ∷ us) h) (nil_front (ls) (ms) g)) (reads d1 (each_back (ts) (word ∷ us) h).1 (nil_back (ls) (ms) g))
reads (exp_tail d0) h g = (reads d0 h g)
reads (exp_orc d0) h g = (reads d0 h g)
reads (exp_ore d0) h g = (reads d0 h g)
reads (exp_handle {ts = ts} {us = us} {body = body} {rules = rules} {ls = ls} {ms = ms} word d0 _ d1) h g = handled (extent (ts ++ word ∷ us)) body rules (reads d0 (each_front (ts) (word ∷ us) h) (nil_front (ls) (ms) g)) (reads d1 (each_back (ts) (word ∷ us) h).1 (nil_back (ls) (ms) g))
reads (tail_raise {ts = ts} {body = body} word _ d0) h g = raise_claim (extent (word ∷ ts)) body (reads d0 h.1 g)
reads (tail_if {ts = ts} {us = us} {ws = ws} {test = test} {chosen = chosen} {otherwise = otherwise} {ls = ls} {ms = ms} {ns = ns} if_ then_ else_ _ d0 _ d1 _ d2) h g = if_claim (extent (if_ ∷ ts ++ then_ ∷ us ++ else_ ∷ ws)) test chosen otherwise (reads d0 (each_front (if_ ∷ ts) (then_ ∷ us) (each_front (if_ ∷ ts ++ then_ ∷ us) (else_ ∷ ws) h)).1 (nil_front (ls) (ms) (nil_front (ls ++ ms) (ns) g))) (reads d1 (each_back (if_ ∷ ts) (then_ ∷ us) (each_front (if_ ∷ ts ++ then_ ∷ us) (else_ ∷ ws) h)).1 (nil_back (ls) (ms) (nil_front (ls ++ ms) (ns) g))) (reads d2 (each_back (if_ ∷ ts ++ then_ ∷ us) (else_ ∷ ws) h).1 (nil_back (ls ++ ms) (ns) g))
reads (tail_case {ts = ts} {us = us} {body = body} {rules = rules} {ls = ls} {ms = ms} case_ of_ _ d0 _ d1) h g = cased (extent (case_ ∷ ts ++ of_ ∷ us)) body rules (reads d0 (each_front (case_ ∷ ts) (of_ ∷ us) h).1 (nil_front (ls) (ms) g)) (reads d1 (each_back (case_ ∷ ts) (of_ ∷ us) h).1 (nil_back (ls) (ms) g))
reads (tail_fn {ts = ts} {rules = rules} word _ d0) h g = fn_read (extent (word ∷ ts)) rules (reads d0 h.1 g)
reads (match_last d0) h g = ((reads d0 h g), tt)
reads (match_more {ts = ts} {us = us} {more = more} {ls = ls} {ms = ms} bar d0 _ d1) h g = ((reads d0 (each_front (ts) (bar ∷ us) h) (nil_front (ls) (ms) g)), some_each RuleRead more (reads d1 (each_back (ts) (bar ∷ us) h).1 (nil_back (ls) (ms) g)))
reads (one_rule {ts = ts} {us = us} {left = left} {body = body} {ls = ls} {ms = ms} arrow d0 _ d1) h g = rule_read left body (reads d0 (each_front (ts) (arrow ∷ us) h) (nil_front (ls) (ms) g)) (reads d1 (each_back (ts) (arrow ∷ us) h).1 (nil_back (ls) (ms) g))
reads (head_name _ _ _) h g = tt
reads (head_op _ _ _ _ _) h g = tt
reads (atpat_any word _) h g = (any_claim word.span, ap is_number (form-Any word.span))
reads (atpat_int word number _) h g = (pat_int_claim word.span number, ap is_number (form-Int word.span number))
reads (atpat_char word byte _) h g = (pat_char_claim word.span byte, ap is_number (form-Char word.span byte))
reads (atpat_str word text _) h g = (pat_str_claim word.span text, ap is_number (form-Str word.span text))
reads (atpat_name {ts = ts} {place = place} {name = name} d0) h g = (pat_name_claim (span_of place (last_of ts)) name, ap is_number (form-Name (span_of place (last_of ts)) name) ∙ head_plain d0 h)
reads (atpat_unit opening closing _ _) h g = (pat_unit_claim (span_of opening.span.from closing.span.to), ap is_number (form-Unit (span_of opening.span.from closing.span.to)))
reads (atpat_paren {ts = ts} opening closing _ d0 _) h g = (reads d0 (each_front (opening ∷ ts) (closing ∷ []) h).1 g)
reads (atpat_tuple {ts = ts} {first = first} {next = next} {more = more} opening closing _ d0 _) h g = (pat_tuple_claim (span_of opening.span.from closing.span.to) first next more (each_map PatNum PatClaim (λ x c. c.0) (first ∷ next ∷ more) (reads d0 (each_front (opening ∷ ts) (closing ∷ []) h).1 g)), ap is_number (form-Tuple (span_of opening.span.from closing.span.to) (first ∷ next ∷ more)))
reads (atpat_no_list opening closing _ _) h g = (pat_no_list_claim (span_of opening.span.from closing.span.to), ap is_number (form-List (span_of opening.span.from closing.span.to) []))
reads (atpat_list {ts = ts} {all = all} opening closing _ d0 _) h g = pat_listed (span_of opening.span.from closing.span.to) all (reads d0 (each_front (opening ∷ ts) (closing ∷ []) h).1 g)
reads (pats_one d0) h g = ((reads d0 h g), tt)
reads (pats_more {ts = ts} {us = us} {more = more} {ls = ls} {ms = ms} comma d0 _ d1) h g = ((reads d0 (each_front (ts) (comma ∷ us) h) (nil_front (ls) (ms) g)), some_each PatNum more (reads d1 (each_back (ts) (comma ∷ us) h).1 (nil_back (ls) (ms) g)))
reads (atpats_none) h g = (tt, refl)
reads (atpats_more {ts = ts} {us = us} {ls = ls} {ms = ms} d0 d1) h g = (((reads d0 (each_front (ts) (us) h) (nil_front (ls) (ms) g)), (reads d1 (each_back (ts) (us) h) (nil_back (ls) (ms) g)).0), ap suc (reads d1 (each_back (ts) (us) h) (nil_back (ls) (ms) g)).1)
reads (apat_one d0) h g = (reads d0 h g)
reads (apat_con {ts = ts} {us = us} {place = place} {name = name} {argument = argument} _ d1) h g = (pat_con_claim (span_of place (last_of us)) name argument (reads d1 (each_back (ts) (us) h) g).0, ap is_number (form-Con (span_of place (last_of us)) name argument))
reads (cpat_one d0) h g = (reads d0 h g)
reads (cpat_cons {ts = ts} {us = us} {left = left} {right = right} {ls = ls} {ms = ms} word d0 _ d1) h g = (pat_con_claim (extent (ts ++ word ∷ us)) (codes "::") (pat_at (extent (ts ++ word ∷ us)) (p.Tuple (left ∷ right ∷ []))) (pat_tuple_claim (extent (ts ++ word ∷ us)) left right [] ((reads d0 (each_front (ts) (word ∷ us) h) (nil_front (ls) (ms) g)).0, ((reads d1 (each_back (ts) (word ∷ us) h).1 (nil_back (ls) (ms) g)).0, tt))), ap is_number (form-Con (extent (ts ++ word ∷ us)) (codes "::") (pat_at (extent (ts ++ word ∷ us)) (p.Tuple (left ∷ right ∷ [])))))
reads (pat_one d0) h g = (reads d0 h g)
reads (pat_typed {ts = ts} {us = us} {body = body} {type_ = type_} {ls = ls} {ms = ms} word d0 _ d1) h g = (pat_typed_claim (extent (ts ++ word ∷ us)) body type_ (reads d0 (each_front (ts) (word ∷ us) h) (nil_front (ls) (ms) g)).0 (reads d1 (each_back (ts) (word ∷ us) h).1 (nil_back (ls) (ms) g)), ap is_number (form-Typed (extent (ts ++ word ∷ us)) body type_))
reads (conty_name {v = v} word name _) h g = con_claim v word.span name
reads (conty_var {v = v} word name _) h g = var_read v word name g
reads (conty_paren {ts = ts} opening closing _ d0 _) h g = (reads d0 (each_front (opening ∷ ts) (closing ∷ []) h).1 g)
reads (conty_one {v = v} {ts = ts} {argument = argument} word name d0 _) h g = con_one_claim v (extent (ts ++ word ∷ [])) name argument (reads d0 (each_front (ts) (word ∷ []) h) g)
reads (conty_several {v = v} {ts = ts} {first = first} {next = next} {more = more} opening closing word name _ d0 _ _) h g = con_several_claim v (span_of opening.span.from word.span.to) name first next more (reads d0 (each_front (opening ∷ ts) (closing ∷ word ∷ []) h).1 g)
reads (tys_one d0) h g = ((reads d0 h g), tt)
reads (tys_more {ts = ts} {us = us} {ls = ls} {ms = ms} comma d0 _ d1) h g = ((reads d0 (each_front (ts) (comma ∷ us) h) (nil_front (ls) (ms) g)), (reads d1 (each_back (ts) (comma ∷ us) h).1 (nil_back (ls) (ms) g)))
reads (stars_one d0) h g = ((reads d0 h g), tt)
reads (stars_more {ts = ts} {us = us} {ls = ls} {ms = ms} word d0 _ d1) h g = ((reads d0 (each_front (ts) (word ∷ us) h) (nil_front (ls) (ms) g)), (reads d1 (each_back (ts) (word ∷ us) h).1 (nil_back (ls) (ms) g)))
reads (tupty_one d0) h g = (reads d0 h g).0
reads (tupty_several {v = v} {ts = ts} {first = first} {next = next} {more = more} d0) h g = types.tuple_claim v (extent ts) first next more (reads d0 h g)
reads (ty_one d0) h g = (reads d0 h g)
reads (ty_arrow {v = v} {ts = ts} {us = us} {left = left} {right = right} {ls = ls} {ms = ms} word d0 _ d1) h g = arrow_claim v (extent (ts ++ word ∷ us)) left right (reads d0 (each_front (ts) (word ∷ us) h) (nil_front (ls) (ms) g)) (reads d1 (each_back (ts) (word ∷ us) h).1 (nil_back (ls) (ms) g))
reads (vars_none) h g = tt
reads (vars_one _ _ _) h g = tt
reads (vars_several _ _ _ _ _) h g = tt
reads (more_vars_one _ _ _) h g = tt
reads (more_vars_more _ _ _ _ _ _) h g = tt
reads (dec_val {i = i} {ts = ts} {all = all} word _ d0) h g = bound i (extent (word ∷ ts)) all (reads d0 h.1 g)
reads (dec_rec {i = i} {ts = ts} {all = all} word rec_ _ _ d0) h g = recursive i (extent (word ∷ rec_ ∷ ts)) all (reads d0 h.1.1 g)
reads (dec_fun {i = i} {ts = ts} {all = all} word _ d0) h g = recursive i (extent (word ∷ ts)) all (reads d0 h.1 g)
reads (dec_type {i = i} {ts = ts} {all = all} {ls = ls} word _ d0) h g = abbrev_read i word (extent (word ∷ ts)) all (nil_front (local_lack i word) ls g) (reads d0 h.1 (nil_back (local_lack i word) ls g))
reads (dec_datatype {i = i} {ts = ts} {all = all} {ls = ls} word _ d0) h g = let k = nil_front (local_lack i word ++ ls) (nested_in_bindings (length ts) all all) g in data_read i word (extent (word ∷ ts)) all (nil_front (local_lack i word) ls k) (deep_datas all d0 (length ts) (omega arith) (nil_back (local_lack i word ++ ls) (nested_in_bindings (length ts) all all) g)) (reads d0 h.1 (nil_back (local_lack i word) ls k))
reads (dec_exception {i = i} {ts = ts} {all = all} {ls = ls} word _ d0) h g = exn_read i word (extent (word ∷ ts)) all (nil_front (local_lack i word) ls g) (reads d0 h.1 (nil_back (local_lack i word) ls g))
reads (dec_local {i = i} {ts = ts} {us = us} {first = first} {second = second} {ls = ls} {ms = ms} local_ in_ end_ _ d0 _ d1 _) h g = local_claim i (span_of local_.span.from end_.span.to) first second (reads d0 (each_front (local_ ∷ ts) (in_ ∷ us) (each_front (local_ ∷ ts ++ in_ ∷ us) (end_ ∷ []) h)).1 (nil_front (ls) (ms) g)) (reads d1 (each_back (local_ ∷ ts) (in_ ∷ us) (each_front (local_ ∷ ts ++ in_ ∷ us) (end_ ∷ []) h)).1 (nil_back (ls) (ms) g))
reads (dec_replication {i = i} word _ _ _ _ _ _ _ _ _ _ _) h g = absurd (not_mid (local_lack i word) _ [] g)
reads (decs_none) h g = tt
reads (decs_more {ts = ts} {us = us} {ls = ls} {ms = ms} d0 d1) h g = ((reads d0 (each_front (ts) (us) h) (nil_front (ls) (ms) g)), (reads d1 (each_back (ts) (us) h) (nil_back (ls) (ms) g)))
reads (decs_parted {ts = ts} {us = us} {ls = ls} {ms = ms} word d0 _ d1) h g = ((reads d0 (each_front (ts) (word ∷ us) h) (nil_front (ls) (ms) g)), (reads d1 (each_back (ts) (word ∷ us) h).1 (nil_back (ls) (ms) g)))
reads (binds_one {ts = ts} {us = us} {ls = ls} {ms = ms} equals d0 _ d1) h g = (((reads d0 (each_front (ts) (equals ∷ us) h) (nil_front (ls) (ms) g)).0, (reads d1 (each_back (ts) (equals ∷ us) h).1 (nil_back (ls) (ms) g))), tt)
reads (binds_more {ts = ts} {us = us} {ws = ws} {more = more} {ls = ls} {ms = ms} {ns = ns} equals and_ d0 _ d1 _ d2) h g = (((reads d0 (each_front (ts) (equals ∷ us) (each_front (ts ++ equals ∷ us) (and_ ∷ ws) h)) (nil_front (ls) (ms) (nil_front (ls ++ ms) (ns) g))).0, (reads d1 (each_back (ts) (equals ∷ us) (each_front (ts ++ equals ∷ us) (and_ ∷ ws) h)).1 (nil_back (ls) (ms) (nil_front (ls ++ ms) (ns) g)))), some_each BindClaim more (reads d2 (each_back (ts ++ equals ∷ us) (and_ ∷ ws) h).1 (nil_back (ls ++ ms) (ns) g)))
reads (recs_one {rules = rules} word _ _ name _ _ _ d0) h g = (rec_read word.span name rules (reads d0 h.1.1.1 g), tt)
reads (recs_more {ts = ts} {us = us} {rules = rules} {more = more} {ls = ls} {ms = ms} word equals fn_ and_ name _ _ _ d0 _ d1) h g = (rec_read word.span name rules (reads d0 (each_front (word ∷ equals ∷ fn_ ∷ ts) (and_ ∷ us) h).1.1.1 (nil_front (ls) (ms) g)), some_each FunClaim more (reads d1 (each_back (word ∷ equals ∷ fn_ ∷ ts) (and_ ∷ us) h).1 (nil_back (ls) (ms) g)))
reads (funs_one {name = name} {count = count} {ts = ts} {rules = rules} d0) h g = (fun_read (extent ts) name count rules (reads d0 h g), tt)
reads (funs_more {name = name} {count = count} {ts = ts} {us = us} {rules = rules} {more = more} {ls = ls} {ms = ms} and_ d0 _ d1) h g = (fun_read (extent ts) name count rules (reads d0 (each_front (ts) (and_ ∷ us) h) (nil_front (ls) (ms) g)), some_each FunClaim more (reads d1 (each_back (ts) (and_ ∷ us) h).1 (nil_back (ls) (ms) g)))
reads (clauses_last d0) h g = ((reads d0 h g), tt)
reads (clauses_more {name = name} {count = count} {ts = ts} {us = us} {more = more} {ls = ls} {ms = ms} bar d0 _ d1) h g = ((reads d0 (each_front (ts) (bar ∷ us) h) (nil_front (ls) (ms) g)), some_each (ClauseRead name count) more (reads d1 (each_back (ts) (bar ∷ us) h).1 (nil_back (ls) (ms) g)))
reads (clause_plain {name = name} {count = count} {ts = ts} {us = us} {ws = ws} {first = first} {more = more} {body = body} {ls = ls} {ms = ms} equals _ d1 _ d2) h g = clause_read name (suc count) (extent (ts ++ us ++ equals ∷ ws)) first more body (reads d1 (each_back (ts) (us) (each_front (ts ++ us) (equals ∷ ws) h)) (nil_front (ls) (ms) g)) (reads d2 (each_back (ts ++ us) (equals ∷ ws) h).1 (nil_back (ls) (ms) g))
reads (clause_typed {name = name} {count = count} {ts = ts} {us = us} {vs = vs} {ws = ws} {first = first} {more = more} {type_ = type_} {body = body} {ls = ls} {ms = ms} {ns = ns} colon equals _ d1 _ d2 _ d3) h g = clause_read name (suc count) (extent (ts ++ us ++ colon ∷ vs ++ equals ∷ ws)) first more (exp_at (extent (ts ++ us ++ colon ∷ vs ++ equals ∷ ws)) (e.Typed body type_)) (reads d1 (each_back (ts) (us) (each_front (ts ++ us) (colon ∷ vs) (each_front (ts ++ us ++ colon ∷ vs) (equals ∷ ws) h))) (nil_front (ls) (ms) (nil_front (ls ++ ms) (ns) g))) (typed_claim (extent (ts ++ us ++ colon ∷ vs ++ equals ∷ ws)) body type_ (reads d3 (each_back (ts ++ us ++ colon ∷ vs) (equals ∷ ws) h).1 (nil_back (ls ++ ms) (ns) g)) (reads d2 (each_back (ts ++ us) (colon ∷ vs) (each_front (ts ++ us ++ colon ∷ vs) (equals ∷ ws) h)).1 (nil_back (ls) (ms) (nil_front (ls ++ ms) (ns) g))))
reads (clause_infix {ls = ls} {ms = ms} {ns = ns} word _ _ _ _ _ _) h g = absurd (not_mid ls _ ms (nil_front (ls ++ (word.span.from, l.InfixClause) ∷ ms) ns g))
reads (clause_infix_typed {ls = ls} {ms = ms} {ns = ns} {ks = ks} word _ _ _ _ _ _ _ _ _) h g = absurd (not_mid ls _ ms (nil_front (ls ++ (word.span.from, l.InfixClause) ∷ ms) ns (nil_front (ls ++ (word.span.from, l.InfixClause) ∷ ms ++ ns) ks g)))
reads (abbrevs_one {ts = ts} {us = us} word equals _ _ i _ d0) h g = ((i.plain, reads d0 (each_back (ts) (word ∷ equals ∷ us) h).1.1 g), tt)
reads (abbrevs_more {ts = ts} {us = us} {ws = ws} {more = more} {ls = ls} {ms = ms} word equals and_ _ _ i _ d0 _ d1) h g = ((i.plain, reads d0 (each_back (ts) (word ∷ equals ∷ us) (each_front (ts ++ word ∷ equals ∷ us) (and_ ∷ ws) h)).1.1 (nil_front (ls) (ms) g)), some_each AbbrevClaim more (reads d1 (each_back (ts ++ word ∷ equals ∷ us) (and_ ∷ ws) h).1 (nil_back (ls) (ms) g)))
reads (datas_one {ts = ts} {us = us} word equals _ _ i _ d0) h g = ((i.plain, reads d0 (each_back (ts) (word ∷ equals ∷ us) h).1.1 g), tt)
reads (datas_more {ts = ts} {us = us} {ws = ws} {more = more} {ls = ls} {ms = ms} word equals and_ _ _ i _ d0 _ d1) h g = ((i.plain, reads d0 (each_back (ts) (word ∷ equals ∷ us) (each_front (ts ++ word ∷ equals ∷ us) (and_ ∷ ws) h)).1.1 (nil_front (ls) (ms) g)), some_each DataClaim more (reads d1 (each_back (ts ++ word ∷ equals ∷ us) (and_ ∷ ws) h).1 (nil_back (ls) (ms) g)))
reads (cons_one _ _ i) h g = ((i.plain, tt), tt)
reads (cons_of _ _ _ i _ d0) h g = ((i.plain, reads d0 h.1.1 g), tt)
reads (cons_more {more = more} _ _ _ i _ d0) h g = ((i.plain, tt), some_each (ConClaim true) more (reads d0 h.1.1 g))
reads (cons_of_more {ts = ts} {us = us} {more = more} {ls = ls} {ms = ms} word of_ bar _ i _ d0 _ d1) h g = ((i.plain, reads d0 (each_front (word ∷ of_ ∷ ts) (bar ∷ us) h).1.1 (nil_front (ls) (ms) g)), some_each (ConClaim true) more (reads d1 (each_back (word ∷ of_ ∷ ts) (bar ∷ us) h).1 (nil_back (ls) (ms) g)))
reads (exns_one _ _ i) h g = ((i.plain, tt), tt)
reads (exns_of _ _ _ i _ d0) h g = ((i.plain, reads d0 h.1.1 g), tt)
reads (exns_same _ _ _ _ _ _ _ _) h g = absurd (not_cons _ _ g)
reads (exns_more {more = more} _ _ _ i _ d0) h g = ((i.plain, tt), some_each (ConClaim false) more (reads d0 h.1.1 g))
reads (exns_of_more {ts = ts} {us = us} {more = more} {ls = ls} {ms = ms} word of_ and_ _ i _ d0 _ d1) h g = ((i.plain, reads d0 (each_front (word ∷ of_ ∷ ts) (and_ ∷ us) h).1.1 (nil_front (ls) (ms) g)), some_each (ConClaim false) more (reads d1 (each_back (word ∷ of_ ∷ ts) (and_ ∷ us) h).1 (nil_back (ls) (ms) g)))
reads (exns_same_more _ _ _ _ _ _ _ _ _ _ _) h g = absurd (not_cons _ _ g)
reads (items_none) h g = tt
reads (items_dec {ts = ts} {us = us} {ls = ls} {ms = ms} d0 d1) h g = ((reads d0 (each_front (ts) (us) h) (nil_front (ls) (ms) g)), (reads d1 (each_back (ts) (us) h) (nil_back (ls) (ms) g)))
reads (items_exp {ts = ts} {body = body} d0) h g = (it_read (extent ts) body (reads d0 h g), tt)
reads (items_exp_more {ts = ts} {us = us} {body = body} {ls = ls} {ms = ms} word d0 _ d1) h g = (it_read (extent ts) body (reads d0 (each_front (ts) (word ∷ us) h) (nil_front (ls) (ms) g)), (reads d1 (each_back (ts) (word ∷ us) h).1 (nil_back (ls) (ms) g)))
reads (items_after_none) h g = tt
reads (items_after_dec {ts = ts} {us = us} {ls = ls} {ms = ms} d0 d1) h g = ((reads d0 (each_front (ts) (us) h) (nil_front (ls) (ms) g)), (reads d1 (each_back (ts) (us) h) (nil_back (ls) (ms) g)))
reads (items_after_semicolon _ _ d0) h g = reads d0 h.1 g

-- an expression of tokens whose names begin with no digit, from tokens that bear what is printed of it
pub expressions_read_back : ExpressionsReadBack
expressions_read_back o ts us x h d e =
    let r = (reads d h refl).0 us (bears us (exp_forms x) e) in (r.0, r.1.anywhere, r.2)

pub types_read_back : TypesReadBack
types_read_back v ts us x h d e =
    let r = reads d h refl us (bears us (ty_forms x) e) in (r.0, r.1.anywhere, r.2)

pub patterns_read_back : PatternsReadBack
patterns_read_back ts us x h d e =
    let r = (reads d h refl).0.0 us (bears us (pat_forms x) e) in (r.0, r.1.anywhere, r.2)

pub declarations_read_back : DeclarationsReadBack
declarations_read_back i ts us x h d e = reads d h refl us (bears us (dec_forms x) e)

-- items
after_at : (ds : List Dec) → Each (DecClaim false) ds → At (Of decs_tree items_after ds) (flat_map dec_forms ds)
after_at ds h = row_at dec_forms (Of dec_tree (dec false)) (Of decs_tree items_after) ([], items_after_none, no_decs)
    (λ x xs ts us q r. (q.0 ∷ r.0, items_after_dec q.1 r.1, more_decs q.2 r.2)) ds h

items_at : (ds : List Dec) → Each (DecClaim false) ds → At (Of decs_tree items ds) (flat_map dec_forms ds)
items_at [] h = none (Of decs_tree items []) ([], items_none, no_decs)
items_at (x ∷ xs) h = both (Of dec_tree (dec false) x) (Of decs_tree items_after xs) (Of decs_tree items (x ∷ xs)) (dec_forms x) (flat_map dec_forms xs)
    (λ ts us q r. (q.0 ∷ r.0, items_dec q.1 r.1, more_decs q.2 r.2)) h.0 (after_at xs h.1)

pub programs_read_back : ProgramsReadBack
programs_read_back ts us x h d e =
    let r = items_at x.items (reads d h refl) us (bears us (program_forms x) e) in (record { items = r.0 }, r.1, r.2)
