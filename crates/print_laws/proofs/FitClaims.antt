-- What is printed of trees goes wherever expressions are read, from what is printed of their parts.
use Rattle.std.proofs.Common.{◌≡◌, ℕ, ℤ, zero, suc, List, [], ◌∷◌, ◌++◌, length, Bool, true, false, Option, Some, None, refl, ap, sym, ◌∙◌, subst, map, arith, append_assoc, append-nil}
use Rattle.std.specs.Prelude.{codes, flat_map, cond, nat_lt}
use Rattle.std.proofs.lemmas.Bool.{lt-ltb}
use Rattle.sml_syntax.specs.declared.token.Token.{Token}
use Rattle.sml_syntax.specs.declared.token.TokenForm.{TokenForm}
use Rattle.sml_syntax.specs.declared.token.TokenForm.TheVariants as f
use Rattle.sml_syntax.specs.declared.tree.Span.{Span}
use Rattle.sml_syntax.specs.declared.tree.Ty.{Ty}
use Rattle.sml_syntax.specs.declared.tree.TyForm.TheVariants as t
use Rattle.sml_syntax.specs.declared.tree.Pat.{Pat}
use Rattle.sml_syntax.specs.declared.tree.PatForm.TheVariants as p
use Rattle.sml_syntax.specs.declared.tree.Rule.{Rule}
use Rattle.sml_syntax.specs.declared.tree.Piece.{Piece}
use Rattle.sml_syntax.specs.declared.tree.Piece.TheVariants as piece
use Rattle.sml_syntax.specs.declared.tree.Exp.{Exp}
use Rattle.sml_syntax.specs.declared.tree.ExpForm.TheVariants as e
use Rattle.sml_syntax.specs.declared.tree.Dec.{Dec}
use Rattle.sml_syntax.specs.declared.tree.DecForm.TheVariants as d
use Rattle.grammar_rules.specs.Programs.{Each}
use Rattle.sml_syntax.specs.Layers.{form_of_pat}
use Rattle.grammar_rules.specs.Nodes.{exp_at, pat_at, ty_at, dec_at, rule_of, clause_pat, curried, function_rules, it_dec}
use Rattle.print_laws.specs.Bytes.{Before, Fresh, Behind_text, Behind_name, Shape, Outside, Quoted, Inside, shape_around, Stands, MayFollow, Fits, fits_quote, fits_inner_quote, fits_anti_to, fits_text, fits_anti, fits_anti_from, fits_quote_to}
use Rattle.print_laws.specs.Printing.{Forms, Part, PatInk, Ink, RuleInk, closed, atomic, in_parens, parted, alternatives, head_forms, name_forms, infix_of, is_lone, type_name, con_forms, starred, ty_part, ty_forms, put_ty, is_cons, applied_pat, con_pat, pats_forms, pat_ink, pat_part, pat_forms, put_pat, put, barred, body_forms, left_place, right_place, app_part, exp_part, exp_forms, exp_ink, rule_ink, rule_forms, match_forms, exps_forms, anti_forms, plain_forms, piece_forms, dec_forms, clause_of, one_clause, several_clause, patterns_in, is_number, inner_clauses, function_forms, bind_forms, vars_forms, abbrev_forms, argument_forms, con_def_forms, data_forms}
use Rattle.print_laws.specs.ReadBack.{IsFine}
use Rattle.print_laws.specs.Spelt.{SpeltAnti, IsSpelt, Parts, Starts, Followed}
use Rattle.print_laws.proofs.Lists.{alternatives_map, flat_map_map}
use Rattle.print_laws.proofs.Made.{ink-Int, ink-Char, ink-Str, ink-Name, ink-Unit, ink-Tuple, ink-List, ink-Seq, ink-App, ink-Let, ink-Fn, ink-Case, ink-Handle, ink-Raise, ink-If, ink-Both, ink-Either, ink-Quote, ink-Typed, ink-rule, pat-Any, pat-Int, pat-Char, pat-Str, pat-Unit, pat-Name, pat-Tuple, pat-List, pat-Con, pat-Typed, form-Tuple, ty-Var, ty-Con, ty-Tuple, ty-Arrow, piece-Plain, piece-Anti, dec-Val, dec-ValRec, dec-Abbrev, dec-DataDef, dec-ExnDef, dec-Local}
use Rattle.print_laws.proofs.Claims.{each_map}
use Rattle.print_laws.proofs.FunClaims.{curried_ink, curried_number}
use Rattle.print_laws.proofs.FitForms.{Reads, Goes, Steady, OperatorGoes, none, then, one, join, parens, unit, between, choices, row, each_of, open_list, close_list, comma, semicolon, wild, colon, arrow, bar, to, equals, star, cons, word_let, word_in, word_end, word_fn, word_case, word_of, word_handle, word_raise, word_if, word_then, word_else, word_andalso, word_orelse, word_val, word_fun, word_and, word_type, word_datatype, word_exception, word_local, headed, expressed, it_headed}

-- Parts

abbrev pub PartGoes : Part → Type 0
PartGoes p = Goes p.forms

put_goes : (level : ℕ) (p : Part) → PartGoes p → Goes (put level p)
unfolding put
put_goes level p k = go (nat_lt p.level level)
  where
    go : (b : Bool) → Goes (cond b (in_parens p.forms) p.forms)
    go true = parens p.forms k
    go false = k

word_between : (m : List ℕ) (x y : Forms) → Steady (f.Mark m) → Goes x → Goes y → Goes (x ++ f.Mark m ∷ y)
word_between m x y k a b = join x (f.Mark m ∷ y) a (then (f.Mark m) y k b)

-- Types

abbrev pub TyGoes : Ty → Type 0
TyGoes x = PartGoes (ty_part x)

pub var_goes : (s : Span) (name : List ℕ) → ((ends : Bool) → Stands ends (f.TyVar name)) → TyGoes (ty_at s (t.Var name))
var_goes s name k = subst PartGoes (sym (ty-Var s name)) (one (f.TyVar name) (record { stands = k; keeps = λ n. refl }))

con_row : (name : List ℕ) (xs : List Part) → Steady (type_name name) → Each PartGoes xs → Goes (con_forms name xs)
con_row name [] k h = one (type_name name) k
con_row name (x ∷ []) k h = join (put 2 x) (type_name name ∷ []) (put_goes 2 x h.0) (one (type_name name) k)
con_row name (x ∷ y ∷ ys) k h =
    let p : Forms = parted (codes ",") (λ (t : Part). t.forms) (x ∷ y ∷ ys) in
    subst Goes (append_assoc (f.Mark (codes "(") ∷ p) (f.Mark (codes ")") ∷ []) (type_name name ∷ []))
    (join (in_parens p) (type_name name ∷ []) (parens p (between (codes ",") (λ (t : Part). t.forms) (x ∷ y ∷ ys) comma h)) (one (type_name name) k))

pub con_goes : (s : Span) (name : List ℕ) (xs : List Ty) → Steady (type_name name) → Each TyGoes xs → TyGoes (ty_at s (t.Con name xs))
con_goes s name xs k h = subst PartGoes (sym (ty-Con s name xs)) (con_row name (map ty_part xs) k (each_of ty_part PartGoes xs h))

star_row : (xs : List Part) → Each PartGoes xs → Goes (starred xs)
star_row [] h = none
star_row (x ∷ xs) h =
    join (put 2 x) (flat_map (λ (t : Part). f.Name (codes "*") ∷ put 2 t) xs) (put_goes 2 x h.0)
    (row (λ (t : Part). f.Name (codes "*") ∷ put 2 t) xs (each_map PartGoes (λ (t : Part). Goes (f.Name (codes "*") ∷ put 2 t)) (λ t k. then (f.Name (codes "*")) (put 2 t) star (put_goes 2 t k)) xs h.1))

pub ty_tuple_goes : (s : Span) (xs : List Ty) → Each TyGoes xs → TyGoes (ty_at s (t.Tuple xs))
ty_tuple_goes s xs h = subst PartGoes (sym (ty-Tuple s xs)) (star_row (map ty_part xs) (each_of ty_part PartGoes xs h))

pub arrow_goes : (s : Span) (x y : Ty) → TyGoes x → TyGoes y → TyGoes (ty_at s (t.Arrow x y))
arrow_goes s x y a b = subst PartGoes (sym (ty-Arrow s x y)) (word_between (codes "->") (put_ty 1 x) (ty_forms y) to (put_goes 1 (ty_part x) a) b)

-- Patterns

abbrev pub PatInkGoes : PatInk → Type 0
PatInkGoes i = PartGoes i.part × Each PartGoes i.members

abbrev pub PatGoes : Pat → Type 0
PatGoes x = PatInkGoes (pat_ink x)

pat_made : (x : Pat) (i : PatInk) → pat_ink x ≡ i → Each PartGoes i.members → PartGoes i.part → PatGoes x
pat_made x i h m g = subst PatInkGoes (sym h) (g, m)

pub any_goes : (s : Span) → PatGoes (pat_at s p.Any)
any_goes s = pat_made (pat_at s p.Any) _ (pat-Any s) tt (one (f.Mark (codes "_")) wild)

pub pat_int_goes : (s : Span) (n : ℤ) → ((ends : Bool) → Stands ends (f.Int n)) → PatGoes (pat_at s (p.Int n))
pat_int_goes s n k = pat_made (pat_at s (p.Int n)) _ (pat-Int s n) tt (one (f.Int n) (record { stands = k; keeps = λ m. refl }))

pub pat_char_goes : (s : Span) (b : ℕ) → ((ends : Bool) → Stands ends (f.Char b)) → PatGoes (pat_at s (p.Char b))
pat_char_goes s b k = pat_made (pat_at s (p.Char b)) _ (pat-Char s b) tt (one (f.Char b) (record { stands = k; keeps = λ m. refl }))

pub pat_str_goes : (s : Span) (w : List ℕ) → ((ends : Bool) → Stands ends (f.Str w)) → PatGoes (pat_at s (p.Str w))
pat_str_goes s w k = pat_made (pat_at s (p.Str w)) _ (pat-Str s w) tt (one (f.Str w) (record { stands = k; keeps = λ m. refl }))

pub pat_unit_goes : (s : Span) → PatGoes (pat_at s p.Unit)
pat_unit_goes s = pat_made (pat_at s p.Unit) _ (pat-Unit s) tt unit

pub pat_name_goes : (s : Span) (name : List ℕ) → Goes (head_forms name) → PatGoes (pat_at s (p.Name name))
pat_name_goes s name k = pat_made (pat_at s (p.Name name)) _ (pat-Name s name) tt k

pats_go : (xs : List Pat) → Each PatGoes xs → Each (λ (i : PatInk). PartGoes i.part) (map pat_ink xs)
pats_go xs h = each_map PatInkGoes (λ (i : PatInk). PartGoes i.part) (λ i k. k.0) (map pat_ink xs) (each_of pat_ink PatInkGoes xs h)

commas_go : (xs : List Pat) → Each PatGoes xs → Goes (pats_forms (map pat_ink xs))
commas_go xs h = between (codes ",") (λ (i : PatInk). i.part.forms) (map pat_ink xs) comma (pats_go xs h)

pub pat_tuple_goes : (s : Span) (xs : List Pat) → Each PatGoes xs → PatGoes (pat_at s (p.Tuple xs))
pat_tuple_goes s xs h = pat_made (pat_at s (p.Tuple xs)) _ (pat-Tuple s xs) (each_of (λ (i : PatInk). i.part) PartGoes (map pat_ink xs) (pats_go xs h)) (parens (pats_forms (map pat_ink xs)) (commas_go xs h))

pub pat_list_goes : (s : Span) (xs : List Pat) → Each PatGoes xs → PatGoes (pat_at s (p.List xs))
pat_list_goes s xs h = pat_made (pat_at s (p.List xs)) _ (pat-List s xs) tt
    (join (f.Mark (codes "[") ∷ pats_forms (map pat_ink xs)) (f.Mark (codes "]") ∷ [])
    (then (f.Mark (codes "[")) (pats_forms (map pat_ink xs)) open_list (commas_go xs h))
    (one (f.Mark (codes "]")) close_list))

con_part_goes : (name : List ℕ) (ps : List Part) (q : Part) → Goes (head_forms name) → Each PartGoes ps → PartGoes q → PartGoes (con_pat name ps q)
con_part_goes name [] q k h a = join (head_forms name) (put 3 q) k (put_goes 3 q a)
con_part_goes name (l ∷ []) q k h a = join (head_forms name) (put 3 q) k (put_goes 3 q a)
con_part_goes name (l ∷ r ∷ []) q k h a = go (is_cons name)
  where
    go : (b : Bool) → PartGoes (cond b (closed 1 (put 2 l ++ f.Name (codes "::") ∷ put 1 r)) (applied_pat name q))
    go true = join (put 2 l) (f.Name (codes "::") ∷ put 1 r) (put_goes 2 l h.0) (then (f.Name (codes "::")) (put 1 r) cons (put_goes 1 r h.1.0))
    go false = join (head_forms name) (put 3 q) k (put_goes 3 q a)
con_part_goes name (l ∷ r ∷ t ∷ ts) q k h a = join (head_forms name) (put 3 q) k (put_goes 3 q a)

pub pat_con_goes : (s : Span) (name : List ℕ) (x : Pat) → Goes (head_forms name) → PatGoes x → PatGoes (pat_at s (p.Con name x))
pat_con_goes s name x k a = pat_made (pat_at s (p.Con name x)) _ (pat-Con s name x) tt (con_part_goes name (pat_ink x).members (pat_part x) k a.1 a.0)

pub pat_typed_goes : (s : Span) (x : Pat) (t : Ty) → PatGoes x → TyGoes t → PatGoes (pat_at s (p.Typed x t))
pat_typed_goes s x t a b = pat_made (pat_at s (p.Typed x t)) _ (pat-Typed s x t) tt (word_between (codes ":") (put_pat 1 x) (ty_forms t) colon (put_goes 1 (pat_part x) a.0) b)

-- Expressions

-- one that isn't a name which can only stand behind `^`
abbrev pub InkGoes : Ink → Type 0
InkGoes i = Goes i.part.forms × (i.lone ≡ None) × OperatorGoes i.operator × Each PartGoes i.members

abbrev pub ExpGoes : Exp → Type 0
ExpGoes x = InkGoes (exp_ink x)

made : (x : Exp) (i : Ink) → exp_ink x ≡ i → i.lone ≡ None → OperatorGoes i.operator → Each PartGoes i.members → Goes i.part.forms → ExpGoes x
made x i h l o m g = subst InkGoes (sym h) (g, l, o, m)

body_goes : (last : Bool) (p : Part) → PartGoes p → Goes (body_forms last p)
unfolding barred
body_goes true p k = k
body_goes false p k = go p.opens
  where
    go : (b : Bool) → Goes (cond b (in_parens p.forms) p.forms)
    go true = parens p.forms k
    go false = k

ink_goes : (i : Ink) → InkGoes i → Goes i.part.forms
ink_goes i k = k.0

inks_go : (xs : List Exp) → Each ExpGoes xs → Each (λ (i : Ink). Goes i.part.forms) (map exp_ink xs)
inks_go xs h = each_map InkGoes (λ (i : Ink). Goes i.part.forms) ink_goes (map exp_ink xs) (each_of exp_ink InkGoes xs h)

exps_go : (m : List ℕ) (xs : List Exp) → Steady (f.Mark m) → Each ExpGoes xs → Goes (exps_forms m (map exp_ink xs))
exps_go m xs k h = between m (λ (i : Ink). i.part.forms) (map exp_ink xs) k (inks_go xs h)

pub int_goes : (s : Span) (n : ℤ) → ((ends : Bool) → Stands ends (f.Int n)) → ExpGoes (exp_at s (e.Int n))
int_goes s n k = made (exp_at s (e.Int n)) _ (ink-Int s n) refl tt tt (one (f.Int n) (record { stands = k; keeps = λ m. refl }))

pub char_goes : (s : Span) (b : ℕ) → ((ends : Bool) → Stands ends (f.Char b)) → ExpGoes (exp_at s (e.Char b))
char_goes s b k = made (exp_at s (e.Char b)) _ (ink-Char s b) refl tt tt (one (f.Char b) (record { stands = k; keeps = λ m. refl }))

pub str_goes : (s : Span) (w : List ℕ) → ((ends : Bool) → Stands ends (f.Str w)) → ExpGoes (exp_at s (e.Str w))
str_goes s w k = made (exp_at s (e.Str w)) _ (ink-Str s w) refl tt tt (one (f.Str w) (record { stands = k; keeps = λ m. refl }))

pub name_goes : (s : Span) (name : List ℕ) → is_lone name ≡ false → OperatorGoes (infix_of name) → Goes (name_forms name) → ExpGoes (exp_at s (e.Name name))
name_goes s name l o k = made (exp_at s (e.Name name)) _ (ink-Name s name) (ap (λ b. cond b (Some name) None) l) o tt k

pub unit_goes : (s : Span) → ExpGoes (exp_at s e.Unit)
unit_goes s = made (exp_at s e.Unit) _ (ink-Unit s) refl tt tt unit

pub tuple_goes : (s : Span) (xs : List Exp) → Each ExpGoes xs → ExpGoes (exp_at s (e.Tuple xs))
tuple_goes s xs h = made (exp_at s (e.Tuple xs)) _ (ink-Tuple s xs) refl tt (each_of (λ (i : Ink). i.part) PartGoes (map exp_ink xs) (inks_go xs h)) (parens (exps_forms (codes ",") (map exp_ink xs)) (exps_go (codes ",") xs comma h))

pub seq_goes : (s : Span) (xs : List Exp) → Each ExpGoes xs → ExpGoes (exp_at s (e.Seq xs))
seq_goes s xs h = made (exp_at s (e.Seq xs)) _ (ink-Seq s xs) refl tt tt (parens (exps_forms (codes ";") (map exp_ink xs)) (exps_go (codes ";") xs semicolon h))

pub list_goes : (s : Span) (xs : List Exp) → Each ExpGoes xs → ExpGoes (exp_at s (e.List xs))
list_goes s xs h = made (exp_at s (e.List xs)) _ (ink-List s xs) refl tt tt
    (join (f.Mark (codes "[") ∷ exps_forms (codes ",") (map exp_ink xs)) (f.Mark (codes "]") ∷ [])
    (then (f.Mark (codes "[")) (exps_forms (codes ",") (map exp_ink xs)) open_list (exps_go (codes ",") xs comma h)) (one (f.Mark (codes "]")) close_list))

app_part_goes : (o : Option (ℕ × TokenForm)) (ps : List Part) (p q : Part) → OperatorGoes o → Each PartGoes ps → PartGoes p → PartGoes q → PartGoes (app_part o ps p q)
app_part_goes None ps p q k h a b = join (put 14 p) (put 15 q) (put_goes 14 p a) (put_goes 15 q b)
app_part_goes (Some o) [] p q k h a b = join (put 14 p) (put 15 q) (put_goes 14 p a) (put_goes 15 q b)
app_part_goes (Some o) (l ∷ []) p q k h a b = join (put 14 p) (put 15 q) (put_goes 14 p a) (put_goes 15 q b)
app_part_goes (Some o) (l ∷ r ∷ []) p q k h a b =
    join (put (left_place o.0) l) (o.1 ∷ put (right_place o.0) r) (put_goes (left_place o.0) l h.0) (then o.1 (put (right_place o.0) r) k (put_goes (right_place o.0) r h.1.0))
app_part_goes (Some o) (l ∷ r ∷ t ∷ ts) p q k h a b = join (put 14 p) (put 15 q) (put_goes 14 p a) (put_goes 15 q b)

pub app_goes : (s : Span) (x y : Exp) → ExpGoes x → ExpGoes y → ExpGoes (exp_at s (e.App x y))
app_goes s x y a b = made (exp_at s (e.App x y)) _ (ink-App s x y) refl tt tt (app_part_goes (exp_ink x).operator (exp_ink y).members (exp_part x) (exp_part y) a.2 b.3 a.0 b.0)

pub infix_goes : (s r : Span) (name : List ℕ) (x y : Exp) → ExpGoes (exp_at r (e.Name name)) → ExpGoes x → ExpGoes y → ExpGoes (exp_at s (e.App (exp_at r (e.Name name)) (exp_at s (e.Tuple (x ∷ y ∷ [])))))
infix_goes s r name x y k a b = app_goes s (exp_at r (e.Name name)) (exp_at s (e.Tuple (x ∷ y ∷ []))) k (tuple_goes s (x ∷ y ∷ []) (a, (b, tt)))

pub both_goes : (s : Span) (x y : Exp) → ExpGoes x → ExpGoes y → ExpGoes (exp_at s (e.Both x y))
both_goes s x y a b = made (exp_at s (e.Both x y)) _ (ink-Both s x y) refl tt tt (word_between (codes "andalso") (put 3 (exp_part x)) (put 2 (exp_part y)) word_andalso (put_goes 3 (exp_part x) a.0) (put_goes 2 (exp_part y) b.0))

pub either_goes : (s : Span) (x y : Exp) → ExpGoes x → ExpGoes y → ExpGoes (exp_at s (e.Either x y))
either_goes s x y a b = made (exp_at s (e.Either x y)) _ (ink-Either s x y) refl tt tt (word_between (codes "orelse") (put 2 (exp_part x)) (put 1 (exp_part y)) word_orelse (put_goes 2 (exp_part x) a.0) (put_goes 1 (exp_part y) b.0))

pub typed_goes : (s : Span) (x : Exp) (t : Ty) → ExpGoes x → TyGoes t → ExpGoes (exp_at s (e.Typed x t))
typed_goes s x t a b = made (exp_at s (e.Typed x t)) _ (ink-Typed s x t) refl tt tt (word_between (codes ":") (put 3 (exp_part x)) (ty_forms t) colon (put_goes 3 (exp_part x) a.0) b)

pub raise_goes : (s : Span) (x : Exp) → ExpGoes x → ExpGoes (exp_at s (e.Raise x))
raise_goes s x a = made (exp_at s (e.Raise x)) _ (ink-Raise s x) refl tt tt (then (f.Mark (codes "raise")) (exp_forms x) word_raise a.0)

pub if_goes : (s : Span) (x y z : Exp) → ExpGoes x → ExpGoes y → ExpGoes z → ExpGoes (exp_at s (e.If x y z))
if_goes s x y z a b c = made (exp_at s (e.If x y z)) _ (ink-If s x y z) refl tt tt
    (word_between (codes "else") (f.Mark (codes "if") ∷ exp_forms x ++ f.Mark (codes "then") ∷ exp_forms y) (exp_forms z) word_else
    (word_between (codes "then") (f.Mark (codes "if") ∷ exp_forms x) (exp_forms y) word_then (then (f.Mark (codes "if")) (exp_forms x) word_if a.0) b.0) c.0)

-- rules
abbrev pub RuleInkGoes : RuleInk → Type 0
RuleInkGoes r = PatGoes r.pat × InkGoes r.body

abbrev pub RuleGoes : Rule → Type 0
RuleGoes r = RuleInkGoes (rule_ink r)

pub rule_goes : (x : Pat) (b : Exp) → PatGoes x → ExpGoes b → RuleGoes (rule_of x b)
rule_goes x b k c = subst RuleInkGoes (sym (ink-rule x b)) (k, c)

rule_ink_goes : (r : RuleInk) → RuleInkGoes r → (last : Bool) → Goes (rule_forms last r)
rule_ink_goes r k last = word_between (codes "=>") (pat_forms r.pat) (body_forms last r.body.part) arrow k.0.0 (body_goes last r.body.part k.1.0)

match_goes : (rs : List Rule) → Each RuleGoes rs → Goes (match_forms (map rule_ink rs))
match_goes rs h = choices rule_forms (map rule_ink rs) bar
    (each_map RuleInkGoes (λ (r : RuleInk). (last : Bool) → Goes (rule_forms last r)) rule_ink_goes (map rule_ink rs) (each_of rule_ink RuleInkGoes rs h))

pub fn_goes : (s : Span) (rs : List Rule) → Each RuleGoes rs → ExpGoes (exp_at s (e.Fn rs))
fn_goes s rs h = made (exp_at s (e.Fn rs)) _ (ink-Fn s rs) refl tt tt (then (f.Mark (codes "fn")) (match_forms (map rule_ink rs)) word_fn (match_goes rs h))

pub case_goes : (s : Span) (x : Exp) (rs : List Rule) → ExpGoes x → Each RuleGoes rs → ExpGoes (exp_at s (e.Case x rs))
case_goes s x rs a h = made (exp_at s (e.Case x rs)) _ (ink-Case s x rs) refl tt tt
    (word_between (codes "of") (f.Mark (codes "case") ∷ exp_forms x) (match_forms (map rule_ink rs)) word_of (then (f.Mark (codes "case")) (exp_forms x) word_case a.0) (match_goes rs h))

pub handle_goes : (s : Span) (x : Exp) (rs : List Rule) → ExpGoes x → Each RuleGoes rs → ExpGoes (exp_at s (e.Handle x rs))
handle_goes s x rs a h = made (exp_at s (e.Handle x rs)) _ (ink-Handle s x rs) refl tt tt
    (word_between (codes "handle") (put 1 (exp_part x)) (match_forms (map rule_ink rs)) word_handle (put_goes 1 (exp_part x) a.0) (match_goes rs h))

-- Declarations

abbrev pub DecGoes : Dec → Type 0
DecGoes x = Goes (dec_forms x)

decs_go : (ds : List Dec) → Each DecGoes ds → Goes (flat_map (λ d. d) (map dec_forms ds))
decs_go ds h = row (λ d. d) (map dec_forms ds) (each_of dec_forms Goes ds h)

-- a word, declarations, `in`, what stands there, and `end`
in_end : (m : List ℕ) (x y : Forms) → Steady (f.Mark m) → Goes x → Goes y → Goes ((f.Mark m ∷ x) ++ f.Mark (codes "in") ∷ y ++ f.Mark (codes "end") ∷ [])
in_end m x y k a b = word_between (codes "end") ((f.Mark m ∷ x) ++ f.Mark (codes "in") ∷ y) [] word_end (word_between (codes "in") (f.Mark m ∷ x) y word_in (then (f.Mark m) x k a) b) none

pub let_goes : (s : Span) (ds : List Dec) (xs : List Exp) → Each DecGoes ds → Each ExpGoes xs → ExpGoes (exp_at s (e.Let ds xs))
let_goes s ds xs h g = made (exp_at s (e.Let ds xs)) _ (ink-Let s ds xs) refl tt tt (in_end (codes "let") (flat_map (λ d. d) (map dec_forms ds)) (exps_forms (codes ";") (map exp_ink xs)) word_let (decs_go ds h) (exps_go (codes ";") xs semicolon g))

pub local_goes : (s : Span) (ds es : List Dec) → Each DecGoes ds → Each DecGoes es → DecGoes (dec_at s (d.Local ds es))
local_goes s ds es h g = subst Goes (sym (dec-Local s ds es)) (in_end (codes "local") (flat_map (λ d. d) (map dec_forms ds)) (flat_map (λ d. d) (map dec_forms es)) word_local (decs_go ds h) (decs_go es g))

abbrev pub BindGoes : Pat × Exp → Type 0
BindGoes b = PatGoes b.0 × ExpGoes b.1

pub val_goes : (s : Span) (bs : List (Pat × Exp)) → Each BindGoes bs → DecGoes (dec_at s (d.Val bs))
val_goes s bs h = subst Goes (sym (dec-Val s bs))
    (then (f.Mark (codes "val")) (parted (codes "and") bind_forms (map (λ (b : Pat × Exp). (b.0, exp_ink b.1)) bs)) word_val
    (between (codes "and") bind_forms (map (λ (b : Pat × Exp). (b.0, exp_ink b.1)) bs) word_and
    (each_of (λ (b : Pat × Exp). (b.0, exp_ink b.1)) (λ b. Goes (bind_forms b)) bs
    (each_map BindGoes (λ (b : Pat × Exp). Goes (bind_forms (b.0, exp_ink b.1))) (λ b k. word_between (codes "=") (pat_forms b.0) (exp_forms b.1) equals k.0.0 k.1.0) bs h))))

pub it_goes : (s : Span) (x : Exp) → ExpGoes x → DecGoes (it_dec s x)
it_goes s x a = val_goes s ((pat_at s (p.Name (codes "it")), x) ∷ []) ((pat_name_goes s (codes "it") it_headed, a), tt)

-- types and exceptions
abbrev pub VarsGo : List (List ℕ) → Type 0
VarsGo vs = Each (λ (v : List ℕ). Goes (f.TyVar v ∷ [])) vs

pub vars_go : (vs : List (List ℕ)) → VarsGo vs → Goes (vars_forms vs)
vars_go [] h = none
vars_go (v ∷ []) h = h.0
vars_go (v ∷ w ∷ ws) h = parens (parted (codes ",") (λ name. f.TyVar name ∷ []) (v ∷ w ∷ ws)) (between (codes ",") (λ name. f.TyVar name ∷ []) (v ∷ w ∷ ws) comma h)

pub abbrev_goes : (vs : List (List ℕ)) (name : List ℕ) (x : Ty) → VarsGo vs → Steady (f.Name name) → TyGoes x → Goes (abbrev_forms (vs, name, x))
abbrev_goes vs name x h k a = join (vars_forms vs) (f.Name name ∷ f.Mark (codes "=") ∷ ty_forms x) (vars_go vs h) (then (f.Name name) (f.Mark (codes "=") ∷ ty_forms x) k (then (f.Mark (codes "=")) (ty_forms x) equals a))

pub con_def_goes : (name : List ℕ) (x : Option Ty) → Steady (f.Name name) → Goes (argument_forms x) → Goes (con_def_forms (name, x))
con_def_goes name x k a = then (f.Name name) (argument_forms x) k a

pub of_goes : (x : Ty) → TyGoes x → Goes (argument_forms (Some x))
of_goes x a = then (f.Mark (codes "of")) (ty_forms x) word_of a

pub data_goes : (vs : List (List ℕ)) (name : List ℕ) (xs : List (List ℕ × Option Ty)) → VarsGo vs → Steady (f.Name name) → Each (λ c. Goes (con_def_forms c)) xs → Goes (data_forms (vs, name, xs))
data_goes vs name xs h k a =
    let r : Forms = parted (codes "|") con_def_forms xs in
    join (vars_forms vs) (f.Name name ∷ f.Mark (codes "=") ∷ r) (vars_go vs h) (then (f.Name name) (f.Mark (codes "=") ∷ r) k (then (f.Mark (codes "=")) r equals (between (codes "|") con_def_forms xs bar a)))

pub abbrevs_go : (s : Span) (xs : List (List (List ℕ) × List ℕ × Ty)) → Each (λ a. Goes (abbrev_forms a)) xs → DecGoes (dec_at s (d.Abbrev xs))
abbrevs_go s xs h = subst Goes (sym (dec-Abbrev s xs)) (then (f.Mark (codes "type")) (parted (codes "and") abbrev_forms xs) word_type (between (codes "and") abbrev_forms xs word_and h))

pub datas_go : (s : Span) (xs : List (List (List ℕ) × List ℕ × List (List ℕ × Option Ty))) → Each (λ a. Goes (data_forms a)) xs → DecGoes (dec_at s (d.DataDef xs))
datas_go s xs h = subst Goes (sym (dec-DataDef s xs)) (then (f.Mark (codes "datatype")) (parted (codes "and") data_forms xs) word_datatype (between (codes "and") data_forms xs word_and h))

pub exns_go : (s : Span) (xs : List (List ℕ × Option Ty)) → Each (λ a. Goes (con_def_forms a)) xs → DecGoes (dec_at s (d.ExnDef xs))
exns_go s xs h = subst Goes (sym (dec-ExnDef s xs)) (then (f.Mark (codes "exception")) (parted (codes "and") con_def_forms xs) word_exception (between (codes "and") con_def_forms xs word_and h))

-- Functions

abbrev pub NotNumber : RuleInk → Type 0
NotNumber r = is_number (form_of_pat r.pat) ≡ false

-- a clause as it is printed, of several patterns or of one
abbrev pub clause_forms : Bool → List ℕ → Bool → RuleInk → Forms
clause_forms true name last r = several_clause name last (clause_of r)
clause_forms false name last r = one_clause name last (clause_of r)

abbrev pub ClauseGoes : Bool → List ℕ → RuleInk → Type 0
ClauseGoes several name r = ((last : Bool) → Goes (clause_forms several name last r)) × NotNumber r

abbrev pub FunGoes : List ℕ × List Rule → Type 0
FunGoes g = Goes (function_forms (g.0, map rule_ink g.1))

clause_goes : (name : List ℕ) (last : Bool) (q : Forms) (i : Ink) → Goes (head_forms name) → Goes q → InkGoes i → Goes (head_forms name ++ q ++ f.Mark (codes "=") ∷ body_forms last i.part)
clause_goes name last q i h k a = word_between (codes "=") (head_forms name ++ q) (body_forms last i.part) equals (join (head_forms name) q h k) (body_goes last i.part a.0)

alone_goes : (x : Pat) → PatGoes x → Goes (put_pat 3 x)
alone_goes x k = put_goes 3 (pat_part x) k.0

pub one_goes : (name : List ℕ) (r : RuleInk) → Goes (head_forms name) → RuleInkGoes r → NotNumber r → ClauseGoes false name r
one_goes name r h k n = (λ last. clause_goes name last (put_pat 3 r.pat) r.body h (alone_goes r.pat k.0) k.1, n)

pub clause_read : (name : List ℕ) (n : ℕ) (s : Span) (x : Pat) (xs : List Pat) (b : Exp) → Goes (head_forms name) → Each PatGoes (x ∷ xs) → is_number (form_of_pat x) ≡ false → length (x ∷ xs) ≡ n → ExpGoes b →
    ClauseGoes (nat_lt 1 n) name (rule_ink (rule_of (clause_pat s x xs) b))
clause_read name n s x xs b h k g l a = subst (λ m. ClauseGoes (nat_lt 1 m) name (rule_ink (rule_of (clause_pat s x xs) b))) l (subst (ClauseGoes (nat_lt 1 (length (x ∷ xs))) name) (sym (ink-rule (clause_pat s x xs) b)) (go xs k))
  where
    go : (ys : List Pat) → Each PatGoes (x ∷ ys) → ClauseGoes (nat_lt 1 (length (x ∷ ys))) name (record { pat = clause_pat s x ys; body = exp_ink b })
    go [] k = one_goes name (record { pat = x; body = exp_ink b }) h (k.0, a) g
    go (y ∷ ys) k =
        let form = form-Tuple s (x ∷ y ∷ ys) in
        subst (λ c. ClauseGoes c name (record { pat = clause_pat s x (y ∷ ys); body = exp_ink b })) (sym (lt-ltb 1 (suc (suc (length ys))) (omega arith)))
        (λ last. subst (λ q. Goes (head_forms name ++ q ++ f.Mark (codes "=") ∷ body_forms last (exp_part b))) (sym (ap patterns_in form)) (clause_goes name last (flat_map (put_pat 3) (x ∷ y ∷ ys)) (exp_ink b) h (row (put_pat 3) (x ∷ y ∷ ys) (each_map PatGoes (λ z. Goes (put_pat 3 z)) alone_goes (x ∷ y ∷ ys) k)) a), ap is_number form)

each_clause : (several : Bool) (name : List ℕ) (rs : List RuleInk) → Each (ClauseGoes several name) rs → Goes (alternatives (clause_forms several name) rs)
each_clause several name rs h = choices (clause_forms several name) rs bar (each_map (ClauseGoes several name) (λ r. (last : Bool) → Goes (clause_forms several name last r)) (λ r k. k.0) rs h)

-- clauses of one pattern
plain_fun : (name : List ℕ) (rs : List RuleInk) → Each (ClauseGoes false name) rs → Goes (function_forms (name, rs))
plain_fun name [] h = none
plain_fun name (r ∷ rs) h =
    subst (λ b. Goes (cond b (alternatives (several_clause name) (inner_clauses (r ∷ rs))) (alternatives (λ last q. one_clause name last (clause_of q)) (r ∷ rs)))) (sym h.0.1)
    (each_clause false name (r ∷ rs) h)

-- and of several
curried_fun : (s : Span) (name : List ℕ) (n : ℕ) (rs : List Rule) → Each (ClauseGoes true name) (map rule_ink rs) → Goes (function_forms (name, map rule_ink (curried s n rs ∷ [])))
curried_fun s name n rs h = subst Goes (sym shown) (each_clause true name (map rule_ink rs) h)
  where
    shown : function_forms (name, map rule_ink (curried s n rs ∷ [])) ≡ alternatives (clause_forms true name) (map rule_ink rs)
    shown = ap (λ b. cond b (alternatives (several_clause name) (rule_ink (curried s n rs)).body.clauses) (alternatives (λ last q. one_clause name last (clause_of q)) (rule_ink (curried s n rs) ∷ []))) (curried_number s n rs)
        ∙ (ap (alternatives (several_clause name)) (curried_ink s n rs)
        ∙ alternatives_map (several_clause name) clause_of (map rule_ink rs))

pub fun_goes : (s : Span) (name : List ℕ) (n : ℕ) (rs : List Rule) → Each (λ r. ClauseGoes (nat_lt 1 n) name (rule_ink r)) rs → FunGoes (name, function_rules s n rs)
fun_goes s name n rs h = go (nat_lt 1 n) (each_of rule_ink (ClauseGoes (nat_lt 1 n) name) rs h)
  where
    go : (b : Bool) → Each (ClauseGoes b name) (map rule_ink rs) → Goes (function_forms (name, map rule_ink (cond b (curried s n rs ∷ []) rs)))
    go true h = curried_fun s name n rs h
    go false h = plain_fun name (map rule_ink rs) h

pub rec_goes : (name : List ℕ) (rs : List Rule) → Goes (head_forms name) → Each (λ r. RuleGoes r × NotNumber (rule_ink r)) rs → FunGoes (name, rs)
rec_goes name rs k h = plain_fun name (map rule_ink rs) (each_of rule_ink (ClauseGoes false name) rs (each_map (λ r. RuleGoes r × NotNumber (rule_ink r)) (λ r. ClauseGoes false name (rule_ink r)) (λ r c. one_goes name (rule_ink r) k c.0 c.1) rs h))

pub funs_go : (s : Span) (gs : List (List ℕ × List Rule)) → Each FunGoes gs → DecGoes (dec_at s (d.ValRec gs))
funs_go s gs h = subst Goes (sym (dec-ValRec s gs))
    (then (f.Mark (codes "fun")) (parted (codes "and") function_forms (map (λ (g : List ℕ × List Rule). (g.0, map rule_ink g.1)) gs)) word_fun
    (between (codes "and") function_forms (map (λ (g : List ℕ × List Rule). (g.0, map rule_ink g.1)) gs) word_and
    (each_of (λ (g : List ℕ × List Rule). (g.0, map rule_ink g.1)) (λ g. Goes (function_forms g)) gs h)))

-- Quotations

-- what may stand before the text of a quotation that begins with these tokens
abbrev pub Begins : Before → List Token → Type 0
Begins Fresh ts = Unit {0}
Begins Behind_text ts = ⊥
Begins Behind_name ts = Starts ts

-- what is asked of tokens
abbrev pub Spelt : List Token → Type 0
Spelt [] = Unit {0}
Spelt (t ∷ ts) = (IsFine t × IsSpelt t.form × Followed t.form ts) × Spelt ts

abbrev pub TextGoes : List Token → List ℕ → Type 0
TextGoes ts w = (us : List Token) (before : Before) (around : List ℕ) (rest : Forms) → Begins before (ts ++ us) → ((next : Before) → Fits (Quoted next around) rest) → Fits (Quoted before around) (plain_forms w ++ rest)

abbrev pub AntiInkGoes : List Token → Ink → Type 0
AntiInkGoes ts i = (us : List Token) (before : Before) (around : List ℕ) (rest : Forms) → Spelt (ts ++ us) → ((next : Before) → Begins next us → Fits (Quoted next around) rest) → Fits (Quoted before around) (anti_forms i.part.forms i.lone ++ rest)

abbrev pub AntiGoes : List Token → Exp → Type 0
AntiGoes ts x = AntiInkGoes ts (exp_ink x)

abbrev pub PiecesGo : List Token → List Piece → Type 0
PiecesGo ts ps = (before : Before) (around : List ℕ) (rest : Forms) → Begins before ts → Fits (shape_around around) rest → Fits (Quoted before around) (flat_map piece_forms ps ++ f.QuoteTo ∷ rest)

pub no_text_goes : TextGoes [] []
no_text_goes us before around rest b k = k before

may_follow : (before : Before) (w : Token) (b : ℕ) (bs : List ℕ) (us : List Token) → w.form ≡ f.Plain (b ∷ bs) → Begins before (w ∷ us) → MayFollow before b
may_follow Fresh w b bs us h g = tt
may_follow Behind_text w b bs us h g = absurd g
may_follow Behind_name w b bs us h g = subst Parts h g

pub text_goes : (w : Token) (b : ℕ) (bs : List ℕ) → w.form ≡ f.Plain (b ∷ bs) → IsSpelt w.form → TextGoes (w ∷ []) (b ∷ bs)
text_goes w b bs h s us before around rest g k = fits_text b bs (may_follow before w b bs us h g) (subst IsSpelt h s) (k Behind_text)

anti_inside : (p : Forms) → Goes p → (before : Before) (around : List ℕ) (rest : Forms) → Fits (Quoted Fresh around) rest → Fits (Quoted before around) (((f.AntiFrom ∷ p) ++ f.AntiTo ∷ []) ++ rest)
anti_inside p a before around rest h = subst (λ z. Fits (Quoted before around) (f.AntiFrom ∷ z)) (sym (append_assoc p (f.AntiTo ∷ []) rest)) (fits_anti_from (a (Inside zero around) (f.AntiTo ∷ rest) tt (fits_anti_to h)))

pub anti_goes : (ts : List Token) (x : Exp) → ExpGoes x → AntiGoes ts x
anti_goes ts x a us before around rest s k = subst (λ o. Fits (Quoted before around) (anti_forms (exp_forms x) o ++ rest)) (sym a.1) (anti_inside (exp_forms x) a.0 before around rest (k Fresh tt))

pub anti_name_goes : (s : Span) (w : Token) (name : List ℕ) → w.form ≡ f.Anti name → IsSpelt w.form → AntiGoes (w ∷ []) (exp_at s (e.Name name))
anti_name_goes s w name h k = subst (AntiInkGoes (w ∷ [])) (sym (ink-Name s name)) (go (is_lone name) refl)
  where
    said : SpeltAnti name
    said = subst IsSpelt h k

    go : (b : Bool) → is_lone name ≡ b → AntiInkGoes (w ∷ []) (record { part = atomic (name_forms name); lone = cond b (Some name) None; clauses = []; operator = infix_of name; members = [] })
    go true g us before around rest q k = fits_anti name said.is_name (k Behind_name (subst (λ z. Followed z us) h q.0.2))
    go false g us before around rest q k = anti_inside (name_forms name) (expressed name (headed name (said.spelt g))) before around rest (k Fresh tt)

pub last_goes : (ts : List Token) (w : List ℕ) → TextGoes ts w → PiecesGo ts (piece.Plain w ∷ [])
last_goes ts w a before around rest b h =
    subst (λ q. Fits (Quoted before around) ((q ++ []) ++ f.QuoteTo ∷ rest)) (sym (piece-Plain w))
    (subst (λ q. Fits (Quoted before around) (q ++ f.QuoteTo ∷ rest)) (sym (append-nil (plain_forms w)))
    (a [] before around (f.QuoteTo ∷ rest) (subst (Begins before) (sym (append-nil ts)) b) (λ next. fits_quote_to h)))

pub more_goes : (ts us ws : List Token) (w : List ℕ) (x : Exp) (ps : List Piece) → Spelt (us ++ ws) → TextGoes ts w → AntiGoes us x → PiecesGo ws ps → PiecesGo (ts ++ us ++ ws) (piece.Plain w ∷ piece.Anti x ∷ ps)
more_goes ts us ws w x ps q a b c before around rest g h =
    let tail : Forms = flat_map piece_forms ps in
    let i : Ink = exp_ink x in
    let anti : Forms = anti_forms i.part.forms i.lone in
    subst (λ z. Fits (Quoted before around) ((z ++ (piece_forms (piece.Anti x) ++ tail)) ++ f.QuoteTo ∷ rest)) (sym (piece-Plain w))
    (subst (λ z. Fits (Quoted before around) ((plain_forms w ++ (z ++ tail)) ++ f.QuoteTo ∷ rest)) (sym (piece-Anti x))
    (subst (Fits (Quoted before around)) (sym (append_assoc (plain_forms w) (anti ++ tail) (f.QuoteTo ∷ rest)))
    (a (us ++ ws) before around ((anti ++ tail) ++ f.QuoteTo ∷ rest) (subst (Begins before) (append_assoc ts us ws) g)
    (λ next. subst (Fits (Quoted next around)) (sym (append_assoc anti tail (f.QuoteTo ∷ rest)))
    (b ws next around (tail ++ f.QuoteTo ∷ rest) q (λ after k. c after around rest k h))))))

pub quote_goes : (s : Span) (ts : List Token) (ps : List Piece) → PiecesGo ts ps → ExpGoes (exp_at s (e.Quote ps))
quote_goes s ts ps a = made (exp_at s (e.Quote ps)) _ (ink-Quote s ps) refl tt tt (subst (λ z. Goes ((f.QuoteFrom ∷ z) ++ f.QuoteTo ∷ [])) (sym (flat_map_map (λ p. p) piece_forms ps)) whole)
  where
    whole : Goes ((f.QuoteFrom ∷ flat_map piece_forms ps) ++ f.QuoteTo ∷ [])
    whole s rest r h = subst (λ z. Fits s (f.QuoteFrom ∷ z)) (sym (append_assoc (flat_map piece_forms ps) (f.QuoteTo ∷ []) rest)) (go s r h)
      where
        go : (s : Shape) → Reads s → Fits s rest → Fits s (f.QuoteFrom ∷ flat_map piece_forms ps ++ f.QuoteTo ∷ rest)
        go Outside r h = fits_quote (a Fresh [] rest tt h)
        go (Inside n around) r h = fits_inner_quote (a Fresh (n ∷ around) rest tt h)
        go (Quoted before around) r h = absurd r
