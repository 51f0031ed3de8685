-- What is printed of a tree, by the parts of its form.
use Rattle.std.proofs.Common.{◌≡◌, ℕ, List, [], ◌∷◌, ◌++◌, refl, ap, ap₂, sym, ◌∙◌, map}
use Rattle.std.specs.Prelude.{codes, cond, Bool, true, false, Option, Some, None}
use Rattle.sml_syntax.specs.declared.token.TokenForm.{TokenForm}
use Rattle.sml_syntax.specs.declared.token.TokenForm.TheVariants as f
use Rattle.sml_syntax.specs.declared.tree.Span.{Span}
use Rattle.sml_syntax.specs.declared.tree.Ty.{Ty, out-Ty}
use Rattle.sml_syntax.specs.declared.tree.TyForm.{roll-TyForm}
use Rattle.sml_syntax.specs.declared.tree.TyForm.TheOpen.{TyForm-F}
use Rattle.sml_syntax.specs.declared.tree.TyForm.TheViews.{roll-out-Ty, roll-out-TyForm}
use Rattle.sml_syntax.specs.declared.tree.TyForm.TheFolds.{fold-roll-Ty, fold-roll-TyForm}
use Rattle.sml_syntax.specs.declared.tree.Pat.{Pat, out-Pat}
use Rattle.sml_syntax.specs.declared.tree.PatForm.{roll-PatForm}
use Rattle.sml_syntax.specs.declared.tree.PatForm.TheOpen.{PatForm-F}
use Rattle.sml_syntax.specs.declared.tree.PatForm.TheViews.{roll-out-Pat, roll-out-PatForm}
use Rattle.sml_syntax.specs.declared.tree.PatForm.TheFolds.{fold-roll-Pat, fold-roll-PatForm}
use Rattle.sml_syntax.specs.declared.tree.Exp.{Exp, out-Exp}
use Rattle.sml_syntax.specs.declared.tree.ExpForm.{ExpForm, roll-ExpForm}
use Rattle.sml_syntax.specs.declared.tree.Rule.{Rule, out-Rule}
use Rattle.sml_syntax.specs.declared.tree.Piece.{Piece, roll-Piece, out-Piece}
use Rattle.sml_syntax.specs.declared.tree.Dec.{Dec, out-Dec}
use Rattle.sml_syntax.specs.declared.tree.DecForm.{DecForm, roll-DecForm}
use Rattle.sml_syntax.specs.declared.tree.DecForm.TheOpen.{DecForm-F, ExpForm-F, Piece-F}
use Rattle.sml_syntax.specs.declared.tree.DecForm.TheViews.{roll-out-Exp, roll-out-ExpForm, roll-out-Piece, roll-out-Dec, roll-out-DecForm}
use Rattle.sml_syntax.specs.declared.tree.DecForm.TheFolds.{fold-roll-Exp, fold-roll-ExpForm, fold_out-Rule, fold-roll-Piece, fold-roll-Dec, fold-roll-DecForm}
use Rattle.sml_syntax.specs.Layers.{ExpLayer, DecLayer, PatLayer, form_of_pat, form_of_exp, form_of_dec}
use Rattle.sml_syntax.specs.NestedTypes.{TyLayer, form_of_ty}
use Rattle.grammar_rules.specs.Nodes.{exp_at, pat_at, ty_at, dec_at}
use Rattle.print_laws.specs.Printing.{Forms, Ink, RuleInk, Part, closed, atomic, whole, in_parens, parted, alternatives, starred, put, ty_layer, ty_part, ty_forms, put_ty, PatInk, is_cons, con_pat, pats_forms, pat_layer, pat_ink, pat_part, pat_forms, put_pat, head_forms, app_part, exp_layer, exp_ink, exp_part, exp_forms, piece_layer, piece_forms, rule_layer, rule_ink, rule_forms, match_forms, dec_layer, dec_forms, clause_of, inner_clauses, one_clause, several_clause, function_forms, bind_forms, is_number, type_name}
use Rattle.print_laws.specs.Opened.{ty_text, ty_level, starred_text, pat_text, pat_level, pat_members, con_pat_text, con_pat_level, put_text, app_text, app_level, level_in, opens_in, exp_text, piece_text, dec_text, rule_text, match_text, clause_in, clause_text, clauses_in, first_clauses, lone_in, operator_in, members_in, function_text, several_text}
use Rattle.print_laws.proofs.Lists.{parted_map, flat_map_map, parted_same, alternatives_map, alternatives_same}

-- types
starred_list : (ts : List Ty) → starred (map ty_part ts) ≡ starred_text ts
starred_list [] = refl
starred_list (t ∷ ts) = ap (λ w. put_ty 2 t ++ w) (flat_map_map (λ (t : Part). f.Name (codes "*") ∷ put 2 t) ty_part ts)

-- a form with what is printed of its parts
abbrev ty_inked : TyLayer → TyForm-F Part Part
ty_inked (TyForm-F.Var w) = TyForm-F.Var w
ty_inked (TyForm-F.Con w ts) = TyForm-F.Con w (map ty_part ts)
ty_inked (TyForm-F.Tuple ts) = TyForm-F.Tuple (map ty_part ts)
ty_inked (TyForm-F.Arrow x y) = TyForm-F.Arrow (ty_part x) (ty_part y)

ty_layers : (l : TyLayer) (s : Span) → ty_part (ty_at s (roll-TyForm l)) ≡ ty_layer (ty_inked l)
ty_layers (TyForm-F.Var w) s = fold-roll-Ty Part Part ty_layer (λ q. q.form) (record { span = s; form = roll-TyForm (TyForm-F.Var w) }) ∙ fold-roll-TyForm Part Part ty_layer (λ q. q.form) (TyForm-F.Var w)
ty_layers l s = fold-roll-Ty Part Part ty_layer (λ q. q.form) (record { span = s; form = roll-TyForm l }) ∙ fold-roll-TyForm Part Part ty_layer (λ q. q.form) l

-- the part of a type, by its form
abbrev pub ty_part_in : TyLayer → Part
ty_part_in l = closed (ty_level l) (ty_text l)

ty_parts : (l : TyLayer) → ty_layer (ty_inked l) ≡ ty_part_in l
ty_parts (TyForm-F.Var w) = refl
ty_parts (TyForm-F.Con w []) = refl
ty_parts (TyForm-F.Con w (t ∷ [])) = refl
ty_parts (TyForm-F.Con w (t ∷ u ∷ us)) = ap (λ z. closed 2 ((f.Mark (codes "(") ∷ z) ++ f.Mark (codes ")") ∷ type_name w ∷ [])) (parted_map (codes ",") (λ (t : Part). t.forms) ty_part (t ∷ u ∷ us))
ty_parts (TyForm-F.Tuple ts) = ap (closed 1) (starred_list ts)
ty_parts (TyForm-F.Arrow x y) = refl

pub ty_part_opened : (t : Ty) → ty_part t ≡ ty_part_in (form_of_ty t)
ty_part_opened t =
    ap ty_part (sym (roll-out-Ty t))
    ∙ (ap (λ x. ty_part (ty_at (out-Ty t).span x)) (sym (roll-out-TyForm (out-Ty t).form))
    ∙ (ty_layers (form_of_ty t) (out-Ty t).span ∙ ty_parts (form_of_ty t)))

pub ty_level_opened : (t : Ty) → (ty_part t).level ≡ ty_level (form_of_ty t)
ty_level_opened t = ap (λ (p : Part). p.level) (ty_part_opened t)

pub ty_opened : (t : Ty) → ty_forms t ≡ ty_text (form_of_ty t)
ty_opened t = ap (λ (p : Part). p.forms) (ty_part_opened t)

-- patterns
abbrev pat_inked : PatLayer → PatForm-F PatInk PatInk
pat_inked PatForm-F.Any = PatForm-F.Any
pat_inked (PatForm-F.Int n) = PatForm-F.Int n
pat_inked (PatForm-F.Char n) = PatForm-F.Char n
pat_inked (PatForm-F.Str w) = PatForm-F.Str w
pat_inked PatForm-F.Unit = PatForm-F.Unit
pat_inked (PatForm-F.Name w) = PatForm-F.Name w
pat_inked (PatForm-F.Tuple ps) = PatForm-F.Tuple (map pat_ink ps)
pat_inked (PatForm-F.List ps) = PatForm-F.List (map pat_ink ps)
pat_inked (PatForm-F.Con w x) = PatForm-F.Con w (pat_ink x)
pat_inked (PatForm-F.Typed x t) = PatForm-F.Typed (pat_ink x) t

pat_layers : (l : PatLayer) (s : Span) → pat_ink (pat_at s (roll-PatForm l)) ≡ pat_layer (pat_inked l)
pat_layers PatForm-F.Any s = fold-roll-Pat PatInk PatInk pat_layer (λ q. q.form) (record { span = s; form = roll-PatForm PatForm-F.Any }) ∙ fold-roll-PatForm PatInk PatInk pat_layer (λ q. q.form) PatForm-F.Any
pat_layers l s = fold-roll-Pat PatInk PatInk pat_layer (λ q. q.form) (record { span = s; form = roll-PatForm l }) ∙ fold-roll-PatForm PatInk PatInk pat_layer (λ q. q.form) l

pat_ink_opened : (q : Pat) → pat_ink q ≡ pat_layer (pat_inked (form_of_pat q))
pat_ink_opened q = ap pat_ink (sym (roll-out-Pat q)) ∙ (ap (λ x. pat_ink (pat_at (out-Pat q).span x)) (sym (roll-out-PatForm (out-Pat q).form)) ∙ pat_layers (form_of_pat q) (out-Pat q).span)

pat_parts_printed : (ps : List Pat) → map (λ (i : PatInk). i.part) (map pat_ink ps) ≡ map pat_part ps
pat_parts_printed [] = refl
pat_parts_printed (p ∷ ps) = ap (λ qs. pat_part p ∷ qs) (pat_parts_printed ps)

pat_member_layers : (l : PatLayer) → (pat_layer (pat_inked l)).members ≡ map pat_part (pat_members l)
pat_member_layers (PatForm-F.Tuple ps) = pat_parts_printed ps
pat_member_layers _ = refl

pub pat_members_opened : (q : Pat) → (pat_ink q).members ≡ map pat_part (pat_members (form_of_pat q))
pat_members_opened q = ap (λ (i : PatInk). i.members) (pat_ink_opened q) ∙ pat_member_layers (form_of_pat q)

-- the part of a pattern, by its form
abbrev pub pat_part_in : PatLayer → Part
pat_part_in l = closed (pat_level l) (pat_text l)

cond_closed : (b : Bool) (m n : ℕ) (p q : Forms) → cond b (closed m p) (closed n q) ≡ closed (cond b m n) (cond b p q)
cond_closed true m n p q = refl
cond_closed false m n p q = refl

con_pat_shown : (w : List ℕ) (ps : List Pat) (x : Pat) → con_pat w (map pat_part ps) (pat_part x) ≡ closed (con_pat_level w ps) (con_pat_text w ps x)
con_pat_shown w [] x = refl
con_pat_shown w (u ∷ []) x = refl
con_pat_shown w (u ∷ v ∷ []) x = cond_closed (is_cons w) 1 2 (put_pat 2 u ++ f.Name (codes "::") ∷ put_pat 1 v) (head_forms w ++ put_pat 3 x)
con_pat_shown w (u ∷ v ∷ y ∷ ys) x = refl

pats_printed : (ps : List Pat) → pats_forms (map pat_ink ps) ≡ parted (codes ",") pat_forms ps
pats_printed ps = parted_map (codes ",") (λ (p : PatInk). p.part.forms) pat_ink ps

pat_parts : (l : PatLayer) → (pat_layer (pat_inked l)).part ≡ pat_part_in l
pat_parts (PatForm-F.Tuple ps) = ap (λ z. closed 3 (in_parens z)) (pats_printed ps)
pat_parts (PatForm-F.List ps) = ap (λ z. closed 3 ((f.Mark (codes "[") ∷ z) ++ f.Mark (codes "]") ∷ [])) (pats_printed ps)
pat_parts (PatForm-F.Con w x) = ap (λ ps. con_pat w ps (pat_part x)) (pat_members_opened x) ∙ con_pat_shown w (pat_members (form_of_pat x)) x
pat_parts _ = refl

pub pat_part_opened : (q : Pat) → pat_part q ≡ pat_part_in (form_of_pat q)
pat_part_opened q = ap (λ (i : PatInk). i.part) (pat_ink_opened q) ∙ pat_parts (form_of_pat q)

pub pat_level_opened : (q : Pat) → (pat_part q).level ≡ pat_level (form_of_pat q)
pat_level_opened q = ap (λ (p : Part). p.level) (pat_part_opened q)

pub pat_opened : (q : Pat) → pat_forms q ≡ pat_text (form_of_pat q)
pat_opened q = ap (λ (p : Part). p.forms) (pat_part_opened q)

-- rules
pub rule_is : (r : Rule) → rule_ink r ≡ record { pat = (out-Rule r).pat; body = exp_ink (out-Rule r).body }
rule_is r = fold_out-Rule Forms Ink Forms Forms Ink RuleInk dec_layer exp_layer piece_layer (λ d. d.form) (λ e. e.form) rule_layer r

pub rules_printed : (rs : List Rule) → match_forms (map rule_ink rs) ≡ match_text rs
rules_printed rs = alternatives_map rule_forms rule_ink rs ∙ alternatives_same (λ last r. rule_forms last (rule_ink r)) rule_text (λ last r. ap (rule_forms last) (rule_is r)) rs

clauses_printed : (rs : List Rule) → map clause_of (map rule_ink rs) ≡ map clause_in rs
clauses_printed [] = refl
clauses_printed (r ∷ rs) = ap₂ (λ c cs. c ∷ cs) (ap clause_of (rule_is r)) (clauses_printed rs)

-- expressions
exps_printed : (m : List ℕ) (es : List Exp) → parted m (λ (e : Ink). e.part.forms) (map exp_ink es) ≡ parted m exp_forms es
exps_printed m es = parted_map m (λ (e : Ink). e.part.forms) exp_ink es

-- a form with what is printed of its parts
abbrev inked : ExpLayer → ExpForm-F Forms Ink Forms Forms Ink RuleInk
inked (ExpForm-F.Int n) = ExpForm-F.Int n
inked (ExpForm-F.Char n) = ExpForm-F.Char n
inked (ExpForm-F.Str w) = ExpForm-F.Str w
inked (ExpForm-F.Name w) = ExpForm-F.Name w
inked ExpForm-F.Unit = ExpForm-F.Unit
inked (ExpForm-F.Tuple es) = ExpForm-F.Tuple (map exp_ink es)
inked (ExpForm-F.List es) = ExpForm-F.List (map exp_ink es)
inked (ExpForm-F.Seq es) = ExpForm-F.Seq (map exp_ink es)
inked (ExpForm-F.App x y) = ExpForm-F.App (exp_ink x) (exp_ink y)
inked (ExpForm-F.Let ds es) = ExpForm-F.Let (map dec_forms ds) (map exp_ink es)
inked (ExpForm-F.Fn rs) = ExpForm-F.Fn (map rule_ink rs)
inked (ExpForm-F.Case x rs) = ExpForm-F.Case (exp_ink x) (map rule_ink rs)
inked (ExpForm-F.Handle x rs) = ExpForm-F.Handle (exp_ink x) (map rule_ink rs)
inked (ExpForm-F.Raise x) = ExpForm-F.Raise (exp_ink x)
inked (ExpForm-F.If x y z) = ExpForm-F.If (exp_ink x) (exp_ink y) (exp_ink z)
inked (ExpForm-F.Both x y) = ExpForm-F.Both (exp_ink x) (exp_ink y)
inked (ExpForm-F.Either x y) = ExpForm-F.Either (exp_ink x) (exp_ink y)
inked (ExpForm-F.Quote ps) = ExpForm-F.Quote (map piece_forms ps)
inked (ExpForm-F.Typed x t) = ExpForm-F.Typed (exp_ink x) t

ink_layers : (l : ExpLayer) (s : Span) → exp_ink (exp_at s (roll-ExpForm l)) ≡ exp_layer (inked l)
ink_layers (ExpForm-F.Int n) s = fold-roll-Exp Forms Ink Forms Forms Ink RuleInk dec_layer exp_layer piece_layer (λ d. d.form) (λ e. e.form) rule_layer (record { span = s; form = roll-ExpForm (ExpForm-F.Int n) }) ∙ fold-roll-ExpForm Forms Ink Forms Forms Ink RuleInk dec_layer exp_layer piece_layer (λ d. d.form) (λ e. e.form) rule_layer (ExpForm-F.Int n)
ink_layers l s = fold-roll-Exp Forms Ink Forms Forms Ink RuleInk dec_layer exp_layer piece_layer (λ d. d.form) (λ e. e.form) rule_layer (record { span = s; form = roll-ExpForm l }) ∙ fold-roll-ExpForm Forms Ink Forms Forms Ink RuleInk dec_layer exp_layer piece_layer (λ d. d.form) (λ e. e.form) rule_layer l

ink_opened : (x : Exp) → exp_ink x ≡ exp_layer (inked (form_of_exp x))
ink_opened x = ap exp_ink (sym (roll-out-Exp x)) ∙ (ap (λ y. exp_ink (exp_at (out-Exp x).span y)) (sym (roll-out-ExpForm (out-Exp x).form)) ∙ ink_layers (form_of_exp x) (out-Exp x).span)

first_printed : (rs : List Rule) → inner_clauses (map rule_ink rs) ≡ first_clauses rs
first_printed [] = refl
first_printed (r ∷ rs) = ap (λ (q : RuleInk). q.body.clauses) (rule_is r)

clause_layers : (l : ExpLayer) → (exp_layer (inked l)).clauses ≡ clauses_in l
clause_layers (ExpForm-F.Case x rs) = clauses_printed rs
clause_layers (ExpForm-F.Fn rs) = first_printed rs
clause_layers _ = refl

pub clauses_opened : (x : Exp) → (exp_ink x).clauses ≡ clauses_in (form_of_exp x)
clauses_opened x = ap (λ (i : Ink). i.clauses) (ink_opened x) ∙ clause_layers (form_of_exp x)

pub several_printed : (name : List ℕ) (rs : List Rule) → alternatives (several_clause name) (map clause_in rs) ≡ alternatives (several_text name) rs
several_printed name rs = alternatives_map (several_clause name) clause_in rs

lone_layers : (l : ExpLayer) → (exp_layer (inked l)).lone ≡ lone_in l
lone_layers (ExpForm-F.Name w) = refl
lone_layers _ = refl

pub lone_opened : (x : Exp) → (exp_ink x).lone ≡ lone_in (form_of_exp x)
lone_opened x = ap (λ (i : Ink). i.lone) (ink_opened x) ∙ lone_layers (form_of_exp x)

operator_layers : (l : ExpLayer) → (exp_layer (inked l)).operator ≡ operator_in l
operator_layers (ExpForm-F.Name w) = refl
operator_layers _ = refl

pub operator_opened : (x : Exp) → (exp_ink x).operator ≡ operator_in (form_of_exp x)
operator_opened x = ap (λ (i : Ink). i.operator) (ink_opened x) ∙ operator_layers (form_of_exp x)

parts_printed : (es : List Exp) → map (λ (i : Ink). i.part) (map exp_ink es) ≡ map exp_part es
parts_printed [] = refl
parts_printed (e ∷ es) = ap (λ ps. exp_part e ∷ ps) (parts_printed es)

member_layers : (l : ExpLayer) → (exp_layer (inked l)).members ≡ map exp_part (members_in l)
member_layers (ExpForm-F.Tuple es) = parts_printed es
member_layers _ = refl

pub members_opened : (x : Exp) → (exp_ink x).members ≡ map exp_part (members_in (form_of_exp x))
members_opened x = ap (λ (i : Ink). i.members) (ink_opened x) ∙ member_layers (form_of_exp x)

-- the part of an expression, by its form
abbrev pub part_in : ExpLayer → Part
part_in l = record { level = level_in l; opens = opens_in l; forms = exp_text l }

app_shown : (o : Option (ℕ × TokenForm)) (es : List Exp) (x y : Exp) → app_part o (map exp_part es) (exp_part x) (exp_part y) ≡ closed (app_level o es) (app_text o es x y)
app_shown None es x y = refl
app_shown (Some o) [] x y = refl
app_shown (Some o) (u ∷ []) x y = refl
app_shown (Some o) (u ∷ v ∷ []) x y = refl
app_shown (Some o) (u ∷ v ∷ w ∷ ws) x y = refl

part_layers : (l : ExpLayer) → (exp_layer (inked l)).part ≡ part_in l
part_layers (ExpForm-F.Tuple es) = ap (λ z. atomic (in_parens z)) (exps_printed (codes ",") es)
part_layers (ExpForm-F.List es) = ap (λ z. atomic ((f.Mark (codes "[") ∷ z) ++ f.Mark (codes "]") ∷ [])) (exps_printed (codes ",") es)
part_layers (ExpForm-F.Seq es) = ap (λ z. atomic (in_parens z)) (exps_printed (codes ";") es)
part_layers (ExpForm-F.App x y) = ap₂ (λ o ps. app_part o ps (exp_part x) (exp_part y)) (operator_opened x) (members_opened y) ∙ app_shown (operator_in (form_of_exp x)) (members_in (form_of_exp y)) x y
part_layers (ExpForm-F.Let ds es) = ap₂ (λ u v. atomic ((f.Mark (codes "let") ∷ u) ++ f.Mark (codes "in") ∷ v ++ f.Mark (codes "end") ∷ [])) (flat_map_map (λ d. d) dec_forms ds) (exps_printed (codes ";") es)
part_layers (ExpForm-F.Fn rs) = ap (λ z. whole true (f.Mark (codes "fn") ∷ z)) (rules_printed rs)
part_layers (ExpForm-F.Case x rs) = ap (λ z. whole true (f.Mark (codes "case") ∷ exp_forms x ++ f.Mark (codes "of") ∷ z)) (rules_printed rs)
part_layers (ExpForm-F.Handle x rs) = ap (λ z. whole true (put_text 1 x ++ f.Mark (codes "handle") ∷ z)) (rules_printed rs)
part_layers (ExpForm-F.Quote ps) = ap (λ z. atomic ((f.QuoteFrom ∷ z) ++ f.QuoteTo ∷ [])) (flat_map_map (λ p. p) piece_forms ps)
part_layers _ = refl

pub part_opened : (x : Exp) → exp_part x ≡ part_in (form_of_exp x)
part_opened x = ap (λ (i : Ink). i.part) (ink_opened x) ∙ part_layers (form_of_exp x)

pub level_opened : (x : Exp) → (exp_part x).level ≡ level_in (form_of_exp x)
level_opened x = ap (λ (p : Part). p.level) (part_opened x)

pub opens_opened : (x : Exp) → (exp_part x).opens ≡ opens_in (form_of_exp x)
opens_opened x = ap (λ (p : Part). p.opens) (part_opened x)

pub exp_opened : (x : Exp) → exp_forms x ≡ exp_text (form_of_exp x)
exp_opened x = ap (λ (p : Part). p.forms) (part_opened x)

-- pieces
piece_layers : (l : Piece-F DecForm ExpForm Piece Dec Exp Rule) → piece_forms (roll-Piece l) ≡ piece_text l
piece_layers (Piece-F.Plain w) = fold-roll-Piece Forms Ink Forms Forms Ink RuleInk dec_layer exp_layer piece_layer (λ d. d.form) (λ e. e.form) rule_layer (Piece-F.Plain w)
piece_layers (Piece-F.Anti x) = fold-roll-Piece Forms Ink Forms Forms Ink RuleInk dec_layer exp_layer piece_layer (λ d. d.form) (λ e. e.form) rule_layer (Piece-F.Anti x)

pub piece_opened : (q : Piece) → piece_forms q ≡ piece_text (out-Piece q)
piece_opened q = ap piece_forms (sym (roll-out-Piece q)) ∙ piece_layers (out-Piece q)

-- declarations
function_list : (name : List ℕ) (rs : List Rule) → function_forms (name, map rule_ink rs) ≡ function_text (name, rs)
function_list name [] = refl
function_list name (r ∷ rs) =
    ap (λ (q : RuleInk). function_forms (name, q ∷ map rule_ink rs)) (rule_is r)
    ∙ ap (cond (is_number (form_of_pat (out-Rule r).pat)) (alternatives (several_clause name) (exp_ink (out-Rule r).body).clauses))
    (ap (λ (q : RuleInk). alternatives (λ last r. one_clause name last (clause_of r)) (q ∷ map rule_ink rs)) (sym (rule_is r))
    ∙ (alternatives_map (λ last r. one_clause name last (clause_of r)) rule_ink (r ∷ rs)
    ∙ alternatives_same (λ last r. one_clause name last (clause_of (rule_ink r))) (clause_text name) (λ last r. ap (λ q. one_clause name last (clause_of q)) (rule_is r)) (r ∷ rs)))

functions_list : (fs : List (List ℕ × List Rule)) → parted (codes "and") function_forms (map (λ g. (g.0, map rule_ink g.1)) fs) ≡ parted (codes "and") function_text fs
functions_list fs = parted_map (codes "and") function_forms (λ (g : List ℕ × List Rule). (g.0, map rule_ink g.1)) fs ∙ parted_same (codes "and") (λ (g : List ℕ × List Rule). function_forms (g.0, map rule_ink g.1)) function_text (λ g. function_list g.0 g.1) fs

dec_layers : (l : DecLayer) (s : Span) → dec_forms (dec_at s (roll-DecForm l)) ≡ dec_text l
dec_layers (DecForm-F.Val bs) s = (fold-roll-Dec Forms Ink Forms Forms Ink RuleInk dec_layer exp_layer piece_layer (λ d. d.form) (λ e. e.form) rule_layer (record { span = s; form = roll-DecForm (DecForm-F.Val bs) }) ∙ fold-roll-DecForm Forms Ink Forms Forms Ink RuleInk dec_layer exp_layer piece_layer (λ d. d.form) (λ e. e.form) rule_layer (DecForm-F.Val bs)) ∙ ap (λ z. f.Mark (codes "val") ∷ z) (parted_map (codes "and") bind_forms (λ (b : Pat × Exp). (b.0, exp_ink b.1)) bs)
dec_layers (DecForm-F.ValRec fs) s = (fold-roll-Dec Forms Ink Forms Forms Ink RuleInk dec_layer exp_layer piece_layer (λ d. d.form) (λ e. e.form) rule_layer (record { span = s; form = roll-DecForm (DecForm-F.ValRec fs) }) ∙ fold-roll-DecForm Forms Ink Forms Forms Ink RuleInk dec_layer exp_layer piece_layer (λ d. d.form) (λ e. e.form) rule_layer (DecForm-F.ValRec fs)) ∙ ap (λ z. f.Mark (codes "fun") ∷ z) (functions_list fs)
dec_layers (DecForm-F.Abbrev xs) s = (fold-roll-Dec Forms Ink Forms Forms Ink RuleInk dec_layer exp_layer piece_layer (λ d. d.form) (λ e. e.form) rule_layer (record { span = s; form = roll-DecForm (DecForm-F.Abbrev xs) }) ∙ fold-roll-DecForm Forms Ink Forms Forms Ink RuleInk dec_layer exp_layer piece_layer (λ d. d.form) (λ e. e.form) rule_layer (DecForm-F.Abbrev xs))
dec_layers (DecForm-F.DataDef xs) s = (fold-roll-Dec Forms Ink Forms Forms Ink RuleInk dec_layer exp_layer piece_layer (λ d. d.form) (λ e. e.form) rule_layer (record { span = s; form = roll-DecForm (DecForm-F.DataDef xs) }) ∙ fold-roll-DecForm Forms Ink Forms Forms Ink RuleInk dec_layer exp_layer piece_layer (λ d. d.form) (λ e. e.form) rule_layer (DecForm-F.DataDef xs))
dec_layers (DecForm-F.ExnDef xs) s = (fold-roll-Dec Forms Ink Forms Forms Ink RuleInk dec_layer exp_layer piece_layer (λ d. d.form) (λ e. e.form) rule_layer (record { span = s; form = roll-DecForm (DecForm-F.ExnDef xs) }) ∙ fold-roll-DecForm Forms Ink Forms Forms Ink RuleInk dec_layer exp_layer piece_layer (λ d. d.form) (λ e. e.form) rule_layer (DecForm-F.ExnDef xs))
dec_layers (DecForm-F.Local ds es) s = (fold-roll-Dec Forms Ink Forms Forms Ink RuleInk dec_layer exp_layer piece_layer (λ d. d.form) (λ e. e.form) rule_layer (record { span = s; form = roll-DecForm (DecForm-F.Local ds es) }) ∙ fold-roll-DecForm Forms Ink Forms Forms Ink RuleInk dec_layer exp_layer piece_layer (λ d. d.form) (λ e. e.form) rule_layer (DecForm-F.Local ds es)) ∙ ap₂ (λ u v. (f.Mark (codes "local") ∷ u) ++ f.Mark (codes "in") ∷ v ++ f.Mark (codes "end") ∷ []) (flat_map_map (λ d. d) dec_forms ds) (flat_map_map (λ d. d) dec_forms es)

pub dec_opened : (d : Dec) → dec_forms d ≡ dec_text (form_of_dec d)
dec_opened d = ap dec_forms (sym (roll-out-Dec d)) ∙ (ap (λ y. dec_forms (dec_at (out-Dec d).span y)) (sym (roll-out-DecForm (out-Dec d).form)) ∙ dec_layers (form_of_dec d) (out-Dec d).span)
