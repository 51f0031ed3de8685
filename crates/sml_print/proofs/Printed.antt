-- What is printed of a tree, by its form.
use Rattle.std.proofs.Common.{◌≡◌, ℕ, List, [], ◌∷◌, ◌++◌, refl, ap, ap₂, sym, ◌∙◌, ◌-◌, ◌≤◌, length, take, get_or, subst, arith, append_assoc}
use Rattle.std.specs.Prelude.{Bool, true, false, Option, Some, None, cond, codes, flat_map}
use Rattle.sml_syntax.specs.declared.token.TokenForm.TheVariants as f
use Rattle.sml_syntax.specs.declared.tree.Ty.{Ty, out-Ty}
use Rattle.sml_syntax.specs.declared.tree.TyForm.{out-TyForm, out-roll-TyForm}
use Rattle.sml_syntax.specs.declared.tree.TyForm.TheVariants as t
use Rattle.sml_syntax.specs.declared.tree.TyForm.TheOpen.{TyForm-F}
use Rattle.sml_syntax.specs.declared.tree.Pat.{Pat, out-Pat}
use Rattle.sml_syntax.specs.declared.tree.PatForm.{out-PatForm, out-roll-PatForm}
use Rattle.sml_syntax.specs.declared.tree.PatForm.TheVariants as p
use Rattle.sml_syntax.specs.declared.tree.PatForm.TheOpen.{PatForm-F}
use Rattle.sml_syntax.specs.declared.tree.Exp.{Exp, out-Exp}
use Rattle.sml_syntax.specs.declared.tree.ExpForm.{out-ExpForm, roll-ExpForm, out-roll-ExpForm}
use Rattle.sml_syntax.specs.declared.tree.ExpForm.TheVariants as e
use Rattle.sml_syntax.specs.declared.tree.Rule.{Rule}
use Rattle.sml_syntax.specs.declared.tree.Piece.{Piece}
use Rattle.sml_syntax.specs.declared.tree.Dec.{Dec, out-Dec}
use Rattle.sml_syntax.specs.declared.tree.DecForm.{out-DecForm, out-roll-DecForm}
use Rattle.sml_syntax.specs.declared.tree.DecForm.TheVariants as d
use Rattle.sml_syntax.specs.declared.tree.DecForm.TheOpen.{ExpForm-F, DecForm-F}
use Rattle.sml_syntax.specs.declared.tree.DecForm.TheViews.{roll-out-ExpForm}
use Rattle.grammar_rules.specs.InfixNames.{infix_level}
use Rattle.sml_syntax.specs.Layers.{ExpLayer, form_of_exp}
use Rattle.print_laws.specs.Printing.{Forms, alternatives_from, put, has_dot, infix_by, infix_word, name_forms, in_parens, parted, alternatives, ty_forms, head_forms, pat_forms, exp_ink, exp_part, exp_forms, several_clause, dec_forms, abbrev_forms, data_forms, con_def_forms}
use Rattle.print_laws.specs.Opened.{ty_text, con_text, starred_text, pat_text, exp_text, let_text, quote_text, dec_text, bind_text, function_text, local_text, clauses_in, several_text, put_text, level_in, app_level, operator_in, members_in, app_text}
use Rattle.print_laws.proofs.Lists.{before_bar}
use Rattle.print_laws.proofs.Opened.{ty_opened, pat_opened, exp_opened, dec_opened, part_in, part_opened, level_opened, clauses_opened, several_printed}
use Rattle.sml_print.specs.Places.{operation_text, operator_level, infix_text}

-- expressions
exp_as : (x : Exp) (l : ExpLayer) → (out-Exp x).form ≡ roll-ExpForm l → form_of_exp x ≡ l
exp_as x l h = ap out-ExpForm h ∙ out-roll-ExpForm l

pub as_name : (x : Exp) (name : List ℕ) → (out-Exp x).form ≡ e.Name name → form_of_exp x ≡ ExpForm-F.Name name
as_name x name h = exp_as x (ExpForm-F.Name name) (h ∙ sym (e.rolls-Name name))

pub as_tuple : (x : Exp) (es : List Exp) → (out-Exp x).form ≡ e.Tuple es → form_of_exp x ≡ ExpForm-F.Tuple es
as_tuple x es h = exp_as x (ExpForm-F.Tuple es) (h ∙ sym (e.rolls-Tuple es))

pub as_list : (x : Exp) (es : List Exp) → (out-Exp x).form ≡ e.List es → form_of_exp x ≡ ExpForm-F.List es
as_list x es h = exp_as x (ExpForm-F.List es) (h ∙ sym (e.rolls-List es))

pub as_seq : (x : Exp) (es : List Exp) → (out-Exp x).form ≡ e.Seq es → form_of_exp x ≡ ExpForm-F.Seq es
as_seq x es h = exp_as x (ExpForm-F.Seq es) (h ∙ sym (e.rolls-Seq es))

pub as_app : (x : Exp) (y : Exp) (z : Exp) → (out-Exp x).form ≡ e.App y z → form_of_exp x ≡ ExpForm-F.App y z
as_app x y z h = exp_as x (ExpForm-F.App y z) (h ∙ sym (e.rolls-App y z))

pub as_let : (x : Exp) (ds : List Dec) (es : List Exp) → (out-Exp x).form ≡ e.Let ds es → form_of_exp x ≡ ExpForm-F.Let ds es
as_let x ds es h = exp_as x (ExpForm-F.Let ds es) (h ∙ sym (e.rolls-Let ds es))

pub as_case : (x : Exp) (y : Exp) (rules : List Rule) → (out-Exp x).form ≡ e.Case y rules → form_of_exp x ≡ ExpForm-F.Case y rules
as_case x y rules h = exp_as x (ExpForm-F.Case y rules) (h ∙ sym (e.rolls-Case y rules))

pub as_both : (x : Exp) (y : Exp) (z : Exp) → (out-Exp x).form ≡ e.Both y z → form_of_exp x ≡ ExpForm-F.Both y z
as_both x y z h = exp_as x (ExpForm-F.Both y z) (h ∙ sym (e.rolls-Both y z))

pub as_either : (x : Exp) (y : Exp) (z : Exp) → (out-Exp x).form ≡ e.Either y z → form_of_exp x ≡ ExpForm-F.Either y z
as_either x y z h = exp_as x (ExpForm-F.Either y z) (h ∙ sym (e.rolls-Either y z))

pub as_quote : (x : Exp) (pieces : List Piece) → (out-Exp x).form ≡ e.Quote pieces → form_of_exp x ≡ ExpForm-F.Quote pieces
as_quote x pieces h = exp_as x (ExpForm-F.Quote pieces) (h ∙ sym (e.rolls-Quote pieces))

pub as_typed : (x : Exp) (y : Exp) (ty : Ty) → (out-Exp x).form ≡ e.Typed y ty → form_of_exp x ≡ ExpForm-F.Typed y ty
as_typed x y ty h = exp_as x (ExpForm-F.Typed y ty) (h ∙ sym (e.rolls-Typed y ty))

pub exp_tuple : (x : Exp) (es : List Exp) → (out-Exp x).form ≡ e.Tuple es → exp_forms x ≡ in_parens (parted (codes ",") exp_forms es)
exp_tuple x es h = exp_opened x ∙ ap exp_text (as_tuple x es h)

pub exp_list : (x : Exp) (es : List Exp) → (out-Exp x).form ≡ e.List es → exp_forms x ≡ (f.Mark (codes "[") ∷ parted (codes ",") exp_forms es) ++ f.Mark (codes "]") ∷ []
exp_list x es h = exp_opened x ∙ ap exp_text (as_list x es h)

pub exp_seq : (x : Exp) (es : List Exp) → (out-Exp x).form ≡ e.Seq es → exp_forms x ≡ in_parens (parted (codes ";") exp_forms es)
exp_seq x es h = exp_opened x ∙ ap exp_text (as_seq x es h)

pub exp_let : (x : Exp) (ds : List Dec) (es : List Exp) → (out-Exp x).form ≡ e.Let ds es → exp_forms x ≡ let_text ds es
exp_let x ds es h = exp_opened x ∙ ap exp_text (as_let x ds es h)

pub exp_quote : (x : Exp) (pieces : List Piece) → (out-Exp x).form ≡ e.Quote pieces → exp_forms x ≡ quote_text pieces
exp_quote x pieces h = exp_opened x ∙ ap exp_text (as_quote x pieces h)

-- operations
pub operation_both : (x : Exp) (y : Exp) (z : Exp) → (out-Exp x).form ≡ e.Both y z → operation_text (form_of_exp x) ≡ put_text 3 y ++ f.Mark (codes "andalso") ∷ put_text 2 z
operation_both x y z h = ap operation_text (as_both x y z h)

pub operation_either : (x : Exp) (y : Exp) (z : Exp) → (out-Exp x).form ≡ e.Either y z → operation_text (form_of_exp x) ≡ put_text 2 y ++ f.Mark (codes "orelse") ∷ put_text 1 z
operation_either x y z h = ap operation_text (as_either x y z h)

pub operation_typed : (x : Exp) (y : Exp) (ty : Ty) → (out-Exp x).form ≡ e.Typed y ty → operation_text (form_of_exp x) ≡ put_text 3 y ++ f.Mark (codes ":") ∷ ty_forms ty
operation_typed x y ty h = ap operation_text (as_typed x y ty h)

-- declarations
pub dec_val : (x : Dec) (binds : List (Pat × Exp)) → (out-Dec x).form ≡ d.Val binds → dec_forms x ≡ f.Mark (codes "val") ∷ parted (codes "and") bind_text binds
dec_val x binds h = dec_opened x ∙ ap dec_text (ap out-DecForm h ∙ ap out-DecForm (sym (d.rolls-Val binds)) ∙ out-roll-DecForm (DecForm-F.Val binds))

pub dec_fun : (x : Dec) (functions : List (List ℕ × List Rule)) → (out-Dec x).form ≡ d.ValRec functions → dec_forms x ≡ f.Mark (codes "fun") ∷ parted (codes "and") function_text functions
dec_fun x functions h = dec_opened x ∙ ap dec_text (ap out-DecForm h ∙ ap out-DecForm (sym (d.rolls-ValRec functions)) ∙ out-roll-DecForm (DecForm-F.ValRec functions))

pub dec_type : (x : Dec) (all : List (List (List ℕ) × List ℕ × Ty)) → (out-Dec x).form ≡ d.Abbrev all → dec_forms x ≡ f.Mark (codes "type") ∷ parted (codes "and") abbrev_forms all
dec_type x all h = dec_opened x ∙ ap dec_text (ap out-DecForm h ∙ ap out-DecForm (sym (d.rolls-Abbrev all)) ∙ out-roll-DecForm (DecForm-F.Abbrev all))

pub dec_data : (x : Dec) (all : List (List (List ℕ) × List ℕ × List (List ℕ × Option Ty))) → (out-Dec x).form ≡ d.DataDef all → dec_forms x ≡ f.Mark (codes "datatype") ∷ parted (codes "and") data_forms all
dec_data x all h = dec_opened x ∙ ap dec_text (ap out-DecForm h ∙ ap out-DecForm (sym (d.rolls-DataDef all)) ∙ out-roll-DecForm (DecForm-F.DataDef all))

pub dec_exception : (x : Dec) (all : List (List ℕ × Option Ty)) → (out-Dec x).form ≡ d.ExnDef all → dec_forms x ≡ f.Mark (codes "exception") ∷ parted (codes "and") con_def_forms all
dec_exception x all h = dec_opened x ∙ ap dec_text (ap out-DecForm h ∙ ap out-DecForm (sym (d.rolls-ExnDef all)) ∙ out-roll-DecForm (DecForm-F.ExnDef all))

pub dec_local : (x : Dec) (hidden : List Dec) (shown : List Dec) → (out-Dec x).form ≡ d.Local hidden shown → dec_forms x ≡ local_text hidden shown
dec_local x hidden shown h = dec_opened x ∙ ap dec_text (ap out-DecForm h ∙ ap out-DecForm (sym (d.rolls-Local hidden shown)) ∙ out-roll-DecForm (DecForm-F.Local hidden shown))

-- the clauses of several patterns in a `case`
pub inner_case : (name : List ℕ) (x y : Exp) (rules : List Rule) → (out-Exp x).form ≡ e.Case y rules → alternatives (several_clause name) (exp_ink x).clauses ≡ alternatives (several_text name) rules
inner_case name x y rules h = ap (alternatives (several_clause name)) (clauses_opened x ∙ ap clauses_in (as_case x y rules h)) ∙ several_printed name rules

-- the level of an application
pub level_app : (x y z : Exp) → (out-Exp x).form ≡ e.App y z → (exp_part x).level ≡ app_level (operator_in (form_of_exp y)) (members_in (form_of_exp z))
level_app x y z h = level_opened x ∙ ap level_in (as_app x y z h)

-- a name, and a tuple, where they stand in an application
name_at : (y : Exp) (name : List ℕ) → (out-Exp y).form ≡ e.Name name → put_text 14 y ≡ name_forms name
unfolding Rattle.print_laws.specs.Printing.put
name_at y name h = ap (put 14) (part_opened y ∙ ap part_in (as_name y name h))

tuple_at : (z : Exp) (es : List Exp) → form_of_exp z ≡ ExpForm-F.Tuple es → put_text 15 z ≡ in_parens (parted (codes ",") exp_forms es)
unfolding Rattle.print_laws.specs.Printing.put
tuple_at z es h = ap (put 15) (part_opened z ∙ ap part_in h)

-- the level and word of an infix name
infix_as : (dotted : Bool) (level : Option ℕ) (name : List ℕ) → cond dotted None (infix_by level name) ≡ infix_by (cond dotted None level) name
infix_as true level name = refl
infix_as false level name = refl

operator_name : (y : Exp) (name : List ℕ) → (out-Exp y).form ≡ e.Name name → operator_in (form_of_exp y) ≡ infix_by (operator_level name) name
unfolding Rattle.print_laws.specs.Printing.infix_of
operator_name y name h = ap operator_in (as_name y name h) ∙ infix_as (has_dot name) (infix_level name) name

infix_shown : (level : ℕ) (name : List ℕ) (y z : Exp) → put_text 14 y ≡ name_forms name → (l : ExpLayer) → form_of_exp z ≡ l → app_text (Some (level, infix_word name)) (members_in l) y z ≡ infix_text level name z l
infix_shown level name y z h (ExpForm-F.Tuple []) i = ap₂ (λ u v. u ++ v) h (tuple_at z [] i)
infix_shown level name y z h (ExpForm-F.Tuple (a ∷ [])) i = ap₂ (λ u v. u ++ v) h (tuple_at z (a ∷ []) i)
infix_shown level name y z h (ExpForm-F.Tuple (a ∷ b ∷ [])) i = refl
infix_shown level name y z h (ExpForm-F.Tuple (a ∷ b ∷ c ∷ cs)) i = ap₂ (λ u v. u ++ v) h (tuple_at z (a ∷ b ∷ c ∷ cs) i)
infix_shown level name y z h _ i = ap (λ w. w ++ put_text 15 z) h

-- an application, by what its function is, for other names of its parts
pub app_named : (x y z y1 z1 : Exp) (name : List ℕ) (o : Option ℕ) → (out-Exp x).form ≡ e.App y z → y1 ≡ y → z1 ≡ z → (out-Exp y1).form ≡ e.Name name → o ≡ operator_level name → o ≡ None → operation_text (form_of_exp x) ≡ name_forms name ++ put_text 15 z1
app_named x y z y1 z1 name o h p q i j k =
    ap operation_text (as_app x y1 z1 (h ∙ ap₂ e.App (sym p) (sym q)))
    ∙ (ap (λ o. app_text o (members_in (form_of_exp z1)) y1 z1) (operator_name y1 name i ∙ ap (λ o. infix_by o name) (sym j ∙ k))
    ∙ ap (λ w. w ++ put_text 15 z1) (name_at y1 name i))

pub app_infix : (x y z y1 z1 : Exp) (name : List ℕ) (o : Option ℕ) (level : ℕ) → (out-Exp x).form ≡ e.App y z → y1 ≡ y → z1 ≡ z → (out-Exp y1).form ≡ e.Name name → o ≡ operator_level name → o ≡ Some level → operation_text (form_of_exp x) ≡ infix_text level name z1 (form_of_exp z1)
app_infix x y z y1 z1 name o level h p q i j k =
    ap operation_text (as_app x y1 z1 (h ∙ ap₂ e.App (sym p) (sym q)))
    ∙ (ap (λ o. app_text o (members_in (form_of_exp z1)) y1 z1) (operator_name y1 name i ∙ ap (λ o. infix_by o name) (sym j ∙ k))
    ∙ infix_shown level name y1 z1 (name_at y1 name i) (form_of_exp z1) refl)

no_operator : (y : Exp) (l : ExpLayer) → (out-Exp y).form ≡ roll-ExpForm l → ((name : List ℕ) → (out-Exp y).form ≡ e.Name name → ⊥) → operator_in l ≡ None
no_operator y (ExpForm-F.Name name) h k = absurd (k name (h ∙ e.rolls-Name name))
no_operator y _ h k = refl

pub app_other : (x y z y1 y2 z1 : Exp) → (out-Exp x).form ≡ e.App y z → y1 ≡ y → y2 ≡ y → z1 ≡ z → ((name : List ℕ) → (out-Exp y1).form ≡ e.Name name → ⊥) → operation_text (form_of_exp x) ≡ put_text 14 y2 ++ put_text 15 z1
app_other x y z y1 y2 z1 h p p2 q k =
    ap operation_text (as_app x y1 z1 (h ∙ ap₂ e.App (sym p) (sym q)))
    ∙ (ap (λ o. app_text o (members_in (form_of_exp z1)) y1 z1) (no_operator y1 (form_of_exp y1) (sym (roll-out-ExpForm (out-Exp y1).form)) k)
    ∙ ap (λ w. put_text 14 w ++ put_text 15 z1) (p ∙ sym p2))

-- those before the last one, each with a bar behind it, and the last one
from_cut : {A : Type 0} (g : Bool → A → Forms) (x : A) (xs : List A) (last : A) → last ≡ get_or (x ∷ xs) (length xs) last → alternatives_from g x xs ≡ flat_map (before_bar g) (take (length xs) (x ∷ xs)) ++ g true last
from_cut g x [] last h = ap (g true) (sym h)
from_cut g x (y ∷ ys) last h =
    ap (λ z. g false x ++ f.Mark (codes "|") ∷ z) (from_cut g y ys last h)
    ∙ (sym (append_assoc (g false x) (f.Mark (codes "|") ∷ []) (flat_map (before_bar g) (take (length ys) (y ∷ ys)) ++ g true last))
    ∙ sym (append_assoc (before_bar g x) (flat_map (before_bar g) (take (length ys) (y ∷ ys))) (g true last)))

one_less : {A : Type 0} (x : A) (xs : List A) → length (x ∷ xs) - 1 ≡ length xs
one_less x xs = omega arith

alternatives_cut : {A : Type 0} (g : Bool → A → Forms) (xs : List A) (last : A) → 1 ≤ length xs → last ≡ get_or xs (length xs - 1) last → alternatives g xs ≡ flat_map (before_bar g) (take (length xs - 1) xs) ++ g true last
alternatives_cut g [] last l h = absurd (omega (arith, l))
alternatives_cut g (x ∷ xs) last l h = subst (λ n. alternatives_from g x xs ≡ flat_map (before_bar g) (take n (x ∷ xs)) ++ g true last) (sym (one_less x xs)) (from_cut g x xs last (subst (λ n. last ≡ get_or (x ∷ xs) n last) (one_less x xs) h))

-- what is written where all but the last one are
pub all_but_last : {A : Type 0} (g : Bool → A → Forms) (ys xs : List A) (last : A) (some : List A) (start now : Forms) → xs ≡ ys → 1 ≤ length xs → last ≡ get_or xs (length xs - 1) last → some ≡ take (length xs - 1) xs → now ≡ start ++ flat_map (before_bar g) some → start ++ alternatives g ys ≡ now ++ g true last
all_but_last g ys xs last some start now p l h i j =
    ap (λ w. start ++ alternatives g w) (sym p)
    ∙ (ap (λ w. start ++ w) (alternatives_cut g xs last l h)
    ∙ (sym (append_assoc start (flat_map (before_bar g) (take (length xs - 1) xs)) (g true last))
    ∙ ap (λ w. w ++ g true last) (ap (λ w. start ++ flat_map (before_bar g) w) (sym i) ∙ sym j)))
