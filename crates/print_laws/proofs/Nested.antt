-- The lack `NestedType` of a datatype declaration: it is there at each depth or at none from the number of its tokens on, and
-- it doesn't depend on spans.
use Rattle.std.proofs.Common.{◌≡◌, ℕ, zero, suc, ◌+◌, ◌≤◌, List, [], ◌∷◌, ◌++◌, length, Option, Some, None, refl, ap, ap₂, sym, subst, ◌∙◌, arith, length-append}
use Rattle.std.specs.Prelude.{Bool, true, false, cond, ◌&&◌}
use Rattle.std.specs.Str.{bytes_eq}
use Rattle.sml_syntax.specs.declared.token.Token.{Token}
use Rattle.sml_syntax.specs.declared.token.Lack.TheVariants as l
use Rattle.sml_syntax.specs.declared.tree.Span.{Span}
use Rattle.sml_syntax.specs.declared.tree.Ty.{Ty, out-Ty}
use Rattle.sml_syntax.specs.declared.tree.TyForm.{out-TyForm}
use Rattle.sml_syntax.specs.declared.tree.TyForm.TheOpen.{TyForm-F}
use Rattle.sml_syntax.specs.declared.tree.TyForm.TheVariants as t
use Rattle.sml_syntax.specs.declared.tree.TyForm.TheViews.{out-roll-Ty, out-roll-TyForm}
use Rattle.sml_syntax.specs.NestedTypes.{Found, Datatypes, form_of_ty, own_variables, is_variable, are_variables, nested_here, for_each, nested_in_form, nested_in_type, nested_in_constructors, nested_in_bindings}
use Rattle.grammar_rules.specs.Nodes.{ty_at, span_of, extent}
use Rattle.grammar_rules.specs.Grammar.{Is, ty_tree, tys_tree, cons_tree, datas_tree, conty, tupty, ty, stars, tys, cons, datas, conty_name, conty_var, conty_paren, conty_one, conty_several, tys_one, tys_more, stars_one, stars_more, tupty_one, tupty_several, ty_one, ty_arrow, cons_one, cons_of, cons_more, cons_of_more, datas_one, datas_more}
use Rattle.print_laws.specs.SameTree.{Same, same_var, same_con, same_ty_tuple, same_arrow, no_tys, more_tys, no_cons, more_cons, more_cons_of, no_datas, more_datas}

-- lists without an item
not_cons : (x : Found) (xs : List Found) → x ∷ xs ≡ [] → ⊥
not_cons x xs h = cc

pub nil_front : (xs ys : List Found) → xs ++ ys ≡ [] → xs ≡ []
nil_front [] ys h = refl
nil_front (x ∷ xs) ys h = absurd (not_cons x (xs ++ ys) h)

pub nil_back : (xs ys : List Found) → xs ++ ys ≡ [] → ys ≡ []
nil_back [] ys h = h
nil_back (x ∷ xs) ys h = absurd (not_cons x (xs ++ ys) h)

nil_both : (xs ys : List Found) → xs ≡ [] → ys ≡ [] → xs ++ ys ≡ []
nil_both xs ys h g = ap₂ (λ u v. u ++ v) h g

-- the form of a type
pub form-Var : (s : Span) (name : List ℕ) → form_of_ty (ty_at s (t.Var name)) ≡ TyForm-F.Var name
form-Var s name = ap (λ r. out-TyForm r.form) (out-roll-Ty (record { span = s; form = t.Var name })) ∙ (ap out-TyForm (sym (t.rolls-Var name)) ∙ out-roll-TyForm (TyForm-F.Var name))

pub form-Con : (s : Span) (name : List ℕ) (ts : List Ty) → form_of_ty (ty_at s (t.Con name ts)) ≡ TyForm-F.Con name ts
form-Con s name ts = ap (λ r. out-TyForm r.form) (out-roll-Ty (record { span = s; form = t.Con name ts })) ∙ (ap out-TyForm (sym (t.rolls-Con name ts)) ∙ out-roll-TyForm (TyForm-F.Con name ts))

pub form-Tuple : (s : Span) (ts : List Ty) → form_of_ty (ty_at s (t.Tuple ts)) ≡ TyForm-F.Tuple ts
form-Tuple s ts = ap (λ r. out-TyForm r.form) (out-roll-Ty (record { span = s; form = t.Tuple ts })) ∙ (ap out-TyForm (sym (t.rolls-Tuple ts)) ∙ out-roll-TyForm (TyForm-F.Tuple ts))

pub form-Arrow : (s : Span) (x y : Ty) → form_of_ty (ty_at s (t.Arrow x y)) ≡ TyForm-F.Arrow x y
form-Arrow s x y = ap (λ r. out-TyForm r.form) (out-roll-Ty (record { span = s; form = t.Arrow x y })) ∙ (ap out-TyForm (sym (t.rolls-Arrow x y)) ∙ out-roll-TyForm (TyForm-F.Arrow x y))

-- the lacks of a type of each form
in-Var : (n : ℕ) (own : Datatypes) (s : Span) (name : List ℕ) → nested_in_type (suc n) own (ty_at s (t.Var name)) ≡ []
in-Var n own s name = ap (nested_in_form own (nested_in_type n own) (out-Ty (ty_at s (t.Var name))).span.from) (form-Var s name)

in-Con : (n : ℕ) (own : Datatypes) (s : Span) (name : List ℕ) (ts : List Ty)
    → nested_in_type (suc n) own (ty_at s (t.Con name ts)) ≡ nested_here (out-Ty (ty_at s (t.Con name ts))).span.from ts (own_variables name own) ++ for_each (nested_in_type n own) ts
in-Con n own s name ts = ap (nested_in_form own (nested_in_type n own) (out-Ty (ty_at s (t.Con name ts))).span.from) (form-Con s name ts)

in-Tuple : (n : ℕ) (own : Datatypes) (s : Span) (ts : List Ty) → nested_in_type (suc n) own (ty_at s (t.Tuple ts)) ≡ for_each (nested_in_type n own) ts
in-Tuple n own s ts = ap (nested_in_form own (nested_in_type n own) (out-Ty (ty_at s (t.Tuple ts))).span.from) (form-Tuple s ts)

in-Arrow : (n : ℕ) (own : Datatypes) (s : Span) (x y : Ty) → nested_in_type (suc n) own (ty_at s (t.Arrow x y)) ≡ nested_in_type n own x ++ nested_in_type n own y
in-Arrow n own s x y = ap (nested_in_form own (nested_in_type n own) (out-Ty (ty_at s (t.Arrow x y))).span.from) (form-Arrow s x y)

-- no lack down to a depth is none at all
abbrev Deep : Datatypes → ℕ → Ty → Type 0
Deep own n x = nested_in_type n own x ≡ [] → (m : ℕ) → nested_in_type m own x ≡ []

abbrev DeepAll : Datatypes → ℕ → List Ty → Type 0
DeepAll own n xs = for_each (nested_in_type n own) xs ≡ [] → (m : ℕ) → for_each (nested_in_type m own) xs ≡ []

deep_none : (own : Datatypes) (n : ℕ) → DeepAll own n []
deep_none own n h m = refl

deep_more : (own : Datatypes) (n : ℕ) (x : Ty) (xs : List Ty) → Deep own n x → DeepAll own n xs → DeepAll own n (x ∷ xs)
deep_more own n x xs a b h m =
    nil_both (nested_in_type m own x) (for_each (nested_in_type m own) xs) (a (nil_front (nested_in_type n own x) (for_each (nested_in_type n own) xs) h) m) (b (nil_back (nested_in_type n own x) (for_each (nested_in_type n own) xs) h) m)

deep_only : (own : Datatypes) (n : ℕ) (x : Ty) → DeepAll own n (x ∷ []) → Deep own n x
deep_only own n x a h m = nil_front (nested_in_type m own x) [] (a (nil_both (nested_in_type n own x) [] h refl) m)

deep_var : (own : Datatypes) (n : ℕ) (s : Span) (name : List ℕ) → Deep own (suc n) (ty_at s (t.Var name))
deep_var own n s name h zero = refl
deep_var own n s name h (suc m) = in-Var m own s name

deep_con : (own : Datatypes) (n : ℕ) (s : Span) (name : List ℕ) (ts : List Ty) → DeepAll own n ts → Deep own (suc n) (ty_at s (t.Con name ts))
deep_con own n s name ts a h zero = refl
deep_con own n s name ts a h (suc m) =
    let p = nested_here (out-Ty (ty_at s (t.Con name ts))).span.from ts (own_variables name own) in
    let e = sym (in-Con n own s name ts) ∙ h in
    in-Con m own s name ts ∙ nil_both p (for_each (nested_in_type m own) ts) (nil_front p (for_each (nested_in_type n own) ts) e) (a (nil_back p (for_each (nested_in_type n own) ts) e) m)

deep_tuple : (own : Datatypes) (n : ℕ) (s : Span) (ts : List Ty) → DeepAll own n ts → Deep own (suc n) (ty_at s (t.Tuple ts))
deep_tuple own n s ts a h zero = refl
deep_tuple own n s ts a h (suc m) = in-Tuple m own s ts ∙ a (sym (in-Tuple n own s ts) ∙ h) m

deep_arrow : (own : Datatypes) (n : ℕ) (s : Span) (x y : Ty) → Deep own n x → Deep own n y → Deep own (suc n) (ty_at s (t.Arrow x y))
deep_arrow own n s x y a b h zero = refl
deep_arrow own n s x y a b h (suc m) =
    let e = sym (in-Arrow n own s x y) ∙ h in
    in-Arrow m own s x y ∙ nil_both (nested_in_type m own x) (nested_in_type m own y) (a (nil_front (nested_in_type n own x) (nested_in_type n own y) e) m) (b (nil_back (nested_in_type n own x) (nested_in_type n own y) e) m)

-- a number above another has a number before it
above : (P : ℕ → Type 0) (k n : ℕ) → suc k ≤ n → ((m : ℕ) → k ≤ m → P (suc m)) → P n
above P k zero h f = absurd (omega (arith, h))
above P k (suc n) h f = f n (omega (arith, h))

length_bin : (ts us : List Token) (w : Token) (n : ℕ) → length (ts ++ w ∷ us) ≤ n → suc (length ts + length us) ≤ n
length_bin ts us w n h = omega (arith, h, length-append ts (w ∷ us))

left_part : (a b m : ℕ) → a + b ≤ m → a ≤ m
left_part a b m h = omega (arith, h)

right_part : (a b m : ℕ) → a + b ≤ m → b ≤ m
right_part a b m h = omega (arith, h)

below : (a m : ℕ) → suc a ≤ m → a ≤ m
below a m h = omega (arith, h)

-- a depth of the number of its tokens is enough for a type
mutual
  deep_conty : (own : Datatypes) {v : Bool} {ts : List Token} {x : Ty} {ls : List Found} → Is (conty v) ts (ty_tree x) ls → (n : ℕ) → length ts ≤ n → Deep own n x
  deep_conty own (conty_name word name _) n h = above (λ k. Deep own k (ty_at word.span (t.Con name []))) 0 n h (λ m g. deep_con own m word.span name [] (deep_none own m))
  deep_conty own (conty_var word name _) n h = above (λ k. Deep own k (ty_at word.span (t.Var name))) 0 n h (λ m g. deep_var own m word.span name)
  deep_conty own (conty_paren {ts = ts} opening closing _ d _) n h = deep_ty own d n (left_part (length ts) 0 n (below (length ts + 0) n (length_bin ts [] closing n (below (length (ts ++ closing ∷ [])) n h))))
  deep_conty own (conty_one {ts = ts} {argument = argument} word name d _) n h =
      above (λ k. Deep own k (ty_at (extent (ts ++ word ∷ [])) (t.Con name (argument ∷ [])))) (length ts + 0) n (length_bin ts [] word n h)
      (λ m g. deep_con own m (extent (ts ++ word ∷ [])) name (argument ∷ []) (deep_more own m argument [] (deep_conty own d m (left_part (length ts) 0 m g)) (deep_none own m)))
  deep_conty own (conty_several {ts = ts} {first = first} {next = next} {more = more} opening closing word name _ d _ _) n h =
      above (λ k. Deep own k (ty_at (span_of opening.span.from word.span.to) (t.Con name (first ∷ next ∷ more)))) (length (ts ++ closing ∷ word ∷ [])) n h
      (λ m g. deep_con own m (span_of opening.span.from word.span.to) name (first ∷ next ∷ more) (deep_tys own d m (left_part (length ts) 1 m (below (length ts + 1) m (length_bin ts (word ∷ []) closing m g)))))

  deep_tys : (own : Datatypes) {v : Bool} {ts : List Token} {xs : List Ty} {ls : List Found} → Is (tys v) ts (tys_tree xs) ls → (n : ℕ) → length ts ≤ n → DeepAll own n xs
  deep_tys own (tys_one {one = one} d) n h = deep_more own n one [] (deep_ty own d n h) (deep_none own n)
  deep_tys own (tys_more {ts = ts} {us = us} {one = one} {more = more} comma d _ d1) n h =
      let g = below (length ts + length us) n (length_bin ts us comma n h) in
      deep_more own n one more (deep_ty own d n (left_part (length ts) (length us) n g)) (deep_tys own d1 n (right_part (length ts) (length us) n g))

  deep_stars : (own : Datatypes) {v : Bool} {ts : List Token} {xs : List Ty} {ls : List Found} → Is (stars v) ts (tys_tree xs) ls → (n : ℕ) → length ts ≤ n → DeepAll own n xs
  deep_stars own (stars_one {one = one} d) n h = deep_more own n one [] (deep_conty own d n h) (deep_none own n)
  deep_stars own (stars_more {ts = ts} {us = us} {one = one} {more = more} word d _ d1) n h =
      let g = below (length ts + length us) n (length_bin ts us word n h) in
      deep_more own n one more (deep_conty own d n (left_part (length ts) (length us) n g)) (deep_stars own d1 n (right_part (length ts) (length us) n g))

  deep_tupty : (own : Datatypes) {v : Bool} {ts : List Token} {x : Ty} {ls : List Found} → Is (tupty v) ts (ty_tree x) ls → (n : ℕ) → length ts ≤ n → Deep own n x
  deep_tupty own (tupty_one {one = one} d) n h = deep_only own n one (deep_stars own d n h)
  deep_tupty own (tupty_several (stars_more {ts = ts} {us = us} {one = one} {more = more} word d _ d1)) n h =
      above (λ k. Deep own k (ty_at (extent (ts ++ word ∷ us)) (t.Tuple (one ∷ more)))) (length ts + length us) n (length_bin ts us word n h)
      (λ m g. deep_tuple own m (extent (ts ++ word ∷ us)) (one ∷ more) (deep_more own m one more (deep_conty own d m (left_part (length ts) (length us) m g)) (deep_stars own d1 m (right_part (length ts) (length us) m g))))

  deep_ty : (own : Datatypes) {v : Bool} {ts : List Token} {x : Ty} {ls : List Found} → Is (ty v) ts (ty_tree x) ls → (n : ℕ) → length ts ≤ n → Deep own n x
  deep_ty own (ty_one d) n h = deep_tupty own d n h
  deep_ty own (ty_arrow {ts = ts} {us = us} {left = left} {right = right} word d _ d1) n h =
      above (λ k. Deep own k (ty_at (extent (ts ++ word ∷ us)) (t.Arrow left right))) (length ts + length us) n (length_bin ts us word n h)
      (λ m g. deep_arrow own m (extent (ts ++ word ∷ us)) left right (deep_tupty own d m (left_part (length ts) (length us) m g)) (deep_ty own d1 m (right_part (length ts) (length us) m g)))

-- and for a declaration
abbrev DeepCons : Datatypes → ℕ → List (List ℕ × Option Ty) → Type 0
DeepCons own n xs = nested_in_constructors n own xs ≡ [] → (m : ℕ) → nested_in_constructors m own xs ≡ []

deep_con_of : (own : Datatypes) (n : ℕ) (name : List ℕ) (x : Ty) (xs : List (List ℕ × Option Ty)) → Deep own n x → DeepCons own n xs → DeepCons own n ((name, Some x) ∷ xs)
deep_con_of own n name x xs a b h m =
    nil_both (nested_in_type m own x) (nested_in_constructors m own xs) (a (nil_front (nested_in_type n own x) (nested_in_constructors n own xs) h) m) (b (nil_back (nested_in_type n own x) (nested_in_constructors n own xs) h) m)

deep_cons : (own : Datatypes) {ts : List Token} {xs : List (List ℕ × Option Ty)} {ls : List Found} → Is cons ts (cons_tree xs) ls → (n : ℕ) → length ts ≤ n → DeepCons own n xs
deep_cons own (cons_one _ _ _) n h = λ g m. refl
deep_cons own (cons_of {ts = ts} {type_ = type_} _ _ name _ _ d) n h = deep_con_of own n name type_ [] (deep_ty own d n (below (length ts) n (below (suc (length ts)) n h))) (λ g m. refl)
deep_cons own (cons_more {us = us} _ _ _ _ _ d) n h = λ g m. deep_cons own d n (below (length us) n (below (suc (length us)) n h)) g m
deep_cons own (cons_of_more {ts = ts} {us = us} {type_ = type_} {more = more} _ _ bar name _ _ d _ d1) n h =
    let g = below (length ts + length us) n (length_bin ts us bar n (below (length (ts ++ bar ∷ us)) n (below (suc (length (ts ++ bar ∷ us))) n h))) in
    deep_con_of own n name type_ more (deep_ty own d n (left_part (length ts) (length us) n g)) (deep_cons own d1 n (right_part (length ts) (length us) n g))

abbrev DeepDatas : Datatypes → ℕ → Datatypes → Type 0
DeepDatas own n xs = nested_in_bindings n own xs ≡ [] → (m : ℕ) → nested_in_bindings m own xs ≡ []

deep_data : (own : Datatypes) (n : ℕ) (names : List (List ℕ)) (name : List ℕ) (all : List (List ℕ × Option Ty)) (xs : Datatypes) → DeepCons own n all → DeepDatas own n xs → DeepDatas own n ((names, name, all) ∷ xs)
deep_data own n names name all xs a b h m =
    nil_both (nested_in_constructors m own all) (nested_in_bindings m own xs) (a (nil_front (nested_in_constructors n own all) (nested_in_bindings n own xs) h) m) (b (nil_back (nested_in_constructors n own all) (nested_in_bindings n own xs) h) m)

pub deep_datas : (own : Datatypes) {ts : List Token} {xs : Datatypes} {ls : List Found} → Is datas ts (datas_tree xs) ls → (n : ℕ) → length ts ≤ n → DeepDatas own n xs
deep_datas own (datas_one {ts = ts} {us = us} {names = names} {all = all} word equals name _ _ _ d) n h =
    let g = below (length ts + suc (length us)) n (length_bin ts (equals ∷ us) word n h) in
    deep_data own n names name all [] (deep_cons own d n (below (length us) n (right_part (length ts) (suc (length us)) n g))) (λ g m. refl)
deep_datas own (datas_more {ts = ts} {us = us} {ws = ws} {names = names} {all = all} {more = more} word equals and_ name _ _ _ d _ d1) n h =
    let f = below (length (ts ++ word ∷ equals ∷ us) + length ws) n (length_bin (ts ++ word ∷ equals ∷ us) ws and_ n h) in
    let g = below (length ts + suc (length us)) n (length_bin ts (equals ∷ us) word n (left_part (length (ts ++ word ∷ equals ∷ us)) (length ws) n f)) in
    deep_data own n names name all more (deep_cons own d n (below (length us) n (right_part (length ts) (suc (length us)) n g))) (deep_datas own d1 n (right_part (length (ts ++ word ∷ equals ∷ us)) (length ws) n f))

-- variables of the same types are the same
own_same : {xs ys : Datatypes} → Same (datas_tree xs) (datas_tree ys) → (name : List ℕ) → own_variables name xs ≡ own_variables name ys
own_same no_datas name = refl
own_same (more_datas names n _ d) name = ap (λ o. cond (bytes_eq n name) (Some names) o) (own_same d name)

variable_same : {x y : Ty} → Same (ty_tree x) (ty_tree y) → (name : List ℕ) → is_variable name (form_of_ty x) ≡ is_variable name (form_of_ty y)
variable_same (same_var s r n) name = ap (is_variable name) (form-Var s n ∙ sym (form-Var r n))
variable_same (same_con s r n {a0 = a} {b0 = b} _) name = ap (is_variable name) (form-Con s n a) ∙ sym (ap (is_variable name) (form-Con r n b))
variable_same (same_ty_tuple s r {a0 = a} {b0 = b} _) name = ap (is_variable name) (form-Tuple s a) ∙ sym (ap (is_variable name) (form-Tuple r b))
variable_same (same_arrow s r {a0 = a} {b0 = b} {a1 = c} {b1 = d} _ _) name = ap (is_variable name) (form-Arrow s a c) ∙ sym (ap (is_variable name) (form-Arrow r b d))

variables_same : {xs ys : List Ty} → Same (tys_tree xs) (tys_tree ys) → (names : List (List ℕ)) → are_variables names xs ≡ are_variables names ys
variables_same no_tys [] = refl
variables_same no_tys (name ∷ names) = refl
variables_same (more_tys _ _) [] = refl
variables_same (more_tys d e) (name ∷ names) = ap₂ (λ u v. u && v) (variable_same d name) (variables_same e names)

here_same : (place other : ℕ) {xs ys : List Ty} → Same (tys_tree xs) (tys_tree ys) → (o : Option (List (List ℕ))) → nested_here place xs o ≡ [] → nested_here other ys o ≡ []
here_same place other e None h = refl
here_same place other {xs = xs} {ys = ys} e (Some names) h = go (are_variables names xs) (are_variables names ys) (variables_same e names) h
  where
    go : (a b : Bool) → a ≡ b → cond {A = List Found} a [] ((place, l.NestedType) ∷ []) ≡ [] → cond {A = List Found} b [] ((other, l.NestedType) ∷ []) ≡ []
    go a true e h = refl
    go false false e h = absurd (not_cons _ _ h)
    go true false e h = cc

-- types that are the same have the lack or they don't, at each depth
abbrev SameOwn : Datatypes → Datatypes → Type 0
SameOwn own other = (name : List ℕ) → own_variables name own ≡ own_variables name other

mutual
  same_type : (own other : Datatypes) → SameOwn own other → {x y : Ty} → Same (ty_tree x) (ty_tree y) → (m : ℕ) → nested_in_type m own x ≡ [] → nested_in_type m other y ≡ []
  same_type own other o d zero h = refl
  same_type own other o (same_var s r name) (suc m) h = in-Var m other r name
  same_type own other o (same_con s r name {a0 = a} {b0 = b} d) (suc m) h =
      let p = nested_here (out-Ty (ty_at s (t.Con name a))).span.from a (own_variables name own) in
      let q = nested_here (out-Ty (ty_at r (t.Con name b))).span.from b (own_variables name other) in
      let e = sym (in-Con m own s name a) ∙ h in
      in-Con m other r name b ∙ nil_both q (for_each (nested_in_type m other) b)
      (here_same (out-Ty (ty_at s (t.Con name a))).span.from (out-Ty (ty_at r (t.Con name b))).span.from d (own_variables name other) (subst (λ z. nested_here (out-Ty (ty_at s (t.Con name a))).span.from a z ≡ []) (o name) (nil_front p (for_each (nested_in_type m own) a) e)))
      (same_types own other o d m (nil_back p (for_each (nested_in_type m own) a) e))
  same_type own other o (same_ty_tuple s r {a0 = a} {b0 = b} d) (suc m) h = in-Tuple m other r b ∙ same_types own other o d m (sym (in-Tuple m own s a) ∙ h)
  same_type own other o (same_arrow s r {a0 = a} {b0 = b} {a1 = c} {b1 = g} d e) (suc m) h =
      let i = sym (in-Arrow m own s a c) ∙ h in
      in-Arrow m other r b g ∙ nil_both (nested_in_type m other b) (nested_in_type m other g) (same_type own other o d m (nil_front (nested_in_type m own a) (nested_in_type m own c) i)) (same_type own other o e m (nil_back (nested_in_type m own a) (nested_in_type m own c) i))

  same_types : (own other : Datatypes) → SameOwn own other → {xs ys : List Ty} → Same (tys_tree xs) (tys_tree ys) → (m : ℕ) → for_each (nested_in_type m own) xs ≡ [] → for_each (nested_in_type m other) ys ≡ []
  same_types own other o no_tys m h = refl
  same_types own other o (more_tys {x = x} {y = y} {xs = xs} {ys = ys} d e) m h =
      nil_both (nested_in_type m other y) (for_each (nested_in_type m other) ys) (same_type own other o d m (nil_front (nested_in_type m own x) (for_each (nested_in_type m own) xs) h)) (same_types own other o e m (nil_back (nested_in_type m own x) (for_each (nested_in_type m own) xs) h))

same_cons : (own other : Datatypes) → SameOwn own other → {xs ys : List (List ℕ × Option Ty)} → Same (cons_tree xs) (cons_tree ys) → (m : ℕ) → nested_in_constructors m own xs ≡ [] → nested_in_constructors m other ys ≡ []
same_cons own other o no_cons m h = refl
same_cons own other o (more_cons _ e) m h = same_cons own other o e m h
same_cons own other o (more_cons_of _ {t = x} {u = y} {xs = xs} {ys = ys} d e) m h =
    nil_both (nested_in_type m other y) (nested_in_constructors m other ys) (same_type own other o d m (nil_front (nested_in_type m own x) (nested_in_constructors m own xs) h)) (same_cons own other o e m (nil_back (nested_in_type m own x) (nested_in_constructors m own xs) h))

same_bindings : (own other : Datatypes) → SameOwn own other → {xs ys : Datatypes} → Same (datas_tree xs) (datas_tree ys) → (m : ℕ) → nested_in_bindings m own xs ≡ [] → nested_in_bindings m other ys ≡ []
same_bindings own other o no_datas m h = refl
same_bindings own other o (more_datas _ _ {cs = cs} {gs = gs} {xs = xs} {ys = ys} d e) m h =
    nil_both (nested_in_constructors m other gs) (nested_in_bindings m other ys) (same_cons own other o d m (nil_front (nested_in_constructors m own cs) (nested_in_bindings m own xs) h)) (same_bindings own other o e m (nil_back (nested_in_constructors m own cs) (nested_in_bindings m own xs) h))

pub same_datas : {xs ys : Datatypes} → Same (datas_tree xs) (datas_tree ys) → (m : ℕ) → nested_in_bindings m xs xs ≡ [] → nested_in_bindings m ys ys ≡ []
same_datas {xs = xs} {ys = ys} e m h = same_bindings xs ys (own_same e) e m h
