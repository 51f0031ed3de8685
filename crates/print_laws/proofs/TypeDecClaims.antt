-- What is printed of a declaration of types or of exceptions is one again.
use Rattle.std.proofs.Common.{◌≡◌, ℕ, List, [], ◌∷◌, ◌++◌, length, Option, Some, None, refl, ap, sym, subst}
use Rattle.std.specs.Prelude.{codes, Bool, true, false}
use Rattle.sml_syntax.specs.declared.token.Token.{Token}
use Rattle.sml_syntax.specs.declared.token.TokenForm.TheVariants as f
use Rattle.sml_syntax.specs.declared.tree.Span.{Span}
use Rattle.sml_syntax.specs.declared.tree.Ty.{Ty}
use Rattle.sml_syntax.specs.declared.tree.DecForm.TheVariants as d
use Rattle.grammar_rules.specs.InfixNames.{infix_level}
use Rattle.sml_syntax.specs.NestedTypes.{Datatypes, nested_in_bindings}
use Rattle.grammar_rules.specs.Programs.{Each}
use Rattle.grammar_rules.specs.Nodes.{dec_at, extent}
use Rattle.grammar_rules.specs.Grammar.{Is, IsMark, IsName, ty_tree, vars_tree, dec_tree, abbrevs_tree, cons_tree, datas_tree, ty, ty_vars, dec, abbrevs, datas, cons, exns, dec_type, dec_datatype, dec_exception, abbrevs_one, abbrevs_more, datas_one, datas_more, cons_one, cons_of, cons_more, cons_of_more, exns_one, exns_of, exns_more, exns_of_more}
use Rattle.print_laws.specs.SameTree.{same_abbrev, same_data, same_exn, no_abbrevs, more_abbrevs, no_cons, more_cons, more_cons_of, no_datas, more_datas}
use Rattle.print_laws.specs.Printing.{Forms, parted, ty_forms, vars_forms, abbrev_forms, argument_forms, con_def_forms, data_forms}
use Rattle.print_laws.proofs.Bearing.{At, one, word, bin_two}
use Rattle.print_laws.proofs.Made.{dec-Abbrev, dec-DataDef, dec-ExnDef}
use Rattle.print_laws.proofs.Claims.{Of, Many, Some_of, TyClaim, mark, parted_at, each_map}
use Rattle.print_laws.proofs.TypeClaims.{whole_ty_at, vars_at}
use Rattle.print_laws.proofs.DecClaims.{DecClaim}
use Rattle.print_laws.proofs.Nested.{same_datas}

-- variables, a name that isn't infix, `=`, and what stands behind it
pub record Bound (names : List (List ℕ)) (name : List ℕ) (R : List Token → Type 0) (zs : List Token) : Type 0 where
  pub front : List Token
  pub word : Token
  pub equals : Token
  pub back : List Token
  pub is : zs ≡ front ++ word ∷ equals ∷ back
  pub vars : Is ty_vars front (vars_tree names) []
  pub named : IsName name word
  pub marked : IsMark (codes "=") equals
  pub rest : R back

bound_at : (names : List (List ℕ)) (name : List ℕ) (R : List Token → Type 0) (q : Forms) → infix_level name ≡ None → At R q → At (Bound names name R) (vars_forms names ++ f.Name name ∷ f.Mark (codes "=") ∷ q)
bound_at names name R q h a = bin_two (λ ts. Is ty_vars ts (vars_tree names) []) R (Bound names name R) (vars_forms names) (f.Name name) (f.Mark (codes "=")) q
    (λ ts v w us k l x y. record { front = ts; word = v; equals = w; back = us; is = refl; vars = x; named = record { is = k; plain = h }; marked = mark l; rest = y })
    (vars_at names) a

-- abbreviations
abbrev pub AbbrevClaim : List (List ℕ) × List ℕ × Ty → Type 0
AbbrevClaim a = (infix_level a.1 ≡ None) × TyClaim true a.2

abbrev AbbrevOf : List (List ℕ) × List ℕ × Ty → List Token → Type 0
AbbrevOf a = Bound a.0 a.1 (Of ty_tree (ty true) a.2)

abbrevs_at : (x : List (List ℕ) × List ℕ × Ty) (xs : List (List (List ℕ) × List ℕ × Ty)) → Each AbbrevClaim (x ∷ xs) → At (Many abbrevs_tree abbrevs (x ∷ xs)) (parted (codes "and") abbrev_forms (x ∷ xs))
abbrevs_at x xs h = parted_at abbrev_forms (codes "and") AbbrevOf (Many abbrevs_tree abbrevs)
    (λ y ts q. subst (Many abbrevs_tree abbrevs (y ∷ [])) (sym q.is) ((y.0, y.1, q.rest.0), [], abbrevs_one q.word q.equals y.1 q.vars q.named q.marked q.rest.1, more_abbrevs y.0 y.1 q.rest.2 no_abbrevs))
    (λ y z zs ts w us k q r. subst (λ n. Many abbrevs_tree abbrevs (y ∷ z ∷ zs) (n ++ w ∷ us)) (sym q.is) ((y.0, y.1, q.rest.0), r.0 ∷ r.1, abbrevs_more q.word q.equals w y.1 q.vars q.named q.marked q.rest.1 (mark k) r.2, more_abbrevs y.0 y.1 q.rest.2 r.3))
    x xs (each_map AbbrevClaim (λ a. At (AbbrevOf a) (abbrev_forms a)) (λ a c. bound_at a.0 a.1 (Of ty_tree (ty true) a.2) (ty_forms a.2) c.0 (whole_ty_at true a.2 c.1)) (x ∷ xs) h)

pub abbrev_claim : (s : Span) (x : List (List ℕ) × List ℕ × Ty) (xs : List (List (List ℕ) × List ℕ × Ty)) → Each AbbrevClaim (x ∷ xs) → DecClaim false (dec_at s (d.Abbrev (x ∷ xs)))
abbrev_claim s x xs h = subst (At S) (sym (dec-Abbrev s (x ∷ xs)))
    (word (Many abbrevs_tree abbrevs (x ∷ xs)) S (f.Mark (codes "type")) (parted (codes "and") abbrev_forms (x ∷ xs))
    (λ w ts k q. (dec_at (extent (w ∷ ts)) (d.Abbrev (q.0 ∷ q.1)), dec_type w (mark k) q.2, same_abbrev s (extent (w ∷ ts)) q.3))
    (abbrevs_at x xs h))
  where
    S : List Token → Type 0
    S = Of dec_tree (dec false) (dec_at s (d.Abbrev (x ∷ xs)))

-- constructors
abbrev pub ArgumentClaim : Bool → Option Ty → Type 0
ArgumentClaim v None = Unit {0}
ArgumentClaim v (Some t) = TyClaim v t

abbrev pub ConClaim : Bool → List ℕ × Option Ty → Type 0
ConClaim v c = (infix_level c.0 ≡ None) × ArgumentClaim v c.1

abbrev ConOf : Bool → List ℕ → Option Ty → List Token → Type 0
ConOf v name None zs = (w : Token) × (zs ≡ w ∷ []) × IsName name w
ConOf v name (Some t) zs = (w o : Token) × (us : List Token) × (zs ≡ w ∷ o ∷ us) × IsName name w × IsMark (codes "of") o × Of ty_tree (ty v) t us

con_at : (v : Bool) (name : List ℕ) (a : Option Ty) → infix_level name ≡ None → ArgumentClaim v a → At (ConOf v name a) (f.Name name ∷ argument_forms a)
con_at v name None h c = one (ConOf v name None) (f.Name name) (λ w k. (w, refl, record { is = k; plain = h }))
con_at v name (Some t) h c = word Q (ConOf v name (Some t)) (f.Name name) (f.Mark (codes "of") ∷ ty_forms t)
    (λ w ts k q. (w, q.0, q.1, ap (λ z. w ∷ z) q.2, record { is = k; plain = h }, q.3, q.4))
    (word (Of ty_tree (ty v) t) Q (f.Mark (codes "of")) (ty_forms t) (λ o us k q. (o, us, refl, mark k, q)) (whole_ty_at v t c))
  where
    Q : List Token → Type 0
    Q ts = (o : Token) × (us : List Token) × (ts ≡ o ∷ us) × IsMark (codes "of") o × Of ty_tree (ty v) t us

each_con : (v : Bool) (cs : List (List ℕ × Option Ty)) → Each (ConClaim v) cs → Each (λ c. At (ConOf v c.0 c.1) (con_def_forms c)) cs
each_con v cs h = each_map (ConClaim v) (λ c. At (ConOf v c.0 c.1) (con_def_forms c)) (λ c k. con_at v c.0 c.1 k.0 k.1) cs h

abbrev Cons : List (List ℕ × Option Ty) → List Token → Type 0
Cons = Many cons_tree cons

con_last : (name : List ℕ) (a : Option Ty) (ts : List Token) → ConOf true name a ts → Cons ((name, a) ∷ []) ts
con_last name None ts q = subst (Cons ((name, None) ∷ [])) (sym q.1) ((name, None), [], cons_one q.0 name q.2, more_cons name no_cons)
con_last name (Some t) ts q = subst (Cons ((name, Some t) ∷ [])) (sym q.3) ((name, Some q.6.0), [], cons_of q.0 q.1 name q.4 q.5 q.6.1, more_cons_of name q.6.2 no_cons)

con_next : (name : List ℕ) (a : Option Ty) (y : List ℕ × Option Ty) (ys : List (List ℕ × Option Ty)) (ts : List Token) (w : Token) (us : List Token) → w.form ≡ f.Mark (codes "|") → ConOf true name a ts → Cons (y ∷ ys) us → Cons ((name, a) ∷ y ∷ ys) (ts ++ w ∷ us)
con_next name None y ys ts w us k q r = subst (λ n. Cons ((name, None) ∷ y ∷ ys) (n ++ w ∷ us)) (sym q.1) ((name, None), r.0 ∷ r.1, cons_more q.0 w name q.2 (mark k) r.2, more_cons name r.3)
con_next name (Some t) y ys ts w us k q r = subst (λ n. Cons ((name, Some t) ∷ y ∷ ys) (n ++ w ∷ us)) (sym q.3) ((name, Some q.6.0), r.0 ∷ r.1, cons_of_more q.0 q.1 w name q.4 q.5 q.6.1 (mark k) r.2, more_cons_of name q.6.2 r.3)

cons_at : (cs : List (List ℕ × Option Ty)) → Some_of (ConClaim true) cs → At (Cons cs) (parted (codes "|") con_def_forms cs)
cons_at [] h = absurd h
cons_at (c ∷ cs) h = parted_at con_def_forms (codes "|") (λ c. ConOf true c.0 c.1) Cons (λ x ts q. con_last x.0 x.1 ts q) (λ x y ys ts w us k q r. con_next x.0 x.1 y ys ts w us k q r) c cs (each_con true (c ∷ cs) h)

-- datatypes
abbrev pub DataClaim : List (List ℕ) × List ℕ × List (List ℕ × Option Ty) → Type 0
DataClaim x = (infix_level x.1 ≡ None) × Some_of (ConClaim true) x.2

abbrev DataOf : List (List ℕ) × List ℕ × List (List ℕ × Option Ty) → List Token → Type 0
DataOf x = Bound x.0 x.1 (Cons x.2)

datas_at : (x : List (List ℕ) × List ℕ × List (List ℕ × Option Ty)) (xs : Datatypes) → Each DataClaim (x ∷ xs) → At (Many datas_tree datas (x ∷ xs)) (parted (codes "and") data_forms (x ∷ xs))
datas_at x xs h = parted_at data_forms (codes "and") DataOf (Many datas_tree datas)
    (λ y ts q. subst (Many datas_tree datas (y ∷ [])) (sym q.is) ((y.0, y.1, q.rest.0 ∷ q.rest.1), [], datas_one q.word q.equals y.1 q.vars q.named q.marked q.rest.2, more_datas y.0 y.1 q.rest.3 no_datas))
    (λ y z zs ts w us k q r. subst (λ n. Many datas_tree datas (y ∷ z ∷ zs) (n ++ w ∷ us)) (sym q.is) ((y.0, y.1, q.rest.0 ∷ q.rest.1), r.0 ∷ r.1, datas_more q.word q.equals w y.1 q.vars q.named q.marked q.rest.2 (mark k) r.2, more_datas y.0 y.1 q.rest.3 r.3))
    x xs (each_map DataClaim (λ x. At (DataOf x) (data_forms x)) (λ x c. bound_at x.0 x.1 (Cons x.2) (parted (codes "|") con_def_forms x.2) c.0 (cons_at x.2 c.1)) (x ∷ xs) h)

pub data_claim : (s : Span) (x : List (List ℕ) × List ℕ × List (List ℕ × Option Ty)) (xs : Datatypes) → ((m : ℕ) → nested_in_bindings m (x ∷ xs) (x ∷ xs) ≡ []) → Each DataClaim (x ∷ xs) → DecClaim false (dec_at s (d.DataDef (x ∷ xs)))
data_claim s x xs g h = subst (At S) (sym (dec-DataDef s (x ∷ xs)))
    (word (Many datas_tree datas (x ∷ xs)) S (f.Mark (codes "datatype")) (parted (codes "and") data_forms (x ∷ xs))
    (λ w ts k q. (dec_at (extent (w ∷ ts)) (d.DataDef (q.0 ∷ q.1)), subst (Is (dec false) (w ∷ ts) (dec_tree (dec_at (extent (w ∷ ts)) (d.DataDef (q.0 ∷ q.1))))) (same_datas q.3 (length ts) (g (length ts))) (dec_datatype w (mark k) q.2), same_data s (extent (w ∷ ts)) q.3))
    (datas_at x xs h))
  where
    S : List Token → Type 0
    S = Of dec_tree (dec false) (dec_at s (d.DataDef (x ∷ xs)))

-- exceptions
abbrev Exns : List (List ℕ × Option Ty) → List Token → Type 0
Exns = Many cons_tree exns

exn_last : (name : List ℕ) (a : Option Ty) (ts : List Token) → ConOf false name a ts → Exns ((name, a) ∷ []) ts
exn_last name None ts q = subst (Exns ((name, None) ∷ [])) (sym q.1) ((name, None), [], exns_one q.0 name q.2, more_cons name no_cons)
exn_last name (Some t) ts q = subst (Exns ((name, Some t) ∷ [])) (sym q.3) ((name, Some q.6.0), [], exns_of q.0 q.1 name q.4 q.5 q.6.1, more_cons_of name q.6.2 no_cons)

exn_next : (name : List ℕ) (a : Option Ty) (y : List ℕ × Option Ty) (ys : List (List ℕ × Option Ty)) (ts : List Token) (w : Token) (us : List Token) → w.form ≡ f.Mark (codes "and") → ConOf false name a ts → Exns (y ∷ ys) us → Exns ((name, a) ∷ y ∷ ys) (ts ++ w ∷ us)
exn_next name None y ys ts w us k q r = subst (λ n. Exns ((name, None) ∷ y ∷ ys) (n ++ w ∷ us)) (sym q.1) ((name, None), r.0 ∷ r.1, exns_more q.0 w name q.2 (mark k) r.2, more_cons name r.3)
exn_next name (Some t) y ys ts w us k q r = subst (λ n. Exns ((name, Some t) ∷ y ∷ ys) (n ++ w ∷ us)) (sym q.3) ((name, Some q.6.0), r.0 ∷ r.1, exns_of_more q.0 q.1 w name q.4 q.5 q.6.1 (mark k) r.2, more_cons_of name q.6.2 r.3)

pub exn_claim : (s : Span) (x : List ℕ × Option Ty) (xs : List (List ℕ × Option Ty)) → Each (ConClaim false) (x ∷ xs) → DecClaim false (dec_at s (d.ExnDef (x ∷ xs)))
exn_claim s x xs h = subst (At S) (sym (dec-ExnDef s (x ∷ xs)))
    (word (Exns (x ∷ xs)) S (f.Mark (codes "exception")) (parted (codes "and") con_def_forms (x ∷ xs))
    (λ w ts k q. (dec_at (extent (w ∷ ts)) (d.ExnDef (q.0 ∷ q.1)), dec_exception w (mark k) q.2, same_exn s (extent (w ∷ ts)) q.3))
    (parted_at con_def_forms (codes "and") (λ c. ConOf false c.0 c.1) Exns (λ x ts q. exn_last x.0 x.1 ts q) (λ x y ys ts w us k q r. exn_next x.0 x.1 y ys ts w us k q r) x xs (each_con false (x ∷ xs) h)))
  where
    S : List Token → Type 0
    S = Of dec_tree (dec false) (dec_at s (d.ExnDef (x ∷ xs)))
