-- What a pattern binds and what a declaration adds are determined; lists of them.
use Rattle.std.proofs.Common.{◌⊎◌, inl, inr, ℤ, not, ◌+◌, ◌<◌, take, length, get_or, ◌≡◌, refl, sym, ◌∙◌, ap, subst, ℕ, Bool, true, false, List, [], ◌∷◌, ◌++◌, Option, Some, None}
use Rattle.std.proofs.lemmas.List.{append-nil, append_assoc, take_more}
use Rattle.std.specs.Option.{option_eq}
use mathlib.Core.Bool.{beq}
use Rattle.sml_syntax.specs.declared.tree.PatForm.{PatForm, out-PatForm, out-roll-PatForm}
use Rattle.sml_syntax.specs.declared.tree.PatForm.TheVariants as w
use Rattle.sml_syntax.specs.declared.tree.PatForm.TheOpen.{PatForm-F}
use Rattle.sml_syntax.specs.declared.tree.Pat.{Pat}
use Rattle.sml_syntax.specs.declared.tree.Dec.{Dec}
use Rattle.sml_syntax.specs.declared.tree.DecForm.TheOpen.{DecForm-F}
use Rattle.sml_syntax.specs.Layers.{DecLayer, form_of_pat, form_of_dec}
use Rattle.typing_rules.specs.Scope.{Names, Binds, BindsAll, binds_name, binds_none, binds_parts, binds_end, binds_more, Adds, AddsAll, adds_val, adds_rec, adds_abbrev, adds_data, adds_exn, adds_local, adds_nothing, adds_more, inside, variables_only, as_constructors, is_constructor, status, pat_name, pat_parts, first_parts, type_names, datatype_names, constructor_names}
use Rattle.hm_scope.proofs.Forms.{pat-tuple, pat-list}

-- the names of a pattern that is a name
abbrev pub kept : Bool → List ℕ → List (List ℕ)
kept true name = []
kept false name = name ∷ []

-- the cases of what is bound, by the name that the pattern is
abbrev pub BindsAs : Names → Option (List ℕ) → List Pat → List (List ℕ) → Type 0
BindsAs n None ps names = BindsAll n ps names
BindsAs n (Some name) ps names = names ≡ kept (is_constructor n name) name

pub binds-cases : {n : Names} {p : Pat} {names : List (List ℕ)} → Binds n p names → BindsAs n (pat_name (form_of_pat p)) (pat_parts (form_of_pat p)) names
binds-cases {n} (binds_name {p} {name} e c) = subst (λ o. BindsAs n o (pat_parts (form_of_pat p)) (name ∷ [])) (sym e) (sym (ap (λ b. kept b name) c))
binds-cases {n} (binds_none {p} {name} e c) = subst (λ o. BindsAs n o (pat_parts (form_of_pat p)) []) (sym e) (sym (ap (λ b. kept b name) c))
binds-cases {n} (binds_parts {p} {names} e all) = subst (λ o. BindsAs n o (pat_parts (form_of_pat p)) names) (sym e) all

abbrev pub BindsAllAs : Names → List Pat → List (List ℕ) → Type 0
BindsAllAs n [] names = names ≡ []
BindsAllAs n (p ∷ ps) names = (first : List (List ℕ)) × (more : List (List ℕ)) × Binds n p first × BindsAll n ps more × (names ≡ first ++ more)

pub binds-all-cases : {n : Names} {ps : List Pat} {names : List (List ℕ)} → BindsAll n ps names → BindsAllAs n ps names
binds-all-cases binds_end = refl
binds-all-cases (binds_more {p} {ps} {names} {more} b bs) = (names, more, b, bs, refl)

mutual
  pub binds-same : {n : Names} {p : Pat} {a : List (List ℕ)} → Binds n p a → (b : List (List ℕ)) → Binds n p b → a ≡ b
  binds-same {n} (binds_name {p} {name} e c) b y =
      let z = subst (λ o. BindsAs n o (pat_parts (form_of_pat p)) b) e (binds-cases y) in sym (z ∙ ap (λ k. kept k name) c)
  binds-same {n} (binds_none {p} {name} e c) b y =
      let z = subst (λ o. BindsAs n o (pat_parts (form_of_pat p)) b) e (binds-cases y) in sym (z ∙ ap (λ k. kept k name) c)
  binds-same {n} (binds_parts {p} {names} e all) b y = binds-all-same all b (subst (λ o. BindsAs n o (pat_parts (form_of_pat p)) b) e (binds-cases y))

  pub binds-all-same : {n : Names} {ps : List Pat} {a : List (List ℕ)} → BindsAll n ps a → (b : List (List ℕ)) → BindsAll n ps b → a ≡ b
  binds-all-same binds_end b y = sym (binds-all-cases y)
  binds-all-same (binds_more {p} {ps} {names} {more} x xs) b y =
      let z = binds-all-cases y in ap (λ l. l ++ more) (binds-same x z.0 z.2) ∙ ap (λ l. z.0 ++ l) (binds-all-same xs z.1 z.3) ∙ sym z.4

pub binds-all-end : {n : Names} {ps : List Pat} {names : List (List ℕ)} → BindsAll n ps names → (p : Pat) (more : List (List ℕ)) → Binds n p more → BindsAll n (ps ++ p ∷ []) (names ++ more)
binds-all-end {n} binds_end p more b = subst (BindsAll n (p ∷ [])) (append-nil more) (binds_more b binds_end)
binds-all-end {n} (binds_more {p = q} {ps} {names} {more = others} x xs) p more b =
    subst (BindsAll n (q ∷ (ps ++ p ∷ []))) (sym (append_assoc names others more)) (binds_more x (binds-all-end xs p more b))

-- nothing more
abbrev pub no_names : Names
no_names = record { values = []; types = [] }

pub inside-nothing : (n : Names) → inside n no_names ≡ n
inside-nothing n = ap (λ vs. record { values = vs; types = n.types ++ [] }) (append-nil n.values) ∙ ap (λ ts. record { values = n.values; types = ts }) (append-nil n.types)

pub inside-inside : (a b c : Names) → inside (inside a b) c ≡ inside a (inside b c)
inside-inside a b c = ap (λ vs. record { values = vs; types = (a.types ++ b.types) ++ c.types }) (append_assoc a.values b.values c.values)
    ∙ ap (λ ts. record { values = a.values ++ (b.values ++ c.values); types = ts }) (append_assoc a.types b.types c.types)

-- what a declaration adds, by its form
abbrev pub AddsAs : Names → DecLayer → Names → Type 0
AddsAs n (DecForm-F.Val binds) more = (names : List (List ℕ)) × BindsAll n (first_parts binds) names × (more ≡ variables_only names)
AddsAs n (DecForm-F.ValRec binds) more = more ≡ variables_only (first_parts binds)
AddsAs n (DecForm-F.Abbrev binds) more = more ≡ record { values = []; types = type_names binds }
AddsAs n (DecForm-F.DataDef binds) more = more ≡ record { values = as_constructors (constructor_names binds); types = datatype_names binds }
AddsAs n (DecForm-F.ExnDef binds) more = more ≡ record { values = as_constructors (first_parts binds); types = [] }
AddsAs n (DecForm-F.Local hidden shown) more = (first : Names) × AddsAll n hidden first × AddsAll (inside first n) shown more

pub adds-cases : {n : Names} {d : Dec} {more : Names} → Adds n d more → AddsAs n (form_of_dec d) more
adds-cases (adds_val {scope = n} {d} {binds} {names} e all) = subst (λ f. AddsAs n f (variables_only names)) (sym e) (names, all, refl)
adds-cases (adds_rec {scope = n} {d} {binds} e) = subst (λ f. AddsAs n f (variables_only (first_parts binds))) (sym e) refl
adds-cases (adds_abbrev {scope = n} {d} {binds} e) = subst (λ f. AddsAs n f (record { values = []; types = type_names binds })) (sym e) refl
adds-cases (adds_data {scope = n} {d} {binds} e) = subst (λ f. AddsAs n f (record { values = as_constructors (constructor_names binds); types = datatype_names binds })) (sym e) refl
adds-cases (adds_exn {scope = n} {d} {binds} e) = subst (λ f. AddsAs n f (record { values = as_constructors (first_parts binds); types = [] })) (sym e) refl
adds-cases (adds_local {scope = n} {d} {hidden} {shown} {first} {second} e x y) = subst (λ f. AddsAs n f second) (sym e) (first, x, y)

abbrev pub AddsAllAs : Names → List Dec → Names → Type 0
AddsAllAs n [] more = more ≡ no_names
AddsAllAs n (d ∷ ds) more = (first : Names) × (rest : Names) × Adds n d first × AddsAll (inside first n) ds rest × (more ≡ inside rest first)

pub adds-all-cases : {n : Names} {ds : List Dec} {more : Names} → AddsAll n ds more → AddsAllAs n ds more
adds-all-cases adds_nothing = refl
adds-all-cases (adds_more {scope = n} {d} {ds} {first} {rest} x xs) = (first, rest, x, xs, refl)

mutual
  pub adds-same : {n : Names} {d : Dec} {a : Names} → Adds n d a → (b : Names) → Adds n d b → a ≡ b
  adds-same (adds_val {scope = n} {d} {binds} {names} e all) b y = let z = subst (λ f. AddsAs n f b) e (adds-cases y) in ap variables_only (binds-all-same all z.0 z.1) ∙ sym z.2
  adds-same (adds_rec {scope = n} {d} {binds} e) b y = sym (subst (λ f. AddsAs n f b) e (adds-cases y))
  adds-same (adds_abbrev {scope = n} {d} {binds} e) b y = sym (subst (λ f. AddsAs n f b) e (adds-cases y))
  adds-same (adds_data {scope = n} {d} {binds} e) b y = sym (subst (λ f. AddsAs n f b) e (adds-cases y))
  adds-same (adds_exn {scope = n} {d} {binds} e) b y = sym (subst (λ f. AddsAs n f b) e (adds-cases y))
  adds-same (adds_local {scope = n} {d} {hidden} {shown} {first} {second} e x xs) b y =
      let z = subst (λ f. AddsAs n f b) e (adds-cases y) in
      adds-all-same xs b (subst (λ m. AddsAll (inside m n) shown b) (sym (adds-all-same x z.0 z.1)) z.2)

  pub adds-all-same : {n : Names} {ds : List Dec} {a : Names} → AddsAll n ds a → (b : Names) → AddsAll n ds b → a ≡ b
  adds-all-same adds_nothing b y = sym (adds-all-cases y)
  adds-all-same (adds_more {scope = n} {d} {ds} {first} {rest} x xs) b y =
      let z = adds-all-cases y in
      let same = adds-same x z.0 z.2 in
      ap (λ m. inside rest m) same ∙ ap (λ m. inside m z.0) (adds-all-same xs z.1 (subst (λ m. AddsAll (inside m n) ds z.1) (sym same) z.3)) ∙ sym z.4

pub adds-all-end : {n : Names} {ds : List Dec} {m : Names} → AddsAll n ds m → (d : Dec) (k : Names) → Adds (inside m n) d k → AddsAll n (ds ++ d ∷ []) (inside k m)
adds-all-end (adds_nothing {scope = n}) d k x = subst (AddsAll n (d ∷ [])) (sym (inside-nothing k)) (adds_more x adds_nothing)
adds-all-end (adds_more {scope = n} {d = e} {ds} {first} {rest} y ys) d k x =
    subst (AddsAll n (e ∷ (ds ++ d ∷ []))) (inside-inside k rest first) (adds_more y (adds-all-end ys d k (subst (λ z. Adds z d k) (inside-inside rest first n) x)))

-- lists of names that grow by what a pattern binds
abbrev pub Grows : Names → Pat → List (List ℕ) → List (List ℕ) → Type 0
Grows n p old new = (more : List (List ℕ)) × Binds n p more × (new ≡ old ++ more)

abbrev pub GrowsAll : Names → List Pat → List (List ℕ) → List (List ℕ) → Type 0
GrowsAll n ps old new = (more : List (List ℕ)) × BindsAll n ps more × (new ≡ old ++ more)

pub grows-parts : (n : Names) (p : Pat) (ps : List Pat) (old new : List (List ℕ)) → pat_name (form_of_pat p) ≡ None → pat_parts (form_of_pat p) ≡ ps → GrowsAll n ps old new → Grows n p old new
grows-parts n p ps old new e k g = (g.0, binds_parts e (subst (λ qs. BindsAll n qs g.0) (sym k) g.1), g.2)

pub grows-nothing : (n : Names) (old : List (List ℕ)) → GrowsAll n [] old old
grows-nothing n old = ([], binds_end, sym (append-nil old))

pub grows-leaf : (n : Names) (p : Pat) (old : List (List ℕ)) → pat_name (form_of_pat p) ≡ None → pat_parts (form_of_pat p) ≡ [] → Grows n p old old
grows-leaf n p old e k = grows-parts n p [] old old e k (grows-nothing n old)

pub grows-part : (n : Names) (p q : Pat) (old new : List (List ℕ)) → pat_name (form_of_pat p) ≡ None → pat_parts (form_of_pat p) ≡ q ∷ [] → Grows n q old new → Grows n p old new
grows-part n p q old new e k g = grows-parts n p (q ∷ []) old new e k (g.0, subst (BindsAll n (q ∷ [])) (append-nil g.0) (binds_more g.1 binds_end), g.2)

pub grows-end : (n : Names) (ps : List Pat) (p : Pat) (old mid new : List (List ℕ)) → GrowsAll n ps old mid → Grows n p mid new → GrowsAll n (ps ++ p ∷ []) old new
grows-end n ps p old mid new g h = (g.0 ++ h.0, binds-all-end g.1 p h.0 h.1, h.2 ∙ ap (λ l. l ++ h.0) g.2 ∙ append_assoc old g.0 h.0)

pub grows-next : (n : Names) (ps : List Pat) (i : ℕ) (d p : Pat) (old mid new : List (List ℕ)) → p ≡ get_or ps i d → i < length ps → GrowsAll n (take i ps) old mid → Grows n p mid new → GrowsAll n (take (i + 1) ps) old new
grows-next n ps i d p old mid new e h g k = subst (λ l. GrowsAll n l old new) (ap (λ y. take i ps ++ y ∷ []) e ∙ sym (take_more ps i d h)) (grows-end n (take i ps) p old mid new g k)

-- a name, by its status
pub is-variable : (o : Option Bool) (n : Names) (name : List ℕ) → status name n.values ≡ o → (o ≡ Some true → ⊥) → is_constructor n name ≡ false
is-variable None n name e k = ap if_known e
  where
    if_known : Option Bool → Bool
    if_known None = false
    if_known (Some b) = b
is-variable (Some true) n name e k = absurd (k refl)
is-variable (Some false) n name e k = ap if_known e
  where
    if_known : Option Bool → Bool
    if_known None = false
    if_known (Some b) = b

pub grows-name : (n : Names) (p : Pat) (name : List ℕ) (old : List (List ℕ)) → pat_name (form_of_pat p) ≡ Some name → is_constructor n name ≡ false → Grows n p old (old ++ name ∷ [])
grows-name n p name old e c = (name ∷ [], binds_name e c, refl)

pub grows-constructor : (n : Names) (p : Pat) (name : List ℕ) (old : List (List ℕ)) → pat_name (form_of_pat p) ≡ Some name → is_constructor n name ≡ true → Grows n p old old
grows-constructor n p name old e c = ([], binds_none e c, sym (append-nil old))

-- the forms that bind nothing
pub leaf : (f : PatForm) → (f ≡ w.Any) ⊎ ((x : ℤ) × f ≡ w.Int x) ⊎ ((x : ℕ) × f ≡ w.Char x) ⊎ ((x : List ℕ) × f ≡ w.Str x) ⊎ (f ≡ w.Unit) → (pat_name (out-PatForm f) ≡ None) × (pat_parts (out-PatForm f) ≡ [])
leaf f (inl e) = made (ap out-PatForm (e ∙ sym w.rolls-Any) ∙ out-roll-PatForm PatForm-F.Any)
  where
    made : out-PatForm f ≡ PatForm-F.Any → (pat_name (out-PatForm f) ≡ None) × (pat_parts (out-PatForm f) ≡ [])
    made k = (ap pat_name k, ap pat_parts k)
leaf f (inr (inl (x, e))) = made (ap out-PatForm (e ∙ sym (w.rolls-Int x)) ∙ out-roll-PatForm (PatForm-F.Int x))
  where
    made : out-PatForm f ≡ PatForm-F.Int x → (pat_name (out-PatForm f) ≡ None) × (pat_parts (out-PatForm f) ≡ [])
    made k = (ap pat_name k, ap pat_parts k)
leaf f (inr (inr (inl (x, e)))) = made (ap out-PatForm (e ∙ sym (w.rolls-Char x)) ∙ out-roll-PatForm (PatForm-F.Char x))
  where
    made : out-PatForm f ≡ PatForm-F.Char x → (pat_name (out-PatForm f) ≡ None) × (pat_parts (out-PatForm f) ≡ [])
    made k = (ap pat_name k, ap pat_parts k)
leaf f (inr (inr (inr (inl (x, e))))) = made (ap out-PatForm (e ∙ sym (w.rolls-Str x)) ∙ out-roll-PatForm (PatForm-F.Str x))
  where
    made : out-PatForm f ≡ PatForm-F.Str x → (pat_name (out-PatForm f) ≡ None) × (pat_parts (out-PatForm f) ≡ [])
    made k = (ap pat_name k, ap pat_parts k)
leaf f (inr (inr (inr (inr e)))) = made (ap out-PatForm (e ∙ sym w.rolls-Unit) ∙ out-roll-PatForm PatForm-F.Unit)
  where
    made : out-PatForm f ≡ PatForm-F.Unit → (pat_name (out-PatForm f) ≡ None) × (pat_parts (out-PatForm f) ≡ [])
    made k = (ap pat_name k, ap pat_parts k)

-- the forms of several patterns
pub listed : (f : PatForm) (ps : List Pat) → (f ≡ w.Tuple ps) ⊎ (f ≡ w.List ps) → (pat_name (out-PatForm f) ≡ None) × (pat_parts (out-PatForm f) ≡ ps)
listed f ps (inl e) = (ap pat_name (pat-tuple ps e), ap pat_parts (pat-tuple ps e))
listed f ps (inr e) = (ap pat_name (pat-list ps e), ap pat_parts (pat-list ps e))

-- the status that is asked for
pub not-constructor : (o : Option Bool) → not (option_eq beq o (Some true)) ≡ true → o ≡ Some true → ⊥
not-constructor None e k = absurd cc
not-constructor (Some true) e k = absurd cc
not-constructor (Some false) e k = absurd cc

pub a-constructor : (o : Option Bool) → not (option_eq beq o (Some true)) ≡ false → o ≡ Some true
a-constructor None e = absurd cc
a-constructor (Some true) e = refl
a-constructor (Some false) e = absurd cc

pub known-constructor : (n : Names) (name : List ℕ) → status name n.values ≡ Some true → is_constructor n name ≡ true
known-constructor n name e = ap if_known e
  where
    if_known : Option Bool → Bool
    if_known None = false
    if_known (Some b) = b
