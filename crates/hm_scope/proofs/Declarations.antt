-- What has no binding in a declaration, by its form.
use Rattle.std.proofs.Common.{◌≡◌, ◌⊎◌, inl, inr, refl, sym, ◌∙◌, ap, subst, ℕ, ◌+◌, ◌<◌, ◌≤◌, List, [], ◌∷◌, ◌++◌, take, length, get_or, Option, Some, None}
use Rattle.std.proofs.lemmas.List.{append-nil, append_assoc, map-append, take_more, take_all}
use Rattle.sml_syntax.specs.declared.tree.Ty.{Ty}
use Rattle.sml_syntax.specs.declared.tree.Pat.{Pat}
use Rattle.sml_syntax.specs.declared.tree.Exp.{Exp}
use Rattle.sml_syntax.specs.declared.tree.Rule.{Rule}
use Rattle.sml_syntax.specs.declared.tree.Dec.{Dec}
use Rattle.sml_syntax.specs.declared.tree.DecForm.TheOpen.{DecForm-F}
use Rattle.sml_syntax.specs.Layers.{DecLayer, form_of_dec}
use Rattle.typing_rules.specs.Scope.{Names, Binds, BindsAll, adds_val, adds_rec, adds_abbrev, adds_data, adds_exn, adds_local, inside, variables_only, as_variables, as_constructors, TypeBinding, DatatypeBinding, Constructors, first_parts, type_names, datatype_names, constructor_names, UnboundInType, UnboundInPat, UnboundInExp, UnboundInRule, UnboundInDec, in_val_pattern, in_val, in_function, in_abbreviation, in_datatype, in_exception, in_hidden, in_shown}
use Rattle.hm_scope.specs.Least.{IsLeast, With, Seen, Sees, Some_of, SeesDec, SeesAbbreviations, SeesDatatypes, SeesExceptions, InArgument, InArguments}
use Rattle.hm_scope.proofs.Leasts.{Lowers, lowers-to, sees-then, sees-to, sees-none, sees-nil, sees-next}
use Rattle.hm_scope.proofs.Names.{binds-all-end}
use Rattle.hm_scope.proofs.Scopes.{added, SeesLocal, InLocal}

-- in a binding of `val`
abbrev pub InBinding : Names → Pat × Exp → ℕ → Type 0
InBinding scope bind place = UnboundInPat scope bind.0 place ⊎ UnboundInExp scope bind.1 place

-- bindings of `val` were seen, and have added their names
pub record SeesVal (binds : List (Pat × Exp)) (old new : Seen) : Type 0 where
  pub names : List (List ℕ)
  pub binds_names : BindsAll old.names (first_parts binds) names
  pub scope : new.names ≡ inside (variables_only names) old.names
  pub least : IsLeast (With old.first (Some_of (InBinding old.names) binds)) new.first

-- functions have added their names, and were seen inside them
pub record SeesFunctions (binds : List (List ℕ × List Rule)) (old new : Seen) : Type 0 where
  pub scope : new.names ≡ inside (variables_only (first_parts binds)) old.names
  pub least : IsLeast (With old.first (Some_of (λ (bind : List ℕ × List Rule). Some_of (UnboundInRule new.names) bind.1) binds)) new.first

-- what has no binding, by the form
abbrev pub DecAs : Names → DecLayer → ℕ → Type 0
DecAs n (DecForm-F.Val binds) place = Some_of (InBinding n) binds place
DecAs n (DecForm-F.ValRec binds) place = Some_of (λ (bind : List ℕ × List Rule). Some_of (UnboundInRule (inside (variables_only (first_parts binds)) n)) bind.1) binds place
DecAs n (DecForm-F.Abbrev binds) place = Some_of (λ (bind : TypeBinding). UnboundInType n bind.0 bind.2) binds place
DecAs n (DecForm-F.DataDef binds) place = Some_of (λ (bind : DatatypeBinding). InArguments (inside (record { values = []; types = datatype_names binds }) n) bind.0 bind.2) binds place
DecAs n (DecForm-F.ExnDef binds) place = InArguments n [] binds place
DecAs n (DecForm-F.Local hidden shown) place = InLocal n hidden shown place

pub dec-cases : {n : Names} {d : Dec} {place : ℕ} → UnboundInDec n d place → DecAs n (form_of_dec d) place
dec-cases (in_val_pattern {scope = n} {d} {binds} {bind} {place} e i h) = subst (λ f. DecAs n f place) (sym e) (bind, i, inl h)
dec-cases (in_val {scope = n} {d} {binds} {bind} {place} e i h) = subst (λ f. DecAs n f place) (sym e) (bind, i, inr h)
dec-cases (in_function {scope = n} {d} {binds} {bind} {r} {place} e i j h) = subst (λ f. DecAs n f place) (sym e) (bind, i, (r, j, h))
dec-cases (in_abbreviation {scope = n} {d} {binds} {bind} {place} e i h) = subst (λ f. DecAs n f place) (sym e) (bind, i, h)
dec-cases (in_datatype {scope = n} {d} {binds} {bind} {constructor} {t} {place} e i j k h) = subst (λ f. DecAs n f place) (sym e) (bind, i, (constructor, j, (t, k, h)))
dec-cases (in_exception {scope = n} {d} {binds} {constructor} {t} {place} e j k h) = subst (λ f. DecAs n f place) (sym e) (constructor, j, (t, k, h))
dec-cases (in_hidden {scope = n} {d} {hidden} {shown} {place} e h) = subst (λ f. DecAs n f place) (sym e) (inl h)
dec-cases (in_shown {scope = n} {d} {hidden} {shown} {more} {place} e g h) = subst (λ f. DecAs n f place) (sym e) (inr (more, g, h))

pub dec-again : {n : Names} {d : Dec} {place : ℕ} (f : DecLayer) → form_of_dec d ≡ f → DecAs n f place → UnboundInDec n d place
dec-again (DecForm-F.Val binds) e (bind, i, inl h) = in_val_pattern e i h
dec-again (DecForm-F.Val binds) e (bind, i, inr h) = in_val e i h
dec-again (DecForm-F.ValRec binds) e (bind, i, (r, j, h)) = in_function e i j h
dec-again (DecForm-F.Abbrev binds) e (bind, i, h) = in_abbreviation e i h
dec-again (DecForm-F.DataDef binds) e (bind, i, (constructor, j, (t, k, h))) = in_datatype e i j k h
dec-again (DecForm-F.ExnDef binds) e (constructor, j, (t, k, h)) = in_exception e j k h
dec-again (DecForm-F.Local hidden shown) e (inl h) = in_hidden e h
dec-again (DecForm-F.Local hidden shown) e (inr (more, g, h)) = in_shown e g h

pub dec-seen : (n : Names) (d : Dec) (f : DecLayer) (x y : Option ℕ) → form_of_dec d ≡ f → Lowers (DecAs n f) x y → Lowers (UnboundInDec n d) x y
dec-seen n d f x y e l = lowers-to (DecAs n f) (UnboundInDec n d) x y (λ p h. dec-again f e h) (λ p h. subst (λ z. DecAs n z p) e (dec-cases h)) l

pub sees-dec-val : (d : Dec) (binds : List (Pat × Exp)) (a b : Seen) → form_of_dec d ≡ DecForm-F.Val binds → SeesVal binds a b → SeesDec d a b
sees-dec-val d binds a b e s = record { more = variables_only s.names; adds = adds_val e s.binds_names; names = s.scope; least = dec-seen a.names d (DecForm-F.Val binds) a.first b.first e s.least }

pub sees-dec-functions : (d : Dec) (binds : List (List ℕ × List Rule)) (a b : Seen) → form_of_dec d ≡ DecForm-F.ValRec binds → SeesFunctions binds a b → SeesDec d a b
sees-dec-functions d binds a b e s = record {
  more = variables_only (first_parts binds);
  adds = adds_rec e;
  names = s.scope;
  least = dec-seen a.names d (DecForm-F.ValRec binds) a.first b.first e (subst (λ n. Lowers (Some_of (λ (bind : List ℕ × List Rule). Some_of (UnboundInRule n) bind.1) binds) a.first b.first) s.scope s.least);
}

pub sees-dec-abbreviations : (d : Dec) (binds : List TypeBinding) (a b : Seen) → form_of_dec d ≡ DecForm-F.Abbrev binds → SeesAbbreviations binds a b → SeesDec d a b
sees-dec-abbreviations d binds a b e s =
    record { more = record { values = []; types = type_names binds }; adds = adds_abbrev e; names = s.names; least = dec-seen a.names d (DecForm-F.Abbrev binds) a.first b.first e s.least }

pub sees-dec-datatypes : (d : Dec) (binds : List DatatypeBinding) (a b : Seen) → form_of_dec d ≡ DecForm-F.DataDef binds → SeesDatatypes binds a b → SeesDec d a b
sees-dec-datatypes d binds a b e s = record {
  more = record { values = as_constructors (constructor_names binds); types = datatype_names binds };
  adds = adds_data e;
  names = s.names;
  least = dec-seen a.names d (DecForm-F.DataDef binds) a.first b.first e s.least;
}

pub sees-dec-exceptions : (d : Dec) (binds : Constructors) (a b : Seen) → form_of_dec d ≡ DecForm-F.ExnDef binds → SeesExceptions binds a b → SeesDec d a b
sees-dec-exceptions d binds a b e s =
    record { more = record { values = as_constructors (first_parts binds); types = [] }; adds = adds_exn e; names = s.names; least = dec-seen a.names d (DecForm-F.ExnDef binds) a.first b.first e s.least }

pub sees-dec-local : (d : Dec) (hidden shown : List Dec) (a b : Seen) → form_of_dec d ≡ DecForm-F.Local hidden shown → SeesLocal hidden shown a b → SeesDec d a b
sees-dec-local d hidden shown a b e s =
    record { more = s.second; adds = adds_local e s.adds_hidden s.adds_shown; names = s.names; least = dec-seen a.names d (DecForm-F.Local hidden shown) a.first b.first e s.least }

-- the argument of a constructor
pub sees-argument : (vs : List (List ℕ)) (c : List ℕ × Option Ty) (t : Ty) (a b : Seen) → c.1 ≡ Some t → Sees (UnboundInType a.names vs t) a b → Sees (InArgument a.names vs c) a b
sees-argument vs c t a b e s = sees-to _ _ a b (λ p h. (t, e, h)) from s
  where
    from : (p : ℕ) → InArgument a.names vs c p → UnboundInType a.names vs t p
    from p (u, k, h) = let same : u ≡ t = cc in subst (λ z. UnboundInType a.names vs z p) same h

pub sees-no-argument : (vs : List (List ℕ)) (c : List ℕ × Option Ty) (a : Seen) → c.1 ≡ None → Sees (InArgument a.names vs c) a a
sees-no-argument vs c a e = sees-none (InArgument a.names vs c) a none
  where
    none : (p : ℕ) → InArgument a.names vs c p → ⊥
    none p (u, k, h) = absurd cc

-- the groups, from their parts
pub sees-abbreviations : (binds : List TypeBinding) (a b c : Seen) → Sees (Some_of (λ (bind : TypeBinding). UnboundInType a.names bind.0 bind.2) binds) a b
    → c.names.types ≡ type_names binds ++ b.names.types → c.names.values ≡ b.names.values → c.first ≡ b.first → SeesAbbreviations binds a c
sees-abbreviations binds a b c s t v f = record {
  names = added b c (record { values = []; types = type_names binds }) v t ∙ ap (inside (record { values = []; types = type_names binds })) s.same;
  least = subst (λ z. Lowers (Some_of (λ (bind : TypeBinding). UnboundInType a.names bind.0 bind.2) binds) a.first z) (sym f) s.least;
}

pub sees-datatypes : (binds : List DatatypeBinding) (a b c d : Seen)
    → b.names.types ≡ datatype_names binds ++ a.names.types → b.names.values ≡ a.names.values → b.first ≡ a.first
    → Sees (Some_of (λ (bind : DatatypeBinding). InArguments b.names bind.0 bind.2) binds) b c
    → d.names.values ≡ as_constructors (constructor_names binds) ++ c.names.values → d.names.types ≡ c.names.types → d.first ≡ c.first → SeesDatatypes binds a d
sees-datatypes binds a b c d bt bv bf s dv dt df = record {
  names = added a d (record { values = as_constructors (constructor_names binds); types = datatype_names binds })
      (dv ∙ ap (λ z. as_constructors (constructor_names binds) ++ z.values) s.same ∙ ap (λ z. as_constructors (constructor_names binds) ++ z) bv) (dt ∙ ap (λ z. z.types) s.same ∙ bt);
  least = subst (λ z. Lowers (Some_of (λ (bind : DatatypeBinding). InArguments within bind.0 bind.2) binds) a.first z) (sym df)
      (subst (λ z. Lowers (Some_of (λ (bind : DatatypeBinding). InArguments within bind.0 bind.2) binds) z c.first) bf
      (subst (λ n. Lowers (Some_of (λ (bind : DatatypeBinding). InArguments n bind.0 bind.2) binds) b.first c.first) (added a b (record { values = []; types = datatype_names binds }) bv bt) s.least));
}
  where
    within : Names
    within = inside (record { values = []; types = datatype_names binds }) a.names

pub sees-exceptions : (binds : Constructors) (a b c : Seen) → Sees (InArguments a.names [] binds) a b
    → c.names.values ≡ as_constructors (first_parts binds) ++ b.names.values → c.names.types ≡ b.names.types → c.first ≡ b.first → SeesExceptions binds a c
sees-exceptions binds a b c s v t f = record {
  names = added b c (record { values = as_constructors (first_parts binds); types = [] }) v t ∙ ap (inside (record { values = as_constructors (first_parts binds); types = [] })) s.same;
  least = subst (λ z. Lowers (InArguments a.names [] binds) a.first z) (sym f) s.least;
}

-- functions: all names are in scope, and these matches were seen
abbrev pub FunctionsSeen : List (List ℕ × List Rule) → List (List ℕ × List Rule) → Seen → Seen → Type 0
FunctionsSeen binds done a b = (b.names ≡ inside (variables_only (first_parts binds)) a.names) × Lowers (Some_of (λ (bind : List ℕ × List Rule). Some_of (UnboundInRule b.names) bind.1) done) a.first b.first

pub functions-start : (binds : List (List ℕ × List Rule)) (a b : Seen) → b.names.values ≡ as_variables (first_parts binds) ++ a.names.values → b.names.types ≡ a.names.types → b.first ≡ a.first → FunctionsSeen binds [] a b
functions-start binds a b v t f = (
  added a b (variables_only (first_parts binds)) v t,
  subst (λ z. Lowers (Some_of (λ (bind : List ℕ × List Rule). Some_of (UnboundInRule b.names) bind.1) []) z b.first) f
      (sees-nil (λ (bind : List ℕ × List Rule). Some_of (UnboundInRule b.names) bind.1) b).least,
)

pub functions-next : (binds : List (List ℕ × List Rule)) (i : ℕ) (d x : List ℕ × List Rule) (a b c : Seen) → x ≡ get_or binds i d → i < length binds → FunctionsSeen binds (take i binds) a b
    → Sees (Some_of (UnboundInRule b.names) x.1) b c → FunctionsSeen binds (take (i + 1) binds) a c
functions-next binds i d x a b c e h g s = (
  s.same ∙ g.0,
  subst (λ n. Lowers (Some_of (λ (bind : List ℕ × List Rule). Some_of (UnboundInRule n) bind.1) (take (i + 1) binds)) a.first c.first) (sym s.same)
      (sees-next (λ n (bind : List ℕ × List Rule). Some_of (UnboundInRule n) bind.1) binds i d x (record { names = b.names; first = a.first }) b c e h (record { same = refl; least = g.1 }) s).least,
)

pub functions-whole : (binds : List (List ℕ × List Rule)) (i : ℕ) (a b : Seen) → length binds ≤ i → FunctionsSeen binds (take i binds) a b → SeesFunctions binds a b
functions-whole binds i a b h g = record {
  scope = g.0;
  least = subst (λ l. Lowers (Some_of (λ (bind : List ℕ × List Rule). Some_of (UnboundInRule b.names) bind.1) l) a.first b.first) (take_all i binds h) g.1;
}

-- `val`: a binding more, and all of them
pub sees-binding : (bind : Pat × Exp) (a b c : Seen) → Sees (UnboundInPat a.names bind.0) a b → Sees (UnboundInExp b.names bind.1) b c → Sees (InBinding a.names bind) a c
sees-binding bind a b c s t = sees-then (UnboundInPat a.names bind.0) (λ n. UnboundInExp n bind.1) a b c s t

pub binds-next : (n : Names) (binds : List (Pat × Exp)) (i : ℕ) (d bind : Pat × Exp) (names more : List (List ℕ)) → bind ≡ get_or binds i d → i < length binds
    → BindsAll n (first_parts (take i binds)) names → Binds n bind.0 more → BindsAll n (first_parts (take (i + 1) binds)) (names ++ more)
binds-next n binds i d bind names more e h all b =
    subst (λ ps. BindsAll n ps (names ++ more))
    (sym (map-append (λ (z : Pat × Exp). z.0) (take i binds) (bind ∷ [])) ∙ ap first_parts (ap (λ y. take i binds ++ y ∷ []) e ∙ sym (take_more binds i d h)))
    (binds-all-end all bind.0 more b)

pub sees-val : (binds : List (Pat × Exp)) (i : ℕ) (names : List (List ℕ)) (a b c : Seen) → length binds ≤ i → Sees (Some_of (InBinding a.names) (take i binds)) a b → BindsAll a.names (first_parts (take i binds)) names
    → c.names.values ≡ as_variables names ++ b.names.values → c.names.types ≡ b.names.types → c.first ≡ b.first → SeesVal binds a c
sees-val binds i names a b c h s g v t f = record {
  names = names;
  binds_names = subst (λ l. BindsAll a.names (first_parts l) names) (take_all i binds h) g;
  scope = added b c (variables_only names) v t ∙ ap (inside (variables_only names)) s.same;
  least = subst (λ z. Lowers (Some_of (InBinding a.names) binds) a.first z) (sym f) (subst (λ l. Lowers (Some_of (InBinding a.names) l) a.first b.first) (take_all i binds h) s.least);
}

-- the names of all constructors: one datatype more
pub constructors-end : (binds : List DatatypeBinding) (bind : DatatypeBinding) → constructor_names (binds ++ bind ∷ []) ≡ constructor_names binds ++ first_parts bind.2
constructors-end [] bind = append-nil (first_parts bind.2)
constructors-end (b ∷ bs) bind = ap (λ z. first_parts b.2 ++ z) (constructors-end bs bind) ∙ sym (append_assoc (first_parts b.2) (constructor_names bs) (first_parts bind.2))
