-- Types as terms over type names, and type schemes.
-- The Definition of Standard ML, section 4.2: semantic objects, types and type schemes.
use Rattle.std.specs.Prelude.{◌≡◌, ◌⊎◌, ℕ, ◌+◌, Bool, true, false, ◌&&◌, List, [], ◌∷◌}

-- The types over names N. A type variable has a number, and tells whether it stands for types with equality alone.
mutual
  pub data Term (N : Type 0) : Type 0 where
    variable : (equality : Bool) → ℕ → Term N
    made : N → Terms N → Term N

  pub data Terms (N : Type 0) : Type 0 where
    no_terms : Terms N
    terms : Term N → Terms N → Terms N

-- whether a type name gives equality: at no arguments, at all, or where all its arguments have it
pub data NameEquality : Type 0 where
  NeverEqual AlwaysEqual PartsEqual : NameEquality

abbrev pub by_parts : NameEquality → Bool → Bool
by_parts NeverEqual parts = false
by_parts AlwaysEqual parts = true
by_parts PartsEqual parts = parts

-- Whether a type admits equality, by that of its names and of its variables (section 4.4).
unfoldable mutual
  pub admits : {N : Type 0} → (N → NameEquality) → (Bool → Bool) → Term N → Bool
  admits equality of_variable (variable e n) = of_variable e
  admits equality of_variable (made f ts) = by_parts (equality f) (all_admit equality of_variable ts)

  pub all_admit : {N : Type 0} → (N → NameEquality) → (Bool → Bool) → Terms N → Bool
  all_admit equality of_variable no_terms = true
  all_admit equality of_variable (terms t ts) = admits equality of_variable t && all_admit equality of_variable ts

unfoldable pub count_of : {N : Type 0} → Terms N → ℕ
count_of no_terms = 0
count_of (terms t ts) = 1 + count_of ts

-- every name of the type stands with a number of arguments that it takes
unfoldable mutual
  pub IsOver : {N : Type 0} → (N → ℕ → Type 0) → Term N → Type 0
  IsOver takes (variable e n) = Unit {0}
  IsOver takes (made f ts) = takes f (count_of ts) × AllOver takes ts

  pub AllOver : {N : Type 0} → (N → ℕ → Type 0) → Terms N → Type 0
  AllOver takes no_terms = Unit {0}
  AllOver takes (terms t ts) = IsOver takes t × AllOver takes ts

unfoldable pub term_list : {N : Type 0} → List (Term N) → Terms N
term_list [] = no_terms
term_list (t ∷ ts) = terms t (term_list ts)

-- Type schemes: types with places that each instance fills. A place has the number of the variable that it came from, and fills
-- with types that have equality where that variable asked it.
mutual
  pub data Scheme (N : Type 0) : Type 0 where
    place : (equality : Bool) → ℕ → Scheme N
    plain : Term N → Scheme N
    open_made : N → Schemes N → Scheme N

  pub data Schemes (N : Type 0) : Type 0 where
    no_schemes : Schemes N
    schemes : Scheme N → Schemes N → Schemes N

-- what fills the places
abbrev pub Filling : Type 0 → Type 0
Filling N = Bool → ℕ → Term N

unfoldable mutual
  pub filled : {N : Type 0} → Filling N → Scheme N → Term N
  filled by (place e n) = by e n
  filled by (plain t) = t
  filled by (open_made f ss) = made f (all_filled by ss)

  pub all_filled : {N : Type 0} → Filling N → Schemes N → Terms N
  all_filled by no_schemes = no_terms
  all_filled by (schemes s ss) = terms (filled by s) (all_filled by ss)

-- a type with types in place of its variables
unfoldable mutual
  pub instance_by : {N : Type 0} → Filling N → Term N → Term N
  instance_by by (variable e n) = by e n
  instance_by by (made f ts) = made f (all_instances_by by ts)

  pub all_instances_by : {N : Type 0} → Filling N → Terms N → Terms N
  all_instances_by by no_terms = no_terms
  all_instances_by by (terms t ts) = terms (instance_by by t) (all_instances_by by ts)

abbrev pub of_flag : Bool → Bool
of_flag e = e

-- equality is kept: where it is asked, the types have it
abbrev pub KeepsEquality : {N : Type 0} → (N → NameEquality) → Filling N → Type 0
KeepsEquality equality by = (n : ℕ) → admits equality of_flag (by true n) ≡ true

-- an instance of a scheme (section 4.5)
abbrev pub IsInstance : {N : Type 0} → (N → NameEquality) → Scheme N → Term N → Type 0
IsInstance {N} equality s t = (by : Filling N) × KeepsEquality equality by × (t ≡ filled by s)

-- the closure of a type: the variables that aren't kept become places (section 4.8)
mutual
  pub data Closes {N : Type 0} (kept : Bool → ℕ → Type 0) : Term N → Scheme N → Type 0 where
    closes_open : {e : Bool} {n : ℕ} → (kept e n → ⊥) → Closes kept (variable e n) (place e n)
    closes_kept : {e : Bool} {n : ℕ} → kept e n → Closes kept (variable e n) (plain (variable e n))
    closes_made : {f : N} {ts : Terms N} {ss : Schemes N} → ClosesAll kept ts ss → Closes kept (made f ts) (open_made f ss)

  pub data ClosesAll {N : Type 0} (kept : Bool → ℕ → Type 0) : Terms N → Schemes N → Type 0 where
    closes_none : ClosesAll kept no_terms no_schemes
    closes_more : {t : Term N} {ts : Terms N} {s : Scheme N} {ss : Schemes N} → Closes kept t s → ClosesAll kept ts ss →
        ClosesAll kept (terms t ts) (schemes s ss)

-- the variable stands in the type
unfoldable mutual
  pub StandsIn : {N : Type 0} → Bool → ℕ → Term N → Type 0
  StandsIn e n (variable d m) = (d ≡ e) × (m ≡ n)
  StandsIn e n (made f ts) = StandsInSome e n ts

  pub StandsInSome : {N : Type 0} → Bool → ℕ → Terms N → Type 0
  StandsInSome e n no_terms = ⊥
  StandsInSome e n (terms t ts) = StandsIn e n t ⊎ StandsInSome e n ts

-- the variable is free in the scheme
unfoldable mutual
  pub IsFreeIn : {N : Type 0} → Bool → ℕ → Scheme N → Type 0
  IsFreeIn e n (place d m) = ⊥
  IsFreeIn e n (plain t) = StandsIn e n t
  IsFreeIn e n (open_made f ss) = IsFreeInSome e n ss

  pub IsFreeInSome : {N : Type 0} → Bool → ℕ → Schemes N → Type 0
  IsFreeInSome e n no_schemes = ⊥
  IsFreeInSome e n (schemes s ss) = IsFreeIn e n s ⊎ IsFreeInSome e n ss
