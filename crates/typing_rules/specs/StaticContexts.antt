-- Contexts of typing: what the type names and the value names in scope stand for.
-- The Definition of Standard ML, section 4.2 (semantic objects) and section 4.3: contexts C of type names T and environments
-- (TE, VE). Written constraints have no type variables in this language, so a context has none (U).
use Rattle.std.specs.Prelude.{◌≡◌, ℕ, zero, suc, ◌+◌, ◌≤◌, Bool, true, false, ◌&&◌, List, [], ◌∷◌, ◌++◌, length, map, Option, Some, None, if◌then◌else◌}
use Rattle.std.specs.List.{slice_get}
use Rattle.std.specs.Str.{bytes_eq}
use Rattle.type_terms.specs.TypeTerms.{Term, made, variable, Terms, no_terms, terms, term_list, Scheme, place, plain, open_made, Schemes, no_schemes, schemes, Filling, filled, NameEquality, NeverEqual, PartsEqual, KeepsEquality, IsOver}
use Rattle.basis_table.specs.BasisTable.{TypeName, Basis, Arrow, Tuple, Declared, BasisType, BasisScheme, BasisConstructor, basis_types, basis_constructors, basis_exceptions, basis_values, exn_type, function_of}

-- the types of the language
abbrev pub TypeTerm : Type 0
TypeTerm = Term TypeName

-- a declared datatype: how many arguments it takes, and its equality
pub record Datatype : Type 0 where
  pub arity : ℕ
  pub equality : NameEquality

-- what a type name of the text stands for: a type with places for its arguments, which are numbered from 0 (a type function,
-- section 4.4)
pub record TypeFunction : Type 0 where
  pub arity : ℕ
  pub body : BasisScheme

-- what a value name stands for: its type scheme and whether it is a constructor, of a datatype or an exception (its status)
pub record Meaning : Type 0 where
  pub constructor : Bool
  pub scheme : BasisScheme

abbrev pub NamedMeaning : Type 0
NamedMeaning = List ℕ × Meaning

-- a context: the datatypes so far, in the order of the text, and the names in scope, innermost first
pub record Context : Type 0 where
  pub datatypes : List Datatype
  pub types : List (List ℕ × TypeFunction)
  pub values : List NamedMeaning

-- Type names

-- how many arguments a type of the basis takes, and its equality
abbrev pub basis_arity : Option BasisType → ℕ → Type 0
basis_arity None n = ⊥
basis_arity (Some row) n = row.arity ≡ n

abbrev pub datatype_arity : Option Datatype → ℕ → Type 0
datatype_arity None n = ⊥
datatype_arity (Some t) n = t.arity ≡ n

-- the name is known, and takes so many arguments; a datatype is known from its declaration on, so its name is in no type of
-- what was declared before
abbrev pub Takes : List Datatype → TypeName → ℕ → Type 0
Takes datatypes (Basis i) n = basis_arity (slice_get basis_types i) n
Takes datatypes Arrow n = n ≡ 2
Takes datatypes (Tuple i) n = (2 ≤ i) × (n ≡ i)
Takes datatypes (Declared i) n = datatype_arity (slice_get datatypes i) n

abbrev pub row_equality : Option BasisType → NameEquality
row_equality None = NeverEqual
row_equality (Some row) = row.equality

abbrev pub datatype_equality : Option Datatype → NameEquality
datatype_equality None = NeverEqual
datatype_equality (Some t) = t.equality

-- the equality of names (section 4.4)
abbrev pub equality_of : List Datatype → TypeName → NameEquality
equality_of datatypes (Basis i) = row_equality (slice_get basis_types i)
equality_of datatypes Arrow = NeverEqual
equality_of datatypes (Tuple i) = PartsEqual
equality_of datatypes (Declared i) = datatype_equality (slice_get datatypes i)

-- a type over the names that are known
abbrev pub IsKnown : List Datatype → TypeTerm → Type 0
IsKnown datatypes t = IsOver (Takes datatypes) t

-- what may fill the places of a scheme: types over known names, with equality where it is asked
pub record IsAllowed (datatypes : List Datatype) (by : Filling TypeName) : Type 0 where
  pub equal : KeepsEquality (equality_of datatypes) by
  pub known : (e : Bool) (n : ℕ) → IsKnown datatypes (by e n)

-- Types of the basis

abbrev pub basis_term : ℕ → List TypeTerm → TypeTerm
basis_term i ts = made (Basis i) (term_list ts)

abbrev pub int_term : TypeTerm
int_term = basis_term 0 []

abbrev pub char_term : TypeTerm
char_term = basis_term 1 []

abbrev pub string_term : TypeTerm
string_term = basis_term 2 []

abbrev pub exn_term : TypeTerm
exn_term = basis_term 3 []

abbrev pub unit_term : TypeTerm
unit_term = basis_term 4 []

abbrev pub bool_term : TypeTerm
bool_term = basis_term 5 []

abbrev pub list_term : TypeTerm → TypeTerm
list_term t = basis_term 6 (t ∷ [])

abbrev pub frag_term : TypeTerm → TypeTerm
frag_term t = basis_term 9 (t ∷ [])

abbrev pub function_term : TypeTerm → TypeTerm → TypeTerm
function_term from to = made Arrow (term_list (from ∷ to ∷ []))

abbrev pub tuple_term : List TypeTerm → TypeTerm
tuple_term ts = made (Tuple (length ts)) (term_list ts)

-- no function: what a constructor without argument is of (section 4.10, rules 34 and 35)
unfoldable pub IsConstructed : TypeTerm → Type 0
IsConstructed (variable e n) = ⊥
IsConstructed (made Arrow ts) = ⊥
IsConstructed (made (Basis i) ts) = Unit {0}
IsConstructed (made (Tuple i) ts) = Unit {0}
IsConstructed (made (Declared i) ts) = Unit {0}

-- Names in scope

-- what the name stands for, by its innermost binding
abbrev pub lookup : {A : Type 0} → List ℕ → List (List ℕ × A) → Option A
lookup name [] = None
lookup name (bind ∷ binds) = if bytes_eq bind.0 name then Some bind.1 else lookup name binds

abbrev pub constructs : Option Meaning → Bool
constructs None = false
constructs (Some m) = m.constructor

-- whether the name is a constructor
abbrev pub is_constructor_in : Context → List ℕ → Bool
is_constructor_in Γ name = constructs (lookup name Γ.values)

abbrev pub variable_of : BasisScheme → Meaning
variable_of s = record { constructor = false; scheme = s }

abbrev pub constructor_of : BasisScheme → Meaning
constructor_of s = record { constructor = true; scheme = s }

-- values with one type each
abbrev pub monomorphic : List (List ℕ × TypeTerm) → List NamedMeaning
monomorphic binds = map (λ (bind : List ℕ × TypeTerm). (bind.0, variable_of (plain bind.1))) binds

-- values with their schemes
abbrev pub polymorphic : List (List ℕ × BasisScheme) → List NamedMeaning
polymorphic binds = map (λ (bind : List ℕ × BasisScheme). (bind.0, variable_of bind.1)) binds

-- the instance of each by the same types
abbrev pub filled_each : Filling TypeName → List (List ℕ × BasisScheme) → List (List ℕ × TypeTerm)
filled_each by binds = map (λ (bind : List ℕ × BasisScheme). (bind.0, filled by bind.1)) binds

abbrev pub with_values : List NamedMeaning → Context → Context
with_values values Γ = record { datatypes = Γ.datatypes; types = Γ.types; values = values ++ Γ.values }

abbrev pub with_types : List (List ℕ × TypeFunction) → Context → Context
with_types types Γ = record { datatypes = Γ.datatypes; types = types ++ Γ.types; values = Γ.values }

-- The basis

-- the places from a number on, so many
unfoldable pub places : ℕ → ℕ → Schemes TypeName
places first zero = no_schemes
places first (suc count) = schemes (place false first) (places (suc first) count)

-- a type name as a type function
abbrev pub named_function : TypeName → ℕ → TypeFunction
named_function name arity = record { arity = arity; body = open_made name (places 0 arity) }

abbrev pub basis_functions : ℕ → List BasisType → List (List ℕ × TypeFunction)
basis_functions i [] = []
basis_functions i (row ∷ rows) = (row.name, named_function (Basis i) row.arity) ∷ basis_functions (suc i) rows

-- the scheme of a constructor: its datatype, or a function from its argument to it
abbrev pub constructor_scheme : Option BasisScheme → BasisScheme → BasisScheme
constructor_scheme None result = result
constructor_scheme (Some argument) result = function_of argument result

-- the context before the first declaration (appendix C); `ref` is a constructor
abbrev pub basis_context : Context
basis_context = record {
  datatypes = [];
  types = basis_functions 0 basis_types;
  values =
      map (λ (row : BasisConstructor). (row.name, constructor_of (constructor_scheme row.argument row.result))) basis_constructors
      ++ map (λ (row : List ℕ × Option BasisScheme). (row.0, constructor_of (constructor_scheme row.1 exn_type))) basis_exceptions
      ++ map (λ (row : List ℕ × BasisScheme). (row.0, variable_of row.1)) basis_values;
}
