-- Typing of top-level items and of programs.
-- The Definition of Standard ML, section 4.10, rules 15 to 31 (declarations), and section 4.9 (maximising equality).
use Rattle.std.specs.Prelude.{◌≡◌, ℕ, zero, suc, ◌+◌, Bool, true, false, List, [], ◌∷◌, ◌++◌, length, map, Option, Some, None, codes, if◌then◌else◌}
use Rattle.std.specs.List.{IsDistinct}
use Rattle.std.specs.Str.{bytes_eq}
use Rattle.sml_syntax.specs.declared.tree.Ty.{Ty}
use Rattle.sml_syntax.specs.declared.tree.Dec.{Dec, out-Dec}
use Rattle.sml_syntax.specs.declared.tree.Program.{Program}
use Rattle.sml_syntax.specs.declared.tree.DecForm.TheOpen.{DecForm-F}
use Rattle.sml_syntax.specs.Layers.{form_of_dec}
use Rattle.sml_syntax.specs.NestedTypes.{nested_in_bindings}
use Rattle.typing_rules.specs.Scope.{IsOneOf, first_parts, type_names, datatype_names, constructor_names, TypeBinding, Constructors, DatatypeBinding}
use Rattle.type_terms.specs.TypeTerms.{variable, made, term_list, admits, instance_by, Closes, Filling, KeepsEquality, NameEquality, NeverEqual, PartsEqual}
use Rattle.basis_table.specs.BasisTable.{TypeName, Declared, BasisScheme}
use Rattle.typing_rules.specs.StaticContexts.{TypeTerm, TypeFunction, Datatype, NamedMeaning, Context, IsKnown, equality_of, exn_term, function_term, constructor_of, named_function, with_values, with_types, basis_context}
use Rattle.typing_rules.specs.Typing.{NodeTypes, no_nodes, both, in_order, is_long, may_construct, AreBindable, HasSome, Denotes, TypesDec}

-- Variables that a declaration of types names, and closed types

-- a variable with two primes
unfoldable pub has_two_primes : List ℕ → Bool
has_two_primes [] = false
has_two_primes (first ∷ []) = false
has_two_primes (first ∷ second ∷ rest) = bytes_eq (first ∷ second ∷ []) (codes "''")

-- each variable as a type, numbered from this number on; by the test, one of types with equality
abbrev pub parameters_from : (List ℕ → Bool) → ℕ → List (List ℕ) → List (List ℕ × TypeTerm)
parameters_from equal first [] = []
parameters_from equal first (name ∷ names) = (name, variable (equal name) first) ∷ parameters_from equal (suc first) names

-- In `type` a variable is a plain parameter; in `datatype` one with two primes restricts constructors to types with equality.
abbrev pub plain_parameters : List (List ℕ) → List (List ℕ × TypeTerm)
plain_parameters names = parameters_from (λ name. false) 0 names

abbrev pub datatype_parameters : List (List ℕ) → List (List ℕ × TypeTerm)
datatype_parameters names = parameters_from has_two_primes 0 names

abbrev pub second_parts : {A B : Type 0} → List (A × B) → List B
second_parts binds = map (λ bind. bind.1) binds

-- the scheme of a type, all variables as places
abbrev pub ClosesWhole : TypeTerm → BasisScheme → Type 0
ClosesWhole t s = Closes (λ e n. ⊥) t s

-- a name that a declaration of types may bind
abbrev pub may_name_type : List ℕ → Bool
may_name_type name = if is_long name then false else true

-- `type` (rules 16 and 27)
pub data DenotesAbbreviations (Γ : Context) : List TypeBinding → List (List ℕ × TypeFunction) → Type 0 where
  abbreviations_end : DenotesAbbreviations Γ [] []
  abbreviations_more : {bind : TypeBinding} {binds : List TypeBinding} {t : TypeTerm} {body : BasisScheme} {functions : List (List ℕ × TypeFunction)} → IsDistinct bytes_eq bind.0 →
      Denotes Γ (plain_parameters bind.0) bind.2 t → ClosesWhole t body → DenotesAbbreviations Γ binds functions →
      DenotesAbbreviations Γ (bind ∷ binds) ((bind.1, record { arity = length bind.0; body = body }) ∷ functions)

-- `datatype` (rules 17, 28 and 29)

-- the types of the arguments of constructors, where they have one
pub data DenotesArguments (Γ : Context) (variables : List (List ℕ × TypeTerm)) : Constructors → List (Option TypeTerm) → Type 0 where
  arguments_end : DenotesArguments Γ variables [] []
  arguments_none : {name : List ℕ} {more : Constructors} {ts : List (Option TypeTerm)} → DenotesArguments Γ variables more ts → DenotesArguments Γ variables ((name, None) ∷ more) (None ∷ ts)
  arguments_some : {name : List ℕ} {w : Ty} {t : TypeTerm} {more : Constructors} {ts : List (Option TypeTerm)} → Denotes Γ variables w t → DenotesArguments Γ variables more ts →
      DenotesArguments Γ variables ((name, Some w) ∷ more) (Some t ∷ ts)

-- those of all bindings
pub data DenotesDatatypes (Γ : Context) : List DatatypeBinding → List (List (Option TypeTerm)) → Type 0 where
  datatypes_end : DenotesDatatypes Γ [] []
  datatypes_more : {bind : DatatypeBinding} {binds : List DatatypeBinding} {ts : List (Option TypeTerm)} {more : List (List (Option TypeTerm))} → IsDistinct bytes_eq bind.0 → HasSome bind.2 →
      DenotesArguments Γ (datatype_parameters bind.0) bind.2 ts → DenotesDatatypes Γ binds more → DenotesDatatypes Γ (bind ∷ binds) (ts ∷ more)

-- the names of a declaration as type functions, the first one having this number
abbrev pub datatype_functions : ℕ → List DatatypeBinding → List (List ℕ × TypeFunction)
datatype_functions number [] = []
datatype_functions number (bind ∷ binds) = (bind.1, named_function (Declared number) (length bind.0)) ∷ datatype_functions (suc number) binds

-- a choice of which of the datatypes have equality
abbrev pub chosen_equality : Bool → NameEquality
chosen_equality true = PartsEqual
chosen_equality false = NeverEqual

abbrev pub chosen_datatypes : List DatatypeBinding → List Bool → List Datatype
chosen_datatypes [] choice = []
chosen_datatypes (bind ∷ binds) [] = []
chosen_datatypes (bind ∷ binds) (equal ∷ choice) = record { arity = length bind.0; equality = chosen_equality equal } ∷ chosen_datatypes binds choice

abbrev pub with_datatypes : List DatatypeBinding → List Bool → Context → Context
with_datatypes binds choice Γ = record {
  datatypes = Γ.datatypes ++ chosen_datatypes binds choice;
  types = datatype_functions (length Γ.datatypes) binds ++ Γ.types;
  values = Γ.values;
}

abbrev pub argument_admits : (TypeName → NameEquality) → Option TypeTerm → Type 0
argument_admits equality None = Unit {0}
argument_admits equality (Some t) = admits equality (λ e. true) t ≡ true

-- Each datatype that is chosen has equality where its constructors' arguments have it, all variables standing for types with equality.
pub data Respects (equality : TypeName → NameEquality) : List Bool → List (List (Option TypeTerm)) → Type 0 where
  respects_end : Respects equality [] []
  respects_chosen : {choice : List Bool} {ts : List (Option TypeTerm)} {more : List (List (Option TypeTerm))} → ((t : Option TypeTerm) → IsOneOf t ts → argument_admits equality t) →
      Respects equality choice more → Respects equality (true ∷ choice) (ts ∷ more)
  respects_other : {choice : List Bool} {ts : List (Option TypeTerm)} {more : List (List (Option TypeTerm))} → Respects equality choice more → Respects equality (false ∷ choice) (ts ∷ more)

-- what one choice has, the other has too
pub data IsWithin : List Bool → List Bool → Type 0 where
  within_end : IsWithin [] []
  within_both : {less more : List Bool} → IsWithin less more → IsWithin (true ∷ less) (true ∷ more)
  within_not : {less more : List Bool} {equal : Bool} → IsWithin less more → IsWithin (false ∷ less) (equal ∷ more)

-- the greatest choice that the arguments' types admit (section 4.9)
pub record IsGreatest (Γ : Context) (binds : List DatatypeBinding) (ts : List (List (Option TypeTerm))) (choice : List Bool) : Type 0 where
  pub respects : Respects (equality_of (with_datatypes binds choice Γ).datatypes) choice ts
  pub greatest : (other : List Bool) → Respects (equality_of (with_datatypes binds other Γ).datatypes) other ts → IsWithin other choice

-- the type of a constructor: its datatype, or a function to it
abbrev pub constructor_term : Option TypeTerm → TypeTerm → TypeTerm
constructor_term None result = result
constructor_term (Some t) result = function_term t result

pub data GivesConstructors (result : TypeTerm) : Constructors → List (Option TypeTerm) → List NamedMeaning → Type 0 where
  constructors_end : GivesConstructors result [] [] []
  constructors_more : {constructor : List ℕ × Option Ty} {more : Constructors} {t : Option TypeTerm} {ts : List (Option TypeTerm)} {s : BasisScheme} {values : List NamedMeaning} →
      ClosesWhole (constructor_term t result) s → GivesConstructors result more ts values →
      GivesConstructors result (constructor ∷ more) (t ∷ ts) ((constructor.0, constructor_of s) ∷ values)

-- the constructors of the datatypes from this number on
pub data GivesDatatypes : ℕ → List DatatypeBinding → List (List (Option TypeTerm)) → List NamedMeaning → Type 0 where
  gives_end : {number : ℕ} → GivesDatatypes number [] [] []
  gives_more : {number : ℕ} {bind : DatatypeBinding} {binds : List DatatypeBinding} {ts : List (Option TypeTerm)} {others : List (List (Option TypeTerm))} {values more : List NamedMeaning} →
      GivesConstructors (made (Declared number) (term_list (second_parts (datatype_parameters bind.0)))) bind.2 ts values → GivesDatatypes (suc number) binds others more →
      GivesDatatypes number (bind ∷ binds) (ts ∷ others) (values ++ more)

-- each datatype of the declaration stands in it applied to its own variables alone
abbrev pub IsUniform : List DatatypeBinding → Type 0
IsUniform binds = (depth : ℕ) → nested_in_bindings depth binds binds ≡ []

-- `exception` (rules 20, 30 and 31)
abbrev pub exceptions : Constructors → List (Option TypeTerm) → List NamedMeaning → Type 0
exceptions constructors ts values = GivesConstructors exn_term constructors ts values

-- Items: the context behind an item
pub data TypesItem (Γ : Context) : Dec → Context → NodeTypes → Type 0 where
  item_values : {d : Dec} {values : List NamedMeaning} {nodes : NodeTypes} → TypesDec Γ d values nodes → TypesItem Γ d (with_values values Γ) nodes
  item_abbreviations : {d : Dec} {binds : List TypeBinding} {functions : List (List ℕ × TypeFunction)} → form_of_dec d ≡ DecForm-F.Abbrev binds → HasSome binds →
      AreBindable may_name_type (type_names binds) → DenotesAbbreviations Γ binds functions → TypesItem Γ d (with_types functions Γ) no_nodes
  item_datatypes : {d : Dec} {binds : List DatatypeBinding} {choice : List Bool} {ts : List (List (Option TypeTerm))} {values : List NamedMeaning} → form_of_dec d ≡ DecForm-F.DataDef binds →
      HasSome binds → AreBindable may_name_type (datatype_names binds) → AreBindable may_construct (constructor_names binds) → IsUniform binds →
      DenotesDatatypes (with_datatypes binds choice Γ) binds ts → IsGreatest Γ binds ts choice → GivesDatatypes (length Γ.datatypes) binds ts values →
      TypesItem Γ d (with_values values (with_datatypes binds choice Γ)) no_nodes
  item_exceptions : {d : Dec} {binds : Constructors} {ts : List (Option TypeTerm)} {values : List NamedMeaning} → form_of_dec d ≡ DecForm-F.ExnDef binds → HasSome binds →
      AreBindable may_construct (first_parts binds) → DenotesArguments Γ [] binds ts → exceptions binds ts values → TypesItem Γ d (with_values values Γ) no_nodes

pub data TypesItems : Context → List Dec → Context → NodeTypes → Type 0 where
  items_end : {Γ : Context} → TypesItems Γ [] Γ no_nodes
  items_more : {Γ Δ Θ : Context} {d : Dec} {ds : List Dec} {nodes others : NodeTypes} → TypesItem Γ d Δ nodes → TypesItems Δ ds Θ others → TypesItems Γ (d ∷ ds) Θ (both nodes others)

-- Programs

-- these items have a typing
abbrev pub HasTyping : List Dec → Type 0
HasTyping items = (Γ : Context) × (nodes : NodeTypes) × TypesItems basis_context items Γ nodes

-- the types are a typing of the program: one for each expression and pattern, in the order of the text
abbrev pub IsTyping : Program → List TypeTerm → Type 0
IsTyping program types = (Γ : Context) × (nodes : NodeTypes) × TypesItems basis_context program.items Γ nodes × (types ≡ in_order nodes)

-- the first byte of an item
abbrev pub item_place : Dec → ℕ
item_place d = (out-Dec d).span.from

-- the place of the first item up to whose end the program has no typing
pub record IsFirstIll (program : Program) (place : ℕ) : Type 0 where
  pub before : List Dec
  pub item : Dec
  pub after : List Dec
  pub split : program.items ≡ before ++ item ∷ after
  pub typed : HasTyping before
  pub none : HasTyping (before ++ item ∷ []) → ⊥
  pub place_is : place ≡ item_place item

-- types of which others are an instance: types in place of their variables, with equality where the variable asks it
abbrev pub AreInstances : (TypeName → NameEquality) → List TypeTerm → List TypeTerm → Type 0
AreInstances equality types instances = (by : Filling TypeName) × KeepsEquality equality by × (instances ≡ map (instance_by by) types)
