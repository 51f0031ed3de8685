-- Static binding: which names, type names and type variables of a program have no binding, and the first of them.
-- The Definition of Standard ML, section 2.9 (syntactic restrictions) and section 4: the scope of each form.
-- The status of a name is that of its innermost binding: a variable, or a constructor (of a datatype or an exception).
use Rattle.std.specs.Prelude.{◌≡◌, ℕ, ◌-◌, ◌≤◌, Bool, true, false, List, [], ◌∷◌, ◌++◌, length, map, Option, Some, None, codes, if◌then◌else◌}
use Rattle.std.specs.Str.{bytes_eq}
use Rattle.sml_syntax.specs.declared.tree.Exp.{Exp, out-Exp}
use Rattle.sml_syntax.specs.declared.tree.Pat.{Pat, out-Pat}
use Rattle.sml_syntax.specs.declared.tree.Ty.{Ty, out-Ty}
use Rattle.sml_syntax.specs.declared.tree.TyForm.{TyForm, out-TyForm}
use Rattle.sml_syntax.specs.declared.tree.TyForm.TheOpen.{TyForm-F}
use Rattle.sml_syntax.specs.declared.tree.Dec.{Dec}
use Rattle.sml_syntax.specs.declared.tree.Rule.{Rule, out-Rule}
use Rattle.sml_syntax.specs.declared.tree.Piece.{Piece, out-Piece}
use Rattle.sml_syntax.specs.declared.tree.Program.{Program}
use Rattle.sml_syntax.specs.declared.tree.DecForm.{DecForm}
use Rattle.sml_syntax.specs.declared.tree.ExpForm.{ExpForm}
use Rattle.sml_syntax.specs.declared.tree.DecForm.TheOpen.{DecForm-F, ExpForm-F, Piece-F}
use Rattle.sml_syntax.specs.declared.tree.PatForm.TheOpen.{PatForm-F}
use Rattle.sml_syntax.specs.Layers.{ExpLayer, DecLayer, PatLayer, form_of_exp, form_of_dec, form_of_pat}
use Rattle.basis_table.specs.BasisTable.{BasisType, BasisConstructor, BasisScheme, basis_types, basis_constructors, basis_exceptions, basis_values}

-- x is one of the list
pub data IsOneOf {A : Type 0} (x : A) : List A → Type 0 where
  first_one : {xs : List A} → IsOneOf x (x ∷ xs)
  other_one : {y : A} {xs : List A} → IsOneOf x xs → IsOneOf x (y ∷ xs)

-- Parts of trees

abbrev pub TypeLayer : Type 0
TypeLayer = TyForm-F TyForm Ty

abbrev pub form_of_type : Ty → TypeLayer
form_of_type t = out-TyForm (out-Ty t).form

abbrev pub type_start : Ty → ℕ
type_start t = (out-Ty t).span.from

-- the first byte of a type's last token, which for a name with its arguments is the name
abbrev pub type_name_place : List ℕ → Ty → ℕ
type_name_place name t = (out-Ty t).span.to - length name

abbrev pub exp_start : Exp → ℕ
exp_start e = (out-Exp e).span.from

abbrev pub pat_start : Pat → ℕ
pat_start p = (out-Pat p).span.from

-- the types that stand directly in a type
abbrev pub type_parts : TypeLayer → List Ty
type_parts (TyForm-F.Var name) = []
type_parts (TyForm-F.Con name arguments) = arguments
type_parts (TyForm-F.Tuple ts) = ts
type_parts (TyForm-F.Arrow from to) = from ∷ to ∷ []

-- the patterns that stand directly in a pattern
abbrev pub pat_parts : PatLayer → List Pat
pat_parts (PatForm-F.Tuple ps) = ps
pat_parts (PatForm-F.List ps) = ps
pat_parts (PatForm-F.Con name p) = p ∷ []
pat_parts (PatForm-F.Typed p t) = p ∷ []
pat_parts _ = []

abbrev pub pat_type : PatLayer → Option Ty
pat_type (PatForm-F.Typed p t) = Some t
pat_type _ = None

-- the name that a pattern is
abbrev pub pat_name : PatLayer → Option (List ℕ)
pat_name (PatForm-F.Name name) = Some name
pat_name _ = None

abbrev pub with_antiquoted : Piece-F DecForm ExpForm Piece Dec Exp Rule → List Exp → List Exp
with_antiquoted (Piece-F.Plain text) es = es
with_antiquoted (Piece-F.Anti e) es = e ∷ es

-- the expressions of a quotation
abbrev pub antiquoted : List Piece → List Exp
antiquoted [] = []
antiquoted (piece ∷ pieces) = with_antiquoted (out-Piece piece) (antiquoted pieces)

-- the expressions that stand directly in an expression, and in its scope
abbrev pub exp_parts : ExpLayer → List Exp
exp_parts (ExpForm-F.Tuple es) = es
exp_parts (ExpForm-F.List es) = es
exp_parts (ExpForm-F.Seq es) = es
exp_parts (ExpForm-F.App f e) = f ∷ e ∷ []
exp_parts (ExpForm-F.Case e rules) = e ∷ []
exp_parts (ExpForm-F.Handle e rules) = e ∷ []
exp_parts (ExpForm-F.Raise e) = e ∷ []
exp_parts (ExpForm-F.If test chosen otherwise) = test ∷ chosen ∷ otherwise ∷ []
exp_parts (ExpForm-F.Both left right) = left ∷ right ∷ []
exp_parts (ExpForm-F.Either left right) = left ∷ right ∷ []
exp_parts (ExpForm-F.Quote pieces) = antiquoted pieces
exp_parts (ExpForm-F.Typed e t) = e ∷ []
exp_parts _ = []

abbrev pub exp_rules : ExpLayer → List Rule
exp_rules (ExpForm-F.Fn rules) = rules
exp_rules (ExpForm-F.Case e rules) = rules
exp_rules (ExpForm-F.Handle e rules) = rules
exp_rules _ = []

abbrev pub exp_type : ExpLayer → Option Ty
exp_type (ExpForm-F.Typed e t) = Some t
exp_type _ = None

-- Scopes

-- what is in scope, innermost first: the value names, each with whether it is a constructor, and the type names
pub record Names : Type 0 where
  pub values : List (List ℕ × Bool)
  pub types : List (List ℕ)

-- whether the name is a constructor, by its innermost binding
abbrev pub status : List ℕ → List (List ℕ × Bool) → Option Bool
status name [] = None
status name (value ∷ values) = if bytes_eq value.0 name then Some value.1 else status name values

abbrev pub is_constructor : Names → List ℕ → Bool
is_constructor scope name = if_constructor (status name scope.values)
  where
    if_constructor : Option Bool → Bool
    if_constructor None = false
    if_constructor (Some b) = b

abbrev pub has_name : List ℕ → List (List ℕ) → Bool
has_name name [] = false
has_name name (other ∷ names) = if bytes_eq other name then true else has_name name names

abbrev pub as_variables : List (List ℕ) → List (List ℕ × Bool)
as_variables names = map (λ name. (name, false)) names

abbrev pub as_constructors : List (List ℕ) → List (List ℕ × Bool)
as_constructors names = map (λ name. (name, true)) names

-- a scope inside another
abbrev pub inside : Names → Names → Names
inside more outer = record { values = more.values ++ outer.values; types = more.types ++ outer.types }

abbrev pub variables_only : List (List ℕ) → Names
variables_only names = record { values = as_variables names; types = [] }

-- the names that a pattern binds, in the order of the text; a name that is a constructor binds nothing
mutual
  pub data Binds (scope : Names) : Pat → List (List ℕ) → Type 0 where
    binds_name : {p : Pat} {name : List ℕ} → pat_name (form_of_pat p) ≡ Some name → is_constructor scope name ≡ false → Binds scope p (name ∷ [])
    binds_none : {p : Pat} {name : List ℕ} → pat_name (form_of_pat p) ≡ Some name → is_constructor scope name ≡ true → Binds scope p []
    binds_parts : {p : Pat} {names : List (List ℕ)} → pat_name (form_of_pat p) ≡ None → BindsAll scope (pat_parts (form_of_pat p)) names → Binds scope p names

  pub data BindsAll (scope : Names) : List Pat → List (List ℕ) → Type 0 where
    binds_end : BindsAll scope [] []
    binds_more : {p : Pat} {ps : List Pat} {names more : List (List ℕ)} → Binds scope p names → BindsAll scope ps more → BindsAll scope (p ∷ ps) (names ++ more)

abbrev pub first_parts : {A B : Type 0} → List (A × B) → List A
first_parts binds = map (λ bind. bind.0) binds

-- the bindings of `type` and of `datatype`
abbrev pub TypeBinding : Type 0
TypeBinding = List (List ℕ) × List ℕ × Ty

abbrev pub Constructors : Type 0
Constructors = List (List ℕ × Option Ty)

abbrev pub DatatypeBinding : Type 0
DatatypeBinding = List (List ℕ) × List ℕ × Constructors

abbrev pub type_names : List TypeBinding → List (List ℕ)
type_names binds = map (λ bind. bind.1) binds

abbrev pub datatype_names : List DatatypeBinding → List (List ℕ)
datatype_names binds = map (λ bind. bind.1) binds

abbrev pub constructor_names : List DatatypeBinding → List (List ℕ)
constructor_names [] = []
constructor_names (bind ∷ binds) = first_parts bind.2 ++ constructor_names binds

-- the names that a declaration adds to a scope
mutual
  pub data Adds : Names → Dec → Names → Type 0 where
    adds_val : {scope : Names} {d : Dec} {binds : List (Pat × Exp)} {names : List (List ℕ)} → form_of_dec d ≡ DecForm-F.Val binds → BindsAll scope (first_parts binds) names →
        Adds scope d (variables_only names)
    adds_rec : {scope : Names} {d : Dec} {binds : List (List ℕ × List Rule)} → form_of_dec d ≡ DecForm-F.ValRec binds → Adds scope d (variables_only (first_parts binds))
    adds_abbrev : {scope : Names} {d : Dec} {binds : List TypeBinding} → form_of_dec d ≡ DecForm-F.Abbrev binds → Adds scope d (record { values = []; types = type_names binds })
    adds_data : {scope : Names} {d : Dec} {binds : List DatatypeBinding} → form_of_dec d ≡ DecForm-F.DataDef binds →
        Adds scope d (record { values = as_constructors (constructor_names binds); types = datatype_names binds })
    adds_exn : {scope : Names} {d : Dec} {binds : Constructors} → form_of_dec d ≡ DecForm-F.ExnDef binds → Adds scope d (record { values = as_constructors (first_parts binds); types = [] })
    adds_local : {scope : Names} {d : Dec} {hidden shown : List Dec} {first second : Names} → form_of_dec d ≡ DecForm-F.Local hidden shown →
        AddsAll scope hidden first → AddsAll (inside first scope) shown second → Adds scope d second

  pub data AddsAll : Names → List Dec → Names → Type 0 where
    adds_nothing : {scope : Names} → AddsAll scope [] (record { values = []; types = [] })
    adds_more : {scope : Names} {d : Dec} {ds : List Dec} {first rest : Names} → Adds scope d first → AddsAll (inside first scope) ds rest → AddsAll scope (d ∷ ds) (inside rest first)

-- Names without a binding, with their places

-- in a type, with these type variables
pub data UnboundInType (scope : Names) (variables : List (List ℕ)) : Ty → ℕ → Type 0 where
  unbound_variable : {t : Ty} {name : List ℕ} → form_of_type t ≡ TyForm-F.Var name → has_name name variables ≡ false → UnboundInType scope variables t (type_start t)
  unbound_type : {t : Ty} {name : List ℕ} {arguments : List Ty} → form_of_type t ≡ TyForm-F.Con name arguments → has_name name scope.types ≡ false →
      UnboundInType scope variables t (type_name_place name t)
  in_type_part : {t u : Ty} {place : ℕ} → IsOneOf u (type_parts (form_of_type t)) → UnboundInType scope variables u place → UnboundInType scope variables t place

-- in a pattern: what is applied is a use
pub data UnboundInPat (scope : Names) : Pat → ℕ → Type 0 where
  unbound_constructor : {p q : Pat} {name : List ℕ} → form_of_pat p ≡ PatForm-F.Con name q → status name scope.values ≡ None → UnboundInPat scope p (pat_start p)
  in_pat_part : {p q : Pat} {place : ℕ} → IsOneOf q (pat_parts (form_of_pat p)) → UnboundInPat scope q place → UnboundInPat scope p place
  in_pat_type : {p : Pat} {t : Ty} {place : ℕ} → pat_type (form_of_pat p) ≡ Some t → UnboundInType scope [] t place → UnboundInPat scope p place

mutual
  pub data UnboundInExp : Names → Exp → ℕ → Type 0 where
    unbound_name : {scope : Names} {e : Exp} {name : List ℕ} → form_of_exp e ≡ ExpForm-F.Name name → status name scope.values ≡ None → UnboundInExp scope e (exp_start e)
    in_part : {scope : Names} {e d : Exp} {place : ℕ} → IsOneOf d (exp_parts (form_of_exp e)) → UnboundInExp scope d place → UnboundInExp scope e place
    in_rule : {scope : Names} {e : Exp} {r : Rule} {place : ℕ} → IsOneOf r (exp_rules (form_of_exp e)) → UnboundInRule scope r place → UnboundInExp scope e place
    in_constraint : {scope : Names} {e : Exp} {t : Ty} {place : ℕ} → exp_type (form_of_exp e) ≡ Some t → UnboundInType scope [] t place → UnboundInExp scope e place
    in_let : {scope : Names} {e : Exp} {ds : List Dec} {es : List Exp} {place : ℕ} → form_of_exp e ≡ ExpForm-F.Let ds es → UnboundInDecs scope ds place → UnboundInExp scope e place
    in_let_body : {scope : Names} {e d : Exp} {ds : List Dec} {es : List Exp} {more : Names} {place : ℕ} → form_of_exp e ≡ ExpForm-F.Let ds es → AddsAll scope ds more →
        IsOneOf d es → UnboundInExp (inside more scope) d place → UnboundInExp scope e place

  pub data UnboundInRule : Names → Rule → ℕ → Type 0 where
    in_pattern : {scope : Names} {r : Rule} {place : ℕ} → UnboundInPat scope (out-Rule r).pat place → UnboundInRule scope r place
    in_body : {scope : Names} {r : Rule} {names : List (List ℕ)} {place : ℕ} → Binds scope (out-Rule r).pat names → UnboundInExp (inside (variables_only names) scope) (out-Rule r).body place →
        UnboundInRule scope r place

  pub data UnboundInDec : Names → Dec → ℕ → Type 0 where
    in_val_pattern : {scope : Names} {d : Dec} {binds : List (Pat × Exp)} {bind : Pat × Exp} {place : ℕ} → form_of_dec d ≡ DecForm-F.Val binds → IsOneOf bind binds →
        UnboundInPat scope bind.0 place → UnboundInDec scope d place
    in_val : {scope : Names} {d : Dec} {binds : List (Pat × Exp)} {bind : Pat × Exp} {place : ℕ} → form_of_dec d ≡ DecForm-F.Val binds → IsOneOf bind binds →
        UnboundInExp scope bind.1 place → UnboundInDec scope d place
    in_function : {scope : Names} {d : Dec} {binds : List (List ℕ × List Rule)} {bind : List ℕ × List Rule} {r : Rule} {place : ℕ} → form_of_dec d ≡ DecForm-F.ValRec binds →
        IsOneOf bind binds → IsOneOf r bind.1 → UnboundInRule (inside (variables_only (first_parts binds)) scope) r place → UnboundInDec scope d place
    in_abbreviation : {scope : Names} {d : Dec} {binds : List TypeBinding} {bind : TypeBinding} {place : ℕ} → form_of_dec d ≡ DecForm-F.Abbrev binds → IsOneOf bind binds →
        UnboundInType scope bind.0 bind.2 place → UnboundInDec scope d place
    in_datatype : {scope : Names} {d : Dec} {binds : List DatatypeBinding} {bind : DatatypeBinding} {constructor : List ℕ × Option Ty} {t : Ty} {place : ℕ} →
        form_of_dec d ≡ DecForm-F.DataDef binds → IsOneOf bind binds → IsOneOf constructor bind.2 → constructor.1 ≡ Some t →
        UnboundInType (inside (record { values = []; types = datatype_names binds }) scope) bind.0 t place → UnboundInDec scope d place
    in_exception : {scope : Names} {d : Dec} {binds : Constructors} {constructor : List ℕ × Option Ty} {t : Ty} {place : ℕ} → form_of_dec d ≡ DecForm-F.ExnDef binds →
        IsOneOf constructor binds → constructor.1 ≡ Some t → UnboundInType scope [] t place → UnboundInDec scope d place
    in_hidden : {scope : Names} {d : Dec} {hidden shown : List Dec} {place : ℕ} → form_of_dec d ≡ DecForm-F.Local hidden shown → UnboundInDecs scope hidden place → UnboundInDec scope d place
    in_shown : {scope : Names} {d : Dec} {hidden shown : List Dec} {more : Names} {place : ℕ} → form_of_dec d ≡ DecForm-F.Local hidden shown → AddsAll scope hidden more →
        UnboundInDecs (inside more scope) shown place → UnboundInDec scope d place

  pub data UnboundInDecs : Names → List Dec → ℕ → Type 0 where
    in_first : {scope : Names} {d : Dec} {ds : List Dec} {place : ℕ} → UnboundInDec scope d place → UnboundInDecs scope (d ∷ ds) place
    in_rest : {scope : Names} {d : Dec} {ds : List Dec} {more : Names} {place : ℕ} → Adds scope d more → UnboundInDecs (inside more scope) ds place → UnboundInDecs scope (d ∷ ds) place

-- the scope of the basis
abbrev pub basis_names : Names
basis_names = record {
  values =
      map (λ (row : BasisConstructor). (row.name, true)) basis_constructors
      ++ map (λ (row : List ℕ × Option BasisScheme). (row.0, true)) basis_exceptions
      ++ map (λ (row : List ℕ × BasisScheme). (row.0, false)) basis_values;
  types = map (λ (row : BasisType). row.name) basis_types;
}

-- something at this place of the program has no binding
abbrev pub IsUnbound : Program → ℕ → Type 0
IsUnbound program place = UnboundInDecs basis_names program.items place

-- all has a binding
abbrev pub AllBound : Program → Type 0
AllBound program = (place : ℕ) → IsUnbound program place → ⊥

-- the first place where something has no binding
pub record IsFirstUnbound (program : Program) (place : ℕ) : Type 0 where
  pub is_unbound : IsUnbound program place
  pub least : (other : ℕ) → IsUnbound program other → place ≤ other
