-- The lack `NestedType`: inside a datatype declaration each name that it declares stands applied to exactly the variables,
-- by name and in order, that its own binding names.
use Rattle.std.specs.Prelude.{ℕ, zero, suc, List, [], ◌∷◌, ◌++◌, Option, Some, None, Bool, true, false, cond, ◌&&◌}
use Rattle.std.specs.Str.{bytes_eq}
use Rattle.sml_syntax.specs.declared.token.Lack.{Lack}
use Rattle.sml_syntax.specs.declared.token.Lack.TheVariants as l
use Rattle.sml_syntax.specs.declared.tree.Ty.{Ty, out-Ty}
use Rattle.sml_syntax.specs.declared.tree.TyForm.{TyForm, out-TyForm}
use Rattle.sml_syntax.specs.declared.tree.TyForm.TheOpen.{TyForm-F}

abbrev pub Found : Type 0
Found = ℕ × Lack

-- the types of a declaration: variables, name and constructors of each
abbrev pub Datatypes : Type 0
Datatypes = List (List (List ℕ) × List ℕ × List (List ℕ × Option Ty))

abbrev pub TyLayer : Type 0
TyLayer = TyForm-F TyForm Ty

-- the form of a type
abbrev pub form_of_ty : Ty → TyLayer
form_of_ty t = out-TyForm (out-Ty t).form

-- the variables that a type's own binding names, the first one of that name
abbrev pub own_variables : List ℕ → Datatypes → Option (List (List ℕ))
own_variables name [] = None
own_variables name (bind ∷ binds) = cond (bytes_eq bind.1 name) (Some bind.0) (own_variables name binds)

abbrev pub is_variable : List ℕ → TyLayer → Bool
is_variable name (TyForm-F.Var found) = bytes_eq found name
is_variable name _ = false

-- the arguments are these variables
abbrev pub are_variables : List (List ℕ) → List Ty → Bool
are_variables [] [] = true
are_variables (name ∷ names) (t ∷ ts) = is_variable name (form_of_ty t) && are_variables names ts
are_variables _ _ = false

-- an applied name: where the declaration has a type of that name, its arguments must be its variables
abbrev pub nested_here : ℕ → List Ty → Option (List (List ℕ)) → List Found
nested_here place arguments None = []
nested_here place arguments (Some names) = cond (are_variables names arguments) [] ((place, l.NestedType) ∷ [])

abbrev pub for_each : (Ty → List Found) → List Ty → List Found
for_each part [] = []
for_each part (t ∷ ts) = part t ++ for_each part ts

-- the lacks of a type by its form, its parts by `part`
abbrev pub nested_in_form : Datatypes → (Ty → List Found) → ℕ → TyLayer → List Found
nested_in_form own part place (TyForm-F.Var name) = []
nested_in_form own part place (TyForm-F.Con name arguments) = nested_here place arguments (own_variables name own) ++ for_each part arguments
nested_in_form own part place (TyForm-F.Tuple ts) = for_each part ts
nested_in_form own part place (TyForm-F.Arrow from to) = part from ++ part to

-- the lacks of a type down to a depth
abbrev pub nested_in_type : ℕ → Datatypes → Ty → List Found
nested_in_type zero own t = []
nested_in_type (suc depth) own t = nested_in_form own (nested_in_type depth own) (out-Ty t).span.from (form_of_ty t)

abbrev pub nested_in_argument : ℕ → Datatypes → Option Ty → List Found
nested_in_argument depth own None = []
nested_in_argument depth own (Some t) = nested_in_type depth own t

abbrev pub nested_in_constructors : ℕ → Datatypes → List (List ℕ × Option Ty) → List Found
nested_in_constructors depth own [] = []
nested_in_constructors depth own (con ∷ cons) = nested_in_argument depth own con.1 ++ nested_in_constructors depth own cons

abbrev pub nested_in_bindings : ℕ → Datatypes → Datatypes → List Found
nested_in_bindings depth own [] = []
nested_in_bindings depth own (bind ∷ binds) = nested_in_constructors depth own bind.2 ++ nested_in_bindings depth own binds
