-- The basis with its types spelt by steps: each step is a letter, which takes types from those before it. Of this project.
use Rattle.std.specs.Prelude.{ℕ, ◌+◌, Bool, true, false, List, [], ◌∷◌, ◌++◌, map, Option, Some, None, codes, take, drop}
use Rattle.type_terms.specs.TypeTerms.{place, plain, open_made, Schemes, no_schemes, schemes}
use Rattle.basis_table.specs.BasisTable.{TypeName, Basis, Arrow, Tuple, Declared, BasisType, BasisScheme, BasisConstructor, basis_constructors, basis_exceptions, basis_values, exn_type, function_of}
use Rattle.hm_types.specs.Classes.{equality_by}
use Rattle.hm_types.specs.declared.node.Equality.{Equality}

-- the letters of the types of the basis, in their order
abbrev pub basis_letters : List ℕ
basis_letters = codes "icsxublpofrthk"

-- the step that makes a type of a name
abbrev pub step_of : TypeName → List ℕ
step_of (Basis i) = take 1 (drop i basis_letters)
step_of Arrow = codes ">"
step_of (Tuple n) = (48 + n) ∷ []
step_of (Declared n) = []

-- the step that makes a variable
abbrev pub variable_step : Bool → ℕ → List ℕ
variable_step true n = codes "E"
variable_step false n = (65 + n) ∷ []

abbrev mutual
  pub spelling : BasisScheme → List ℕ
  spelling (place equality n) = variable_step equality n
  spelling (plain t) = []
  spelling (open_made f ss) = spellings ss ++ step_of f

  pub spellings : Schemes TypeName → List ℕ
  spellings no_schemes = []
  spellings (schemes s ss) = spelling s ++ spellings ss

-- a name with the spelling of its type
abbrev pub Row : Type 0
Row = List ℕ × List ℕ

abbrev pub value_row : List ℕ × BasisScheme → Row
value_row (name, s) = (name, spelling s)

-- the values
abbrev pub value_rows : List Row
value_rows = map value_row basis_values

abbrev pub constant_row : List ℕ → Option BasisScheme → BasisScheme → List Row
constant_row name None result = (name, spelling result) ∷ []
constant_row name (Some argument) result = []

abbrev pub applied_row : List ℕ → Option BasisScheme → BasisScheme → List Row
applied_row name None result = []
applied_row name (Some argument) result = (name, spelling (function_of argument result)) ∷ []

-- the rows of the constructors, datatype by datatype, and of the exceptions
abbrev pub constructor_rows : (List ℕ → Option BasisScheme → BasisScheme → List Row) → List BasisConstructor → List Row
constructor_rows row [] = []
constructor_rows row (c ∷ cs) = row c.name c.argument c.result ++ constructor_rows row cs

abbrev pub exception_rows : (List ℕ → Option BasisScheme → BasisScheme → List Row) → List (List ℕ × Option BasisScheme) → List Row
exception_rows row [] = []
exception_rows row (e ∷ es) = row e.0 e.1 exn_type ++ exception_rows row es

-- those without argument
abbrev pub constant_rows : List Row
constant_rows = constructor_rows constant_row basis_constructors ++ exception_rows constant_row basis_exceptions

-- those with an argument
abbrev pub applied_rows : List Row
applied_rows = constructor_rows applied_row basis_constructors ++ exception_rows applied_row basis_exceptions

abbrev pub type_row : List ℕ → ℕ → Equality → BasisType
type_row name arity equality = record { name = name; arity = arity; equality = equality_by equality }
