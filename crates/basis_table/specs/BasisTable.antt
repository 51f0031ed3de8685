-- The basis: its types, constructors, exceptions and values, each with its type scheme.
-- The Definition of Standard ML, appendix C, and the Standard ML Basis Library; `Web` is of this project.
use Rattle.std.specs.Prelude.{ℕ, ◌+◌, Bool, true, false, List, [], ◌∷◌, Option, Some, None, codes}
use Rattle.type_terms.specs.TypeTerms.{Scheme, place, open_made, Schemes, no_schemes, schemes, NameEquality, NeverEqual, AlwaysEqual, PartsEqual}

-- what a type name stands for: a type of the basis by its place in the table, functions, tuples of so many parts, and the datatypes
-- that are declared, by their numbers in the order of the text
pub data TypeName : Type 0 where
  Basis : ℕ → TypeName
  Arrow : TypeName
  Tuple : ℕ → TypeName
  Declared : ℕ → TypeName

-- a type of the basis: its name, how many arguments it takes, and its equality
pub record BasisType : Type 0 where
  pub name : List ℕ
  pub arity : ℕ
  pub equality : NameEquality

abbrev pub basis_type : List ℕ → ℕ → NameEquality → BasisType
basis_type name arity equality = record { name = name; arity = arity; equality = equality }

-- the types, in their order
abbrev pub basis_types : List BasisType
basis_types =
    basis_type (codes "int") 0 PartsEqual
    ∷ basis_type (codes "char") 0 PartsEqual
    ∷ basis_type (codes "string") 0 PartsEqual
    ∷ basis_type (codes "exn") 0 NeverEqual
    ∷ basis_type (codes "unit") 0 PartsEqual
    ∷ basis_type (codes "bool") 0 PartsEqual
    ∷ basis_type (codes "list") 1 PartsEqual
    ∷ basis_type (codes "option") 1 PartsEqual
    ∷ basis_type (codes "order") 0 PartsEqual
    ∷ basis_type (codes "frag") 1 PartsEqual
    ∷ basis_type (codes "ref") 1 AlwaysEqual
    ∷ basis_type (codes "Web.Cache.ty") 1 NeverEqual
    ∷ basis_type (codes "Web.Cache.cache") 2 NeverEqual
    ∷ basis_type (codes "Web.Cache.kind") 0 NeverEqual
    ∷ []

abbrev pub BasisScheme : Type 0
BasisScheme = Scheme TypeName

unfoldable pub scheme_list : List BasisScheme → Schemes TypeName
scheme_list [] = no_schemes
scheme_list (s ∷ ss) = schemes s (scheme_list ss)

abbrev pub basis_name : ℕ → List BasisScheme → BasisScheme
basis_name number parts = open_made (Basis number) (scheme_list parts)

abbrev pub int_type : BasisScheme
int_type = basis_name 0 []

abbrev pub char_type : BasisScheme
char_type = basis_name 1 []

abbrev pub string_type : BasisScheme
string_type = basis_name 2 []

abbrev pub exn_type : BasisScheme
exn_type = basis_name 3 []

abbrev pub unit_type : BasisScheme
unit_type = basis_name 4 []

abbrev pub bool_type : BasisScheme
bool_type = basis_name 5 []

abbrev pub order_type : BasisScheme
order_type = basis_name 8 []

abbrev pub kind_type : BasisScheme
kind_type = basis_name 13 []

abbrev pub list_of : BasisScheme → BasisScheme
list_of s = basis_name 6 (s ∷ [])

abbrev pub option_of : BasisScheme → BasisScheme
option_of s = basis_name 7 (s ∷ [])

abbrev pub frag_of : BasisScheme → BasisScheme
frag_of s = basis_name 9 (s ∷ [])

abbrev pub ref_of : BasisScheme → BasisScheme
ref_of s = basis_name 10 (s ∷ [])

abbrev pub ty_of : BasisScheme → BasisScheme
ty_of s = basis_name 11 (s ∷ [])

abbrev pub cache_of : BasisScheme → BasisScheme → BasisScheme
cache_of key value = basis_name 12 (key ∷ value ∷ [])

abbrev pub function_of : BasisScheme → BasisScheme → BasisScheme
function_of from to = open_made Arrow (scheme_list (from ∷ to ∷ []))

unfoldable pub length_of : List BasisScheme → ℕ
length_of [] = 0
length_of (s ∷ ss) = 1 + length_of ss

abbrev pub tuple_of : List BasisScheme → BasisScheme
tuple_of parts = open_made (Tuple (length_of parts)) (scheme_list parts)

-- the type variables of the table
abbrev pub a : BasisScheme
a = place false 0

abbrev pub b : BasisScheme
b = place false 1

abbrev pub c : BasisScheme
c = place false 2

-- one that stands for types with equality
abbrev pub equal_a : BasisScheme
equal_a = place true 0

-- a constructor of the basis: its name, the type of its argument, if any, and its datatype
pub record BasisConstructor : Type 0 where
  pub name : List ℕ
  pub argument : Option BasisScheme
  pub result : BasisScheme

abbrev pub basis_constructor : List ℕ → Option BasisScheme → BasisScheme → BasisConstructor
basis_constructor name argument result = record { name = name; argument = argument; result = result }

-- the constructors, the datatypes in their order; `ref` is one too
abbrev pub basis_constructors : List BasisConstructor
basis_constructors =
    basis_constructor (codes "false") None bool_type
    ∷ basis_constructor (codes "true") None bool_type
    ∷ basis_constructor (codes "nil") None (list_of a)
    ∷ basis_constructor (codes "::") (Some (tuple_of (a ∷ (list_of a) ∷ []))) (list_of a)
    ∷ basis_constructor (codes "NONE") None (option_of a)
    ∷ basis_constructor (codes "SOME") (Some a) (option_of a)
    ∷ basis_constructor (codes "LESS") None order_type
    ∷ basis_constructor (codes "EQUAL") None order_type
    ∷ basis_constructor (codes "GREATER") None order_type
    ∷ basis_constructor (codes "QUOTE") (Some string_type) (frag_of a)
    ∷ basis_constructor (codes "ANTIQUOTE") (Some a) (frag_of a)
    ∷ basis_constructor (codes "Web.Cache.WhileUsed") (Some (tuple_of ((option_of int_type) ∷ (option_of int_type) ∷ []))) kind_type
    ∷ basis_constructor (codes "Web.Cache.TimeOut") (Some (tuple_of ((option_of int_type) ∷ (option_of int_type) ∷ []))) kind_type
    ∷ basis_constructor (codes "ref") (Some a) (ref_of a)
    ∷ []

-- the exceptions by their numbers: name and the type of the argument, if any
abbrev pub basis_exceptions : List (List ℕ × Option BasisScheme)
basis_exceptions =
    (codes "Match", None)
    ∷ (codes "Bind", None)
    ∷ (codes "Div", None)
    ∷ (codes "Overflow", None)
    ∷ (codes "Subscript", None)
    ∷ (codes "Chr", None)
    ∷ (codes "Empty", None)
    ∷ (codes "Option", None)
    ∷ (codes "Fail", Some string_type)
    ∷ []

-- the values by their rows: name and type
abbrev pub basis_values : List (List ℕ × BasisScheme)
basis_values =
    (codes "+", function_of (tuple_of (int_type ∷ int_type ∷ [])) int_type)
    ∷ (codes "-", function_of (tuple_of (int_type ∷ int_type ∷ [])) int_type)
    ∷ (codes "*", function_of (tuple_of (int_type ∷ int_type ∷ [])) int_type)
    ∷ (codes "div", function_of (tuple_of (int_type ∷ int_type ∷ [])) int_type)
    ∷ (codes "mod", function_of (tuple_of (int_type ∷ int_type ∷ [])) int_type)
    ∷ (codes "~", function_of int_type int_type)
    ∷ (codes "<", function_of (tuple_of (int_type ∷ int_type ∷ [])) bool_type)
    ∷ (codes "<=", function_of (tuple_of (int_type ∷ int_type ∷ [])) bool_type)
    ∷ (codes ">", function_of (tuple_of (int_type ∷ int_type ∷ [])) bool_type)
    ∷ (codes ">=", function_of (tuple_of (int_type ∷ int_type ∷ [])) bool_type)
    ∷ (codes "=", function_of (tuple_of (equal_a ∷ equal_a ∷ [])) bool_type)
    ∷ (codes "<>", function_of (tuple_of (equal_a ∷ equal_a ∷ [])) bool_type)
    ∷ (codes "^", function_of (tuple_of (string_type ∷ string_type ∷ [])) string_type)
    ∷ (codes "ref", function_of a (ref_of a))
    ∷ (codes "!", function_of (ref_of a) a)
    ∷ (codes ":=", function_of (tuple_of ((ref_of a) ∷ a ∷ [])) unit_type)
    ∷ (codes "ord", function_of char_type int_type)
    ∷ (codes "chr", function_of int_type char_type)
    ∷ (codes "size", function_of string_type int_type)
    ∷ (codes "str", function_of char_type string_type)
    ∷ (codes "String.sub", function_of (tuple_of (string_type ∷ int_type ∷ [])) char_type)
    ∷ (codes "substring", function_of (tuple_of (string_type ∷ int_type ∷ int_type ∷ [])) string_type)
    ∷ (codes "concat", function_of (list_of string_type) string_type)
    ∷ (codes "String.compare", function_of (tuple_of (string_type ∷ string_type ∷ [])) order_type)
    ∷ (codes "Int.toString", function_of int_type string_type)
    ∷ (codes "Int.fromString", function_of string_type (option_of int_type))
    ∷ (codes "Web.write", function_of string_type unit_type)
    ∷ (codes "Web.setType", function_of string_type unit_type)
    ∷ (codes "Web.setStatus", function_of int_type unit_type)
    ∷ (codes "Web.formvar", function_of string_type (option_of string_type))
    ∷ (codes "Web.formvars", function_of string_type (list_of string_type))
    ∷ (codes "Web.Cache.Int", ty_of int_type)
    ∷ (codes "Web.Cache.Bool", ty_of bool_type)
    ∷ (codes "Web.Cache.Char", ty_of char_type)
    ∷ (codes "Web.Cache.String", ty_of string_type)
    ∷ (codes "Web.Cache.Unit", ty_of unit_type)
    ∷ (codes "Web.Cache.Pair", function_of (ty_of a) (function_of (ty_of b) (ty_of (tuple_of (a ∷ b ∷ [])))))
    ∷ (codes "Web.Cache.Triple", function_of (ty_of a) (function_of (ty_of b) (function_of (ty_of c) (ty_of (tuple_of (a ∷ b ∷ c ∷ []))))))
    ∷ (codes "Web.Cache.Option", function_of (ty_of a) (ty_of (option_of a)))
    ∷ (codes "Web.Cache.List", function_of (ty_of a) (ty_of (list_of a)))
    ∷ (codes "Web.Cache.get", function_of (tuple_of ((ty_of a) ∷ (ty_of b) ∷ string_type ∷ kind_type ∷ [])) (cache_of a b))
    ∷ (codes "Web.Cache.lookup", function_of (cache_of a b) (function_of a (option_of b)))
    ∷ (codes "Web.Cache.insert", function_of (tuple_of ((cache_of a b) ∷ a ∷ b ∷ [])) bool_type)
    ∷ (codes "Web.Cache.flush", function_of (cache_of a b) unit_type)
    ∷ (codes "Web.Db.dml", function_of (tuple_of (string_type ∷ (list_of (frag_of string_type)) ∷ [])) unit_type)
    ∷ (codes "Web.Db.rows", function_of (tuple_of (string_type ∷ (list_of (frag_of string_type)) ∷ [])) (list_of (list_of string_type)))
    ∷ []
