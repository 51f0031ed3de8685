-- What the type names of a table stand for: how many arguments each takes, and its equality. Of this project; the types are
-- those of the basis, and the equality of type names that of the Definition of Standard ML, section 4.4.
use Rattle.std.specs.Prelude.{◌≡◌, ℕ, ◌<◌, ◌-◌, List, ◌∷◌, ◌++◌, length, map, get_or, Option, Some, None, slice_get, option_map}
use Rattle.std.specs.List.{range_with_len}
use Rattle.type_terms.specs.TypeTerms.{NameEquality, NeverEqual, PartsEqual}
use Rattle.basis_table.specs.BasisTable.{basis_types}
use Rattle.hm_types.specs.Classes.{equality_by, name_at}
use Rattle.hm_types.specs.declared.node.TypeName.{TypeName}
use Rattle.hm_scheme.specs.declared.type_name.TyName.{TyName}
use Rattle.hm_scheme.specs.declared.type_name.TyName.TheVariants.{Basis, Arrow, Tuple, Declared}

-- how many arguments it takes; that of a datatype is told by its declaration alone
abbrev pub told_arity : TyName → Option ℕ
told_arity (Basis i) = option_map (λ row. row.arity) (slice_get basis_types i)
told_arity Arrow = Some 2
told_arity (Tuple n) = Some n
told_arity (Declared n) = None

-- its equality
abbrev pub told_equality : TyName → Option NameEquality
told_equality (Basis i) = option_map (λ row. row.equality) (slice_get basis_types i)
told_equality Arrow = Some NeverEqual
told_equality (Tuple n) = Some PartsEqual
told_equality (Declared n) = None

-- a name of a table is as what it stands for tells
abbrev pub Tells : TyName → TypeName → Type 0
Tells n f = ((arity : ℕ) → told_arity n ≡ Some arity → f.arity ≡ arity) × ((equality : NameEquality) → told_equality n ≡ Some equality → equality_by f.equality ≡ equality)

-- each name of a table
abbrev pub AllTell : List TyName → List TypeName → Type 0
AllTell ns fs = (length ns ≡ length fs) × ((i : ℕ) → i < length ns → Tells (get_or ns i Arrow) (name_at fs i))

-- the names that a table starts with, for tuples of up to so many parts
abbrev pub start_names : ℕ → List TyName
start_names widest = map Basis (range_with_len 0 14) ++ Arrow ∷ map Tuple (range_with_len 2 (widest - 1))
