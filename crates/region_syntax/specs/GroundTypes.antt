-- Types without variables, as data of the definitions: the twin of `MTy`, over which functions compute.
use Rattle.std.specs.Prelude.{ℕ, zero, suc, List, [], ◌∷◌, Option, Some, None}
use Rattle.region_syntax.specs.declared.types.MTy.{MTy}
use Rattle.region_syntax.specs.declared.types.MTy.TheOpen.{MTy-F}
use Rattle.region_syntax.specs.declared.types.MTy.TheFolds.{fold-MTy}

mutual
  pub data GroundType : Type 0 where
    Int Char Str Unit Exn : GroundType
    Tuple : GroundTypes → GroundType
    Arrow : GroundType → GroundType → GroundType
    -- a datatype by its number, and its arguments
    Data : ℕ → GroundTypes → GroundType
    Ref : GroundType → GroundType
    Cache : GroundType → GroundType → GroundType
    Desc : GroundType → GroundType
    -- a parameter of the datatype around it
    Var : ℕ → GroundType

  pub data GroundTypes : Type 0 where
    no_types : GroundTypes
    types : GroundType → GroundTypes → GroundTypes

abbrev pub types_of : List GroundType → GroundTypes
types_of [] = no_types
types_of (t ∷ ts) = types t (types_of ts)

abbrev pub ground_layer : MTy-F GroundType → GroundType
ground_layer MTy-F.Int = Int
ground_layer MTy-F.Char = Char
ground_layer MTy-F.Str = Str
ground_layer MTy-F.Unit = Unit
ground_layer MTy-F.Exn = Exn
ground_layer (MTy-F.Tuple ts) = Tuple (types_of ts)
ground_layer (MTy-F.Arrow a b) = Arrow a b
ground_layer (MTy-F.DataTy number ts) = Data number (types_of ts)
ground_layer (MTy-F.Ref a) = Ref a
ground_layer (MTy-F.CacheTy key value) = Cache key value
ground_layer (MTy-F.DescTy a) = Desc a
ground_layer (MTy-F.Var number) = Var number

-- the type that a tree is
unfoldable pub ground_type : MTy → GroundType
ground_type = fold-MTy GroundType ground_layer

unfoldable pub many_types : GroundTypes → ℕ
many_types no_types = 0
many_types (types x xs) = suc (many_types xs)

abbrev pub type_among : ℕ → GroundTypes → Option GroundType
type_among n no_types = None
type_among zero (types a ts) = Some a
type_among (suc n) (types a ts) = type_among n ts

abbrev pub type_or : GroundType → Option GroundType → GroundType
type_or a None = a
type_or a (Some other) = other

-- a type with these in the place of a datatype's parameters
abbrev mutual
  pub with_types : GroundTypes → GroundType → GroundType
  with_types ts Int = Int
  with_types ts Char = Char
  with_types ts Str = Str
  with_types ts Unit = Unit
  with_types ts Exn = Exn
  with_types ts (Tuple us) = Tuple (each_with_types ts us)
  with_types ts (Arrow x y) = Arrow (with_types ts x) (with_types ts y)
  with_types ts (Data n us) = Data n (each_with_types ts us)
  with_types ts (Ref x) = Ref (with_types ts x)
  with_types ts (Cache x y) = Cache (with_types ts x) (with_types ts y)
  with_types ts (Desc x) = Desc (with_types ts x)
  with_types ts (Var n) = type_or (Var n) (type_among n ts)

  pub each_with_types : GroundTypes → GroundTypes → GroundTypes
  each_with_types ts no_types = no_types
  each_with_types ts (types x us) = types (with_types ts x) (each_with_types ts us)
