-- Types with places, as data of the definitions: the twin of `RTy`. Tofte and Talpin's region calculus, types and places.
use Rattle.std.specs.Prelude.{ℕ, List, [], ◌∷◌}
use Rattle.region_syntax.specs.declared.types.Place.{Place}
use Rattle.region_syntax.specs.declared.types.Effect.{Effect}
use Rattle.region_syntax.specs.declared.types.RTy.{RTy}
use Rattle.region_syntax.specs.declared.types.RTy.TheOpen.{RTy-F}
use Rattle.region_syntax.specs.declared.types.RTy.TheFolds.{fold-RTy}
use Rattle.region_syntax.specs.GroundTypes as g
use Rattle.region_syntax.specs.GroundTypes.{GroundType, GroundTypes, ground_type}

mutual
  pub data RegionType : Type 0 where
    Int Char Unit : RegionType
    Str : Place → RegionType
    Tuple : Place → RegionTypes → RegionType
    Arrow : Place → RegionType → Effect → RegionType → RegionType
    -- a datatype by its number, its arguments, the place of its values, and the effect of the functions that its declaration names
    Data : ℕ → RegionTypes → Place → Effect → RegionType
    Ref : Place → RegionType → RegionType
    Exn : RegionType
    Cache : Place → GroundType → GroundType → RegionType
    Desc : GroundType → RegionType

  pub data RegionTypes : Type 0 where
    no_types : RegionTypes
    types : RegionType → RegionTypes → RegionTypes

abbrev pub types_of : List RegionType → RegionTypes
types_of [] = no_types
types_of (t ∷ ts) = types t (types_of ts)

abbrev pub region_layer : RTy-F RegionType → RegionType
region_layer RTy-F.Int = Int
region_layer RTy-F.Char = Char
region_layer RTy-F.Unit = Unit
region_layer (RTy-F.Str p) = Str p
region_layer (RTy-F.Tuple p ts) = Tuple p (types_of ts)
region_layer (RTy-F.Arrow p a effect b) = Arrow p a effect b
region_layer (RTy-F.DataTy number ts p effect) = Data number (types_of ts) p effect
region_layer (RTy-F.Ref p a) = Ref p a
region_layer RTy-F.Exn = Exn
region_layer (RTy-F.CacheTy p key value) = Cache p (ground_type key) (ground_type value)
region_layer (RTy-F.DescTy a) = Desc (ground_type a)

-- the type that a tree is
unfoldable pub region_type : RTy → RegionType
region_type = fold-RTy RegionType region_layer

-- The type without its places and effects.
unfoldable mutual
  pub erased_type : RegionType → GroundType
  erased_type Int = g.Int
  erased_type Char = g.Char
  erased_type Unit = g.Unit
  erased_type (Str p) = g.Str
  erased_type (Tuple p ts) = g.Tuple (erased_types ts)
  erased_type (Arrow p a effect b) = g.Arrow (erased_type a) (erased_type b)
  erased_type (Data number ts p effect) = g.Data number (erased_types ts)
  erased_type (Ref p a) = g.Ref (erased_type a)
  erased_type Exn = g.Exn
  erased_type (Cache p key value) = g.Cache key value
  erased_type (Desc a) = g.Desc a

  pub erased_types : RegionTypes → GroundTypes
  erased_types no_types = g.no_types
  erased_types (types t ts) = g.types (erased_type t) (erased_types ts)
