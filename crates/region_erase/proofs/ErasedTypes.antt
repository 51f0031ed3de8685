-- The erasure of types, form by form.
use Rattle.std.proofs.Common.{◌≡◌, ℕ, List, [], ◌∷◌, map, ap, ap₂, sym, ◌∙◌, refl}
use Rattle.region_syntax.specs.declared.types.Place.{Place}
use Rattle.region_syntax.specs.declared.types.Effect.{Effect}
use Rattle.region_syntax.specs.declared.types.MTy.{MTy}
use Rattle.region_syntax.specs.declared.types.MTy.TheOpen.{MTy-F}
use Rattle.region_syntax.specs.declared.types.MTy.TheFolds.{fold-roll-MTy}
use Rattle.region_syntax.specs.declared.types.MTy.TheVariants as v
use Rattle.region_syntax.specs.declared.types.RTy.{RTy}
use Rattle.region_syntax.specs.declared.types.RTy.TheOpen.{RTy-F}
use Rattle.region_syntax.specs.declared.types.RTy.TheFolds.{fold-roll-RTy}
use Rattle.region_syntax.specs.declared.types.RTy.TheVariants as x
use Rattle.region_syntax.specs.GroundTypes as g
use Rattle.region_syntax.specs.GroundTypes.{GroundType, ground_type, ground_layer}
use Rattle.region_syntax.specs.RegionTypes as r
use Rattle.region_syntax.specs.RegionTypes.{RegionType, region_type, region_layer, erased_type, erased_types}
use Rattle.region_syntax.specs.Erasure.{type_erasure}

-- the twins of the variants
ground_int : ground_type v.Int ≡ g.Int
unfolding ground_type
ground_int = ap ground_type (sym v.rolls-Int) ∙ fold-roll-MTy GroundType ground_layer MTy-F.Int

region_int : region_type x.Int ≡ r.Int
unfolding region_type
region_int = ap region_type (sym x.rolls-Int) ∙ fold-roll-RTy RegionType region_layer RTy-F.Int

ground_char : ground_type v.Char ≡ g.Char
unfolding ground_type
ground_char = ap ground_type (sym v.rolls-Char) ∙ fold-roll-MTy GroundType ground_layer MTy-F.Char

region_char : region_type x.Char ≡ r.Char
unfolding region_type
region_char = ap region_type (sym x.rolls-Char) ∙ fold-roll-RTy RegionType region_layer RTy-F.Char

ground_unit : ground_type v.Unit ≡ g.Unit
unfolding ground_type
ground_unit = ap ground_type (sym v.rolls-Unit) ∙ fold-roll-MTy GroundType ground_layer MTy-F.Unit

region_unit : region_type x.Unit ≡ r.Unit
unfolding region_type
region_unit = ap region_type (sym x.rolls-Unit) ∙ fold-roll-RTy RegionType region_layer RTy-F.Unit

ground_str : ground_type v.Str ≡ g.Str
unfolding ground_type
ground_str = ap ground_type (sym v.rolls-Str) ∙ fold-roll-MTy GroundType ground_layer MTy-F.Str

region_str : (p : Place) → region_type (x.Str p) ≡ r.Str p
unfolding region_type
region_str p = ap region_type (sym (x.rolls-Str p)) ∙ fold-roll-RTy RegionType region_layer (RTy-F.Str p)

ground_tuple : (us : List MTy) → ground_type (v.Tuple us) ≡ g.Tuple (g.types_of (map ground_type us))
unfolding ground_type
ground_tuple us = ap ground_type (sym (v.rolls-Tuple us)) ∙ fold-roll-MTy GroundType ground_layer (MTy-F.Tuple us)

region_tuple : (p : Place) (ts : List RTy) → region_type (x.Tuple p ts) ≡ r.Tuple p (r.types_of (map region_type ts))
unfolding region_type
region_tuple p ts = ap region_type (sym (x.rolls-Tuple p ts)) ∙ fold-roll-RTy RegionType region_layer (RTy-F.Tuple p ts)

ground_arrow : (c d : MTy) → ground_type (v.Arrow c d) ≡ g.Arrow (ground_type c) (ground_type d)
unfolding ground_type
ground_arrow c d = ap ground_type (sym (v.rolls-Arrow c d)) ∙ fold-roll-MTy GroundType ground_layer (MTy-F.Arrow c d)

region_arrow : (p : Place) (a : RTy) (f : Effect) (b : RTy) → region_type (x.Arrow p a f b) ≡ r.Arrow p (region_type a) f (region_type b)
unfolding region_type
region_arrow p a f b = ap region_type (sym (x.rolls-Arrow p a f b)) ∙ fold-roll-RTy RegionType region_layer (RTy-F.Arrow p a f b)

ground_dataty : (n : ℕ) (us : List MTy) → ground_type (v.DataTy n us) ≡ g.Data n (g.types_of (map ground_type us))
unfolding ground_type
ground_dataty n us = ap ground_type (sym (v.rolls-DataTy n us)) ∙ fold-roll-MTy GroundType ground_layer (MTy-F.DataTy n us)

region_dataty : (n : ℕ) (ts : List RTy) (p : Place) (f : Effect) → region_type (x.DataTy n ts p f) ≡ r.Data n (r.types_of (map region_type ts)) p f
unfolding region_type
region_dataty n ts p f = ap region_type (sym (x.rolls-DataTy n ts p f)) ∙ fold-roll-RTy RegionType region_layer (RTy-F.DataTy n ts p f)

ground_ref : (c : MTy) → ground_type (v.Ref c) ≡ g.Ref (ground_type c)
unfolding ground_type
ground_ref c = ap ground_type (sym (v.rolls-Ref c)) ∙ fold-roll-MTy GroundType ground_layer (MTy-F.Ref c)

region_ref : (p : Place) (a : RTy) → region_type (x.Ref p a) ≡ r.Ref p (region_type a)
unfolding region_type
region_ref p a = ap region_type (sym (x.rolls-Ref p a)) ∙ fold-roll-RTy RegionType region_layer (RTy-F.Ref p a)

ground_exn : ground_type v.Exn ≡ g.Exn
unfolding ground_type
ground_exn = ap ground_type (sym v.rolls-Exn) ∙ fold-roll-MTy GroundType ground_layer MTy-F.Exn

region_exn : region_type x.Exn ≡ r.Exn
unfolding region_type
region_exn = ap region_type (sym x.rolls-Exn) ∙ fold-roll-RTy RegionType region_layer RTy-F.Exn

ground_cachety : (k w : MTy) → ground_type (v.CacheTy k w) ≡ g.Cache (ground_type k) (ground_type w)
unfolding ground_type
ground_cachety k w = ap ground_type (sym (v.rolls-CacheTy k w)) ∙ fold-roll-MTy GroundType ground_layer (MTy-F.CacheTy k w)

region_cachety : (p : Place) (k w : MTy) → region_type (x.CacheTy p k w) ≡ r.Cache p (ground_type k) (ground_type w)
unfolding region_type
region_cachety p k w = ap region_type (sym (x.rolls-CacheTy p k w)) ∙ fold-roll-RTy RegionType region_layer (RTy-F.CacheTy p k w)

ground_descty : (k : MTy) → ground_type (v.DescTy k) ≡ g.Desc (ground_type k)
unfolding ground_type
ground_descty k = ap ground_type (sym (v.rolls-DescTy k)) ∙ fold-roll-MTy GroundType ground_layer (MTy-F.DescTy k)

region_descty : (k : MTy) → region_type (x.DescTy k) ≡ r.Desc (ground_type k)
unfolding region_type
region_descty k = ap region_type (sym (x.rolls-DescTy k)) ∙ fold-roll-RTy RegionType region_layer (RTy-F.DescTy k)

erased_list : (ts : List RTy) → erased_types (r.types_of (map region_type ts)) ≡ g.types_of (map type_erasure ts)
unfolding type_erasure erased_type
erased_list [] = refl
erased_list (t ∷ ts) = ap (g.types (erased_type (region_type t))) (erased_list ts)

-- what erasure gives, form by form
pub int_type_erased : (t : RTy) → t ≡ x.Int → ground_type v.Int ≡ type_erasure t
unfolding type_erasure erased_type
int_type_erased t h = ground_int ∙ sym (ap (λ z. erased_type (region_type z)) h ∙ ap (λ z. erased_type z) (region_int))

pub char_type_erased : (t : RTy) → t ≡ x.Char → ground_type v.Char ≡ type_erasure t
unfolding type_erasure erased_type
char_type_erased t h = ground_char ∙ sym (ap (λ z. erased_type (region_type z)) h ∙ ap (λ z. erased_type z) (region_char))

pub unit_type_erased : (t : RTy) → t ≡ x.Unit → ground_type v.Unit ≡ type_erasure t
unfolding type_erasure erased_type
unit_type_erased t h = ground_unit ∙ sym (ap (λ z. erased_type (region_type z)) h ∙ ap (λ z. erased_type z) (region_unit))

pub str_type_erased : (t : RTy) (p : Place) → t ≡ x.Str p → ground_type v.Str ≡ type_erasure t
unfolding type_erasure erased_type
str_type_erased t p h = ground_str ∙ sym (ap (λ z. erased_type (region_type z)) h ∙ ap (λ z. erased_type z) (region_str p))

pub tuple_type_erased : (t : RTy) (p : Place) (ts : List RTy) (us : List MTy) → t ≡ x.Tuple p ts → map ground_type us ≡ map type_erasure ts → ground_type (v.Tuple us) ≡ type_erasure t
unfolding type_erasure erased_type
tuple_type_erased t p ts us h h0 = ground_tuple us ∙ ap (λ z. g.Tuple (g.types_of z)) h0 ∙ ap (λ z. g.Tuple z) (sym (erased_list ts)) ∙ sym (ap (λ z. erased_type (region_type z)) h ∙ ap (λ z. erased_type z) (region_tuple p ts))

pub arrow_type_erased : (t : RTy) (p : Place) (a : RTy) (f : Effect) (b : RTy) (c d : MTy) → t ≡ x.Arrow p a f b → ground_type c ≡ type_erasure a → ground_type d ≡ type_erasure b → ground_type (v.Arrow c d) ≡ type_erasure t
unfolding type_erasure erased_type
arrow_type_erased t p a f b c d h h0 h1 = ground_arrow c d ∙ ap₂ g.Arrow h0 h1 ∙ sym (ap (λ z. erased_type (region_type z)) h ∙ ap (λ z. erased_type z) (region_arrow p a f b))

pub dataty_type_erased : (t : RTy) (n : ℕ) (ts : List RTy) (p : Place) (f : Effect) (us : List MTy) → t ≡ x.DataTy n ts p f → map ground_type us ≡ map type_erasure ts → ground_type (v.DataTy n us) ≡ type_erasure t
unfolding type_erasure erased_type
dataty_type_erased t n ts p f us h h0 = ground_dataty n us ∙ ap (λ z. g.Data n (g.types_of z)) h0 ∙ ap (λ z. g.Data n z) (sym (erased_list ts)) ∙ sym (ap (λ z. erased_type (region_type z)) h ∙ ap (λ z. erased_type z) (region_dataty n ts p f))

pub ref_type_erased : (t : RTy) (p : Place) (a : RTy) (c : MTy) → t ≡ x.Ref p a → ground_type c ≡ type_erasure a → ground_type (v.Ref c) ≡ type_erasure t
unfolding type_erasure erased_type
ref_type_erased t p a c h h0 = ground_ref c ∙ ap g.Ref h0 ∙ sym (ap (λ z. erased_type (region_type z)) h ∙ ap (λ z. erased_type z) (region_ref p a))

pub exn_type_erased : (t : RTy) → t ≡ x.Exn → ground_type v.Exn ≡ type_erasure t
unfolding type_erasure erased_type
exn_type_erased t h = ground_exn ∙ sym (ap (λ z. erased_type (region_type z)) h ∙ ap (λ z. erased_type z) (region_exn))

pub cachety_type_erased : (t : RTy) (p : Place) (k w : MTy) → t ≡ x.CacheTy p k w → ground_type (v.CacheTy k w) ≡ type_erasure t
unfolding type_erasure erased_type
cachety_type_erased t p k w h = ground_cachety k w ∙ sym (ap (λ z. erased_type (region_type z)) h ∙ ap (λ z. erased_type z) (region_cachety p k w))

pub descty_type_erased : (t : RTy) (k : MTy) → t ≡ x.DescTy k → ground_type (v.DescTy k) ≡ type_erasure t
unfolding type_erasure erased_type
descty_type_erased t k h = ground_descty k ∙ sym (ap (λ z. erased_type (region_type z)) h ∙ ap (λ z. erased_type z) (region_descty k))
