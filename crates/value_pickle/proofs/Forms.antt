-- The forms of data that have a description of a form.
use Rattle.std.proofs.Common.{◌≡◌, ℕ, ℤ, List, Bool, true, Some, None, refl, ◌⊎◌, inl, inr}
use Rattle.std.specs.Prelude.{◌&&◌, nat_lt}
use Rattle.std.specs.List.{list_all}
use Rattle.std.proofs.lemmas.Bool.{and_parts}
use Rattle.web_data.specs.declared.datum.Datum.{Datum}
use Rattle.web_data.specs.declared.datum.Datum.TheOpen.{Datum-F}
use Rattle.web_data.specs.declared.datum.Desc.TheOpen.{Desc-F}
use Rattle.web_data.specs.Data.{DatumLayer, has_form, is_64_bits, is_text}

pub is_int : (f : DatumLayer) → has_form Desc-F.Int f ≡ true → (n : ℤ) × (f ≡ Datum-F.Int n) × (is_64_bits n ≡ true)
is_int (Datum-F.Int n) h = (n, refl, h)
is_int _ h = absurd cc

pub is_bool : (f : DatumLayer) → has_form Desc-F.Bool f ≡ true → (b : Bool) × (f ≡ Datum-F.Bool b)
is_bool (Datum-F.Bool b) h = (b, refl)
is_bool _ h = absurd cc

pub is_char : (f : DatumLayer) → has_form Desc-F.Char f ≡ true → (c : ℕ) × (f ≡ Datum-F.Char c) × (nat_lt c 256 ≡ true)
is_char (Datum-F.Char c) h = (c, refl, h)
is_char _ h = absurd cc

pub is_str : (f : DatumLayer) → has_form Desc-F.Str f ≡ true → (s : List ℕ) × (f ≡ Datum-F.Str s) × (is_text s ≡ true)
is_str (Datum-F.Str s) h = (s, refl, h)
is_str _ h = absurd cc

pub is_unit : (f : DatumLayer) → has_form Desc-F.Unit f ≡ true → f ≡ Datum-F.Unit
is_unit Datum-F.Unit h = refl
is_unit _ h = absurd cc

pub is_pair : (a b : Datum → Bool) (f : DatumLayer) → has_form (Desc-F.Pair a b) f ≡ true → (x : Datum) × (y : Datum) × (f ≡ Datum-F.Pair x y) × (a x ≡ true) × (b y ≡ true)
is_pair a b (Datum-F.Pair x y) h = let p = and_parts (a x) (b y) h in (x, y, refl, p.0, p.1)
is_pair a b _ h = absurd cc

pub is_triple : (a b c : Datum → Bool) (f : DatumLayer) → has_form (Desc-F.Triple a b c) f ≡ true → (x : Datum) × (y : Datum) × (z : Datum) × (f ≡ Datum-F.Triple x y z) × (a x ≡ true) × (b y ≡ true) × (c z ≡ true)
is_triple a b c (Datum-F.Triple x y z) h =
    let p = and_parts (a x) (b y && c z) h
    in let q = and_parts (b y) (c z) p.1
    in (x, y, z, refl, p.0, q.0, q.1)
is_triple a b c _ h = absurd cc

pub is_opt : (a : Datum → Bool) (f : DatumLayer) → has_form (Desc-F.Opt a) f ≡ true → (f ≡ Datum-F.Opt None) ⊎ ((x : Datum) × (f ≡ Datum-F.Opt (Some x)) × (a x ≡ true))
is_opt a (Datum-F.Opt None) h = inl refl
is_opt a (Datum-F.Opt (Some x)) h = inr (x, refl, h)
is_opt a _ h = absurd cc

pub is_list : (a : Datum → Bool) (f : DatumLayer) → has_form (Desc-F.List a) f ≡ true → (xs : List Datum) × (f ≡ Datum-F.List xs) × (list_all a xs ≡ true)
is_list a (Datum-F.List xs) h = (xs, refl, h)
is_list a _ h = absurd cc
