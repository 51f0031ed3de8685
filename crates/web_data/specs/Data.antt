-- Data that caches keep, and the descriptions that they have: a function of the description, by its form, with what its parts describe.
use Rattle.std.specs.Prelude.{ℕ, ◌^◌, ℤ, List, length, Bool, true, false, ◌&&◌, Some, None, nat_lt}
use Rattle.std.specs.List.{list_all}
use lib.IntN.{pos, negsuc}
use Rattle.web_data.specs.declared.datum.Datum.{Datum, out-Datum}
use Rattle.web_data.specs.declared.datum.Datum.TheOpen.{Datum-F}
use Rattle.web_data.specs.declared.datum.Desc.{Desc}
use Rattle.web_data.specs.declared.datum.Desc.TheOpen.{Desc-F}
use Rattle.web_data.specs.declared.datum.Desc.TheFolds.{fold-Desc}

abbrev pub DatumLayer : Type 0
DatumLayer = Datum-F Datum

-- the form of a datum
abbrev pub form_of_datum : Datum → DatumLayer
form_of_datum x = out-Datum x

-- an integer of 64 bits
abbrev pub is_64_bits : ℤ → Bool
is_64_bits (pos n) = nat_lt n (2 ^ 63)
is_64_bits (negsuc n) = nat_lt n (2 ^ 63)

-- a text, whose length is a number of 64 bits
abbrev pub is_text : List ℕ → Bool
is_text bytes = nat_lt (length bytes) (2 ^ 64)

-- whether a datum of this form has a description of this form; a part of the description is the test that it makes of a datum
abbrev pub has_form : Desc-F (Datum → Bool) → DatumLayer → Bool
has_form Desc-F.Int (Datum-F.Int n) = is_64_bits n
has_form Desc-F.Bool (Datum-F.Bool b) = true
has_form Desc-F.Char (Datum-F.Char c) = nat_lt c 256
has_form Desc-F.Str (Datum-F.Str bytes) = is_text bytes
has_form Desc-F.Unit Datum-F.Unit = true
has_form (Desc-F.Pair a b) (Datum-F.Pair x y) = a x && b y
has_form (Desc-F.Triple a b c) (Datum-F.Triple x y z) = a x && (b y && c z)
has_form (Desc-F.Opt a) (Datum-F.Opt None) = true
has_form (Desc-F.Opt a) (Datum-F.Opt (Some x)) = a x
has_form (Desc-F.List a) (Datum-F.List xs) = list_all a xs
has_form _ _ = false

abbrev pub has_form_of : Desc-F (Datum → Bool) → Datum → Bool
has_form_of d x = has_form d (form_of_datum x)

-- whether a datum has a description
abbrev pub has_desc : Desc → Datum → Bool
has_desc = fold-Desc (Datum → Bool) has_form_of
