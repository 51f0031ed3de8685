-- Whether two descriptions are one: a function of the first by its form, with the tests that its parts make of a description.
use Rattle.std.specs.Prelude.{Bool, true, false, ◌&&◌}
use Rattle.web_data.specs.declared.datum.Desc.{Desc, out-Desc}
use Rattle.web_data.specs.declared.datum.Desc.TheOpen.{Desc-F}
use Rattle.web_data.specs.declared.datum.Desc.TheFolds.{fold-Desc}

abbrev pub same_form : Desc-F (Desc → Bool) → Desc-F Desc → Bool
same_form Desc-F.Int Desc-F.Int = true
same_form Desc-F.Bool Desc-F.Bool = true
same_form Desc-F.Char Desc-F.Char = true
same_form Desc-F.Str Desc-F.Str = true
same_form Desc-F.Unit Desc-F.Unit = true
same_form (Desc-F.Pair a b) (Desc-F.Pair x y) = a x && b y
same_form (Desc-F.Triple a b c) (Desc-F.Triple x y z) = a x && (b y && c z)
same_form (Desc-F.Opt a) (Desc-F.Opt x) = a x
same_form (Desc-F.List a) (Desc-F.List x) = a x
same_form _ _ = false

abbrev pub same_form_of : Desc-F (Desc → Bool) → Desc → Bool
same_form_of d x = same_form d (out-Desc x)

abbrev pub same_desc : Desc → Desc → Bool
same_desc = fold-Desc (Desc → Bool) same_form_of
