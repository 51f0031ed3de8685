-- The description of a type without variables, where it has one. Of this project.
use Rattle.std.specs.Prelude.{ℕ, nat_eq, Bool, true, false, ◌&&◌, if◌then◌else◌, Option, Some, None}
use Rattle.std.specs.Option.{option_map}
use Rattle.web_data.specs.declared.datum.Desc.{Desc, out-Desc}
use Rattle.web_data.specs.declared.datum.Desc.TheVariants as desc
use Rattle.web_data.specs.declared.datum.Desc.TheOpen.{Desc-F}
use Rattle.web_data.specs.declared.datum.Desc.TheFolds.{fold-Desc}
use Rattle.region_syntax.specs.GroundTypes as g
use Rattle.region_syntax.specs.GroundTypes.{GroundType}
use Rattle.region_syntax.specs.Effects.{of_both}

-- what a function makes of three things, where all are there
abbrev pub of_three : {A B C D : Type 0} → (A → B → C → D) → Option A → Option B → Option C → Option D
of_three f (Some a) (Some b) (Some c) = Some (f a b c)
of_three f _ _ _ = None

-- by the number of a datatype without parameters, and with one
abbrev pub constant_description : ℕ → Option Desc
constant_description n = if nat_eq n 0 then Some desc.Bool else None

abbrev pub item_description : ℕ → Option Desc → Option Desc
item_description n item = if nat_eq n 1 then option_map desc.List item else if nat_eq n 2 then option_map desc.Opt item else None

unfoldable pub description : GroundType → Option Desc
description g.Int = Some desc.Int
description g.Char = Some desc.Char
description g.Str = Some desc.Str
description g.Unit = Some desc.Unit
description (g.Tuple (g.types a (g.types b g.no_types))) = of_both desc.Pair (description a) (description b)
description (g.Tuple (g.types a (g.types b (g.types c g.no_types)))) = of_three desc.Triple (description a) (description b) (description c)
description (g.Data n g.no_types) = constant_description n
description (g.Data n (g.types a g.no_types)) = item_description n (description a)
description _ = None

-- two descriptions are one
abbrev pub same_forms : Desc-F (Desc → Bool) → Desc-F Desc → Bool
same_forms Desc-F.Int Desc-F.Int = true
same_forms Desc-F.Bool Desc-F.Bool = true
same_forms Desc-F.Char Desc-F.Char = true
same_forms Desc-F.Str Desc-F.Str = true
same_forms Desc-F.Unit Desc-F.Unit = true
same_forms (Desc-F.Pair a b) (Desc-F.Pair c d) = a c && b d
same_forms (Desc-F.Triple a b c) (Desc-F.Triple d e f) = a d && (b e && c f)
same_forms (Desc-F.Opt a) (Desc-F.Opt b) = a b
same_forms (Desc-F.List a) (Desc-F.List b) = a b
same_forms _ _ = false

abbrev pub same_description : Desc → Desc → Bool
same_description d = fold-Desc (Desc → Bool) (λ form other. same_forms form (out-Desc other)) d
