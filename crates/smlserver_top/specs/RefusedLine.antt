-- The line that tells a refusal: `refused FILE PLACE NAME`, where the name of a lack follows its refusal's behind a blank.
use Rattle.std.specs.Prelude.{◌≡◌, ℕ, ◌<◌, ◌^◌, Bool, false, ◌==◌, List, [], ◌∷◌, ◌++◌, Option, Some, None, codes}
use Rattle.std.specs.List.{list_any}
use Rattle.std.specs.Fmt.{decimal}
use Rattle.smlserver_top.specs.Told.{number_of}

abbrev pub refused_line : List ℕ → ℕ → List ℕ → List ℕ
refused_line file place name = codes "refused " ++ (file ++ (32 ∷ (decimal place ++ (32 ∷ (name ++ 10 ∷ [])))))

-- a name, with that of a lack behind it where there is one
abbrev pub full_name : List ℕ → Option (List ℕ) → List ℕ
full_name name None = name
full_name name (Some lack) = name ++ 32 ∷ lack

abbrev pub is_blank : ℕ → Bool
is_blank b = b == 32

-- one word
abbrev pub IsWord : List ℕ → Type 0
IsWord text = list_any is_blank text ≡ false

abbrev pub IsLackWord : List ℕ → Option (List ℕ) → Type 0
IsLackWord name None = Unit {0}
IsLackWord name (Some lack) = IsWord lack × (number_of name ≡ None)

-- the line tells this refusal of a file: its name is a word, and where that of a lack follows, no number
pub record Tells (line file : List ℕ) (place : ℕ) (name : List ℕ) (lack : Option (List ℕ)) : Type 0 where
  pub place_fits : place < 2 ^ 64
  pub name_word : IsWord name
  pub lack_word : IsLackWord name lack
  pub line_is : line ≡ refused_line file place (full_name name lack)
