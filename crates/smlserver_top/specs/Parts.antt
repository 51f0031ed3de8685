-- What the parts of a script stand for, and which parts a script of the first form can have.
use Rattle.std.specs.Prelude.{◌≡◌, ℕ, ◌*◌, ◌≤◌, ◌^◌, Bool, true, ◌==◌, ◌&&◌, nat_le, not, List, [], ◌∷◌, ◌++◌, length}
use Rattle.std.specs.List.{list_all}
use Rattle.std.specs.Fmt.{decimal}
use Rattle.smlserver_top.specs.declared.part.Part.{Part}
use Rattle.smlserver_top.specs.declared.part.Part.TheVariants.{Plain, Product}

-- the text that a part stands for
abbrev pub text_of_part : Part → List ℕ
text_of_part (Plain text) = text
text_of_part (Product m n) = decimal (m * n)

-- the texts of the parts, one after the other
abbrev pub text_of : List Part → List ℕ
text_of [] = []
text_of (part ∷ parts) = text_of_part part ++ text_of parts

-- a byte that a literal can hold as it stands: from blank to ~, other than " and \
abbrev pub is_plain : ℕ → Bool
is_plain b = nat_le 32 b && nat_le b 126 && not (b == 34) && not (b == 92)

-- the texts hold such bytes only
abbrev pub ArePlain : List Part → Type 0
ArePlain [] = Unit {0}
ArePlain (Plain text ∷ parts) = (list_all is_plain text ≡ true) × ArePlain parts
ArePlain (Product m n ∷ parts) = ArePlain parts

-- a text is no longer than the longest script, and a factor has at most four digits
abbrev pub IsSmall : Part → Type 0
IsSmall (Plain text) = length text ≤ 2 ^ 20
IsSmall (Product m n) = (m ≤ 9999) × (n ≤ 9999)

-- each part is small
abbrev pub AreSmall : List Part → Type 0
AreSmall [] = Unit {0}
AreSmall (part ∷ parts) = IsSmall part × AreSmall parts

-- no more parts than a script may have
abbrev pub AreFew : List Part → Type 0
AreFew parts = length parts ≤ 16
