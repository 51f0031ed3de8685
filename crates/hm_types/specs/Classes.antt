-- A table of types: classes, and what each says of the type that stands for it. Of this project.
use Rattle.std.proofs.Math.Dec.{ltb}
use Rattle.std.specs.Prelude.{◌≡◌, ℕ, ◌+◌, ◌<◌, ◌≤◌, List, [], ◌∷◌, length, take, drop, Bool, true, false, Option, None, Some, if◌then◌else◌}
use Rattle.std.proofs.Common.{get_or}
use Rattle.type_terms.specs.TypeTerms.{Term, Terms, made, no_terms, terms, NameEquality, NeverEqual, AlwaysEqual, PartsEqual, admits, of_flag, IsOver}
use Rattle.hm_types.specs.declared.node.Node.{Node}
use Rattle.hm_types.specs.declared.node.Node.TheVariants.{Variable, Made, Link}
use Rattle.hm_types.specs.declared.node.Asked.{Asked}
use Rattle.hm_types.specs.declared.node.TypeName.{TypeName}
use Rattle.hm_types.specs.declared.node.Equality.{Equality}
use Rattle.hm_types.specs.declared.node.Equality.TheVariants.{Never, Always, Parts}

-- a type for each class; type names and type variables are numbers
abbrev pub Assign : Type 0
Assign = ℕ → Term ℕ

-- the table's lists: its type names, the parts of its classes, and for each class what it is and what is asked of it; whether it
-- has had a clash, and whether it ran out of memory in the midst of joining
pub record TypeGraph : Type 0 where
  pub names : List TypeName
  pub parts : List ℕ
  pub nodes : List Node
  pub asked : List Asked
  pub clashed : Bool
  pub spent : Bool

abbrev pub at : List Node → ℕ → Node
at nodes c = get_or nodes c Variable

abbrev pub asked_at : List Asked → ℕ → Asked
asked_at asked c = get_or asked c (record { equality = false; birth = 0 })

abbrev pub name_at : List TypeName → ℕ → TypeName
name_at names f = get_or names f (record { arity = 0; equality = Never; birth = 0 })

abbrev pub equality_by : Equality → NameEquality
equality_by Never = NeverEqual
equality_by Always = AlwaysEqual
equality_by Parts = PartsEqual

abbrev pub equality_of : List TypeName → ℕ → NameEquality
equality_of names f = equality_by ((name_at names f).equality)

unfoldable pub terms_of : Assign → List ℕ → Terms ℕ
terms_of s [] = no_terms
terms_of s (p ∷ ps) = terms (s p) (terms_of s ps)

-- so many parts from a place on
abbrev pub part_list : List ℕ → ℕ → ℕ → List ℕ
part_list parts i k = take k (drop i parts)

-- the assignment gives the class what its node says
abbrev pub Holds : List ℕ → Assign → ℕ → Node → Type 0
Holds parts s c Variable = Unit {0}
Holds parts s c (Made f i k) = s c ≡ made f (terms_of s (part_list parts i k))
Holds parts s c (Link d) = s c ≡ s d

abbrev pub Respects : List ℕ → List Node → Assign → Type 0
Respects parts nodes s = (c : ℕ) → Holds parts s c (at nodes c)

-- a name that was declared when there were at most so many classes, with as many arguments as it takes
abbrev pub Takes : List TypeName → ℕ → ℕ → ℕ → Type 0
Takes names birth f k = (f < length names) × ((name_at names f).birth ≤ birth) × (k ≡ (name_at names f).arity)

-- the type has what is asked
abbrev pub Allows : List TypeName → Asked → Term ℕ → Type 0
Allows names a t = (a.equality ≡ true → admits (equality_of names) of_flag t ≡ true) × IsOver (Takes names a.birth) t

abbrev pub Meets : List TypeName → List Asked → Assign → Type 0
Meets names asked s = (c : ℕ) → c < length asked → Allows names (asked_at asked c) (s c)

-- the class, along links, stands for the one that stands for itself
pub data Stands (nodes : List Node) : ℕ → ℕ → Type 0 where
  stands_made : {c f i k : ℕ} → at nodes c ≡ Made f i k → Stands nodes c c
  stands_free : {c : ℕ} → at nodes c ≡ Variable → Stands nodes c c
  stands_on : {c d r : ℕ} → at nodes c ≡ Link d → Stands nodes d r → Stands nodes c r

abbrev pub name_in : Node → Option ℕ
name_in Variable = None
name_in (Made f i k) = Some f
name_in (Link d) = None

abbrev pub part_in : List ℕ → ℕ → Node → Option ℕ
part_in parts j Variable = None
part_in parts j (Made f i k) = if ltb j k then Some (get_or parts (i + j) 0) else None
part_in parts j (Link d) = None
