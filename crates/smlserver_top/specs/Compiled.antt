-- The code of a script's parts.
use Rattle.std.specs.Prelude.{ℕ, pos, ◌+◌, List, [], ◌∷◌, ◌++◌}
use Rattle.kam_code.specs.declared.instr.Instr.{Instr}
use Rattle.kam_code.specs.declared.instr.Instr.TheVariants.{Const, Text, Mul, TextFromInt, TextCat, Write, Halt}
use Rattle.smlserver_top.specs.declared.part.Part.{Part}
use Rattle.smlserver_top.specs.declared.part.Part.TheVariants.{Plain, Product}

-- a part, where this many texts were numbered before: its text is made in the global region
abbrev pub part_code : ℕ → Part → List Instr
part_code n (Plain text) = Const (pos 1) ∷ Text n ∷ []
part_code n (Product a b) = Const (pos a) ∷ Const (pos b) ∷ Mul ∷ Const (pos 1) ∷ TextFromInt ∷ []

-- how many texts are numbered once the part is
abbrev pub numbered : ℕ → Part → ℕ
numbered n (Plain text) = n + 1
numbered n (Product a b) = n

-- the texts of the code
abbrev pub texts_of : List Part → List (List ℕ)
texts_of [] = []
texts_of (Plain text ∷ parts) = text ∷ texts_of parts
texts_of (Product a b ∷ parts) = texts_of parts

-- the other parts, each joined to what is there, which is written at the end
abbrev pub rest_code : ℕ → List Part → List Instr
rest_code n [] = Write ∷ Halt ∷ []
rest_code n (part ∷ parts) = part_code n part ++ (Const (pos 1) ∷ TextCat ∷ rest_code (numbered n part) parts)

-- all parts
abbrev pub code_of : List Part → List Instr
code_of [] = Halt ∷ []
code_of (part ∷ parts) = part_code 0 part ++ rest_code (numbered 0 part) parts
