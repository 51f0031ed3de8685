-- The straight form of a program: `val _ = Web.write (part ^ .. ^ part)`, whatever its spans are.
-- The Definition of Standard ML, section 2 and appendix A (a part of its grammar).
use Rattle.std.specs.Prelude.{◌≡◌, ◌≤◌, ℕ, ℤ, pos, negsuc, ◌^◌, Bool, true, false, ◌&&◌, nat_le, bytes_eq, List, [], ◌∷◌, ◌++◌, length, Option, Some, None, if◌then◌else◌, codes}
use Rattle.std.specs.List.{list_all}
use Rattle.sml_syntax.specs.declared.tree.Exp.{Exp}
use Rattle.sml_syntax.specs.declared.tree.Dec.{Dec}
use Rattle.sml_syntax.specs.declared.tree.DecForm.TheOpen.{DecForm-F, ExpForm-F}
use Rattle.sml_syntax.specs.declared.tree.PatForm.TheOpen.{PatForm-F}
use Rattle.sml_syntax.specs.Layers.{ExpLayer, DecLayer, PatLayer, form_of_exp, form_of_dec, form_of_pat}
use Rattle.smlserver_top.specs.declared.part.Part.{Part}
use Rattle.smlserver_top.specs.declared.part.Part.TheVariants.{Plain, Product}
use Rattle.smlserver_top.specs.Parts.{is_plain}
use Rattle.smlserver_top.specs.Reading.{◌>>=◌}

-- whether an expression of this form is this name
abbrev pub is_name : List ℕ → ExpLayer → Bool
is_name name (ExpForm-F.Name text) = bytes_eq text name
is_name name _ = false

-- the argument, where an expression of this form applies this name
abbrev pub argument_in : List ℕ → ExpLayer → Option Exp
argument_in name (ExpForm-F.App head argument) = if is_name name (form_of_exp head) then Some argument else None
argument_in name _ = None

abbrev pub argument_of : List ℕ → Exp → Option Exp
argument_of name e = argument_in name (form_of_exp e)

-- the two parts of a pair
abbrev pub pair_in : ExpLayer → Option (Exp × Exp)
pair_in (ExpForm-F.Tuple (a ∷ b ∷ [])) = Some (a, b)
pair_in _ = None

abbrev pub pair_of : Exp → Option (Exp × Exp)
pair_of e = pair_in (form_of_exp e)

-- the two sides of an infix name
abbrev pub sides_of : List ℕ → Exp → Option (Exp × Exp)
sides_of name e = argument_of name e >>= pair_of

-- the number of a literal from 0 to 9,999
abbrev pub small_number : ℤ → Option ℕ
small_number (pos n) = if nat_le n 9999 then Some n else None
small_number (negsuc n) = None

abbrev pub number_in : ExpLayer → Option ℕ
number_in (ExpForm-F.Int n) = small_number n
number_in _ = None

abbrev pub number_of : Exp → Option ℕ
number_of e = number_in (form_of_exp e)

-- the text of a literal, of bytes that stand as they are, and no longer than a script
abbrev pub is_short_text : List ℕ → Bool
is_short_text text = list_all is_plain text && nat_le (length text) (2 ^ 20)

abbrev pub text_in : ExpLayer → Option (List ℕ)
text_in (ExpForm-F.Str text) = if is_short_text text then Some text else None
text_in _ = None

abbrev pub text_of_exp : Exp → Option (List ℕ)
text_of_exp e = text_in (form_of_exp e)

-- a product of two literals
abbrev pub factors : Exp × Exp → Option Part
factors both = number_of both.0 >>= λ m. number_of both.1 >>= λ n. Some (Product m n)

-- `Int.toString (m * n)`
unfoldable pub product_of : Exp → Option Part
product_of e = do
  product ← argument_of (codes "Int.toString") e
  both ← sides_of (codes "*") product
  factors both

-- a text, or else what the last argument gives
abbrev pub text_or : Option (List ℕ) → Option Part → Option Part
text_or None other = other
text_or (Some text) other = Some (Plain text)

-- a part
unfoldable pub part_of : Exp → Option Part
part_of e = text_or (text_of_exp e) (product_of e)

-- one part or more, with `^` between them, which groups to the left
pub data AreJoined : List Part → Exp → Type 0 where
  one : {part : Part} {e : Exp} → part_of e ≡ Some part → AreJoined (part ∷ []) e
  more : {front : List Part} {part : Part} {left right e : Exp} → sides_of (codes "^") e ≡ Some (left, right) → AreJoined front left → part_of right ≡ Some part → AreJoined (front ++ part ∷ []) e

abbrev pub is_any : PatLayer → Bool
is_any PatForm-F.Any = true
is_any _ = false

-- what is written, where a declaration is `val _ = Web.write argument`
abbrev pub written_in : DecLayer → Option Exp
written_in (DecForm-F.Val ((pat, e) ∷ [])) = if is_any (form_of_pat pat) then argument_of (codes "Web.write") e else None
written_in _ = None

abbrev pub written_of : Dec → Option Exp
written_of dec = written_in (form_of_dec dec)

-- these declarations write these parts, of which there are at most so many
pub record WritesParts (most : ℕ) (items : List Dec) (parts : List Part) : Type 0 where
  pub dec : Dec
  pub argument : Exp
  pub one : items ≡ dec ∷ []
  pub written : written_of dec ≡ Some argument
  pub joined : AreJoined parts argument
  pub few : length parts ≤ most

-- these are the declarations of a program that writes these parts
abbrev pub IsStraight : List Dec → List Part → Type 0
IsStraight items parts = WritesParts 16 items parts
