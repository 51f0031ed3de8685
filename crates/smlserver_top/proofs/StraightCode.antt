-- The code of a script's parts is straight.
use Rattle.std.proofs.Common.{◌≡◌, ℕ, zero, suc, true, List, [], ◌∷◌, ◌++◌, refl, subst}
use Rattle.std.specs.Prelude.{pos}
use Rattle.kam_code.specs.declared.instr.Instr.{Instr}
use Rattle.kam_code.specs.declared.instr.Instr.TheVariants.{Const, Text, Mul, TextFromInt, TextCat, Write, Halt}
use Rattle.smlserver_top.specs.declared.part.Part.{Part}
use Rattle.smlserver_top.specs.declared.part.Part.TheVariants.{Plain, Product}
use Rattle.smlserver_top.specs.Compiled.{part_code, numbered, rest_code, code_of}
use Rattle.smlserver_top.specs.StraightCode.{is_straight, AreStraight}
use Rattle.smlserver_top.proofs.StraightLaws.{same_some}

none_straight : AreStraight []
none_straight a i e = absurd (cc)

more_straight : (first : Instr) (rest : List Instr) → is_straight first ≡ true → AreStraight rest → AreStraight (first ∷ rest)
more_straight first rest f r zero i e = subst (λ x. is_straight x ≡ true) (same_some first i e) f
more_straight first rest f r (suc a) i e = r a i e

joined_straight : (front back : List Instr) → AreStraight front → AreStraight back → AreStraight (front ++ back)
joined_straight [] back f b = b
joined_straight (x ∷ front) back f b = more_straight x (front ++ back) (f zero x refl) (joined_straight front back (λ a i e. f (suc a) i e) b)

part_straight : (n : ℕ) (part : Part) → AreStraight (part_code n part)
part_straight n (Plain text) = more_straight (Const (pos 1)) (Text n ∷ []) refl (more_straight (Text n) [] refl none_straight)
part_straight n (Product a b) =
    more_straight (Const (pos a)) (Const (pos b) ∷ Mul ∷ Const (pos 1) ∷ TextFromInt ∷ []) refl
    (more_straight (Const (pos b)) (Mul ∷ Const (pos 1) ∷ TextFromInt ∷ []) refl
    (more_straight Mul (Const (pos 1) ∷ TextFromInt ∷ []) refl
    (more_straight (Const (pos 1)) (TextFromInt ∷ []) refl
    (more_straight TextFromInt [] refl none_straight))))

rest_straight : (n : ℕ) (parts : List Part) → AreStraight (rest_code n parts)
rest_straight n [] = more_straight Write (Halt ∷ []) refl (more_straight Halt [] refl none_straight)
rest_straight n (part ∷ parts) =
    joined_straight (part_code n part) (Const (pos 1) ∷ TextCat ∷ rest_code (numbered n part) parts) (part_straight n part)
    (more_straight (Const (pos 1)) (TextCat ∷ rest_code (numbered n part) parts) refl
    (more_straight TextCat (rest_code (numbered n part) parts) refl (rest_straight (numbered n part) parts)))

pub code_straight : (parts : List Part) → AreStraight (code_of parts)
code_straight [] = more_straight Halt [] refl none_straight
code_straight (part ∷ parts) =
    joined_straight (part_code 0 part) (rest_code (numbered 0 part) parts) (part_straight 0 part) (rest_straight (numbered 0 part) parts)
