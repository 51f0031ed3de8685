-- The listing of code: a line an instruction, with its number in decimal, a space, its name, and each operand behind a space.
-- A signed operand comes before the others, with `~` for minus. Of this project.
use Rattle.std.specs.Prelude.{ℕ, suc, ℤ, List, [], ◌∷◌, ◌++◌, Option, Some, None, codes}
use Rattle.std.specs.Fmt.{decimal}
use Rattle.kam_code.specs.declared.instr.Instr.{Instr}
use Rattle.kam_code.specs.declared.instr.Instr.TheVariants as instr
use Rattle.kam_code.specs.Word.{spelling}

-- the name of an instruction
abbrev pub mnemonic : Instr → List ℕ
mnemonic (instr.Const k) = codes "const"
mnemonic (instr.Text i) = codes "text"
mnemonic (instr.Local i) = codes "local"
mnemonic (instr.PutLocal i) = codes "put_local"
mnemonic (instr.Env i) = codes "env"
mnemonic instr.SelfPointer = codes "self"
mnemonic (instr.Pop n) = codes "pop"
mnemonic (instr.Slide n) = codes "slide"
mnemonic (instr.Pick n) = codes "pick"
mnemonic instr.Add = codes "add"
mnemonic instr.Sub = codes "sub"
mnemonic instr.Mul = codes "mul"
mnemonic instr.Div = codes "div"
mnemonic instr.Mod = codes "mod"
mnemonic instr.Neg = codes "neg"
mnemonic instr.Less = codes "lt"
mnemonic instr.LessEqual = codes "le"
mnemonic instr.Greater = codes "gt"
mnemonic instr.GreaterEqual = codes "ge"
mnemonic instr.Same = codes "same"
mnemonic (instr.Jump a) = codes "jump"
mnemonic (instr.JumpIf a) = codes "jump_if"
mnemonic (instr.JumpNot a k) = codes "jump_not"
mnemonic (instr.Call n) = codes "call"
mnemonic instr.Return = codes "return"
mnemonic instr.Halt = codes "halt"
mnemonic instr.RegionNew = codes "region_new"
mnemonic instr.RegionEnd = codes "region_end"
mnemonic (instr.Alloc n) = codes "alloc"
mnemonic (instr.Field i) = codes "field"
mnemonic (instr.SetField i) = codes "set_field"
mnemonic instr.Boxed = codes "boxed"
mnemonic (instr.Handler a) = codes "handler"
mnemonic instr.HandlerEnd = codes "handler_end"
mnemonic instr.Raise = codes "raise"
mnemonic instr.TextSize = codes "text_size"
mnemonic instr.TextSub = codes "text_sub"
mnemonic instr.TextCut = codes "text_cut"
mnemonic instr.TextCat = codes "text_cat"
mnemonic instr.TextConcat = codes "text_concat"
mnemonic instr.TextCompare = codes "text_compare"
mnemonic instr.TextFromInt = codes "text_from_int"
mnemonic instr.IntFromText = codes "int_from_text"
mnemonic instr.TextFromChar = codes "text_from_char"
mnemonic instr.CharFromInt = codes "char_from_int"
mnemonic instr.Write = codes "write"
mnemonic instr.SetType = codes "set_type"
mnemonic instr.SetStatus = codes "set_status"
mnemonic instr.FormFirst = codes "form_first"
mnemonic instr.FormAll = codes "form_all"
mnemonic instr.CacheMake = codes "cache_make"
mnemonic (instr.CacheLook d e) = codes "cache_look"
mnemonic (instr.CachePut d e) = codes "cache_put"
mnemonic (instr.CacheFlush d e) = codes "cache_flush"
mnemonic instr.DbDml = codes "db_dml"
mnemonic instr.DbRows = codes "db_rows"

-- its signed operand, and its numbers
abbrev pub signed_operand : Instr → Option ℤ
signed_operand (instr.Const k) = Some k
signed_operand (instr.JumpNot a k) = Some k
signed_operand _ = None

abbrev pub first_operand : Instr → Option ℕ
first_operand (instr.Text i) = Some i
first_operand (instr.Local i) = Some i
first_operand (instr.PutLocal i) = Some i
first_operand (instr.Env i) = Some i
first_operand (instr.Pop n) = Some n
first_operand (instr.Slide n) = Some n
first_operand (instr.Pick n) = Some n
first_operand (instr.Jump a) = Some a
first_operand (instr.JumpIf a) = Some a
first_operand (instr.JumpNot a k) = Some a
first_operand (instr.Call n) = Some n
first_operand (instr.Alloc n) = Some n
first_operand (instr.Field i) = Some i
first_operand (instr.SetField i) = Some i
first_operand (instr.Handler a) = Some a
first_operand (instr.CacheLook d e) = Some d
first_operand (instr.CachePut d e) = Some d
first_operand (instr.CacheFlush d e) = Some d
first_operand _ = None

abbrev pub second_operand : Instr → Option ℕ
second_operand (instr.CacheLook d e) = Some e
second_operand (instr.CachePut d e) = Some e
second_operand (instr.CacheFlush d e) = Some e
second_operand _ = None

-- an operand behind its space
abbrev pub signed_text : Option ℤ → List ℕ
signed_text None = []
signed_text (Some k) = 32 ∷ spelling k

abbrev pub number_text : Option ℕ → List ℕ
number_text None = []
number_text (Some n) = 32 ∷ decimal n

-- the number and the name, and the operands
abbrev pub line_head : ℕ → Instr → List ℕ
line_head n i = decimal n ++ (32 ∷ mnemonic i)

abbrev pub operands_text : Instr → List ℕ
operands_text i = signed_text (signed_operand i) ++ (number_text (first_operand i) ++ number_text (second_operand i))

-- the line of an instruction under its number
abbrev pub line : ℕ → Instr → List ℕ
line n i = line_head n i ++ (operands_text i ++ 10 ∷ [])

abbrev pub lines_from : ℕ → List Instr → List ℕ
lines_from n [] = []
lines_from n (i ∷ is) = line n i ++ lines_from (suc n) is

-- the listing of all of them
abbrev pub listing : List Instr → List ℕ
listing instrs = lines_from 0 instrs
