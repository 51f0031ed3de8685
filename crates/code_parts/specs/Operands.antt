-- What an operand names is there. Of this project.
use Rattle.std.specs.Prelude.{ℕ, nat_lt, Bool, true, ◌&&◌, length}
use Rattle.std.specs.List.{list_all}
use Rattle.kam_code.specs.declared.instr.Instr.{Instr}
use Rattle.kam_code.specs.declared.instr.Instr.TheVariants as i
use Rattle.kam_code.specs.declared.code.Code.{Code}

-- In code of so many instructions, texts and descriptions: a jump leads to an instruction, and a text and a description are of the code.
abbrev pub is_there : ℕ → ℕ → ℕ → Instr → Bool
is_there instrs texts descs (i.Text k) = nat_lt k texts
is_there instrs texts descs (i.Jump a) = nat_lt a instrs
is_there instrs texts descs (i.JumpIf a) = nat_lt a instrs
is_there instrs texts descs (i.JumpNot a k) = nat_lt a instrs
is_there instrs texts descs (i.Handler a) = nat_lt a instrs
is_there instrs texts descs (i.CacheLook d e) = nat_lt d descs && nat_lt e descs
is_there instrs texts descs (i.CachePut d e) = nat_lt d descs && nat_lt e descs
is_there instrs texts descs (i.CacheFlush d e) = nat_lt d descs && nat_lt e descs
is_there instrs texts descs _ = true

abbrev pub all_there : Code → Bool
all_there code = list_all (is_there (length code.instrs) (length code.texts) (length code.descs)) code.instrs
