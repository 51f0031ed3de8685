-- Codes that stand as examples of the steps.
use Rattle.std.specs.Prelude.{ℕ, pos, List, [], ◌∷◌, codes}
use Rattle.kam_code.specs.declared.code.Code.{Code}
use Rattle.kam_code.specs.declared.instr.Instr.{Instr}
use Rattle.kam_code.specs.declared.instr.Instr.TheVariants as instr
use Rattle.kam_code.specs.State.{Region, State, start}

abbrev pub code_with : List Instr → Code
code_with instrs = record { instrs = instrs; texts = []; descs = []; names = codes "Match" ∷ [] }

-- a pair is made in a region of its own, its second part is read, and the region ends
abbrev pub pair_code : Code
pair_code = code_with (instr.RegionNew ∷ instr.Const (pos 7) ∷ instr.Const (pos 9) ∷ instr.Local 0 ∷ instr.Alloc 2 ∷ instr.Field 1 ∷ instr.RegionEnd ∷ instr.Halt ∷ [])

-- 9 is left, and the region is gone: eight steps and two words
abbrev pub pair_end : State
pair_end = record (start [] []) { address = 8; stack = 9 ∷ []; made = 2; charge = 10 }

-- a function that adds 1 is called with 41, and returns
abbrev pub call_code : Code
call_code =
    code_with (instr.Const (pos 6) ∷ instr.Const (pos 1) ∷ instr.Alloc 1 ∷ instr.Const (pos 41) ∷ instr.Call 1 ∷ instr.Halt
    ∷ instr.Local 0 ∷ instr.Const (pos 1) ∷ instr.Add ∷ instr.Return ∷ [])

-- 42 is left: ten steps and the closure's word
abbrev pub call_end : State
call_end = record (start [] []) { address = 6; stack = 42 ∷ []; regions = record { serial = 1; words = 6 ∷ [] } ∷ []; charge = 11 }

-- behind a handler a function is called, and calls another one, which raises
abbrev pub raise_code : Code
raise_code =
    code_with (instr.Const (pos 8) ∷ instr.Const (pos 1) ∷ instr.Alloc 1 ∷ instr.Handler 7 ∷ instr.Pick 0 ∷ instr.Const (pos 0) ∷ instr.Call 1 ∷ instr.Halt
    ∷ instr.Const (pos 13) ∷ instr.Const (pos 1) ∷ instr.Alloc 1 ∷ instr.Const (pos 0) ∷ instr.Call 1
    ∷ instr.Const (pos 0) ∷ instr.Const (pos 0) ∷ instr.Const (pos 1) ∷ instr.Alloc 2 ∷ instr.Raise ∷ [])

-- both frames are gone, and the packet lies on what was there when the handler was set: 18 steps and four words
abbrev pub raise_end : State
raise_end = record (start [] []) {
  address = 8;
  stack = 4294967298 ∷ 4294967296 ∷ [];
  regions = record { serial = 1; words = 8 ∷ 13 ∷ 0 ∷ 0 ∷ [] } ∷ [];
  charge = 22;
}
