-- The parts of a straight program, read from its tree.
use Rattle.std.specs.Prelude.{ℕ, zero, suc, List, [], ◌∷◌, ◌++◌, Option, Some, None, codes}
use Rattle.sml_syntax.specs.declared.tree.Exp.{Exp}
use Rattle.sml_syntax.specs.declared.tree.Dec.{Dec}
use Rattle.smlserver_top.specs.declared.part.Part.{Part}
use Rattle.smlserver_top.specs.Reading.{◌>>=◌}
use Rattle.smlserver_top.specs.Straight.{sides_of, part_of, written_of}

-- the parts of an expression by the sides of its `^`, those on the left by `left`
abbrev pub parts_from : (Exp → Option (List Part)) → Option (Exp × Exp) → Exp → Option (List Part)
parts_from left None e = part_of e >>= λ part. Some (part ∷ [])
parts_from left (Some sides) e = left sides.0 >>= λ parts. part_of sides.1 >>= λ part. Some (parts ++ part ∷ [])

-- the parts of an expression, at most so many
abbrev pub parts_at : ℕ → Exp → Option (List Part)
parts_at zero e = None
parts_at (suc n) e = parts_from (parts_at n) (sides_of (codes "^") e) e

-- the parts of the one declaration
abbrev pub straight_parts : ℕ → List Dec → Option (List Part)
straight_parts most (dec ∷ []) = written_of dec >>= parts_at most
straight_parts most _ = None
