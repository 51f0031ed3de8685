-- The infix names and their levels. Level 5 groups to the right, each other level to the left.
-- The Definition of Standard ML, section 2.6 and appendix E: the infix status of the initial basis, which nothing here changes.
use Rattle.std.specs.Prelude.{ℕ, ◌==◌, List, Bool, Option, Some, None, cond, codes}
use Rattle.std.specs.Str.{bytes_eq}

-- of names of symbols
unfoldable pub symbol_level : List ℕ → Option ℕ
symbol_level name =
    cond (bytes_eq name (codes "*")) (Some 7)
    (cond (bytes_eq name (codes "+")) (Some 6)
    (cond (bytes_eq name (codes "-")) (Some 6)
    (cond (bytes_eq name (codes "^")) (Some 6)
    (cond (bytes_eq name (codes "::")) (Some 5)
    (cond (bytes_eq name (codes "@")) (Some 5)
    (cond (bytes_eq name (codes "=")) (Some 4)
    (cond (bytes_eq name (codes "<>")) (Some 4)
    (cond (bytes_eq name (codes "<")) (Some 4)
    (cond (bytes_eq name (codes "<=")) (Some 4)
    (cond (bytes_eq name (codes ">")) (Some 4)
    (cond (bytes_eq name (codes ">=")) (Some 4)
    (cond (bytes_eq name (codes ":=")) (Some 3) None))))))))))))

-- of names of letters
unfoldable pub word_level : List ℕ → Option ℕ
word_level name =
    cond (bytes_eq name (codes "div")) (Some 7)
    (cond (bytes_eq name (codes "mod")) (Some 7)
    (cond (bytes_eq name (codes "o")) (Some 3)
    (cond (bytes_eq name (codes "before")) (Some 0) None)))

abbrev pub or_else : Option ℕ → Option ℕ → Option ℕ
or_else None other = other
or_else (Some level) other = Some level

-- the level of an infix name; any other name has none
unfoldable pub infix_level : List ℕ → Option ℕ
infix_level name = or_else (symbol_level name) (word_level name)

-- whether the names of a level group to the right
abbrev pub groups_right : ℕ → Bool
groups_right level = level == 5
