-- What a store has made, by what is left of the budget: words and regions were charged when they were made, and the budget is at most
-- a thousand million. So fewer than 2 ^ 32 regions are made, and each has fewer than 2 ^ 32 words.
use Rattle.std.specs.Prelude.{ℕ, ◌+◌, ◌≤◌}
use Rattle.kam_store.specs.Store.{StoreState, words_in}
use Rattle.kam_rows.specs.declared.row.Row.{Row}
use Rattle.kam_rows.specs.declared.row.Row.TheVariants as row

-- what is left again of the 1 that was charged before the instruction: one that isn't made gives it back
abbrev pub given_back : Row → ℕ
given_back row.Going = 0
given_back row.Halted = 0
given_back _ = 1
