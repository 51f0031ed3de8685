-- The words on a stack, the top first: of its slots, which have the top last, so many lowest ones.
use Rattle.std.specs.Prelude.{ℕ, List, take, reverse}

abbrev pub words_on : ℕ → List ℕ → List ℕ
words_on top slots = reverse (take top slots)
