-- Which answers a waiting script goes on with.
use Rattle.std.specs.Prelude.{◌≡◌, ◌⊎◌, ℕ, List, [], ◌∷◌, map, length, Bool, true, ◌==◌, ◌&&◌}
use Rattle.std.specs.Ordering.{nat_cmp, is_lt}
use Rattle.std.specs.Cmp.Lexicographic.{slice_cmp}
use Rattle.web_data.specs.declared.cache.CacheAns.TheVariants as answer
use Rattle.web_data.specs.declared.database.WebCall.{WebCall}
use Rattle.web_data.specs.declared.database.WebCall.TheVariants as call
use Rattle.web_data.specs.declared.database.WebAns.{WebAns}
use Rattle.web_data.specs.declared.database.WebAns.TheVariants as web
use Rattle.web_data.specs.CacheCalls.{cache_answer_fits}
use Rattle.web_data.specs.DatabaseAnswers.{FitsCommand, row_of_entry, KeysAscend}

-- The answer fits the call: a script that waits at the call goes on with it. A full group of caches ends the request,
-- as a fault of a database does, so neither fits a call.
abbrev pub FitsCall : WebCall → WebAns → Type 0
FitsCall (call.Cache c) (web.Cache answer.Full) = ⊥
FitsCall (call.Cache c) (web.Cache a) = cache_answer_fits c a ≡ true
FitsCall (call.Db database command) (web.Db a) = FitsCommand command a
FitsCall _ _ = ⊥

-- no row, or one that is one text
abbrev pub IsValue : List (List (List ℕ)) → Type 0
IsValue rows = (rows ≡ []) ⊎ ((value : List ℕ) × (rows ≡ (value ∷ []) ∷ []))

-- rows of a key and a value, whose keys ascend
abbrev pub AreEntries : List (List (List ℕ)) → Type 0
AreEntries rows = (entries : List (List ℕ × List ℕ)) × KeysAscend entries × (rows ≡ map row_of_entry entries)

-- the row is two texts
abbrev pub is_entry : List (List ℕ) → Bool
is_entry row = length row == 2

-- the first text of the row is below that of the next
abbrev pub precedes : List (List ℕ) → List (List (List ℕ)) → Bool
precedes (key ∷ values) ((other ∷ others) ∷ rows) = is_lt (slice_cmp nat_cmp key other)
precedes _ _ = true

-- each row is two texts, and precedes the next
abbrev pub are_entries : List (List (List ℕ)) → Bool
are_entries [] = true
are_entries (row ∷ rows) = is_entry row && (precedes row rows && are_entries rows)
