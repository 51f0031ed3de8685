-- Which answers let a script go on, and what they are as data. `Full` and a fault let none go on: they end the request.
use Rattle.std.specs.Prelude.{ℕ, Bool, true, false, not, ◌&&◌, List, [], ◌∷◌, map}
use Rattle.web_data.specs.declared.database.WebCall.{WebCall}
use Rattle.web_data.specs.declared.database.WebCall.TheVariants as call
use Rattle.web_data.specs.declared.database.WebAns.{WebAns}
use Rattle.web_data.specs.declared.database.WebAns.TheVariants as answer
use Rattle.web_data.specs.declared.cache.CacheAns.{CacheAns}
use Rattle.web_data.specs.declared.cache.CacheAns.TheVariants as told
use Rattle.web_data.specs.declared.datum.Datum.{Datum}
use Rattle.web_data.specs.declared.datum.Datum.TheVariants as datum
use Rattle.web_data.specs.CacheCalls.{cache_answer_fits}
use Rattle.web_data.specs.DatabaseAnswers.{fits_command}

abbrev pub is_full : CacheAns → Bool
is_full told.Full = true
is_full _ = false

-- an answer with which the script goes on
abbrev pub call_answer_fits : WebCall → WebAns → Bool
call_answer_fits (call.Cache c) (answer.Cache a) = cache_answer_fits c a && not (is_full a)
call_answer_fits (call.Db name command) (answer.Db a) = fits_command command a
call_answer_fits _ _ = false

-- a list of texts, and rows of texts
abbrev pub text_list : List (List ℕ) → Datum
text_list texts = datum.List (map datum.Str texts)

abbrev pub row_list : List (List (List ℕ)) → Datum
row_list rows = datum.List (map text_list rows)
