-- The pairs of a form: the URL Standard, section 5.1 (`application/x-www-form-urlencoded`).
use Rattle.std.specs.Prelude.{ℕ, List, map}
use Rattle.std.specs.Str.Lossy.{utf8_lossy}
use Rattle.form_urlencoded.specs.Form.{raw_pairs, decode}

-- the text that a name or a value stands for: decoded, and made UTF-8 by replacement
abbrev pub form_text : List ℕ → List ℕ
form_text bytes = utf8_lossy (decode bytes)

-- a name and a value as texts
abbrev pub form_pair : List ℕ × List ℕ → List ℕ × List ℕ
form_pair pair = (form_text pair.0, form_text pair.1)

-- the pairs between the `&`, in order; an empty piece is no pair, and one without `=` has the empty value
abbrev pub form_pairs : List ℕ → List (List ℕ × List ℕ)
form_pairs text = map form_pair (raw_pairs text)
