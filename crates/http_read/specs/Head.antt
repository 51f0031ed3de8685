-- What a request's head says: RFC 9112, sections 3 (request line), 6 (body length) and 9.3 (closing), RFC 9110, sections
-- 5.1 (names in any case), 7.2 (`Host`), 8.3 and 8.6 (type and length of the content), 15 (statuses).
-- The head itself is by the grammar that `httparse` states.
use Rattle.std.specs.Prelude.{ℕ, ◌+◌, ◌-◌, ◌*◌, ◌==◌, Bool, true, false, ◌&&◌, ◌||◌, not, List, [], ◌∷◌, ◌++◌, length, take, drop, map, filter, if◌then◌else◌, nat_lt, bytes_eq, codes, Option, Some, None}
use Rattle.std.specs.Char.{is_ascii_digit}
use Rattle.std.specs.List.{list_any, list_all, before_first, after_first, position_or_len, slice_split}
use Rattle.std.specs.Str.{str_eq_ignore_ascii_case}
use Rattle.httparse.specs.Grammar.{RequestHead, trim_ows}
use Rattle.httparse.specs.Spans.{name_and_value}
use Rattle.web_messages.specs.declared.request.Request.{Request}
use Rattle.http_read.specs.Form.{form_pairs}

-- a field: its name, and its value without the spaces and tabs at its ends
abbrev pub Field : Type 0
Field = List ℕ × List ℕ

-- the fields of a head
abbrev pub fields_of : RequestHead → List Field
fields_of head = map name_and_value head.fields

-- the field has this name, in any case of letters
abbrev pub is_named : List ℕ → Field → Bool
is_named name field = str_eq_ignore_ascii_case field.0 name

abbrev pub has_field : List ℕ → List Field → Bool
has_field name fields = list_any (is_named name) fields

-- the values of the fields with this name, in order
abbrev pub values_of : List ℕ → List Field → List (List ℕ)
values_of name fields = map (λ field. field.1) (filter (is_named name) fields)

-- how many fields have this name
abbrev pub count_fields : List ℕ → List Field → ℕ
count_fields name fields = length (values_of name fields)

-- the first of some values
abbrev pub first_value : List (List ℕ) → Option (List ℕ)
first_value [] = None
first_value (value ∷ values) = Some value

-- Lengths

-- one digit or more
abbrev pub is_number : List ℕ → Bool
is_number bytes = nat_lt 0 (length bytes) && list_all is_ascii_digit bytes

-- the digits of a number without its leading zeros
abbrev pub without_zeros : List ℕ → List ℕ
without_zeros [] = []
without_zeros (digit ∷ digits) = if digit == 48 then without_zeros digits else digit ∷ digits

-- the value is a number, and the same one as the first value
abbrev pub is_length : List ℕ → List ℕ → Bool
is_length first value = is_number value && bytes_eq (without_zeros first) (without_zeros value)

-- each value is a number, and all are the same one
abbrev pub are_lengths : List (List ℕ) → Bool
are_lengths [] = true
are_lengths (value ∷ values) = list_all (is_length value) (value ∷ values)

-- the number that digits write, after the number of those before them
abbrev pub number_after : ℕ → List ℕ → ℕ
number_after n [] = n
number_after n (digit ∷ digits) = number_after (n * 10 + (digit - 48)) digits

-- the length that the values give; without a value there is no body
abbrev pub body_length : List (List ℕ) → ℕ
body_length [] = 0
body_length (value ∷ values) = number_after 0 value

abbrev pub length_values : List Field → List (List ℕ)
length_values fields = values_of (codes "content-length") fields

-- Targets

abbrev pub is_slash : ℕ → Bool
is_slash b = b == 47

abbrev pub is_question_mark : ℕ → Bool
is_question_mark b = b == 63

-- the target begins with `/`
abbrev pub is_origin_form : List ℕ → Bool
is_origin_form [] = false
is_origin_form (b ∷ target) = is_slash b

-- the target begins with `http://`, in any case of letters
abbrev pub is_absolute_form : List ℕ → Bool
is_absolute_form target = str_eq_ignore_ascii_case (take 7 target) (codes "http://")

abbrev pub is_known_target : List ℕ → Bool
is_known_target target = is_origin_form target || is_absolute_form target

-- how many bytes stand before the path: none, or `http://` and the host
abbrev pub authority_length : List ℕ → ℕ
authority_length target =
    if is_origin_form target then 0
    else 7 + position_or_len (λ b. is_slash b || is_question_mark b) (drop 7 target)

-- the path and the query
abbrev pub local_part : List ℕ → List ℕ
local_part target = drop (authority_length target) target

-- the path, which ends before the first `?`
abbrev pub target_path : List ℕ → List ℕ
target_path target = before_first is_question_mark (local_part target)

-- the query, which follows the first `?`
abbrev pub target_query : List ℕ → List ℕ
target_query target = after_first is_question_mark (local_part target)

-- an empty path is `/`
abbrev pub or_root : List ℕ → List ℕ
or_root [] = codes "/"
or_root (b ∷ path) = b ∷ path

-- Judgement

-- what a head comes to: a refusal with its status, or a message with a body of so many bytes
pub data Judgement : Type 0 where
  Refuses : ℕ → Judgement
  Takes : ℕ → Judgement

-- the most bytes that a body has
abbrev pub most_body : ℕ
most_body = 1048576

abbrev pub is_known_method : List ℕ → Bool
is_known_method method = bytes_eq method (codes "GET") || bytes_eq method (codes "POST")

-- refuses with this status what doesn't pass, unless it is refused already
abbrev pub provided : Judgement → Bool → ℕ → Judgement
provided (Refuses first) passes status = Refuses first
provided (Takes n) passes status = if passes then Takes n else Refuses status

-- the length of the body, by the values that give it
abbrev pub judge_length : List (List ℕ) → Judgement
judge_length values =
    if not (are_lengths values) then Refuses 400 else
    (if nat_lt most_body (body_length values) then Refuses 413 else Takes (body_length values))

-- the fields, by the version: a coding, the one host of version 1.1, the length
abbrev pub judge_fields : ℕ → List Field → Judgement
judge_fields minor fields =
    if has_field (codes "transfer-encoding") fields then Refuses 501 else
    (if minor == 1 && not (count_fields (codes "host") fields == 1) then Refuses 400 else judge_length (length_values fields))

-- a version, a method, a target and fields: the first rule that refuses decides
abbrev pub judge : ℕ → List ℕ → List ℕ → List Field → Judgement
judge minor method target fields = provided (provided (judge_fields minor fields) (is_known_method method) 405) (is_known_target target) 400

abbrev pub judgement : RequestHead → Judgement
judgement head = judge head.minor head.method head.target (fields_of head)

-- the bytes are `close`, in any case of letters
abbrev pub is_close : List ℕ → Bool
is_close part = str_eq_ignore_ascii_case (trim_ows part) (codes "close")

-- the value lists `close` between its commas
abbrev pub lists_close : List ℕ → Bool
lists_close value = list_any is_close (slice_split (λ b. b == 44) value)

-- the connection ends after the message: the version is 1.0, or a `Connection` field says so
abbrev pub closes : ℕ → List Field → Bool
closes minor fields = minor == 0 || list_any (λ field. is_named (codes "connection") field && lists_close field.1) fields

-- the value is the type of forms, up to a `;`, in any case of letters
abbrev pub is_form_type : List ℕ → Bool
is_form_type value = str_eq_ignore_ascii_case (trim_ows (before_first (λ b. b == 59) value)) (codes "application/x-www-form-urlencoded")

-- whether the type, where there is one, is that of forms
abbrev pub is_some_form_type : Option (List ℕ) → Bool
is_some_form_type None = false
is_some_form_type (Some value) = is_form_type value

-- the body is a form: the method is POST, and the first type says so
abbrev pub has_form_body : List ℕ → List Field → Bool
has_form_body method fields = bytes_eq method (codes "POST") && is_some_form_type (first_value (values_of (codes "content-type") fields))

-- the pairs of the body, where it is a form
abbrev pub body_pairs : Bool → List ℕ → List (List ℕ × List ℕ)
body_pairs true body = form_pairs body
body_pairs false body = []

-- the request that a head and its body make
abbrev pub request_of : RequestHead → List ℕ → Request
request_of head body = record {
  path = or_root (target_path head.target);
  form = record { pairs = form_pairs (target_query head.target) ++ body_pairs (has_form_body head.method (fields_of head)) body };
  closing = closes head.minor (fields_of head);
}
