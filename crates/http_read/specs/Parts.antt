-- What the code keeps of a head that it has read.
use Rattle.std.specs.Prelude.{◌≡◌, ℕ, ◌⊎◌, List, ◌++◌, length, drop, Result, Ok, Err}
use Rattle.web_messages.specs.declared.request.Request.{Request}
use Rattle.http_read.specs.Form.{form_pairs}
use Rattle.http_read.specs.Messages.{IsHead}
use Rattle.httparse.specs.Grammar.{RequestHead}
use Rattle.httparse.specs.Spans.{span_bytes, IsWithin}
use Rattle.http_read.specs.declared.parts.Parts.{Parts}
use Rattle.http_read.specs.declared.target.Target.{Target}
use Rattle.http_read.specs.Head.{Field, Judgement, judge, Refuses, Takes, judgement, fields_of, target_path, target_query, has_form_body, closes, or_root, body_pairs}

-- where a target's path and query lie in it
pub record IsTarget (target : List ℕ) (t : Target) : Type 0 where
  pub path : IsWithin (length target) t.path
  pub path_is : span_bytes target t.path ≡ target_path target
  pub query : IsWithin (length target) t.query
  pub query_is : span_bytes target t.query ≡ target_query target

-- what is kept of a head with this version, this method, this target and these fields
pub record IsPartsOf (bytes : List ℕ) (minor : ℕ) (method target : List ℕ) (fields : List Field) (p : Parts) : Type 0 where
  pub length_is : p.head ≡ length bytes
  pub takes : judge minor method target fields ≡ Takes p.body
  pub path : IsWithin (length bytes) p.path
  pub path_is : span_bytes bytes p.path ≡ target_path target
  pub query : IsWithin (length bytes) p.query
  pub query_is : span_bytes bytes p.query ≡ target_query target
  pub form_is : p.has_form ≡ has_form_body method fields
  pub closing_is : p.closing ≡ closes minor fields

-- what is kept of a head
abbrev pub IsParts : List ℕ → RequestHead → Parts → Type 0
IsParts bytes head p = IsPartsOf bytes head.minor head.method head.target (fields_of head) p

-- the code's answer is this judgement
abbrev pub AsJudged : Result ℕ ℕ → Judgement → Type 0
AsJudged (Ok n) judged = judged ≡ Takes n
AsJudged (Err status) judged = judged ≡ Refuses status

-- what whole bytes are as a head: what is kept of it, or a refusal
abbrev pub IsRead : List ℕ → Result Parts ℕ → Type 0
IsRead bytes (Ok parts) = (head : RequestHead) × IsHead bytes head × IsParts bytes head parts
IsRead bytes (Err status) =
    (((head : RequestHead) → IsHead bytes head → ⊥) × (status ≡ 400)) ⊎ ((head : RequestHead) × IsHead bytes head × (judgement head ≡ Refuses status))

-- the request of a message, whose bytes these are
abbrev pub request_at : List ℕ → Parts → Request
request_at bytes p = record {
  path = or_root (span_bytes bytes p.path);
  form = record { pairs = form_pairs (span_bytes bytes p.query) ++ body_pairs p.has_form (drop p.head bytes) };
  closing = p.closing;
}
