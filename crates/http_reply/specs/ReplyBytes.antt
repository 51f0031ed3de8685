-- The bytes of replies: RFC 9112, sections 4 and 5 (status line, field lines), RFC 9110, sections 8.6 (`Content-Length`),
-- 10.2.1 (`Allow`) and 15 (statuses with their phrases).
use Rattle.std.specs.Prelude.{◌≡◌, ℕ, ◌==◌, ◌⊎◌, Bool, true, List, [], ◌∷◌, ◌++◌, length, if◌then◌else◌, codes, decimal}
use Rattle.web_messages.specs.declared.request.Reply.{Reply}
use Rattle.web_messages.specs.declared.request.Reply.TheVariants as reply
use Rattle.web_messages.specs.declared.request.Refusal.{Refusal}
use Rattle.web_messages.specs.declared.request.Refusal.TheVariants as refusal

-- CR LF
abbrev pub line_end : List ℕ
line_end = 13 ∷ 10 ∷ []

-- the phrase of a status; a status that isn't listed has the empty one
unfoldable pub phrase : ℕ → List ℕ
phrase status =
    if status == 200 then codes "OK" else
    (if status == 201 then codes "Created" else
    (if status == 400 then codes "Bad Request" else
    (if status == 403 then codes "Forbidden" else
    (if status == 404 then codes "Not Found" else
    (if status == 405 then codes "Method Not Allowed" else
    (if status == 409 then codes "Conflict" else
    (if status == 410 then codes "Gone" else
    (if status == 413 then codes "Content Too Large" else
    (if status == 431 then codes "Request Header Fields Too Large" else
    (if status == 500 then codes "Internal Server Error" else
    (if status == 501 then codes "Not Implemented" else
    (if status == 503 then codes "Service Unavailable" else []))))))))))))

-- the type of the server's own replies
abbrev pub own_type : List ℕ
own_type = codes "text/plain; charset=utf-8"

-- `HTTP/1.1 STATUS PHRASE`
abbrev pub status_line : ℕ → List ℕ
status_line status = codes "HTTP/1.1 " ++ (decimal status ++ (codes " " ++ (phrase status ++ line_end)))

-- `NAME: VALUE`
abbrev pub field_line : List ℕ → List ℕ → List ℕ
field_line name value = name ++ (codes ": " ++ (value ++ line_end))

-- a reply of 405 lists the methods that there are
abbrev pub allow_line : ℕ → List ℕ
allow_line status = if status == 405 then field_line (codes "Allow") (codes "GET, POST") else []

-- the last reply of a connection says so
abbrev pub closing_line : Bool → List ℕ
closing_line closing = if closing then field_line (codes "Connection") (codes "close") else []

-- a status, the type and the bytes of a body, and whether the connection ends after the reply
unfoldable pub message : ℕ → List ℕ → List ℕ → Bool → List ℕ
message status content_type body closing =
    status_line status
    ++ (field_line (codes "Content-Type") content_type
    ++ (field_line (codes "Content-Length") (decimal (length body))
    ++ (allow_line status
    ++ (closing_line closing
    ++ (line_end ++ body)))))

-- why a request has no finished reply, in words
abbrev pub refusal_body : Refusal → List ℕ
refusal_body refusal.Pages = codes "503 pages"
refusal_body refusal.DatabaseFault = codes "503 database fault"
refusal_body (refusal.DatabaseStatement place) = codes "503 database statement at " ++ decimal place
refusal_body refusal.Budget = codes "503 budget"
refusal_body refusal.Stack = codes "503 stack"
refusal_body refusal.ReplyFull = codes "503 reply"
refusal_body refusal.Caches = codes "503 caches"
refusal_body refusal.NoMemory = codes "503 memory"

-- the body of a reply
abbrev pub body_of : Reply → List ℕ
body_of (reply.Finished status content_type body) = body
body_of (reply.Refused refusal) = refusal_body refusal

-- the bytes of a reply; a refused request has the status 503
unfoldable pub bytes_of : Reply → Bool → List ℕ
bytes_of (reply.Finished status content_type body) closing = message status content_type body closing
bytes_of (reply.Refused refusal) closing = message 503 own_type (refusal_body refusal) closing

-- the statuses with which bytes that are no message are answered
abbrev pub IsFaultStatus : ℕ → Type 0
IsFaultStatus status = (status ≡ 400) ⊎ ((status ≡ 405) ⊎ ((status ≡ 413) ⊎ ((status ≡ 431) ⊎ (status ≡ 501))))

-- the body of the answer to bytes that are no message
unfoldable pub fault_body : ℕ → List ℕ
fault_body status =
    if status == 405 then codes "405 method not allowed" else
    (if status == 413 then codes "413 content too large" else
    (if status == 431 then codes "431 head too large" else
    (if status == 501 then codes "501 not implemented" else codes "400 bad request")))

-- the answer to bytes that are no message, which is the last of its connection
abbrev pub fault_bytes : ℕ → List ℕ
fault_bytes status = message status own_type (fault_body status) true
