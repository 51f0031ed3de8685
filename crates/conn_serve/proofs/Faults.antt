-- The statuses of bytes that are no message.
use Rattle.std.proofs.Common.{◌≡◌, ℕ, zero, suc, ◌≤◌, ◌<◌, inl, inr, Bool, true, false, List, length, refl, sym, subst, arith}
use Rattle.std.specs.Prelude.{◌&&◌, if◌then◌else◌, not, nat_lt, ◌==◌, codes}
use Rattle.web_messages.specs.declared.request.Request.{Request}
use Rattle.http_reply.specs.ReplyBytes.{IsFaultStatus}
use Rattle.http_read.specs.Head.{Judgement, Refuses, Takes, Field, provided, judge_length, judge_fields, is_known_method, is_known_target, are_lengths, body_length, most_body, has_field, count_fields, length_values, fields_of}
use Rattle.http_read.specs.Messages.{Message, Fault, HasFront, ends_at}

-- a refusal has one status
same_status : (a b : ℕ) → Refuses a ≡ Refuses b → a ≡ b
same_status a b e = cc e

no_refusal : {A : Type 0} (n status : ℕ) → Takes n ≡ Refuses status → A
no_refusal n status e = absurd (cc e)

-- a rule that refuses or leaves it to the next ones
chosen_fault : (b : Bool) (own status : ℕ) (rest : Judgement) → (if b then Refuses own else rest) ≡ Refuses status → IsFaultStatus own → (rest ≡ Refuses status → IsFaultStatus status) → IsFaultStatus status
chosen_fault true own status rest e known next = subst IsFaultStatus (same_status own status e) known
chosen_fault false own status rest e known next = next e

-- a rule that refuses what the earlier ones take
provided_fault : (first : Judgement) (passes : Bool) (own status : ℕ) → provided first passes own ≡ Refuses status → IsFaultStatus own → (first ≡ Refuses status → IsFaultStatus status) → IsFaultStatus status
provided_fault (Refuses s) passes own status e known earlier = earlier e
provided_fault (Takes n) true own status e known earlier = no_refusal n status e
provided_fault (Takes n) false own status e known earlier = subst IsFaultStatus (same_status own status e) known

is_400 : IsFaultStatus 400
is_400 = inl refl

is_405 : IsFaultStatus 405
is_405 = inr (inl refl)

is_413 : IsFaultStatus 413
is_413 = inr (inr (inl refl))

is_431 : IsFaultStatus 431
is_431 = inr (inr (inr (inl refl)))

is_501 : IsFaultStatus 501
is_501 = inr (inr (inr (inr refl)))

length_fault : (values : List (List ℕ)) (status : ℕ) → judge_length values ≡ Refuses status → IsFaultStatus status
length_fault values status e =
    chosen_fault (not (are_lengths values)) 400 status _ e is_400 (λ e'. chosen_fault (nat_lt most_body (body_length values)) 413 status _ e' is_413 (λ e''. no_refusal (body_length values) status e''))

fields_fault : (minor : ℕ) (fields : List Field) (status : ℕ) → judge_fields minor fields ≡ Refuses status → IsFaultStatus status
fields_fault minor fields status e =
    chosen_fault (has_field (codes "transfer-encoding") fields) 501 status _ e is_501 (λ e'. chosen_fault (minor == 1 && not (count_fields (codes "host") fields == 1)) 400 status _ e' is_400 (length_fault (length_values fields) status))

-- bytes that are no message have one of the statuses of such answers
pub fault_status : (bytes : List ℕ) (status : ℕ) → HasFront bytes (Fault status) → IsFaultStatus status
fault_status bytes status h = elim h [
  | inl too ↦ subst IsFaultStatus (sym too.1) is_431
  | inr other ↦ elim other [
    | inl bad ↦ subst IsFaultStatus (sym bad.1) is_400
    | inr refused ↦
        let head = refused.1 in
        provided_fault _ (is_known_target head.target) 400 status refused.3 is_400 (λ e. provided_fault _ (is_known_method head.method) 405 status e is_405 (fields_fault head.minor (fields_of head) status))
  ]
]

-- a head has a byte
head_some : (bytes : List ℕ) (k : ℕ) → ends_at bytes k ≡ true → 0 < k
unfolding ends_at
head_some bytes zero e = absurd (cc e)
head_some bytes (suc k) e = omega arith

-- a message has a byte, and lies in the bytes
pub message_some : (bytes : List ℕ) (request : Request) (size : ℕ) → HasFront bytes (Message request size) → (0 < size) × (size ≤ length bytes)
message_some bytes request size (k, head, n, m) =
    let some = head_some bytes k m.reads.has.ends in
    let e = m.size_is in (omega (arith, some, e), m.whole)
