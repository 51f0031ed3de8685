use Rattle.std.proofs.Common.{◌≡◌, ℕ, List, [], ◌++◌, length, ap, ◌∙◌, append_assoc}
use Rattle.std.specs.Prelude.{codes, decimal}
use Rattle.http_reply.specs.ReplyBytes.{status_line, field_line, allow_line, closing_line, line_end, message}
use Rattle.http_reply.proofs.head.message.Goals as goal

-- what was pushed part by part is the parts together
joined : (s t l r n b i0 i1 i2 i3 i4 i5 i6 : List ℕ) → i0 ≡ [] → i1 ≡ i0 ++ s → i2 ≡ i1 ++ t → i3 ≡ i2 ++ l → i4 ≡ i3 ++ r → i5 ≡ i4 ++ n → i6 ≡ i5 ++ b → i6 ≡ ((((s ++ t) ++ l) ++ r) ++ n) ++ b
joined s t l r n b i0 i1 i2 i3 i4 i5 i6 e0 e1 e2 e3 e4 e5 e6 =
    let f1 : i1 ≡ s = e1 ∙ ap (λ x. x ++ s) e0 in
    e6 ∙ ap (λ x. x ++ b) (e5 ∙ ap (λ x. x ++ n) (e4 ∙ ap (λ x. x ++ r) (e3 ∙ ap (λ x. x ++ l) (e2 ∙ ap (λ x. x ++ t) f1))))

nested : (s t l a c n b : List ℕ) → ((((s ++ t) ++ l) ++ (a ++ c)) ++ n) ++ b ≡ s ++ (t ++ (l ++ (a ++ (c ++ (n ++ b)))))
nested s t l a c n b = simp append_assoc

pub returns : goal.returns
unfolding message
returns c =
    let s = status_line c.args.status in
    let t = field_line (codes "Content-Type") c.args.content_type.now in
    let l = field_line (codes "Content-Length") (decimal (length c.args.body.now)) in
    let a = allow_line c.args.status in
    let k = closing_line c.args.closing in
    let b : List ℕ = c.args.body.now in
    let all = joined s t l (a ++ k) line_end b _ _ _ _ _ _ _ c.new-out.ensures.items c.in_ok-push_status_line.ensures c.in_ok-push_field_line.ensures c.in_ok-push_length.ensures c.in_ok-push_rarer_lines.ensures c.in_ok-extend_from_slice.ensures.items c.in_ok-extend_from_slice-2.ensures.items in
    c.from_vec.ensures ∙ all ∙ nested s t l a k line_end b
