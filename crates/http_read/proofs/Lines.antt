-- A head has more LF than fields.
use Rattle.std.proofs.Common.{◌≡◌, ℕ, ◌+◌, ◌≤◌, List, [], ◌∷◌, ◌++◌, length, ap, arith}
use Rattle.std.specs.List.{flat_map}
use Rattle.std.proofs.lemmas.List.Sums.{sum_by-append}
use Rattle.httparse.specs.Ascii.{colon, space}
use Rattle.httparse.specs.Grammar.{RequestHead, Field, LineEnd, crlf, lf, print_end, print_field, print_section, print_request, print_blank, print_version}
use Rattle.http_read.specs.Messages.{IsHead, lines}

lines_more : (a b : List ℕ) → lines (a ++ b) ≡ lines a + lines b
lines_more a b = sum_by-append _ a b

end_line : (end : LineEnd) → 1 ≤ lines (print_end end)
end_line crlf = omega arith
end_line lf = omega arith

field_line : (f : Field) → 1 ≤ lines (print_field f)
field_line f =
    let a = lines_more (f.name ++ colon ∷ f.raw) (print_end f.end) in
    let e = end_line f.end in
    omega (arith, a, e)

fields_lines : (fields : List Field) → length fields ≤ lines (flat_map print_field fields)
fields_lines [] = omega arith
fields_lines (f ∷ fields) =
    let a = lines_more (print_field f) (flat_map print_field fields) in
    let b = field_line f in
    let c = fields_lines fields in
    omega (arith, a, b, c)

-- the LF of what stands last are LF of the whole
lines_last : (a b : List ℕ) (n : ℕ) → n ≤ lines b → n ≤ lines (a ++ b)
lines_last a b n h = let e = lines_more a b in omega (arith, e, h)

section_lines : (fields : List Field) (last : LineEnd) → length fields ≤ lines (print_section fields last)
section_lines fields last =
    let a = lines_more (flat_map print_field fields) (print_end last) in
    let b = fields_lines fields in
    omega (arith, a, b)

request_lines : (head : RequestHead) → length head.fields ≤ lines (print_request head)
unfolding print_request
request_lines head = lines_last (print_blank head.blank ++ head.method ++ space ∷ head.target ++ space ∷ print_version head.minor ++ print_end head.line_end) (print_section head.fields head.last) (length head.fields) (section_lines head.fields head.last)

-- a head has no more fields than LF
pub few_fields : (bytes : List ℕ) (head : RequestHead) → IsHead bytes head → length head.fields ≤ lines bytes
few_fields bytes head is =
    let e : lines bytes ≡ lines (print_request head ++ []) = ap lines is.1 in
    let f = lines_more (print_request head) [] in
    let g = request_lines head in
    omega (arith, e, f, g)
