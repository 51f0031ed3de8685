-- What a Vec of bytes holds is a text.
use Rattle.std.proofs.Common.{arith, ◌≡◌, ◌<◌, ◌^◌, ℕ, true, nat_lt, List, length, ap, ◌&&◌, ◌∙◌}
use Rattle.std.proofs.lemmas.Bool.Decides.{nat_tests}
use Rattle.std.specs.List.{All}
use Rattle.std.proofs.lemmas.List.Sums.{list_all-from_AllPass}
use Rattle.sml_syntax.specs.Ranges.{is_text}

below : (n m : ℕ) → n < m → nat_lt n m ≡ true
below n m h = grind (arith, nat_tests)

pub text_of_bytes : (bytes : List ℕ) → All (λ b. b < 256) bytes → length bytes < 2 ^ 63 → is_text bytes ≡ true
text_of_bytes bytes all short =
    ap (λ t. t && nat_lt (length bytes) (2 ^ 63)) (list_all-from_AllPass (λ b. nat_lt b 256) bytes (λ k d l. below _ 256 (all k d l)))
    ∙ below (length bytes) (2 ^ 63) short
