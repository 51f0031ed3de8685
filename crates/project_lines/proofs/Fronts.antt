-- The front of a text by `strip_prefix`.
use Rattle.std.proofs.Common.{◌≡◌, ℕ, List, ◌++◌, Option, Some, None, Bor, ap, sym, ◌∙◌}
use Rattle.std.specs.Prelude.{MatchOption}
use Rattle.std.specs.Option.{option_copied}
use Rattle.project_lines.specs.Reading.{after}
use Rattle.project_lines.proofs.Options.{after-append, after_none}

pub stripped : (text token : List ℕ) (r : Option (Bor (List ℕ))) → MatchOption r ((rest : List ℕ) → text ≡ token ++ rest → ⊥) (λ x. text ≡ token ++ x.now) → option_copied r ≡ after token text
stripped text token None m = sym (after_none token text m)
stripped text token (Some x) m = sym (ap (after token) m ∙ after-append token x.now)
