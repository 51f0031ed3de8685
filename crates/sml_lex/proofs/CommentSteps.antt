-- Comments, a byte at a time.
use Rattle.std.proofs.Common.{◌≡◌, ℕ, ◌+◌, ◌-◌, ◌≤◌, List, [], ◌∷◌, Bool, true, false, cond, Option, Some, refl, ap, sym, ◌∙◌, subst, arith}
use Rattle.grammar_rules.specs.Spelling.{Reading, Good, Refused, OpenComment, Blank, Before, comment, before_behind, depth_behind, opens, shuts, is_nil, only}
use Rattle.sml_lex.specs.Coded.{comment_ends}

pub comment_goes : (n : ℕ) (w v : Before) (d e b : ℕ) → comment_ends w d b ≡ false → v ≡ before_behind w b → e ≡ depth_behind w d b → (q : List ℕ) → comment n w d (b ∷ q) ≡ comment n v e q
unfolding comment
comment_goes n w v d e b h f g q =
    ap (λ t. cond t (only (is_nil q) (Good Blank)) (comment n (before_behind w b) (depth_behind w d b) q)) h
    ∙ (ap (λ z. comment n z (depth_behind w d b) q) (sym f) ∙ ap (λ z. comment n v z q) (sym g))

pub comment_shuts : (n : ℕ) (w : Before) (d b : ℕ) → comment_ends w d b ≡ true → (q : List ℕ) → comment n w d (b ∷ q) ≡ only (is_nil q) (Good Blank)
unfolding comment
comment_shuts n w d b h q = ap (λ t. cond t (only (is_nil q) (Good Blank)) (comment n (before_behind w b) (depth_behind w d b) q)) h

pub comment_open : (n : ℕ) (w : Before) (d : ℕ) → comment n w d [] ≡ Some (Refused (OpenComment n))
unfolding comment
comment_open n w d = refl

pub depth_grows : (w : Before) (d b : ℕ) → depth_behind w d b ≤ d + 1
depth_grows w d b = go (opens w b) (shuts w b)
  where
    go : (p q : Bool) → cond p (d + 1) (cond q (d - 1) d) ≤ d + 1
    go true q = omega arith
    go false true = omega arith
    go false false = omega arith
