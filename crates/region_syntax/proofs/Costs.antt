-- Work and depth are one number each, and the bounds by heights are bounds by work and depth where these are there.
use Rattle.std.proofs.Common.{◌≡◌, ◌⊎◌, inl, inr, ◌≤◌, ◌<◌, ◌+◌, ◌*◌, ℕ, subst, arith}
use Rattle.std.proofs.lemmas.Nat.{mul-le}
use Rattle.std.proofs.lemmas.Bool.{cases_lt}
use Rattle.region_syntax.specs.Cost.{IsWork, IsDepth, Stays, GrowsAbove, IsPaid, HasRoom, PassesBudget, PassesStack}

pub work_is_one : (count : ℕ → ℕ) (v w : ℕ) → IsWork count v → IsWork count w → v ≡ w
work_is_one count v w a b =
    let x : v ≤ w = subst (λ z. z ≤ w) a.1.1 (b.0 a.1.0)
    in let y : w ≤ v = subst (λ z. z ≤ v) b.1.1 (a.0 b.1.0)
    in omega (arith, x, y)

pub depth_is_one : (count : ℕ → ℕ) (w c d : ℕ) → IsDepth count w c → IsDepth count w d → c ≡ d
depth_is_one count w c d a b = let x : c ≤ d = a.1 d b.0 in let y : d ≤ c = b.1 c a.0 in omega (arith, x, y)

at_most : (width k w : ℕ) → k ≤ w → 16 * width * k ≤ 16 * width * w
at_most width k w l = mul-le (16 * width) k (16 * width) w (omega arith) l

pub paid_by_work : (count : ℕ → ℕ) (w width charge : ℕ) → IsWork count w → IsPaid width count charge → charge ≤ 16 * width * w + 64
paid_by_work count w width charge a p = let l = at_most width (count p.0) w (a.0 p.0) in let h = p.1 in omega (arith, l, h)

pub budget_by_work : (count : ℕ → ℕ) (w width budget : ℕ) → IsWork count w → PassesBudget width count budget → budget < 16 * width * w + 64
budget_by_work count w width budget a p = let l = at_most width (count p.0) w (a.0 p.0) in let h = p.1 in omega (arith, l, h)

-- from the depth on the count is the work
stays : (count : ℕ → ℕ) (w d : ℕ) → ((n m : ℕ) → n ≤ m → count n ≤ count m) → IsWork count w → IsDepth count w d → Stays count d
stays count w d up a b n l = let x = a.0 n in let y = up d n l in let z = b.0 in omega (arith, x, y, z)

pub room_by_depth : (count : ℕ → ℕ) (w d width stack : ℕ) → ((n m : ℕ) → n ≤ m → count n ≤ count m) → IsWork count w → IsDepth count w d → HasRoom width count stack → stack ≤ 8 * width * d + 64
room_by_depth count w d width stack up a b r = r d (stays count w d up a b)

-- above the depth the count grows no more
no_more : (count : ℕ → ℕ) (w d : ℕ) → IsWork count w → IsDepth count w d → GrowsAbove count d → ⊥
no_more count w d a b g = let x = a.0 g.0 in let y = g.2 in let z = b.0 in omega (arith, x, y, z)

pub stack_by_depth : (count : ℕ → ℕ) (w d width limit : ℕ) → IsWork count w → IsDepth count w d → PassesStack width count limit → limit < 8 * width * d + 64
stack_by_depth count w d width limit a b p = passed (cases_lt limit (8 * width * d + 64))
  where
    passed : (limit < 8 * width * d + 64) ⊎ (8 * width * d + 64 ≤ limit) → limit < 8 * width * d + 64
    passed (inl l) = l
    passed (inr l) = absurd (no_more count w d a b (p d l))
