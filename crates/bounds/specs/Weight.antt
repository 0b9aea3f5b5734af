-- The weight of a bound: 10,080 more than the difference that it asks for, so that it has no sign.
use Rattle.std.specs.Prelude.{ℕ, suc, ◌+◌, ◌-◌, ◌*◌, ℤ, pos, negsuc, neg_ℤ}
use Rattle.network.specs.Limits as L

-- the greatest weight
abbrev pub heaviest : ℕ
heaviest = 2 * L.horizon

-- the weight of b - a ≤ w, for the least time of a: 10,080 less w
abbrev pub weight_of : ℤ → ℕ
weight_of (pos w) = L.horizon - w
weight_of (negsuc w) = L.horizon + suc w

-- that of w ≤ b - a, for the least time of b: the weight of a - b ≤ -w
abbrev pub lower_weight : ℤ → ℕ
lower_weight w = weight_of (neg_ℤ w)
