-- A limit plus 10,080, so never negative: from 0 to 20,160.
use Rattle.std.specs.Prelude.{ℕ, suc, ◌+◌, ◌-◌, ℤ, pos, negsuc, ◌-ℤ◌}
use Rattle.network.specs.Limits as L

abbrev pub biased : ℤ → ℕ
biased (pos w) = L.horizon + w
biased (negsuc w) = L.horizon - suc w

-- the limit that, so biased, is v
abbrev pub unbiased : ℕ → ℤ
unbiased v = pos v -ℤ pos L.horizon
