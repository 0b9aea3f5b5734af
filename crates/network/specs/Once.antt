-- A fact in a ghost field has one proof at most. Of what a formed network keeps only the range of limits, which goes by
-- cases, needs a word on that.
use Rattle.std.specs.Prelude.{ℤ, pos, negsuc}
use Rattle.std.specs.Coded.{le_prop}
use Rattle.network.specs.WellFormed.{InLimits}

pub InLimits-prop : (w : ℤ) → IsProp (InLimits w)
InLimits-prop (pos w) = le_prop
InLimits-prop (negsuc w) = le_prop
