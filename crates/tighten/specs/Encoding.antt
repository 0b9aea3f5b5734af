-- An upper bound as one number, so that a search for the next key and its least limit compares numbers only: its key,
-- and behind it its limit plus 10,080, which is not negative.
use Rattle.std.specs.Prelude.{List, filter, ℕ, ◌+◌, ◌*◌, ◌/◌, ◌%◌, ◌<◌, min, leb, ℤ, Option}
use Rattle.std.specs.List.{reduce}
use Rattle.network.specs.Biased.{biased, unbiased}
use Rattle.network.specs.WellFormed.{InLimits}
use Rattle.network.specs.declared.Label.{Label}
use Rattle.network.specs.declared.Constraint.{Constraint}
use Rattle.tighten.specs.Upper.{upper}
use Rattle.tighten.specs.Tightest.{rank}

-- how many numbers there are for a key, more than limits
abbrev pub per_key : ℕ
per_key = 32768

abbrev pub encoded : Constraint → ℕ
encoded r = rank r * per_key + biased r.bound

-- the upper bound that a number stands for: its parts in front of the limit are digits in base 16
abbrev pub decoded : ℕ → Constraint
decoded v =
    upper (v / 134217728) (v / 8388608 % 16) (unbiased (v % per_key))
    (record { positive = v / 524288 % 16; negative = v / per_key % 16 })

-- each part of the key is a digit in base 16, and the limit is in range
pub record Encodable (from to : ℕ) (w : ℤ) (ℓ : Label) : Type 0 where
  pub from_few : from < 16
  pub to_few : to < 16
  pub positive_few : ℓ.positive < 16
  pub negative_few : ℓ.negative < 16
  pub bound : InLimits w

-- the least number behind all those with the key of v
abbrev pub floor_after_lem : ℕ → ℕ
floor_after_lem v = (v / per_key + 1) * per_key

-- more than the number of any upper bound
abbrev pub top : ℕ
top = 2147483648

-- the least of the numbers that are at least lo, if there is one
abbrev pub least_of : List ℕ → ℕ → Option ℕ
least_of numbers lo = reduce min (filter (λ v. leb lo v) numbers)
