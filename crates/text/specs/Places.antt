-- Digits written place by place, from the highest down: "by counting off ten-thousands, thousands, hundreds and tens"
-- (02, point 5). The weight of a place is what a one in it counts.
use Rattle.std.specs.Prelude.{◌≡◌, Bool, true, ◌&&◌, not, List, ℕ, ◌+◌, ◌*◌, ◌≤◌, ◌<◌, eqb, length, get_or}
use Prim.Native.Char.{code}
use Rattle.prelude.specs.Bytes.{every}
use Rattle.text.specs.Number.{is_digit, value_from}
use Rattle.text.specs.declared.digits.Weighed.{Weighed}

-- the weight is taken off v as often as it goes, which is at most nine times
pub record CountedOff (v weight : ℕ) (r : Weighed) : Type 0 where
  pub whole : r.digit * weight + r.left ≡ v
  pub rest : r.left < weight
  pub most : r.digit ≤ 9

-- digits without a leading zero; there may be none
abbrev pub no_leading_zero : List ℕ → Bool
no_leading_zero s = every is_digit s && not (eqb (get_or s 0 0) (code "0"))

-- the number: the digits counted off, times their weights, and what is left
abbrev pub made : ℕ → List ℕ → ℕ → ℕ
made weight digits left = value_from 0 digits * weight + left

-- the places down to that of this weight are counted off
pub record PlacesAre (weight : ℕ) (digits : List ℕ) (left : ℕ) : Type 0 where
  pub leading : no_leading_zero digits ≡ true
  pub rest : left < weight

-- one place more, of the same number
pub record Placed (weight : ℕ) (before : List ℕ) (above : ℕ) (digits : List ℕ) (left : ℕ) : Type 0 where
  pub are : PlacesAre weight digits left
  pub kept : made weight digits left ≡ made (10 * weight) before above
  pub few : length digits ≤ length before + 1
