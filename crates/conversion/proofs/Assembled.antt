-- The converted sheet by the parts that its writer puts one behind the other: what stands before the heading of the
-- rules, the heading with its count, and what stands behind it. Assumes nothing.
use mathlib.Core.Path.{◌≡◌, ap}
use mathlib.Core.List.{List, ◌++◌, map}
use Prim.Native.Nat.{ℕ, ◌+◌}
use native.Mathlib.Numerals.{add-one}
use native.Mathlib.Omega.{arith}
use lib.ListN.{length, take, drop, length-append}
use lib.Seq.{drop-drop}
use Rattle.network.specs.declared.Network.{Network}
use Rattle.layout.specs.Layout.{lines}
use Rattle.conversion.specs.Rows.{lines_of}
use Rattle.conversion.specs.FormerRules.{heading_line}
use Rattle.conversion.specs.Converted.{doubled, heading, resulting, converted}

module _ (sheet : List ℕ) (Γ : Network) where
  abbrev pub front : List ℕ
  front = lines (take (heading_line Γ) (lines_of sheet))

  abbrev pub rest : List ℕ
  rest = lines (map doubled (drop 1 (drop (heading_line Γ) (lines_of sheet))))

  pub converted-is : front ++ heading (resulting sheet Γ) ++ rest ≡ converted sheet Γ
  unfolding converted
  converted-is = rw (drop-drop 1 (heading_line Γ) (lines_of sheet), add-one)

  pub length-converted : length front + length (heading (resulting sheet Γ)) + length rest
      ≡ length (converted sheet Γ)
  length-converted =
      let row = heading (resulting sheet Γ) in
      omega (arith, ap length converted-is, length-append (front ++ row) rest, length-append front row)

-- of a network only its counts are told
pub converted-same : (sheet : List ℕ) (Γ Δ : Network) → Γ.events ≡ Δ.events → Γ.signals ≡ Δ.signals
    → Γ.rules ≡ Δ.rules → converted sheet Γ ≡ converted sheet Δ
unfolding converted
converted-same sheet Γ Δ e s r = rw (e, s, r)
