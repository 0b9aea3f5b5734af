-- Laws of numbers in fields: what reading one says of the range of a count, and of a limit with its sign. Assumes
-- nothing.
use mathlib.Core.Path.{◌≡◌, ◌∙◌}
use mathlib.Core.Bool.{Bool, true, false}
use mathlib.Core.Option.{Option, none, some}
use mathlib.Core.List.{List}
use Prim.Native.Nat.{ℕ, zero, suc, ◌≤◌, ◌<◌}
use native.Mathlib.Omega.{arith}
use borrow.Author.Tests.{le-leb, lt-leb}
use lib.IntN.{pos, neg_ℤ, ◌-ℤ◌, +ℤ_idl}
use mir.Syntax.{w32}
use mir.Val.{SFits, to_z, of_z}
use mir.ValLaws.{to_z_pos, to_z-of_z}
use Rattle.std.specs.Prelude.{Some, None}
use Rattle.prelude.specs.Checks.{first_failing_lem}
use Rattle.prelude.proofs.Tests.{by_cond}
use Rattle.text.specs.Number.{is_number, is_negative, in_range, magnitude, value_of}
use Rattle.text.specs.ReadNumber.{read_number_lem}
use Rattle.text.specs.declared.Number.TheVariants as Num
use Rattle.text.proofs.ReadAs.{ReadAs, number_ill, range_minus, range-low, range-high, range_in}
use Rattle.refusal.specs.declared.Cause.{Cause}
use Rattle.refusal.specs.declared.Cause.TheVariants as C
use Rattle.network.specs.Limits as L
use Rattle.line.specs.Tests.{count_tests, limit_tests}

-- the count of a section
module _ (lo hi : ℕ) (f : List ℕ) where
  abbrev why : Option Cause
  why = first_failing_lem (count_tests lo hi f)

  pub count_ill : read_number_lem hi f ≡ None → why ≡ some C.IllFormedNumber
  count_ill e = rw (number_ill hi f e)

  out_of_range : (is_number f ≡ true) × (in_range lo hi f ≡ false) → why ≡ some C.OutOfRange
  out_of_range p = rw (p.0, p.1)

  pub count_minus : (v : ℕ) → read_number_lem hi f ≡ Some (Num.Minus v) → why ≡ some C.OutOfRange
  count_minus v e = out_of_range (range_minus lo hi f v e)

  pub count_low : (v : ℕ) → read_number_lem hi f ≡ Some (Num.Plus v) → v < lo → why ≡ some C.OutOfRange
  count_low v e h = out_of_range (range-low lo hi f v e h)

  pub count-high : (v : ℕ) → read_number_lem hi f ≡ Some (Num.Plus v) → hi < v → why ≡ some C.OutOfRange
  count-high v e h = out_of_range (range-high lo hi f v e h)

  pub count_in : (v : ℕ) → read_number_lem hi f ≡ Some (Num.Plus v) → lo ≤ v → v ≤ hi → (why ≡ none) × (magnitude f ≡ v)
  count_in v e l h = let p = range_in lo hi f v e l h in (rw (p.0, p.1), p.2)

-- a size as an i32, with either sign
pub signed_plus : (v : ℕ) → v ≤ L.horizon → to_z w32 v ≡ pos v
signed_plus v h = to_z_pos w32 v (omega arith)

negated : (v : ℕ) → v ≤ L.horizon → pos 0 -ℤ to_z w32 v ≡ neg_ℤ (pos v)
negated v h = rw (signed_plus v h) (+ℤ_idl (neg_ℤ (pos v)))

negative_fits : (v : ℕ) → v ≤ L.horizon → SFits w32 (neg_ℤ (pos v))
negative_fits zero h = record { sfits = omega arith }
negative_fits (suc v) h = record { sfits = omega arith }

positive-fits : (v : ℕ) → v ≤ L.horizon → SFits w32 (pos v)
positive-fits v h = record { sfits = omega arith }

-- a limit fits an i32
pub value-fits : (f : List ℕ) → magnitude f ≤ L.horizon → SFits w32 (value_of f)
value-fits f h =
    by_cond (SFits w32) (is_negative f) (neg_ℤ (pos (magnitude f))) (pos (magnitude f))
    (λ e. negative_fits (magnitude f) h) (λ e. positive-fits (magnitude f) h)

pub negated_fits : (v : ℕ) → v ≤ L.horizon → SFits w32 (pos 0 -ℤ to_z w32 v)
negated_fits v h = rw (negated v h) (negative_fits v h)

pub signed_minus : (v : ℕ) → v ≤ L.horizon → to_z w32 (of_z w32 (pos 0 -ℤ to_z w32 v)) ≡ neg_ℤ (pos v)
signed_minus v h = to_z-of_z w32 (pos 0 -ℤ to_z w32 v) (negated_fits v h) ∙ negated v h

-- the limit of a rule
module _ (f : List ℕ) where
  abbrev limit : Option Cause
  limit = first_failing_lem (limit_tests f)

  pub limit_ill : read_number_lem L.horizon f ≡ None → limit ≡ some C.IllFormedNumber
  limit_ill e = rw (number_ill L.horizon f e)

  pub limit-beyond : (s : Bool) (v : ℕ) → ReadAs L.horizon f s v → L.horizon < v → limit ≡ some C.OutOfRange
  limit-beyond s v w h = let size = w.size in rw (w.well_formed, lt-leb (magnitude f) L.horizon (omega arith))

  pub limit_plus : (v : ℕ) → ReadAs L.horizon f false v → v ≤ L.horizon → (limit ≡ none) × (value_of f ≡ pos v)
  limit_plus v w h =
      let size = w.size in
      let e : magnitude f ≡ v = omega arith in
      (rw (w.well_formed, le-leb (magnitude f) L.horizon (omega arith)), rw (e, w.sign))

  pub limit_minus : (v : ℕ) → ReadAs L.horizon f true v → v ≤ L.horizon
      → (limit ≡ none) × (value_of f ≡ neg_ℤ (pos v))
  limit_minus v w h =
      let size = w.size in
      let e : magnitude f ≡ v = omega arith in
      (rw (w.well_formed, le-leb (magnitude f) L.horizon (omega arith)), rw (e, w.sign))
