-- How far the events of a ring have come after so many rounds, as numbers: m events besides the start go around, and
-- round i + 1 raises event i % m + 1, and that alone, by one. Assumes nothing.
use mathlib.Core.Path.{◌≡◌, ◌∙◌, ap}
use mathlib.Core.Bool.{cond}
use mathlib.Core.List.{List}
use Prim.Native.Nat.{ℕ, zero, suc, ◌+◌, ◌-◌, ◌*◌, ◌/◌, ◌%◌, ◌≤◌, ◌<◌}
use native.Mathlib.Nat.{mul_comm, le-div_iff_mul-le, div-lt_iff_lt-mul, div-mul-le_self, add-div_right}
use native.Mathlib.Nat.{mul-add-div_right, div-eq_of_lt, div-add-mod', mod-lt}
use native.Mathlib.Omega.{arith}
use borrow.Author.Tests.{ne_eqb}
use lib.Dec.{eqb}
use Rattle.prelude.specs.Bounded.{tabulate}

-- the minute of an event after i rounds; the start stays
abbrev pub raised_after : ℕ → ℕ → ℕ → ℕ
raised_after m i zero = 0
raised_after m i (suc u) = (i + m - suc u) / m

-- of all events
abbrev pub after_rounds : ℕ → ℕ → List ℕ
after_rounds m i = tabulate (suc m) (raised_after m i)

div_mono : (m a b : ℕ) → 1 ≤ m → a ≤ b → a / m ≤ b / m
div_mono m a b p h = (le-div_iff_mul-le p).1 (omega (arith, div-mul-le_self a m))

module _ (m : ℕ) (some : 1 ≤ m) where
  pub raised_after-none : (u : ℕ) → u ≤ m → raised_after m 0 u ≡ 0
  raised_after-none zero l = omega arith
  raised_after-none (suc u) l = div-eq_of_lt (omega arith)

  pub raised_after-rises : (i u : ℕ) → raised_after m i u ≤ raised_after m (suc i) u
  raised_after-rises i zero = omega arith
  raised_after-rises i (suc u) = div_mono m (i + m - suc u) (suc i + m - suc u) some (omega arith)

  -- a next event comes to where the one before it was, and the first to one past the last
  pub raised_after-next : (i u : ℕ) → raised_after m (suc i) (suc (suc u)) ≡ raised_after m i (suc u)
  raised_after-next i u = ap (λ (x : ℕ). x / m) (omega arith)

  pub raised_after-first : (i : ℕ) → raised_after m (suc i) 1 ≡ raised_after m i m + 1
  raised_after-first i =
      let k : ℕ = m - 1 in
      let top : suc i + m - 1 ≡ i + m = omega arith in
      let low : raised_after m i m ≡ i / m = last k (omega arith) in
      rw (top, low) (add-div_right i some)
    where
      last : (k : ℕ) → m ≡ suc k → raised_after m i m ≡ i / m
      last k e = rw e (ap (λ (x : ℕ). x / suc k) (omega arith))

  -- the event that round i + 1 raises
  pub raised_after-moves : (i : ℕ) → raised_after m i (suc (i % m)) < raised_after m (suc i) (suc (i % m))
  raised_after-moves i =
      let whole = div-add-mod' i m in
      let low : i % m < m = mod-lt i some in
      let before : i + m - suc (i % m) ≡ i / m * m + (m - 1) = omega arith in
      let after : suc i + m - suc (i % m) ≡ i / m * m + m = omega arith in
      let at_before : (i / m * m + (m - 1)) / m ≡ i / m + (m - 1) / m = mul-add-div_right some (i / m) (m - 1) in
      let nothing : (m - 1) / m ≡ 0 = div-eq_of_lt (omega arith) in
      let at_after : (i / m * m + m) / m ≡ i / m * m / m + 1 = add-div_right (i / m * m) some in
      let back : (i / m * m + 0) / m ≡ i / m + 0 / m = mul-add-div_right some (i / m) 0 in
      let none : 0 / m ≡ 0 = div-eq_of_lt (omega arith) in
      let same_sum : i / m * m + 0 ≡ i / m * m = omega arith in
      rw (before, after) (omega (arith, at_before, nothing, at_after, (rw same_sum at back), none))

  -- for m * h rounds all stay within the horizon h, and then the first event passes it
  pub raised_after-within : (h i u : ℕ) → i < m * h → raised_after m (suc i) u ≤ cond (eqb u 0) 0 h
  raised_after-within h i zero l = omega arith
  raised_after-within h i (suc u) l =
      let z = ne_eqb (suc u) 0 (λ e. omega arith) in
      let low : (suc i + m - suc u) / m < suc h = (div-lt_iff_lt-mul some).1 (omega (arith, mul_comm m h)) in
      rw z (omega arith)

  pub raised_after-passes : (h : ℕ) → raised_after m (suc (m * h)) 1 ≡ suc h
  raised_after-passes h =
      let top : suc (m * h) + m - 1 ≡ suc h * m + 0 = omega (arith, mul_comm m h) in
      let none : 0 / m ≡ 0 = div-eq_of_lt (omega arith) in
      rw top (mul-add-div_right some (suc h) 0 ∙ omega arith)
