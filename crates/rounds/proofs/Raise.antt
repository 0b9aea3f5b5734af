-- How a row is raised: by the bounds of its scenario, then by the other scenarios in the order of their differences;
-- and cleared where an event does not happen. Assumes nothing.
use mathlib.Core.Path.{◌≡◌, ◌∙◌, ap}
use mathlib.Core.Logic.{inl, inr}
use mathlib.Core.Bool.{cond}
use mathlib.Core.List.{List}
use Prim.Native.Nat.{ℕ, ◌+◌, ◌-◌, ◌*◌, ◌≤◌, ◌<◌, max, min}
use native.Mathlib.Numerals.{add-one}
use native.Mathlib.Omega.{arith}
use lib.Bits.{bit_xor, xor_zero_r}
use lib.ListN.{get_or}
use Rattle.prelude.specs.Bounded.{max_below}
use Rattle.prelude.proofs.Tests.{either}
use Rattle.network.specs.Build.{scenarios}
use Rattle.network.specs.Happens.{happens}
use Rattle.network.specs.declared.Network.{Network}
use Rattle.rows.specs.Rows.{row_of, Sixteen, Times}
use Rattle.rows.specs.Known.{known_in, FirstKnown}
use Rattle.rows.proofs.Gapless.{row_at}
use Rattle.bounds.specs.declared.list.BoundList.{BoundList}
use Rattle.bounds.specs.Listed.{asks, listed, case, in_case}
use Rattle.rounds.specs.Rounds.{held, raised_at}
use Rattle.rounds.proofs.Maxima.{max_below_ext}

-- what the first d differences ask
abbrev pub across : List ℕ → List ℕ → ℕ → ℕ → ℕ → ℕ
across t first s d u = max_below d (λ e. min (get_or t (bit_xor s e * 16 + u) 0) (get_or first e 0))

module _ (lists : List BoundList) (t : List ℕ) (s : ℕ) where
  -- what the scenario's own bounds ask
  abbrev pub ruled : ℕ → ℕ
  ruled u = max (get_or t (s * 16 + u) 0) (asks (in_case lists s) (row_of t s) u - 10080)

  pub ruled_is : {row o : List ℕ} (l : BoundList) → l ≡ case lists s → row ≡ row_of t s
      → Sixteen o (λ u. max (get_or row u 0) (asks (listed l) row u - 10080)) → Sixteen o ruled
  ruled_is l e f h = record {
    sized = h.sized;
    is = λ u b. omega (arith, (rw (e, f) at h).is u b, row_at t s u b);
  }

  pub across_start : {o : List ℕ} (first : List ℕ) → Sixteen o ruled
      → Sixteen o (λ u. max (get_or o u 0) (across t first s 1 u))
  across_start first h = record { sized = h.sized; is = λ u l. rw (xor_zero_r s) (omega (arith, h.is u l)) }

  pub across_next : (first o₀ : List ℕ) (d : ℕ) {o o' : List ℕ}
      → Sixteen o (λ u. max (get_or o₀ u 0) (across t first s d u))
      → Sixteen o' (λ u. max (get_or o u 0) (min (get_or t (bit_xor s d * 16 + u) 0) (get_or first d 0)))
      → Sixteen o' (λ u. max (get_or o₀ u 0) (across t first s (d + 1) u))
  across_next first o₀ d h i = record { sized = i.sized; is = λ u b. rw add-one (omega (arith, i.is u b, h.is u b)) }

  pub raised-row : {first o₀ o o' : List ℕ} (Γ : Network)
      → FirstKnown Γ.signals (known_in Γ (held Γ t) s) first → Sixteen o₀ ruled
      → Sixteen o (λ u. max (get_or o₀ u 0) (across t first s (scenarios Γ) u))
      → Sixteen o' (λ u. cond (happens Γ s u) (get_or o u 0) 0)
      → Sixteen o' (λ u. raised_at Γ lists t s u)
  unfolding raised_at
  raised-row Γ k h i j = record {
    sized = j.sized;
    is =
        λ u l.
        j.is u l ∙
        ap (λ (x : ℕ). cond (happens Γ s u) x 0)
        (omega (
          arith,
          i.is u l,
          h.is u l,
          max_below_ext _ _ (scenarios Γ) (λ d m. ap (λ (x : ℕ). min (get_or t (bit_xor s d * 16 + u) 0) x) (k.is d m)),
        ));
  }

  -- no time falls: where an event does not happen the row before has zero too
  pub no_fall : (Γ : Network) → Times Γ t → s < scenarios Γ → (u : ℕ) → u < 16
      → get_or t (s * 16 + u) 0 ≤ raised_at Γ lists t s u
  unfolding raised_at
  no_fall Γ T h u l =
      elim (either (happens Γ s u)) [
        | inl p ↦ rw p (omega arith)
        | inr p ↦ rw p (omega (arith, T.absent s u h l p))
      ]
