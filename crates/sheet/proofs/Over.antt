-- How far the lines that pass lead: to a line within the sheet, or behind its end, where every test holds. Assumes
-- nothing.
use mathlib.Core.Path.{◌≡◌, refl}
use mathlib.Core.Logic.{◌⊎◌, inl, inr}
use mathlib.Core.List.{List}
use Prim.Native.Nat.{ℕ, zero, suc, ◌≤◌, ◌<◌}
use native.Mathlib.Omega.{arith}
use borrow.Author.Tests.{ltb-false, le-ltb, not-true}
use lib.Dec.{ltb}
use lib.ListN.{length}
use Rattle.prelude.specs.Checks.{Hold}
use Rattle.prelude.proofs.Tests.{lt_or_ge, eq_or_ne}
use Rattle.text.specs.Lines.{after_line}
use Rattle.text.proofs.Lines.{line-inside}
use Rattle.network.specs.declared.Network.{Network}
use Rattle.sheet.specs.Place.{Expected, Horizon, Heading, Entry, NoMore, Place, tests_at}
use Rattle.sheet.specs.Place.{next, place, tests}

module _ (sheet : List ℕ) where
  -- a sheet that has no more to come passes every test, however far one counts
  pub record Over (p : Place) : Type 0 where
    pub over : p.expected ≡ NoMore
    pub end : length sheet ≤ p.at

  pub over_holds : (p : Place) → Over p → Hold (tests_at sheet p.expected p.network p.at)
  over_holds p o = rw (o.over, tests_at, le-ltb p.at (length sheet) o.end) (refl, tt)

  over_on : (p : Place) → Over p → Over (next sheet p)
  over_on p o = record { over = rw o.over; end = omega (arith, o.end) }

  over_from : (k j : ℕ) → Over (place sheet k) → k ≤ j → Over (place sheet j)
  over_from k zero o l = let e : k ≡ 0 = omega arith in rw e at o
  over_from k (suc j) o l =
      elim (eq_or_ne k (suc j)) [
        | inl e ↦ rw e at o
        | inr n ↦ over_on (place sheet j) (over_from k j o (omega arith))
      ]

  pub all_hold : (k : ℕ) → Over (place sheet k) → ((j : ℕ) → j < k → Hold (tests sheet j)) → (j : ℕ)
      → Hold (tests sheet j)
  all_hold k o pass j =
      elim (lt_or_ge j k) [
        | inl l ↦ pass j l
        | inr l ↦ over_holds (place sheet j) (over_from k j o l)
      ]

  -- each line that passes has its line feed, so that no more lines stand above one than bytes
  line_after : (d : Expected) (Γ : Network) (at : ℕ) → Hold (tests_at sheet d Γ at)
      → (after_line sheet at ≤ length sheet) ⊎ ((d ≡ NoMore) × (length sheet ≤ at))
  line_after Horizon Γ at h = inl (line-inside sheet at h.0)
  line_after (Heading s) Γ at h = inl (line-inside sheet at h.0)
  line_after (Entry s m) Γ at h = inl (line-inside sheet at h.0)
  line_after NoMore Γ at h = inr (refl, ltb-false at (length sheet) (not-true (ltb at (length sheet)) h.0))

  pub lines-inside : (k : ℕ) → ((j : ℕ) → j < k → Hold (tests sheet j))
      → ((k ≤ (place sheet k).at) × ((place sheet k).at ≤ length sheet)) ⊎ Over (place sheet k)
  lines-inside zero pass = inl (omega arith, omega arith)
  lines-inside (suc k) pass =
      let p = place sheet k in
      elim (lines-inside k (λ j l. pass j (omega arith))) [
        | inr o ↦ inr (over_on p o)
        | inl i ↦ elim (line_after p.expected p.network p.at (pass k (omega arith))) [
          | inl e ↦ inl (omega (arith, i.0), e)
          | inr o ↦ inr (over_on p (record { over = o.0; end = o.1 }))
        ]
      ]
