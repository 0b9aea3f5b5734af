-- The code's test of a cell is the verdict's for point 1: the limits of an event that happens, and the wait for the
-- letters of its label by the times from which on the propositions are known. Assumes nothing.
use mathlib.Core.Path.{◌≡◌, sym, ◌∙◌}
use mathlib.Core.Logic.{inl, inr}
use mathlib.Core.Bool.{Bool, true, false}
use mathlib.Core.Bool.{and-true as and-true-right, and-false as and-false-right}
use mathlib.Core.List.{List}
use Prim.Native.Nat.{ℕ, ◌<◌}
use native.Mathlib.Omega.{arith}
use borrow.Author.Tests.{le-leb, eqb-true, ne_eqb}
use lib.Dec.{eqb, leb}
use lib.ListN.{get_or}
use Rattle.prelude.proofs.Tests.{either, implies}
use Rattle.prelude.proofs.Bounded.{all_below_true, all_below_same}
use Rattle.network.specs.Limits as L
use Rattle.network.specs.Build.{no_label, event_label}
use Rattle.network.specs.Happens.{mentions, happens}
use Rattle.network.specs.Strategy.{time}
use Rattle.network.specs.WellFormed.{WellFormed}
use Rattle.network.specs.declared.Network.{Network}
use Rattle.network.proofs.Labels.{given_where, satisfies-none, mentions-none}
use Rattle.checker.specs.Verdict.{does_wait, is_on_time}
use Rattle.checker.specs.Plain.{KnownIn, on_time_lem, waits}

-- the origin's own limit is 0
pub on_time-origin : (h t : ℕ) → eqb t 0 ≡ on_time_lem h 0 t
on_time-origin h t =
    elim (either (eqb t 0)) [
      | inl e ↦ rw (e, le-leb t h (omega (arith, eqb-true t 0 e)))
      | inr e ↦ rw e (sym (and-false-right (leb t h)))
    ]

pub on_time-other : (h u t : ℕ) → (u ≡ 0 → ⊥) → leb t h ≡ on_time_lem h u t
on_time-other h u t n = rw (ne_eqb u 0 n) (sym (and-true-right (leb t h)))

-- the label `-` asks for nothing but the limits
waits-none : (xs : List ℕ) (k t : ℕ) → waits xs k no_label t ≡ true
waits-none xs k t = all_below_true _ k (λ p h.
    implies (mentions no_label p) (leb (get_or xs p 0) t) (λ m. absurd (mentions-none p m)))

-- where the event happens, all that it waits for is given: so the wait is the verdict's
module _ {Γ : Network} (W : WellFormed Γ) (σ : List ℕ) (s u : ℕ) (hu : u < Γ.events) {xs : List ℕ}
    (known : KnownIn Γ σ s Γ.signals xs) where
  abbrev at : ℕ
  at = time Γ.events σ s u

  waits-known : happens Γ s u ≡ true → waits xs Γ.signals (event_label Γ u) at ≡ does_wait Γ σ s u
  waits-known here = all_below_same _ _ Γ.signals (λ p h.
      elim (either (mentions (event_label Γ u) p)) [
        | inl m ↦ rw (known.from p h, given_where W s u p hu h here m)
        | inr m ↦ rw m
      ])

  -- the cell of an event with no label, of one that does not happen, and of one that does
  module _ {t : ℕ} (is : t ≡ at) where
    pub placed-always : event_label Γ u ≡ no_label → {b : Bool} → b ≡ on_time_lem Γ.horizon u t → b ≡ is_on_time Γ σ s u
    unfolding happens
    placed-always none e =
        let here : happens Γ s u ≡ true = rw none (satisfies-none s) in
        e ∙ rw (here, ← waits-known here, none, waits-none xs Γ.signals at, is)
        (sym (and-true-right (on_time_lem Γ.horizon u at)))

    pub placed-nowhere : happens Γ s u ≡ false → eqb t L.blank ≡ is_on_time Γ σ s u
    placed-nowhere away = rw (is, away)

    module _ (here : happens Γ s u ≡ true) {b : Bool} (limits : b ≡ on_time_lem Γ.horizon u t) where
      in_limits : on_time_lem Γ.horizon u at ≡ b
      in_limits = rw is at (sym limits)

      pub placed-waiting : b ≡ true → {w : Bool} → w ≡ waits xs Γ.signals (event_label Γ u) t → w ≡ is_on_time Γ σ s u
      placed-waiting e f = f ∙ rw (here, in_limits, e, is) (waits-known here)

      pub placed-late : b ≡ false → b ≡ is_on_time Γ σ s u
      placed-late e = rw (here, in_limits, e)
