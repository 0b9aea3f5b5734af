-- How a round ends, seen from the rows that it stores: the strategy made is the definition's, and the latest times
-- and the steepest climb tell the two tests of a run. Assumes nothing.
use mathlib.Core.Path.{◌≡◌, sym, ◌∙◌, ap}
use mathlib.Core.Logic.{◌⊎◌, inl, inr}
use mathlib.Core.Bool.{true, false, cond}
use mathlib.Core.List.{List}
use Prim.Native.Nat.{ℕ, ◌+◌, ◌-◌, ◌*◌, ◌≤◌, ◌<◌}
use native.Mathlib.Omega.{arith}
use lib.ListN.{get_or}
use Rattle.prelude.specs.Bounded.{max_below}
use Rattle.prelude.specs.Bytes.{same}
use Rattle.prelude.proofs.Tests.{zero-is-one, lt_or_ge, false_of_not-true}
use Rattle.prelude.proofs.Bounded.{le_max_below, max_below_le}
use Rattle.prelude.proofs.Bytes.{same_true, same_of_eq}
use Rattle.fixpoint.specs.Run.{within}
use Rattle.network.specs.Build.{scenarios}
use Rattle.network.specs.Happens.{happens}
use Rattle.network.specs.WellFormed.{WellFormed}
use Rattle.network.specs.declared.Network.{Network}
use Rattle.bounds.specs.declared.list.BoundList.{BoundList}
use Rattle.rows.specs.Rows.{gapless, Times}
use Rattle.rows.proofs.Gapless.{length-gapless, gapless-at}
use Rattle.rounds.specs.declared.Effect.{Effect}
use Rattle.rounds.specs.declared.Effect.TheVariants.{Passes, Rests, Rises}
use Rattle.rounds.specs.Propagate.{propagate, raised}
use Rattle.rounds.specs.Cap.{fixed, cap}
use Rattle.rounds.specs.Compiled.{Compiles}
use Rattle.rounds.specs.Rounds.{raised_at, effect_of, Rounded}
use Rattle.rounds.proofs.Rounding.{Rounding, greatest, le_greatest, greatest_le}
use Rattle.rounds.proofs.Raised.{raised_is, raised-beyond, raised_away}
use Rattle.rounds.proofs.ByCell.{length-propagate, time-propagate, equal-by-cell}
use Rattle.rounds.proofs.Rising.{raised-up}
use Rattle.rounds.proofs.Cap.{cond-few, within_cap, cap-within}

module _ {Γ : Network} {lists : List BoundList} {t new climb highest : List ℕ} (W : WellFormed Γ) (C : Compiles Γ lists)
    (T : Times Γ t) (R : Rounding (raised_at Γ lists t) (scenarios Γ) t new climb highest (scenarios Γ)) where
  abbrev σ : List ℕ
  σ = gapless Γ.events (scenarios Γ) t

  abbrev made : ℕ → ℕ → ℕ
  made s u = raised_at Γ lists t s u

  -- a cell that was made is the definition's, and behind the events it is zero
  made-is : (s u : ℕ) → s < scenarios Γ → u < Γ.events → made s u ≡ raised Γ σ s u
  made-is s u h l = raised_is Γ lists t W C T s h u l

  beyond : (s u : ℕ) → s < scenarios Γ → Γ.events ≤ u → u < 16 → made s u ≡ 0
  beyond s u h l m = raised-beyond Γ lists t W C T s h u l m

  away : (s u : ℕ) → s < scenarios Γ → happens Γ s u ≡ false → made s u ≡ 0
  away s u h e = raised_away Γ lists t W C T s h u e

  made_at : (s u : ℕ) → s < scenarios Γ → u < Γ.events → get_or (propagate Γ σ) (s * Γ.events + u) 0 ≡ made s u
  made_at s u h l = time-propagate Γ σ s u h l ∙ sym (made-is s u h l)

  -- what holds of the events' cells, and of zero, holds of each cell of a row
  all-cells : (P : ℕ → ℕ → Type 0) → ((s u : ℕ) → s < scenarios Γ → u < Γ.events → P s u)
      → ((s u : ℕ) → s < scenarios Γ → Γ.events ≤ u → u < 16 → P s u) → (s u : ℕ) → s < scenarios Γ → u < 16 → P s u
  all-cells P f g s u h l = elim (lt_or_ge u Γ.events) [ inl p ↦ f s u h p | inr p ↦ g s u h p l ]

  sixteen_events : Γ.events ≤ 16
  sixteen_events = W.events

  pub gapless-made : gapless Γ.events (scenarios Γ) new ≡ propagate Γ σ
  gapless-made =
      equal-by-cell Γ (gapless Γ.events (scenarios Γ) new) (propagate Γ σ) (length-gapless Γ.events (scenarios Γ) new)
      (length-propagate Γ σ)
      (λ s u h l.
      gapless-at Γ.events (scenarios Γ) new s u h l
      ∙ (R.done s u h (omega (arith, sixteen_events)) ∙ sym (made_at s u h l)))

  -- the limits
  origin-is : get_or highest 0 0 ≡ max_below (scenarios Γ) (λ r. made r 0)
  origin-is = R.highest_is.is 0 (omega arith)

  within-is : greatest highest ≤ Γ.horizon → get_or highest 0 0 ≤ 0 → within (cap Γ) (propagate Γ σ) ≡ true
  within-is p q = within_cap Γ (propagate Γ σ) (λ s u h l. record {
    in_horizon = omega
        (arith, made_at s u h l, le_greatest _ _ R.highest_is s u h (omega (arith, sixteen_events)));
    origin = λ z.
        let start : made s u ≤ 0 = rw z (omega (arith, origin-is, le_max_below (λ r. made r 0) (scenarios Γ) s h)) in
        omega (arith, made_at s u h l);
    absent = λ e. made_at s u h l ∙ away s u h e;
  })

  limit_of : within (cap Γ) (propagate Γ σ) ≡ true → (s u : ℕ) → s < scenarios Γ → u < Γ.events
      → made s u ≤ cond (fixed Γ s u) 0 Γ.horizon
  limit_of e s u h l = omega (arith, cap-within Γ (propagate Γ σ) e s u h l, made_at s u h l)

  highest_of : within (cap Γ) (propagate Γ σ) ≡ true → greatest highest ≤ Γ.horizon
  highest_of e =
      greatest_le _ _ R.highest_is Γ.horizon
      (all-cells (λ s u. made s u ≤ Γ.horizon)
      (λ s u h l. omega (arith, limit_of e s u h l, cond-few (fixed Γ s u) Γ.horizon Γ.horizon (omega arith)))
      (λ s u h l m. omega (arith, beyond s u h l m)))

  origin_of : within (cap Γ) (propagate Γ σ) ≡ true → get_or highest 0 0 ≤ 0
  origin_of e =
      omega (
        arith,
        origin-is,
        max_below_le (λ r. made r 0) (scenarios Γ) 0 (λ s h. limit_of e s 0 h W.some_event),
      )

  -- whether anything rose
  above : (s u : ℕ) → s < scenarios Γ → u < Γ.events → get_or t (s * 16 + u) 0 ≤ made s u
  above s u h l =
      omega (arith, made-is s u h l, raised-up Γ σ s u, gapless-at Γ.events (scenarios Γ) t s u h l)

  same-is : greatest climb ≡ 0 → same (propagate Γ σ) σ ≡ true
  same-is e =
      same_of_eq (propagate Γ σ) σ
      (equal-by-cell Γ (propagate Γ σ) σ (length-propagate Γ σ) (length-gapless Γ.events (scenarios Γ) t)
      (λ s u h l. omega (
        arith,
        made_at s u h l,
        gapless-at Γ.events (scenarios Γ) t s u h l,
        above s u h l,
        le_greatest _ _ R.climb_is s u h (omega (arith, sixteen_events)),
      )))

  climb_of : same (propagate Γ σ) σ ≡ true → greatest climb ≡ 0
  climb_of e =
      let z : propagate Γ σ ≡ σ = same_true (propagate Γ σ) σ e in
      let none : greatest climb ≤ 0 =
      greatest_le _ _ R.climb_is 0
      (all-cells (λ s u. made s u - get_or t (s * 16 + u) 0 ≤ 0)
      (λ s u h l.
      omega (
        arith,
        made_at s u h l,
        gapless-at Γ.events (scenarios Γ) t s u h l,
        ap (λ (τ : List ℕ). get_or τ (s * Γ.events + u) 0) z,
      ))
      (λ s u h l m. omega (arith, beyond s u h l m)))
      in
      omega arith

  -- the three ways
  rounded : (r : Effect) → r ≡ effect_of Γ σ → (r ≡ Rises → Times Γ new) → Rounded Γ t new r
  rounded r e f = record { sized = R.sized; made = gapless-made; effect_is = e; times = f }

  pub ends_passing : (Γ.horizon < greatest highest) ⊎ (0 < get_or highest 0 0) → Rounded Γ t new Passes
  unfolding effect_of
  ends_passing p =
      let out : within (cap Γ) (propagate Γ σ) ≡ false =
      false_of_not-true (within (cap Γ) (propagate Γ σ)) (λ e.
      elim p [ inl q ↦ omega (arith, highest_of e) | inr q ↦ omega (arith, origin_of e) ])
      in
      rounded Passes (rw out) (λ e. zero-is-one cc)

  module _ (low : greatest highest ≤ Γ.horizon) (zeros : get_or highest 0 0 ≤ 0) where
    pub ends_resting : greatest climb ≡ 0 → Rounded Γ t new Rests
    unfolding effect_of
    ends_resting e = rounded Rests (rw (within-is low zeros, same-is e))
        (λ e. zero-is-one cc)

    pub ends_rising : (greatest climb ≡ 0 → ⊥) → Rounded Γ t new Rises
    unfolding effect_of
    ends_rising e =
        let rose : same (propagate Γ σ) σ ≡ false = false_of_not-true (same (propagate Γ σ) σ) (λ z. e (climb_of z)) in
        rounded Rises (rw (within-is low zeros, rose)) (λ _. record {
          sized = R.sized;
          few =
              λ s u h l.
              omega (arith, R.done s u h l, le_greatest _ _ R.highest_is s u h l, W.horizon);
          beyond = λ s u h l m. R.done s u h m ∙ beyond s u h l m;
          absent = λ s u h m e. R.done s u h m ∙ away s u h e;
        })
