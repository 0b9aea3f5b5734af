-- Labels: what tells a scenario that satisfies one from a scenario that does not; a label with each part of another
-- asks no less, so where an event happens the signals of its label are given; the label `-` asks for nothing. Assumes
-- nothing.
use mathlib.Core.Path.{◌≡◌, refl}
use mathlib.Core.Logic.{inl, inr}
use mathlib.Core.Bool.{Bool, true, false, ◌&&◌, ◌||◌, not, beq}
use Prim.Native.Nat.{ℕ, ◌/◌, ◌%◌, ◌^◌, ◌<◌}
use native.Mathlib.Nat.{div-eq_of_lt}
use native.Mathlib.Omega.{arith}
use borrow.Author.Tests.{eqb-true}
use lib.Pow.{pow_mono}
use Rattle.prelude.proofs.Tests.{clash, lt_or_ge, or-true, and-true, and_both, implied, implies}
use Rattle.prelude.proofs.Bounded.{true_of_all_below, all_below_true, all_below_false}
use Rattle.network.specs.Limits as L
use Rattle.network.specs.Build.{no_label, observation, event_label}
use Rattle.network.specs.Scenario.{truth, agree, asked, satisfies}
use Rattle.network.specs.Happens.{mentions, happens, given}
use Rattle.network.specs.Complete.{Includes, Complete, WellLabelled}
use Rattle.network.specs.WellFormed.{Lettered, WellFormed}
use Rattle.network.specs.declared.Label.{Label}
use Rattle.network.specs.declared.Network.{Network}

-- a number below 2 ^ k has no weight from k on
pub truth-below : (m k p : ℕ) → m < 2 ^ k → truth m p ≡ true → p < k
truth-below m k p h t =
    elim (lt_or_ge p k) [
      | inl l ↦ l
      | inr l ↦
          let none : m / 2 ^ p ≡ 0 = div-eq_of_lt (omega (arith, pow_mono {i = k} {j = p} l)) in
          absurd (omega (arith, eqb-true (m / 2 ^ p % 2) 1 t))
    ]

pub mentions-below : (Γ : Network) (ℓ : Label) (p : ℕ) → Lettered Γ ℓ → mentions ℓ p ≡ true → p < Γ.signals
mentions-below Γ ℓ p w e =
    elim (or-true (truth ℓ.positive p) (truth ℓ.negative p) e) [
      | inl t ↦ truth-below ℓ.positive Γ.signals p w.positive t
      | inr t ↦ truth-below ℓ.negative Γ.signals p w.negative t
    ]

-- the label asks something of a letter that s has and r has not
pub record Parts (ℓ : Label) (s r : ℕ) : Type 0 where
  pub letter : ℕ
  pub mentioned : mentions ℓ letter ≡ true
  pub differs : agree s r letter ≡ false

-- by the truths of the letter in the two sums, and in the two scenarios
parted : (a b t v : Bool) → (not a || t) && (not b || not t) ≡ true → (not a || v) && (not b || not v) ≡ false
    → (a || b ≡ true) × (beq t v ≡ false)
parted true b true true p q = clash (not b || false) p q
parted true b true false p q = (refl, refl)
parted true b false v p q = clash false p refl
parted false true true v p q = clash false p refl
parted false true false true p q = (refl, refl)
parted false true false false p q = clash true refl q
parted false false t v p q = clash true refl q

pub parts : (ℓ : Label) (s r : ℕ) → satisfies s ℓ ≡ true → satisfies r ℓ ≡ false → Parts ℓ s r
unfolding satisfies
parts ℓ s r p q =
    let w = all_below_false (asked r ℓ) L.signals q in
    let z = parted (truth ℓ.positive w.0) (truth ℓ.negative w.0) (truth s w.0) (truth r w.0)
    (true_of_all_below (asked s ℓ) L.signals p w.0 w.1) w.2 in
    record { letter = w.0; mentioned = z.0; differs = z.1 }

-- a label with each part of another asks no less
pub satisfies-part : (ℓ κ : Label) (s : ℕ) → Includes ℓ κ → satisfies s ℓ ≡ true → satisfies s κ ≡ true
unfolding satisfies
satisfies-part ℓ κ s i e = all_below_true (asked s κ) L.signals (λ p l.
    let a = and-true (not (truth ℓ.positive p) || truth s p) (not (truth ℓ.negative p) || not (truth s p))
    (true_of_all_below (asked s ℓ) L.signals e p l) in
    and_both (not (truth κ.positive p) || truth s p) (not (truth κ.negative p) || not (truth s p))
    (implies (truth κ.positive p) (truth s p)
    (λ t. implied (truth ℓ.positive p) (truth s p) a.0 (i.positive p t)))
    (implies (truth κ.negative p) (not (truth s p))
    (λ t. implied (truth ℓ.negative p) (not (truth s p)) a.1 (i.negative p t))))

-- where an event happens, so does each event whose signal its label uses
pub given_where : {Γ : Network} → WellFormed Γ → (s u p : ℕ) → u < Γ.events → p < Γ.signals → happens Γ s u ≡ true
    → mentions (event_label Γ u) p ≡ true → given Γ s p ≡ true
unfolding happens
given_where {Γ} W s u p hu hp here e =
    satisfies-part (event_label Γ u) (event_label Γ (observation Γ p)) s
    ((W.labels.complete.event u hu).includes p hp e) here

-- every scenario satisfies the label `-`, which mentions nothing
pub satisfies-none : (s : ℕ) → satisfies s no_label ≡ true
unfolding satisfies
satisfies-none s = refl

pub truth-none : (p : ℕ) → truth 0 p ≡ true → ⊥
truth-none p t = omega (arith, truth-below 0 0 p (omega arith) t)

pub mentions-none : (p : ℕ) → mentions no_label p ≡ true → ⊥
mentions-none p e = elim (or-true (truth 0 p) (truth 0 p) e) [ inl t ↦ truth-none p t | inr t ↦ truth-none p t ]

-- so an event without a label happens everywhere
pub happens-unlabelled : (Γ : Network) (s u : ℕ) → event_label Γ u ≡ no_label → happens Γ s u ≡ true
unfolding happens
happens-unlabelled Γ s u e = rw e (satisfies-none s)

pub start-happens : {Γ : Network} → WellFormed Γ → (s : ℕ) → happens Γ s 0 ≡ true
start-happens {Γ} W s = happens-unlabelled Γ s 0 W.labels.start

-- and where no event has one, no label lacks anything
pub unlabelled_well : (Γ : Network) → ((u : ℕ) → event_label Γ u ≡ no_label) → WellLabelled Γ
unlabelled_well Γ none = record {
  start = none 0;
  complete = record { event = λ u _. all (event_label Γ u); rule = λ c _. all _ };
}
  where
    all : (ℓ : Label) → Complete Γ ℓ
    all ℓ = record {
      includes = λ p _ _. rw (none (observation Γ p)) (record {
        positive = λ q t. absurd (truth-none q t);
        negative = λ q t. absurd (truth-none q t);
      });
    }
