-- A constraint counts just in the scenarios that satisfy one label, which joins its own and those of its events.
-- Assumes nothing.
use mathlib.Core.Path.{◌≡◌, refl, sym, ◌∙◌}
use mathlib.Core.Bool.{Bool, true, false, ◌&&◌, ◌||◌, not}
use Prim.Native.Nat.{ℕ, zero, suc, ◌+◌, ◌*◌, ◌/◌, ◌%◌, ◌^◌, ◌<◌, max}
use native.Mathlib.Omega.{arith}
use lib.Bits.{bit_or, or_shr, or_step, or_lt}
use lib.Dec.{eqb}
use Rattle.prelude.proofs.Tests.{and-true}
use Rattle.prelude.proofs.Bounded.{all_below_same}
use Rattle.network.specs.Limits as L
use Rattle.network.specs.Build.{event_label}
use Rattle.network.specs.Scenario.{truth, asked, satisfies}
use Rattle.network.specs.Happens.{happens}
use Rattle.network.specs.Constraint.{covers}
use Rattle.network.specs.Joint.{join, joint}
use Rattle.network.specs.WellFormed.{Lettered}
use Rattle.network.specs.declared.Label.{Label}
use Rattle.network.specs.declared.Constraint.{Constraint}
use Rattle.network.specs.declared.Network.{Network}
use Rattle.network.proofs.Masks.{all_below_and}

-- a letter stands in a joined sum where it stands in one of the two
last-digit : (a b : ℕ) → eqb (bit_or a b % 2) 1 ≡ eqb (a % 2) 1 || eqb (b % 2) 1
last-digit a b = rw (or_step a b) (two (bit_or (a / 2) (b / 2)) (a % 2) (b % 2) (omega arith) (omega arith)) where
  digit : (z p q : ℕ) → p < 2 → q < 2 → (z * 2 + max p q) % 2 ≡ max p q
  digit z p q h k = omega arith

  cases : (p q : ℕ) → p < 2 → q < 2 → eqb (max p q) 1 ≡ eqb p 1 || eqb q 1
  cases zero zero h k = refl
  cases zero (suc zero) h k = refl
  cases zero (suc (suc q)) h k = absurd (omega arith)
  cases (suc zero) zero h k = refl
  cases (suc zero) (suc zero) h k = refl
  cases (suc zero) (suc (suc q)) h k = absurd (omega arith)
  cases (suc (suc p)) q h k = absurd (omega arith)

  two : (z p q : ℕ) → p < 2 → q < 2 → eqb ((z * 2 + max p q) % 2) 1 ≡ eqb p 1 || eqb q 1
  two z p q h k = rw (digit z p q h k) (cases p q h k)

truth_or : (a b p : ℕ) → truth (bit_or a b) p ≡ truth a p || truth b p
truth_or a b p = rw (or_shr a b p) (last-digit (a / 2 ^ p) (b / 2 ^ p))

asked_both : (a b c d t : Bool)
    → (not (a || c) || t) && (not (b || d) || not t)
    ≡ ((not a || t) && (not b || not t)) && ((not c || t) && (not d || not t))
asked_both true true true true true = refl
asked_both true true true true false = refl
asked_both true true true false true = refl
asked_both true true true false false = refl
asked_both true true false d true = refl
asked_both true true false d false = refl
asked_both true false true true true = refl
asked_both true false true true false = refl
asked_both true false true false true = refl
asked_both true false true false false = refl
asked_both true false false true true = refl
asked_both true false false true false = refl
asked_both true false false false true = refl
asked_both true false false false false = refl
asked_both false true true true true = refl
asked_both false true true true false = refl
asked_both false true true false true = refl
asked_both false true true false false = refl
asked_both false true false true true = refl
asked_both false true false true false = refl
asked_both false true false false true = refl
asked_both false true false false false = refl
asked_both false false c d t = refl

pub satisfies-join : (s : ℕ) (ℓ κ : Label) → satisfies s (join ℓ κ) ≡ satisfies s ℓ && satisfies s κ
unfolding satisfies
satisfies-join s ℓ κ =
    all_below_same (asked s (join ℓ κ)) (λ p. asked s ℓ p && asked s κ p) L.signals (λ p l.
    rw (truth_or ℓ.positive κ.positive p, truth_or ℓ.negative κ.negative p)
    (asked_both (truth ℓ.positive p) (truth ℓ.negative p) (truth κ.positive p) (truth κ.negative p)
    (truth s p)))
    ∙ sym (all_below_and (asked s ℓ) (asked s κ) L.signals)

module _ (Γ : Network) (c : Constraint) where
  -- where a constraint counts both its events happen
  pub covers_both : (s : ℕ) → covers Γ c s ≡ true → (happens Γ s c.from ≡ true) × (happens Γ s c.to ≡ true)
  unfolding covers
  covers_both s e =
      and-true (happens Γ s c.from) (happens Γ s c.to)
      (and-true (satisfies s c.label) (happens Γ s c.from && happens Γ s c.to) e).1

  pub covers-joint : (s : ℕ) → covers Γ c s ≡ satisfies s (joint Γ c)
  unfolding covers happens
  covers-joint s =
      sym (satisfies-join s c.label (join (event_label Γ c.from) (event_label Γ c.to))
      ∙ rw (satisfies-join s (event_label Γ c.from) (event_label Γ c.to)))

  -- its letters are signals
  pub joint-lettered : Lettered Γ c.label → ((u : ℕ) → Lettered Γ (event_label Γ u)) → Lettered Γ (joint Γ c)
  joint-lettered own of = joined own (joined (of c.from) (of c.to)) where
    joined : {ℓ κ : Label} → Lettered Γ ℓ → Lettered Γ κ → Lettered Γ (join ℓ κ)
    joined {ℓ} {κ} a b = record {
      positive = or_lt Γ.signals ℓ.positive κ.positive a.positive b.positive;
      negative = or_lt Γ.signals ℓ.negative κ.negative a.negative b.negative;
    }
