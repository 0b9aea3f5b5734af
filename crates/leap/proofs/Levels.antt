-- What far tables tell of the cells of one rise, and how every cell comes to be known, level by level. Assumes nothing.
use mathlib.Core.Path.{◌≡◌, ◌∙◌}
use mathlib.Core.Logic.{inl, inr}
use mathlib.Core.List.{List}
use Prim.Native.Nat.{ℕ, ◌+◌, ◌-◌, ◌*◌, ◌≤◌, ◌<◌, min}
use native.Mathlib.Nat.{mul-zero, zero-add}
use native.Mathlib.Omega.{arith}
use lib.ListN.{length, get_or}
use Rattle.prelude.proofs.Tests.{eq_or_ne}
use Rattle.prelude.proofs.Cells.{by-cell, cell_lt}
use Rattle.fixpoint.specs.Iterate.{iterate}
use Rattle.fixpoint.specs.Straight.{moved}
use Rattle.fixpoint.proofs.Moved.{length_moved, moved_at}
use Rattle.fixpoint.proofs.Leads.{later}
use Rattle.network.specs.Build.{scenarios}
use Rattle.network.specs.declared.Network.{Network}
use Rattle.rows.proofs.Gapless.{length-gapless}
use Rattle.rounds.specs.Propagate.{propagate}
use Rattle.rounds.specs.Cap.{cap}
use Rattle.rounds.specs.Rounds.{held}
use Rattle.rounds.proofs.Effects.{step_rises, length-held}
use Rattle.moves.specs.Moves.{Between}
use Rattle.moves.specs.Levels.{Highest, NextLevel}
use Rattle.leap.specs.Levels.{Faster, Slower, Level}
use Rattle.leap.proofs.Strategies.{held_at}

-- p rounds from t moved on j times by what f makes of d's rises
abbrev pub far_by : Network → ℕ → ℕ → List ℕ → List ℕ → (ℕ → ℕ) → List ℕ
far_by Γ p j t d f = iterate p (propagate Γ) (moved (held Γ t) j (λ i. f (get_or (held Γ d) i 0)))

module _ (Γ : Network) (few : Γ.events ≤ 16) (p j : ℕ) (t d : List ℕ) where
  module _ {l least most : ℕ} {o : List ℕ} (B : Between t d l least most o (scenarios Γ * 16)) where
    pub faster-by : held Γ o ≡ far_by Γ p j t d (λ x. x - l) → most ≤ l → Level Γ d l (Faster Γ p j t d)
    faster-by made h = record {
      at = λ s u hs hu q.
          let here : get_or (held Γ d) (s * Γ.events + u) 0 ≡ l = held_at Γ few d s u hs hu ∙ q in
          record {
            is = rw (here, ← made, held_at Γ few o s u hs hu, held_at Γ few t s u hs hu)
                (omega (arith, (B.at (s * 16 + u) (omega arith) q).1));
          };
    }

    pub slower-by : held Γ o ≡ far_by Γ p j t d (λ x. min x l) → l + j * l ≤ least → Level Γ d l (Slower Γ p j t d)
    slower-by made h = record {
      at = λ s u hs hu q.
          let here : get_or (held Γ d) (s * Γ.events + u) 0 ≡ l = held_at Γ few d s u hs hu ∙ q in
          record {
            is = rw (here, ← made, held_at Γ few o s u hs hu, held_at Γ few t s u hs hu)
                (omega (arith, (B.at (s * 16 + u) (omega arith) q).0));
          };
    }

  -- where nothing is to be raised
  pub slower-lowest : Level Γ d 0 (Slower Γ p j t d)
  slower-lowest = record {
    at = λ s u hs hu q.
        let c : ℕ = s * Γ.events + u in
        let here : get_or (held Γ d) c 0 ≡ 0 = held_at Γ few d s u hs hu ∙ q in
        let low : ℕ → ℕ = λ i. min (get_or (held Γ d) i 0) (get_or (held Γ d) c 0) in
        let inside : c < length (held Γ t) = omega (
          arith,
          length-gapless Γ.events (scenarios Γ) t,
          cell_lt Γ.events (scenarios Γ) s u hs hu,
        ) in
        let up = later (propagate Γ) (cap Γ) (step_rises Γ) (moved (held Γ t) j low)
        (length_moved (held Γ t) j low ∙ length-held Γ t) 0 p in
        let none : j * get_or (held Γ d) c 0 ≡ 0 = rw here (mul-zero j) in
        record { is = omega (arith, rw zero-add at (up.at c), moved_at (held Γ t) j low c inside) };
  }

-- every cell of a lower level is known; then every cell of this level; then those below the next
pub record Lower (Γ : Network) (d : List ℕ) (l : ℕ) (P : ℕ → Type 0) : Type 0 where
  pub at : (s u : ℕ) → s < scenarios Γ → u < Γ.events → get_or d (s * 16 + u) 0 < l → P (s * Γ.events + u)

pub lower-start : {Γ : Network} {d : List ℕ} {P : ℕ → Type 0} → Lower Γ d 0 P
lower-start = record { at = λ s u hs hu h. absurd (omega arith) }

module _ {Γ : Network} (few : Γ.events ≤ 16) {d : List ℕ} {l : ℕ} {P : ℕ → Type 0} (D : Lower Γ d l P)
    (H : Level Γ d l P) where
  up_to : (s u : ℕ) → s < scenarios Γ → u < Γ.events → get_or d (s * 16 + u) 0 ≤ l → P (s * Γ.events + u)
  up_to s u hs hu h = elim
      (eq_or_ne (get_or d (s * 16 + u) 0) l) [ inl q ↦ H.at s u hs hu q | inr q ↦ D.at s u hs hu (omega arith) ]

  pub lower-next : {r : ℕ} → NextLevel d l (scenarios Γ * 16) r → Lower Γ d r P
  lower-next N = record {
    at = λ s u hs hu h.
        elim (N.between (s * 16 + u) (omega arith)) [ inl q ↦ up_to s u hs hu q | inr q ↦ absurd (omega arith) ];
  }

  pub each_level : Highest d l (scenarios Γ * 16) → (c : ℕ) → c < Γ.events * scenarios Γ → P c
  each_level N c b =
      by-cell Γ.events (scenarios Γ) P (λ s u hs hu. up_to s u hs hu (N.none (s * 16 + u) (omega arith))) c b
