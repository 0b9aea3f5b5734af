-- The tests of `at_most` and `at_least` are those of the definitions: at a level between by a table that is made for
-- it, at the lowest and the highest by tables that are there already. Assumes nothing.
use mathlib.Core.Path.{◌≡◌, sym, ◌∙◌, ap}
use mathlib.Core.List.{List}
use Prim.Native.Nat.{ℕ, ◌+◌, ◌-◌, ◌*◌, ◌≤◌, ◌<◌, min}
use native.Mathlib.Omega.{arith}
use lib.ListN.{get_or}
use Rattle.fixpoint.specs.Iterate.{iterate}
use Rattle.fixpoint.specs.Straight.{moved, AtMost, AtLeast}
use Rattle.fixpoint.proofs.Moved.{moved_ext, moved_still}
use Rattle.network.specs.Build.{scenarios}
use Rattle.network.specs.declared.Network.{Network}
use Rattle.rows.specs.Rows.{Times}
use Rattle.rows.proofs.Gapless.{length-gapless}
use Rattle.rounds.specs.Propagate.{propagate}
use Rattle.rounds.specs.Rounds.{held}
use Rattle.moves.specs.Moves.{part_of, Between}
use Rattle.moves.specs.Levels.{Highest}
use Rattle.leap.specs.Tables.{Advanced, Far}
use Rattle.leap.specs.Levels.{AtLevel, Faster, Slower, Level}
use Rattle.leap.proofs.Strategies.{held_low, held-few}
use Rattle.leap.proofs.Levels.{far_by, faster-by, slower-by, Lower, each_level}

module _ {Γ : Network} (few : Γ.events ≤ 16) {p j : ℕ} {t d : List ℕ} where
  -- rises that are the same as the part that was tested
  far_as : {lo hi : ℕ} {o : List ℕ} (f : ℕ → ℕ) → Far Γ p j t d lo hi o
      → ((i : ℕ) → i < Γ.events * scenarios Γ → part_of lo hi (get_or (held Γ d) i 0) ≡ f (get_or (held Γ d) i 0))
      → held Γ o ≡ far_by Γ p j t d f
  far_as {lo} {hi} f F h =
      F.made
      ∙ ap (iterate p (propagate Γ))
      (moved_ext (held Γ t) j (λ i. part_of lo hi (get_or (held Γ d) i 0)) (λ i. f (get_or (held Γ d) i 0))
      (λ i b. h i (omega (arith, length-gapless Γ.events (scenarios Γ) t))))

  module _ (D : Times Γ d) where
    -- at a level between
    pub faster_level : {l lo hi least most : ℕ} → (lo ≡ l) × (hi ≡ 10080) → most ≤ l
        → AtLevel Γ p j t d l lo hi least most → Level Γ d l (Faster Γ p j t d)
    faster_level {l} e h A =
        faster-by Γ few p j t d A.between
        (far_as (λ x. x - l) A.far (λ i b. omega (arith, held-few Γ few d D i b))) h

    pub slower_level : {l lo hi least most : ℕ} → (lo ≡ 0) × (hi ≡ l) → least ≡ l + j * l
        → AtLevel Γ p j t d l lo hi least most → Level Γ d l (Slower Γ p j t d)
    slower_level {l} e h A =
        slower-by Γ few p j t d A.between
        (far_as (λ x. min x l) A.far (λ i b. omega arith)) (omega arith)

    -- at the lowest
    pub faster-lowest : {least most : ℕ} {o : List ℕ} → Far Γ p j t d 0 10080 o → most ≤ 0
        → Between t d 0 least most o (scenarios Γ * 16) → Level Γ d 0 (Faster Γ p j t d)
    faster-lowest F h B =
        faster-by Γ few p j t d B
        (far_as (λ x. x - 0) F (λ i b. omega (arith, held-few Γ few d D i b))) h

    -- at the highest
    module _ {l : ℕ} (N : Highest d l (scenarios Γ * 16)) where
      faster_highest : {least most : ℕ} {x : List ℕ} → Advanced Γ p t x → most ≤ l
          → Between t d l least most x (scenarios Γ * 16) → Level Γ d l (Faster Γ p j t d)
      faster_highest A h B =
          let still : moved (held Γ t) j (λ i. get_or (held Γ d) i 0 - l) ≡ held Γ t =
          moved_still (held Γ t) j (λ i. get_or (held Γ d) i 0 - l) (λ i b.
          omega (
            arith,
            held_low Γ few d l N.none i (omega (arith, length-gapless Γ.events (scenarios Γ) t)),
          )) in
          faster-by Γ few p j t d B (A.led.made ∙ ap (iterate p (propagate Γ)) (sym still)) h

      slower_highest : {o : List ℕ} {least most : ℕ} → least ≡ l + j * l → Far Γ p j t d 0 10080 o
          → Between t d l least most o (scenarios Γ * 16) → Level Γ d l (Slower Γ p j t d)
      slower_highest e F B =
          slower-by Γ few p j t d B
          (far_as (λ x. min x l) F
          (λ i b. omega (arith, held_low Γ few d l N.none i b, held-few Γ few d D i b))) (omega arith)

      pub at-most_of : {least most : ℕ} {x : List ℕ} → Lower Γ d l (Faster Γ p j t d) → Advanced Γ p t x → most ≤ l
          → Between t d l least most x (scenarios Γ * 16) → AtMost (iterate p (propagate Γ)) (held Γ t) (held Γ d) j
      at-most_of L A h B = record {
        faster = λ c b.
            each_level few L (faster_highest A h B) N c
            (omega (arith, length-gapless Γ.events (scenarios Γ) t));
      }

      pub at-least_of : {o : List ℕ} {least most : ℕ} → least ≡ l + j * l → Lower Γ d l (Slower Γ p j t d)
          → Far Γ p j t d 0 10080 o → Between t d l least most o (scenarios Γ * 16)
          → AtLeast (iterate p (propagate Γ)) (held Γ t) (held Γ d) j
      at-least_of e L F B = record {
        slower = λ c b.
            each_level few L (slower_highest e F B) N c
            (omega (arith, length-gapless Γ.events (scenarios Γ) t));
      }
