-- Scenarios and labels as bits. There are 16 scenarios at most, and 16 masks of four propositions, so each law is a
-- test that is computed for all of them. Assumes nothing.
use mathlib.Core.Path.{◌≡◌, refl, ◌∙◌}
use mathlib.Core.Bool.{Bool, true, false, ◌&&◌, ◌||◌, not, beq}
use Prim.Native.Nat.{ℕ, zero, suc, ◌<◌}
use lib.Bits.{bit_and}
use lib.Dec.{eqb}
use Rattle.prelude.specs.Bounded.{all_below}
use Rattle.prelude.proofs.Tests.{beq-true}
use Rattle.prelude.proofs.Bounded.{true_of_all_below}
use Rattle.network.specs.Scenario.{truth, satisfies}
use Rattle.network.specs.declared.Label.{Label}

-- two tests that agree on all pairs below 16 are equal there
module _ (f g : ℕ → ℕ → Bool) where
  abbrev pub same : Bool
  same = all_below 16 (λ a. all_below 16 (λ b. beq (f a b) (g a b)))

  pub sixteen : same ≡ true → (a b : ℕ) → a < 16 → b < 16 → f a b ≡ g a b
  sixteen e a b h l =
      beq-true (f a b) (g a b)
      (true_of_all_below (λ b. beq (f a b) (g a b)) 16
      (true_of_all_below (λ a. all_below 16 (λ b. beq (f a b) (g a b))) 16 e a h) b l)

-- s has all the propositions of the mask m, or none of them
abbrev has : ℕ → ℕ → ℕ → Bool
has s m p = not (truth m p) || truth s p

abbrev lacks : ℕ → ℕ → ℕ → Bool
lacks s m p = not (truth m p) || not (truth s p)

all_of : (s m : ℕ) → s < 16 → m < 16 → eqb (bit_and s m) m ≡ all_below 4 (has s m)
all_of = sixteen (λ s m. eqb (bit_and s m) m) (λ s m. all_below 4 (has s m)) refl

none_of : (s m : ℕ) → s < 16 → m < 16 → eqb (bit_and s m) 0 ≡ all_below 4 (lacks s m)
none_of = sixteen (λ s m. eqb (bit_and s m) 0) (λ s m. all_below 4 (lacks s m)) refl

regroup : (a b c d : Bool) → (a && b) && (c && d) ≡ (a && c) && (b && d)
regroup true true c d = refl
regroup true false true d = refl
regroup true false false d = refl
regroup false b c d = refl

pub all_below_and : (f g : ℕ → Bool) (n : ℕ) → all_below n f && all_below n g ≡ all_below n (λ p. f p && g p)
all_below_and f g zero = refl
all_below_and f g (suc n) = regroup (all_below n f) (f n) (all_below n g) (g n) ∙ rw (all_below_and f g n)

pub satisfies-bits : (s : ℕ) (ℓ : Label) → s < 16 → ℓ.positive < 16 → ℓ.negative < 16
    → eqb (bit_and s ℓ.positive) ℓ.positive && eqb (bit_and s ℓ.negative) 0 ≡ satisfies s ℓ
unfolding satisfies
satisfies-bits s ℓ hs hp hn =
    rw (all_of s ℓ.positive hs hp, none_of s ℓ.negative hs hn)
    (all_below_and (has s ℓ.positive) (lacks s ℓ.negative) 4)
