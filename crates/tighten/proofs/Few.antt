-- No more upper bounds remain than there were: one more of them has one key, so it adds at most one to those that
-- remain. So they fit a sheet: a network has no more of them than rules. Assumes nothing.
use mathlib.Core.Path.{◌≡◌, refl, sym}
use mathlib.Core.Logic.{inl, inr}
use mathlib.Core.Option.{Option, none, some}
use mathlib.Core.List.{List, [], ◌∷◌}
use Prim.Native.Nat.{ℕ, zero, suc, ◌≤◌}
use native.Mathlib.Omega.{arith}
use borrow.Author.Tests.{ne_eqb}
use lib.ListN.{length}
use Rattle.prelude.specs.Gather.{ahead, gather_from, gather}
use Rattle.prelude.proofs.Tests.{eq_or_ne}
use Rattle.prelude.proofs.Gather.{gather_none, gather-same}
use Rattle.network.specs.Limits as L
use Rattle.network.specs.WellFormed.{WellFormed}
use Rattle.network.specs.declared.Constraint.{Constraint}
use Rattle.network.specs.declared.Network.{Network}
use Rattle.tighten.specs.Upper.{uppers_of}
use Rattle.tighten.specs.Tightest.{rank, ranks, tightest, remaining, remaining_of}
use Rattle.tighten.proofs.Rules.{length-uppers_of}

-- an answer put before others makes them one more at most
module _ {A : Type 0} where
  ahead-few : (o : Option A) (xs : List A) → length (ahead o xs) ≤ suc (length xs)
  ahead-few none xs = omega arith
  ahead-few (some x) xs = omega arith

  few-ahead : (o : Option A) (xs : List A) → length xs ≤ length (ahead o xs)
  few-ahead none xs = omega arith
  few-ahead (some x) xs = omega arith

  ahead_both : (o : Option A) (xs ys : List A) → length xs ≤ suc (length ys)
      → length (ahead o xs) ≤ suc (length (ahead o ys))
  ahead_both none xs ys h = h
  ahead_both (some x) xs ys h = omega arith

-- functions that answer alike but at one number
module _ {A : Type 0} (f g : ℕ → Option A) (j : ℕ) (alike : (k : ℕ) → (k ≡ j → ⊥) → f k ≡ g k) where
  gather_one_more : (i n : ℕ) → length (gather_from i n f) ≤ suc (length (gather_from i n g))
  gather_one_more i zero = omega arith
  gather_one_more i (suc n) =
      elim (eq_or_ne i j) [
        | inl p ↦
            let behind = gather-same f g (suc i) n (λ k l m. alike k (omega arith)) in
            rw behind
            (omega (arith, ahead-few (f i) (gather_from (suc i) n g), few-ahead (g i) (gather_from (suc i) n g)))
        | inr p ↦ rw (alike i p) (ahead_both (g i) _ _ (gather_one_more (suc i) n))
      ]

-- the count of keys stands here as n, so that nothing counts so far
gathered_few : (n : ℕ) (xs : List Constraint) → length (gather n (tightest xs)) ≤ length xs
gathered_few n [] = rw (gather_none (tightest []) 0 n (record { silent = λ k h l. refl })) (omega arith)
gathered_few n (r ∷ rs) =
    let alike : (k : ℕ) → (k ≡ rank r → ⊥) → tightest (r ∷ rs) k ≡ tightest rs k =
    λ k p. rw (tightest, ne_eqb (rank r) k (λ e. p (sym e))) in
    omega (arith, gathered_few n rs, gather_one_more (tightest (r ∷ rs)) (tightest rs) (rank r) alike 0 n)

pub remaining-few : (xs : List Constraint) → length (remaining xs) ≤ length xs
unfolding remaining
remaining-few xs = gathered_few ranks xs

pub remaining_of-few : (Γ : Network) → WellFormed Γ → length (remaining_of Γ) ≤ L.rules
remaining_of-few Γ w = omega (arith, remaining-few (uppers_of Γ), length-uppers_of Γ, w.rules)
