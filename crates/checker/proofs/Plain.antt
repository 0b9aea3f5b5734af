-- The times from which on propositions are known, as the code lists them; and its test of an event is the verdict's for
-- point 3, by the time from which on two scenarios are told apart. Assumes nothing.
use mathlib.Core.Path.{◌≡◌, refl, sym, ◌∙◌}
use mathlib.Core.Bool.{Bool, true, false, ◌&&◌, ◌||◌, not, cond}
use mathlib.Core.Bool.{or-true as or-true-right, or-false as or-false-right}
use mathlib.Core.List.{List}
use Prim.Native.Nat.{ℕ, ◌≤◌, ◌<◌}
use native.Mathlib.Omega.{arith}
use borrow.Author.Tests.{lt-leb, le-ltb, lt-ltb, eq-eqb, ne_eqb}
use lib.Dec.{eqb, leb, ltb}
use lib.ListN.{get_or}
use Rattle.prelude.proofs.Bounded.{all_below_same}
use Rattle.prelude.proofs.Minima.{before-min_where}
use Rattle.network.specs.Scenario.{agree}
use Rattle.network.specs.Happens.{happens, given}
use Rattle.network.specs.Strategy.{time, known_from, known}
use Rattle.network.specs.declared.Network.{Network}
use Rattle.checker.specs.Verdict.{is_indistinct, is_alike}
use Rattle.checker.specs.Plain.{KnownIn, never, told_from}

-- what is never known is not known at a time that an event has
never-or-then : (b : Bool) (a t : ℕ) → t < never → leb (cond b a never) t ≡ b && leb a t
never-or-then true a t l = refl
never-or-then false a t l = lt-leb never t l

-- before s is told apart from r nothing is known on which they differ
pub before-told : (Γ : Network) (σ : List ℕ) (s r u : ℕ) {xs : List ℕ} → KnownIn Γ σ s Γ.signals xs
    → time Γ.events σ s u < never
    → ltb (time Γ.events σ s u) (told_from xs Γ.signals s r) ≡ is_indistinct Γ σ s r u
before-told Γ σ s r u {xs} heard small =
    let t = time Γ.events σ s u in
    before-min_where (agree s r) (λ p. get_or xs p 0) never t Γ.signals small
    ∙ all_below_same (λ p. agree s r p || not (leb (get_or xs p 0) t))
    (λ p. agree s r p || not (known Γ σ s p t)) Γ.signals
    (λ p h. rw (heard.from p h, never-or-then (given Γ s p) (known_from Γ σ s p) t small))

-- point 3 for an event at the times mine and theirs, where s is told apart from r from told on
module _ (Γ : Network) (σ : List ℕ) (s r u : ℕ) {xs : List ℕ} (heard : KnownIn Γ σ s Γ.signals xs)
    {told mine theirs : ℕ} (since : told ≡ told_from xs Γ.signals s r) (here : mine ≡ time Γ.events σ s u)
    (there : theirs ≡ time Γ.events σ r u) (small : mine < never) where
  abbrev both : Bool
  both = happens Γ s u && happens Γ r u

  tested : not both || (not (ltb mine told) || eqb mine theirs) ≡ is_alike Γ σ s r u
  tested = rw (since, here, there, before-told Γ σ s r u heard (rw here at small))

  pub alike-later : told ≤ mine → true ≡ is_alike Γ σ s r u
  alike-later l = rw (le-ltb mine told l) (sym (or-true-right (not both))) ∙ tested

  pub alike-same : mine ≡ theirs → true ≡ is_alike Γ σ s r u
  alike-same e =
      rw (eq-eqb mine theirs e, or-true-right (not (ltb mine told))) (sym (or-true-right (not both))) ∙ tested

  pub alike-sooner : (told ≤ mine → ⊥) → (mine ≡ theirs → ⊥) → not both ≡ is_alike Γ σ s r u
  alike-sooner l n =
      rw (lt-ltb mine told (omega arith), ne_eqb mine theirs n) (sym (or-false-right (not both))) ∙ tested
