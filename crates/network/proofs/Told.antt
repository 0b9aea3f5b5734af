-- What tells one scenario from another by a time. An event that happens in s and not in r is told by its label: a
-- proposition of it tells s from r, and is known in s when the event comes (`told-by-label`). Assumes nothing.
use mathlib.Core.Path.{◌≡◌}
use mathlib.Core.Logic.{◌⊎◌, inl, inr}
use mathlib.Core.Bool.{Bool, true, false, ◌||◌, not}
use mathlib.Core.List.{List}
use Prim.Native.Nat.{ℕ, ◌≤◌, ◌<◌}
use native.Mathlib.Omega.{arith}
use borrow.Author.Tests.{not-true, not-false}
use Rattle.prelude.specs.Bounded.{all_below}
use Rattle.prelude.proofs.Tests.{either, clash, and-true, and_both, or-true, or-false}
use Rattle.prelude.proofs.Bounded.{true_of_all_below, all_below_false}
use Rattle.network.specs.Build.{event_label}
use Rattle.network.specs.Scenario.{agree}
use Rattle.network.specs.Happens.{happens, given, tells}
use Rattle.network.specs.Strategy.{time, known_from, known}
use Rattle.network.specs.Solution.{Waits, Indistinct}
use Rattle.network.specs.WellFormed.{WellFormed}
use Rattle.network.specs.declared.Network.{Network}
use Rattle.network.proofs.Labels.{mentions-below, parts, given_where}
use Rattle.network.proofs.Strategy.{given-known, from-known, is_known, from-unknown}

-- one of the k first propositions tells s from r, and is known in s at the time m
pub record Told (Γ : Network) (σ : List ℕ) (s r k m : ℕ) : Type 0 where
  pub proposition : ℕ
  pub proposition_lt : proposition < k
  pub tells_apart : tells Γ s r proposition ≡ true
  pub by_then : known_from Γ σ s proposition ≤ m

-- by a later time, too
pub told-later : {Γ : Network} {σ : List ℕ} {s r k i m : ℕ} → i ≤ m → Told Γ σ s r k i → Told Γ σ s r k m
told-later l w = record {
  proposition = w.proposition;
  proposition_lt = w.proposition_lt;
  tells_apart = w.tells_apart;
  by_then = omega (arith, w.by_then);
}

module _ (Γ : Network) (s r p : ℕ) where
  pub is-given : tells Γ s r p ≡ true → given Γ s p ≡ true
  is-given e = (and-true (given Γ s p) (not (agree s r p)) e).0

  pub is_different : tells Γ s r p ≡ true → agree s r p ≡ false
  is_different e = not-true _ (and-true (given Γ s p) (not (agree s r p)) e).1

  pub tells_of : given Γ s p ≡ true → agree s r p ≡ false → tells Γ s r p ≡ true
  tells_of g d = and_both (given Γ s p) (not (agree s r p)) g (rw d)

module _ (Γ : Network) (σ : List ℕ) where
  -- what is indistinct is not told
  pub not-told : {s r m : ℕ} → Indistinct Γ σ s r m → Told Γ σ s r Γ.signals m → ⊥
  not-told {s} {r} {m} i w =
      let p = w.proposition in
      clash (known Γ σ s p m) (is_known Γ σ s p m (is-given Γ s r p w.tells_apart) w.by_then)
      (i.unknown p w.proposition_lt (is_different Γ s r p w.tells_apart))

  pub unknown_of : {s r m : ℕ} → Indistinct Γ σ s r m → (p : ℕ) → p < Γ.signals → tells Γ s r p ≡ true
      → m < known_from Γ σ s p
  unknown_of {s} {r} {m} i p h t =
      from-unknown Γ σ s p m (is-given Γ s r p t) (i.unknown p h (is_different Γ s r p t))

  -- something tells, or all is indistinct
  pub told_or_not : (s r m : ℕ) → Told Γ σ s r Γ.signals m ⊎ Indistinct Γ σ s r m
  told_or_not s r m =
      elim (either (all_below Γ.signals test)) [
        | inl e ↦ inr (record {
          unknown = λ p h d.
              elim (or-true (agree s r p) (not (known Γ σ s p m)) (true_of_all_below test Γ.signals e p h))
              [ inl a ↦ clash (agree s r p) a d | inr a ↦ not-true _ a ];
        })
        | inr e ↦
            let w = all_below_false test Γ.signals e in
            let f = or-false (agree s r w.0) (not (known Γ σ s w.0 m)) w.2 in
            let k = not-false _ f.1 in
            inl (record {
              proposition = w.0;
              proposition_lt = w.1;
              tells_apart = tells_of Γ s r w.0 (given-known Γ σ s w.0 m k) f.0;
              by_then = from-known Γ σ s w.0 m k;
            })
      ]
    where
      test : ℕ → Bool
      test p = agree s r p || not (known Γ σ s p m)

  -- an event that happens in s and not in r
  pub told-by-label : WellFormed Γ → (s r u : ℕ) → u < Γ.events → happens Γ s u ≡ true → happens Γ r u ≡ false
      → Waits Γ σ s u → Told Γ σ s r Γ.signals (time Γ.events σ s u)
  unfolding happens
  told-by-label W s r u hu here away w =
      let a = parts (event_label Γ u) s r here away in
      let p = a.letter in
      let l = mentions-below Γ (event_label Γ u) p (W.lettered u) a.mentioned in
      record {
        proposition = p;
        proposition_lt = l;
        tells_apart = tells_of Γ s r p (given_where W s u p hu l here a.mentioned) a.differs;
        by_then = w.waited p l a.mentioned;
      }
