-- Cases that differ only in signals that are not heard yet are alike at a minute, if the table is good: they have
-- heard the same, and the same events are due in them.
--
-- Let s and r differ only in signals that s has not heard at m: nothing tells s from r by m. An event that happens in s
-- by m happens in r too, since its label would tell (`told-by-label`), and at the same time (point 3 of a good table):
-- `here_too`, `same-time`. So what s has heard r has heard, and what is due in s is due in r. The other way round,
-- nothing tells r from s by m either: of a signal that does, take the observation in r. What tells r from s by that
-- time is known in r sooner still, and times do not fall for ever (`no_descent`); so nothing does, the observation
-- happens in s at the same time, and s has heard the signal, which it has not. Assumes nothing.
use mathlib.Core.Path.{◌≡◌, sym, ◌∙◌}
use mathlib.Core.Logic.{inl, inr}
use mathlib.Core.Bool.{Bool, true, beq, cond}
use mathlib.Core.List.{List}
use Prim.Native.Nat.{ℕ, zero, suc, ◌^◌, ◌≤◌, ◌<◌}
use native.Mathlib.Omega.{arith}
use borrow.Author.Tests.{eqb-true, eq-eqb}
use lib.Dec.{eqb}
use Rattle.prelude.proofs.Tests.{either, clash, true_of_not-false, false_of_not-true, and-true, and_both, beq-refl}
use Rattle.prelude.proofs.Tests.{beq-true, same_tests}
use Rattle.prelude.proofs.Bounded.{sum_below-same}
use Rattle.network.specs.Build.{observation, scenarios}
use Rattle.network.specs.Scenario.{truth, agree}
use Rattle.network.specs.Happens.{happens}
use Rattle.network.specs.Strategy.{time, known}
use Rattle.network.specs.Solution.{Solution, Indistinct}
use Rattle.network.specs.WellFormed.{WellFormed}
use Rattle.network.specs.declared.Network.{Network}
use Rattle.network.proofs.Scenario.{agree_comm}
use Rattle.network.proofs.Strategy.{observed-before, given-known, from-known, is_known, unknown-before, known_from-same}
use Rattle.network.proofs.Told.{Told, told-later, is-given, is_different, not-told, told_or_not, told-by-label}
use Rattle.dispatch.specs.Heard.{Lettered}
use Rattle.dispatch.specs.History.{History}
use Rattle.dispatch.specs.Due.{is_due_lem, due_in_lem, hears}
use Rattle.dispatch.specs.declared.Heard.{Heard}
use Rattle.dispatch.proofs.History.{named_of_history, told_of_history, history_of_told}

module _ (Γ : Network) (σ : List ℕ) (m : ℕ) where
  -- the time of u in s
  abbrev at : ℕ → ℕ → ℕ
  at s u = time Γ.events σ s u

  -- a test that holds in r wherever it holds in s
  abbrev Carried : (ℕ → Bool) → Type 0
  Carried f = (s r : ℕ) → s < scenarios Γ → r < scenarios Γ → Indistinct Γ σ s r m → f s ≡ true → f r ≡ true

  -- cases that have heard the same differ only so: had s heard the truth of p, r would have heard the same truth
  pub history_indistinct : Lettered Γ → {s r : ℕ} (heard : List Heard) → History Γ σ m heard s → History Γ σ m heard r
      → Indistinct Γ σ s r m
  history_indistinct lettered {s} {r} heard a b = record {
    unknown = λ p h d. false_of_not-true (known Γ σ s p m) (λ k.
        let mine = and_both (known Γ σ s p m) (beq (truth s p) (truth s p)) k (beq-refl (truth s p)) in
        let yours = sym (told_of_history Γ σ m lettered b p (truth s p) h)
        ∙ (told_of_history Γ σ m lettered a p (truth s p) h ∙ mine) in
        clash (agree r s p) (and-true (known Γ σ r p m) (agree r s p) yours).1 (agree_comm r s p ∙ d));
  }

  module _ (good : Solution Γ σ) (wf : WellFormed Γ) where
    -- nothing tells s from r by the time i
    module _ {s r i : ℕ} (hs : s < scenarios Γ) (hr : r < scenarios Γ) (j : Indistinct Γ σ s r i) where
      -- what happens in s by then happens in r too
      here_too : (u : ℕ) → u < Γ.events → happens Γ s u ≡ true → at s u ≤ i → happens Γ r u ≡ true
      here_too u h here l = true_of_not-false (happens Γ r u) (λ away.
          not-told Γ σ j (told-later l
          (told-by-label Γ σ wf s r u h here away ((good.on_time s u hs h).placed here).waits)))

      -- and at the same time
      same-time : (u : ℕ) → u < Γ.events → happens Γ s u ≡ true → at s u ≤ i → at s u ≡ at r u
      same-time u h here l =
          (good.dynamic s r u hs hr h).alike here (here_too u h here l)
          (record { unknown = λ p hp d. unknown-before Γ σ s p (at s u) i l (j.unknown p hp d) })

      -- so a signal that is given in s by then, and known at m, is known in r at m
      known_there : (p : ℕ) → p < Γ.signals → known Γ σ s p m ≡ true → at s (observation Γ p) ≤ i
          → known Γ σ r p m ≡ true
      known_there p h k l =
          let o = observation Γ p in
          let ho = wf.observed p h in
          let g = given-known Γ σ s p m k in
          let same = known_from-same Γ σ s r p (same-time o ho g l) in
          is_known Γ σ r p m (here_too o ho g l) (omega (arith, from-known Γ σ s p m k))

    -- nothing tells r from s by m or sooner, if nothing tells s from r by m
    no_descent : {s r : ℕ} → s < scenarios Γ → r < scenarios Γ → Indistinct Γ σ s r m
        → (b j : ℕ) → j ≤ m → j < b → Told Γ σ r s Γ.signals j → ⊥
    no_descent hs hr i zero j l below w = omega arith
    no_descent {s} {r} hs hr i (suc b) j l below w =
        let p = w.proposition in
        let hp = w.proposition_lt in
        let o = observation Γ p in
        let sooner : at r o < j = omega (arith, w.by_then, observed-before Γ σ r p m) in
        elim (told_or_not Γ σ r s (at r o)) [
          | inl v ↦ no_descent hs hr i b (at r o) (omega arith) (omega arith) v
          | inr k ↦
              let known-in-r = is_known Γ σ r p m (is-given Γ r s p w.tells_apart) (omega (arith, w.by_then)) in
              clash (known Γ σ s p m) (known_there hr hs k p hp known-in-r (omega arith))
              (i.unknown p hp (agree_comm s r p ∙ is_different Γ r s p w.tells_apart))
        ]

    pub indistinct_comm : {s r : ℕ} → s < scenarios Γ → r < scenarios Γ → Indistinct Γ σ s r m → Indistinct Γ σ r s m
    indistinct_comm {s} {r} hs hr i =
        elim (told_or_not Γ σ r s m) [
          | inl w ↦ absurd (no_descent hs hr i (suc m) m (omega arith) (omega arith) w)
          | inr j ↦ j
        ]

    -- so what is carried one way is the same in both
    both_ways : {s r : ℕ} (f : ℕ → Bool) → Carried f → s < scenarios Γ → r < scenarios Γ
        → Indistinct Γ σ s r m → f s ≡ f r
    both_ways {s} {r} f c hs hr i = same_tests (f s) (f r) (c s r hs hr i) (c r s hr hs (indistinct_comm hs hr i))

    known_carried : (p : ℕ) → p < Γ.signals → Carried (λ s. known Γ σ s p m)
    known_carried p h s r hs hr i k =
        known_there hs hr i p h k (omega (arith, from-known Γ σ s p m k, observed-before Γ σ s p m))

    hears_carried : (p : ℕ) (v : Bool) → p < Γ.signals → Carried (λ s. hears Γ σ m s p v)
    hears_carried p v h s r hs hr i e =
        let w = and-true (known Γ σ s p m) (beq (truth s p) v) e in
        elim (either (agree s r p)) [
          | inl a ↦
              and_both (known Γ σ r p m) (beq (truth r p) v) (known_carried p h s r hs hr i w.0)
              (rw (beq-true (truth s p) (truth r p) a) at w.1)
          | inr a ↦ clash (known Γ σ s p m) w.0 (i.unknown p h a)
        ]

    due_carried : (u : ℕ) → u < Γ.events → Carried (λ s. is_due_lem Γ σ m s u)
    due_carried u h s r hs hr i e =
        let w = and-true (happens Γ s u) (eqb (at s u) m) e in
        let now = eqb-true (at s u) m w.1 in
        and_both (happens Γ r u) (eqb (at r u) m) (here_too hs hr i u h w.0 (omega arith))
        (eq-eqb (at r u) m (omega (arith, same-time hs hr i u h w.0 (omega arith))))

    module _ {s r : ℕ} (hs : s < scenarios Γ) (hr : r < scenarios Γ) (i : Indistinct Γ σ s r m) where
      pub indistinct_hears : (p : ℕ) (v : Bool) → p < Γ.signals → hears Γ σ m s p v ≡ hears Γ σ m r p v
      indistinct_hears p v h = both_ways (λ x. hears Γ σ m x p v) (hears_carried p v h) hs hr i

      pub indistinct_history : Lettered Γ → (heard : List Heard) → History Γ σ m heard s → History Γ σ m heard r
      indistinct_history lettered heard h =
          history_of_told Γ σ m (named_of_history Γ σ m h) (λ p v l. told_of_history Γ σ m lettered h p v l
          ∙ indistinct_hears p v l)

      pub indistinct_due : due_in_lem Γ σ m s ≡ due_in_lem Γ σ m r
      indistinct_due =
          sum_below-same (λ u. cond (is_due_lem Γ σ m s u) (2 ^ u) 0) (λ u. cond (is_due_lem Γ σ m r u) (2 ^ u) 0)
          Γ.events
          (λ u h. rw (both_ways (λ x. is_due_lem Γ σ m x u) (due_carried u h) hs hr i))

    -- "Two cases that have heard the same get the same events"
    pub heard-due : Lettered Γ → {s r : ℕ} → s < scenarios Γ → r < scenarios Γ → (heard : List Heard)
        → History Γ σ m heard s → History Γ σ m heard r → due_in_lem Γ σ m s ≡ due_in_lem Γ σ m r
    heard-due lettered hs hr heard a b = indistinct_due hs hr (history_indistinct lettered heard a b)
