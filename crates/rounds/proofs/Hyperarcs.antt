-- Point 3 and the hyperarcs agree (004, Lemma 1 and Definition 16), among strategies in which events wait for the
-- signals of their labels. The reactions are `network`'s; the argument uses of them only that each is at least 1.
--
-- From point 3 to the hyperarcs: either something tells s from r by the time of u, and its hyperarc asks no more than
-- that, or nothing does, and the two times are equal; this needs no waits. Back: let nothing tell s from r by the time
-- of u in s. Were u earlier in r, its hyperarc in r would name a proposition that tells r from s and is known in r
-- before that time. Take such a proposition. If it is given in s, its observation is later there than in r, and the
-- hyperarc of that observation in r names another, known in r sooner still. If it is not, its observation happens in r
-- alone, and a proposition of the observation's label tells r from s and is known in r sooner still
-- (`told-by-label`). Times do not fall for ever (`no_descent`). Assumes nothing.
use mathlib.Core.Path.{◌≡◌, ◌∙◌}
use mathlib.Core.Logic.{◌⊎◌, inl, inr, ◌↔◌}
use mathlib.Core.Bool.{true}
use mathlib.Core.List.{List}
use Prim.Native.Nat.{ℕ, zero, suc, ◌≤◌, ◌<◌}
use native.Mathlib.Omega.{arith}
use Rattle.prelude.proofs.Tests.{either, lt_or_ge}
use Rattle.prelude.proofs.Minima.{min_where-top, min_where_le, min_where_attained}
use Rattle.network.specs.Build.{observation, scenarios}
use Rattle.network.specs.Happens.{given, tells}
use Rattle.network.specs.Strategy.{time, known_from, least_known_lem}
use Rattle.network.specs.Solution.{Indistinct}
use Rattle.network.specs.WellFormed.{WellFormed}
use Rattle.network.specs.declared.Network.{Network}
use Rattle.network.proofs.Scenario.{agree_comm}
use Rattle.network.proofs.Strategy.{observed-before}
use Rattle.network.proofs.Told.{Told, is-given, is_different, tells_of, not-told, unknown_of, told_or_not}
use Rattle.network.proofs.Told.{told-by-label}
use Rattle.rounds.specs.Hyperarcs.{Dynamic, Waiting, Hyperarcs}

-- the time of u in s
abbrev at : Network → List ℕ → ℕ → ℕ → ℕ
at Γ σ s u = time Γ.events σ s u

module _ (Γ : Network) (σ : List ℕ) where
  -- what is least is no more than the known time of each proposition that tells, and it is one of them or the bound
  least_known : {s r k q : ℕ} (m : ℕ) → Told Γ σ s r k q → least_known_lem Γ σ s r m k ≤ q
  least_known {s} {r} {k} m w =
      omega (
        arith,
        w.by_then,
        min_where_le (tells Γ s r) (known_from Γ σ s) m k w.proposition w.proposition_lt w.tells_apart,
      )

  least-is : (s r m k q : ℕ) → least_known_lem Γ σ s r m k ≤ q → (m ≤ q) ⊎ Told Γ σ s r k q
  least-is s r m k q h =
      elim (min_where_attained (tells Γ s r) (known_from Γ σ s) m k) [
        | inl e ↦ inl (omega arith)
        | inr a ↦ inr (record {
          proposition = a.place;
          proposition_lt = a.place_lt;
          tells_apart = a.counted;
          by_then = omega (arith, a.is);
        })
      ]

  pub hyperarcs_of_dynamic : Dynamic Γ σ → Hyperarcs Γ σ
  hyperarcs_of_dynamic d = record {
    kept = λ s r u hs hr hu here there.
        elim (told_or_not Γ σ s r (at Γ σ s u)) [
          | inl w ↦ least_known (at Γ σ r u) w
          | inr i ↦
              omega (
                arith,
                (d.alike s r u hs hr hu).alike here there i,
                min_where-top (tells Γ s r) (known_from Γ σ s) (at Γ σ r u) Γ.signals,
              )
        ];
  }

  module _ (W : WellFormed Γ) (waiting : Waiting Γ σ) (arcs : Hyperarcs Γ σ) where
    -- nothing tells r from s by the time m, if nothing tells s from r by then
    no_descent : (s r m : ℕ) → s < scenarios Γ → r < scenarios Γ → Indistinct Γ σ s r m
        → (b p : ℕ) → p < Γ.signals → tells Γ r s p ≡ true → known_from Γ σ r p ≤ m → known_from Γ σ r p < b → ⊥
    no_descent s r m hs hr i zero p hp t k l = omega arith
    no_descent s r m hs hr i (suc b) p hp t k l =
        let o = observation Γ p in
        let ho = W.observed p hp in
        let before = observed-before Γ σ r p 0 in
        let given-r = is-given Γ r s p t in
        let sooner : Told Γ σ r s Γ.signals (at Γ σ r o) → ⊥ = λ v.
        no_descent s r m hs hr i b v.proposition v.proposition_lt v.tells_apart
        (omega (arith, v.by_then)) (omega (arith, v.by_then)) in
        elim (either (given Γ s p)) [
          | inl given-s ↦
              let later = unknown_of Γ σ i p hp
              (tells_of Γ s r p given-s (agree_comm s r p ∙ is_different Γ r s p t)) in
              elim
              (least-is r s (at Γ σ s o) Γ.signals (at Γ σ r o)
              (arcs.kept r s o hr hs ho given-r given-s)) [ inl a ↦ omega arith | inr v ↦ sooner v ]
          | inr away ↦ sooner (told-by-label Γ σ W r s o ho given-r away (waiting.waits r o hr ho given-r))
        ]

    pub dynamic_of_hyperarcs : Dynamic Γ σ
    dynamic_of_hyperarcs = record {
      alike = λ s r u hs hr hu. record {
        alike = λ here there i.
            let no_later : at Γ σ r u ≤ at Γ σ s u =
            elim (least-is s r (at Γ σ r u) Γ.signals (at Γ σ s u) (arcs.kept s r u hs hr hu here there)) [
              | inl a ↦ a
              | inr w ↦ absurd (not-told Γ σ i w)
            ] in
            let no-sooner : at Γ σ s u ≤ at Γ σ r u =
            elim (least-is r s (at Γ σ s u) Γ.signals (at Γ σ r u) (arcs.kept r s u hr hs hu there here)) [
              | inl a ↦ a
              | inr w ↦
                  elim (lt_or_ge (at Γ σ r u) (at Γ σ s u)) [
                    | inl l ↦
                        absurd (no_descent s r (at Γ σ s u) hs hr i (suc (known_from Γ σ r w.proposition))
                        w.proposition w.proposition_lt w.tells_apart (omega (arith, w.by_then)) (omega arith))
                    | inr l ↦ l
                  ]
            ] in
            omega arith;
      };
    }

  -- point 3 holds exactly when every hyperarc is kept, whatever reactions of at least 1 the signals have
  pub hyperarcs_agree : WellFormed Γ → Waiting Γ σ → Dynamic Γ σ ↔ Hyperarcs Γ σ
  hyperarcs_agree W w = (hyperarcs_of_dynamic, dynamic_of_hyperarcs W w)
