-- Masked strategies, cell by cell; and what a solution says of the cells that have their event is said of every
-- strategy that agrees with it there. Assumes nothing.
use Rattle.std.proofs.Common.{◌≡◌, ℕ, ◌+◌, ◌*◌, ◌/◌, ◌%◌, ◌<◌, true, false, cond, List, length, get_or, sym, ◌∙◌, inl}
use Rattle.std.proofs.Common.{inr, arith, ext_get_or}
use Rattle.prelude.proofs.Tests.{either}
use Rattle.prelude.proofs.Bounded.{length-tabulate, get_d_tabulate}
use Rattle.prelude.proofs.Cells.{cell_lt, row_of_lem, column_of, by-cell}
use Rattle.network.specs.Limits as L
use Rattle.network.specs.Build.{observation, constraint, scenarios, cells}
use Rattle.network.specs.Happens.{happens, given}
use Rattle.network.specs.Strategy.{time, known_from, known}
use Rattle.network.specs.Solution.{Placed, Holds, Alike, Solution}
use Rattle.network.specs.WellFormed.{WellFormed}
use Rattle.network.specs.declared.Network.{Network}
use Rattle.network.proofs.Labels.{given_where}
use Rattle.network.proofs.Jointly.{covers_both}
use Rattle.solver.specs.Masked.{masked}

module _ (Γ : Network) (d : ℕ) (σ : List ℕ) where
  pub length-masked : length (masked Γ d σ) ≡ cells Γ
  unfolding masked
  length-masked =
      length-tabulate (λ i. cond (happens Γ (i / Γ.events) (i % Γ.events)) (get_or σ i 0) d) (cells Γ)

  masked-at : (s u : ℕ) → s < scenarios Γ → u < Γ.events
      → time Γ.events (masked Γ d σ) s u ≡ cond (happens Γ s u) (time Γ.events σ s u) d
  unfolding masked
  masked-at s u hs hu =
      get_d_tabulate (λ i. cond (happens Γ (i / Γ.events) (i % Γ.events)) (get_or σ i 0) d) (cells Γ)
      (s * Γ.events + u) 0 (cell_lt Γ.events (scenarios Γ) s u hs hu)
      ∙ rw (row_of_lem Γ.events s u hu, column_of Γ.events s u hu)

  pub masked_there : (s u : ℕ) → s < scenarios Γ → u < Γ.events → happens Γ s u ≡ true
      → time Γ.events (masked Γ d σ) s u ≡ time Γ.events σ s u
  masked_there s u hs hu e = masked-at s u hs hu ∙ rw e

  pub masked_missing : (s u : ℕ) → s < scenarios Γ → u < Γ.events → happens Γ s u ≡ false
      → time Γ.events (masked Γ d σ) s u ≡ d
  masked_missing s u hs hu e = masked-at s u hs hu ∙ rw e

-- what has these cells is it
pub masked_as : (Γ : Network) (d : ℕ) (σ τ : List ℕ) → length τ ≡ cells Γ
    → ((s u : ℕ) → s < scenarios Γ → u < Γ.events
    → time Γ.events τ s u ≡ cond (happens Γ s u) (time Γ.events σ s u) d)
    → τ ≡ masked Γ d σ
masked_as Γ d σ τ n h =
    ext_get_or 0 τ (masked Γ d σ) (n ∙ sym (length-masked Γ d σ)) (λ i l.
    by-cell Γ.events (scenarios Γ) (λ k. get_or τ k 0 ≡ get_or (masked Γ d σ) k 0)
    (λ s u hs hu. h s u hs hu ∙ sym (masked-at Γ d σ s u hs hu))
    i (omega (arith, n)))

-- what a solution says of the cells that have their event
pub record Good (Γ : Network) (σ : List ℕ) : Type 0 where
  pub placed : (s u : ℕ) → s < scenarios Γ → u < Γ.events → happens Γ s u ≡ true → Placed Γ σ s u
  pub viable : (s c : ℕ) → s < scenarios Γ → c < Γ.rules → Holds Γ σ s (constraint Γ c)
  pub dynamic : (s r u : ℕ) → s < scenarios Γ → r < scenarios Γ → u < Γ.events → Alike Γ σ s r u

pub good_of_solution : {Γ : Network} {σ : List ℕ} → Solution Γ σ → Good Γ σ
good_of_solution h = record {
  placed = λ s u hs hu e. (h.on_time s u hs hu).placed e;
  viable = h.viable;
  dynamic = h.dynamic;
}

module _ {Γ : Network} (W : WellFormed Γ) (σ τ : List ℕ)
    (same : (s u : ℕ) → s < scenarios Γ → u < Γ.events → happens Γ s u ≡ true
    → time Γ.events σ s u ≡ time Γ.events τ s u) where
  same_known : (s p : ℕ) → s < scenarios Γ → p < Γ.signals → given Γ s p ≡ true
      → known_from Γ σ s p ≡ known_from Γ τ s p
  same_known s p hs hp g = omega (arith, same s (observation Γ p) hs (W.observed p hp) g)

  -- what is not given is known in neither
  known_too : (s p m : ℕ) → s < scenarios Γ → p < Γ.signals → known Γ τ s p m ≡ known Γ σ s p m
  known_too s p m hs hp =
      elim (either (given Γ s p)) [ inl g ↦ rw (g, same_known s p hs hp g) | inr g ↦ rw g ]

  pub good_agrees : Good Γ σ → Good Γ τ
  good_agrees g = record {
    placed = λ s u hs hu here.
        let p = g.placed s u hs hu here in
        let e = same s u hs hu here in
        record {
          in_horizon = omega (arith, p.in_horizon);
          origin = λ z. sym e ∙ p.origin z;
          waits = record {
            waited = λ q hq m.
                omega (arith, p.waits.waited q hq m, same_known s q hs hq (given_where W s u q hu hq here m));
          };
        };
    viable = λ s c hs hc. record {
      holds = λ e.
          let r = constraint Γ c in
          let proper = W.proper c hc in
          let both = covers_both Γ r s e in
          rw (same s r.from hs proper.from both.0, same s r.to hs proper.to both.1)
          at ((g.viable s c hs hc).holds e);
    };
    dynamic = λ s r u hs hr hu. record {
      alike = λ here there i.
          let m = same s u hs hu here in
          sym m
          ∙ ((g.dynamic s r u hs hr hu).alike here there
          (record {
            unknown = λ p hp d. sym (known_too s p (time Γ.events σ s u) hs hp) ∙ (rw m (i.unknown p hp d));
          })
          ∙ same r u hr hu there);
    };
  }

-- with blanks in the cells that lack their event, what is good is a solution
pub blanked_solves : {Γ : Network} → WellFormed Γ → (ρ : List ℕ) → Good Γ ρ → Solution Γ (masked Γ L.blank ρ)
blanked_solves {Γ} W ρ g =
    let σ = masked Γ L.blank ρ in
    let h = good_agrees W ρ σ (λ s u hs hu e. sym (masked_there Γ L.blank ρ s u hs hu e)) g in
    record {
      sized = length-masked Γ L.blank ρ;
      on_time = λ s u hs hu. record {
        absent = masked_missing Γ L.blank ρ s u hs hu;
        placed = h.placed s u hs hu;
      };
      viable = h.viable;
      dynamic = h.dynamic;
    }

-- and a solution with zeros for its blanks is good
pub zeroed_good : {Γ : Network} → WellFormed Γ → (σ : List ℕ) → Solution Γ σ → Good Γ (masked Γ 0 σ)
zeroed_good {Γ} W σ h =
    good_agrees W σ (masked Γ 0 σ) (λ s u hs hu e. sym (masked_there Γ 0 σ s u hs hu e)) (good_of_solution h)
