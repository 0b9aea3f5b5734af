-- The network of a sheet that contains a ring is a negative cycle: it is known from what it contains. Assumes nothing.
use mathlib.Core.Path.{◌≡◌, refl, ◌∙◌}
use mathlib.Core.Logic.{inl, inr}
use mathlib.Core.List.{List, []}
use Prim.Native.Nat.{ℕ, suc, ◌-◌, ◌≤◌, ◌<◌}
use native.Mathlib.Omega.{arith}
use borrow.Author.Tests.{eq-eqb, ne_eqb}
use Rattle.prelude.proofs.Tests.{eq_or_ne}
use Rattle.network.specs.Build.{constraint}
use Rattle.network.specs.declared.Constraint.{Constraint}
use Rattle.network.specs.declared.Network.{Network}
use Rattle.layout.specs.Contains.{Bears, Means, Contains}
use Rattle.layout.proofs.Framed.{means_one}
use Rattle.heaviest.specs.RingText.{letter_name, no_sooner_row, ring_contents}
use Rattle.heaviest.proofs.NegativeCycle.{no_sooner, NegativeCycle}
use Rattle.heaviest.proofs.Kept.{name_at, rule_at, names_count, rules_count, names_once}

module _ {n h : ℕ} {sheet : List ℕ} {Γ : Network} (some : 2 ≤ n) (C : Contains sheet Γ (ring_contents n h)) where
  -- an event's name tells its number, and a row between two events its constraint
  abbrev names : List (List ℕ)
  names = (ring_contents n h).names

  bears : (u : ℕ) → u < n → Bears names u (letter_name u)
  bears u l = record { defined = omega (arith, names_count n h); name = name_at n h u l }

  row_is : (k : Constraint) (u v w : ℕ) → u < n → v < n → Means names [] k (no_sooner_row u v w) → k ≡ no_sooner u v w
  row_is k u v w a b e = means_one (names_once n h) e (record {
    kind = refl;
    from = bears u a;
    to = bears v b;
    bound = refl;
    label = refl;
  })

  pub negative_cycle : NegativeCycle (n - 1) Γ
  negative_cycle = record {
    some = omega arith;
    events = omega (arith, C.events, names_count n h);
    signals = C.signals;
    unlabelled = λ u. C.unlabelled u (λ i. absurd (omega (arith, i.place_lt)));
    rules = C.rules ∙ rules_count n h;
    rows = λ i l.
        let k = rw (rule_at n h i l) at (C.means i (omega (arith, rules_count n h))) in
        elim (eq_or_ne (suc i) (n - 1)) [
          | inl q ↦
              let t = eq-eqb (suc i) (n - 1) q in
              rw t (row_is (constraint Γ i) (n - 1) 1 1 (omega arith) (omega arith) (rw t at k))
          | inr q ↦
              let t = ne_eqb (suc i) (n - 1) q in
              rw t (row_is (constraint Γ i) (suc i) (suc (suc i)) 0 (omega arith) (omega arith) (rw t at k))
        ];
  }
