-- Which tables keep the upper bounds: of networks that agree in all but names, letters and rules, a table that solves
-- the first solves the second where each upper bound of the second has one as tight among those of the first. So they
-- have the same solutions where the same ones remain. Assumes nothing.
use mathlib.Core.Path.{◌≡◌, refl, sym, ◌∙◌, ap, ap₂}
use mathlib.Core.Logic.{◌↔◌}
use mathlib.Core.Bool.{true, ◌&&◌}
use mathlib.Core.List.{List}
use Prim.Native.Nat.{ℕ, ◌<◌}
use native.Mathlib.Omega.{arith}
use lib.Signed.{◌≤ℤ◌}
use Rattle.prelude.specs.Lists.{Each}
use Rattle.prelude.proofs.Lists.{each_in, each_mono}
use Rattle.network.specs.Build.{constraint, no_constraint, scenarios}
use Rattle.network.specs.Scenario.{satisfies}
use Rattle.network.specs.Happens.{mentions, happens}
use Rattle.network.specs.Constraint.{covers}
use Rattle.network.specs.Strategy.{time, known}
use Rattle.network.specs.Solution.{Waits, OnTime, Holds, Alike, Solution}
use Rattle.network.specs.WellFormed.{WellFormed}
use Rattle.network.proofs.Bounds.{at_most_mono}
use Rattle.network.specs.declared.Label.{Label}
use Rattle.network.specs.declared.Constraint.{Constraint}
use Rattle.network.specs.declared.Network.{Network}
use Rattle.tighten.specs.Upper.{uppers_of}
use Rattle.tighten.specs.Remaining.{key_of, Stays}
use Rattle.tighten.specs.Tightest.{remaining_of}
use Rattle.tighten.proofs.Regular.{uppers_regular}
use Rattle.tighten.proofs.Keys.{key-from, key-to, key-label}
use Rattle.tighten.proofs.Stays.{among}
use Rattle.tighten.proofs.Remains.{remaining-is}
use Rattle.tighten.proofs.Kept.{keeps, Kept, uppers-kept, rules_hold}
use Rattle.tighten.proofs.Agree.{Agree, agree-sym, scenarios-agree, cells_agree, happens-agree}
use Rattle.tighten.proofs.Agree.{time-agree, known_from-agree, known-agree}

module _ {Γ Δ : Network} (a : Agree Γ Δ) where
  -- upper bounds of one key cover the same scenarios
  covers-agree : (x y : Constraint) → key_of x ≡ key_of y → (s : ℕ) → covers Γ x s ≡ covers Δ y s
  unfolding covers
  covers-agree x y e s =
      ap₂ ◌&&◌ (ap (satisfies s) (key-label x y e))
      (ap₂ ◌&&◌ (ap (happens Γ s) (key-from x y e) ∙ happens-agree a s y.from)
      (ap (happens Γ s) (key-to x y e) ∙ happens-agree a s y.to))

  -- a scenario of one is one of the other
  there_too : {s : ℕ} → s < scenarios Δ → s < scenarios Γ
  there_too l = omega (arith, scenarios-agree a)

  module _ (σ : List ℕ) where
    waits-agree : (s u : ℕ) → Waits Γ σ s u → Waits Δ σ s u
    waits-agree s u w = record {
      waited = λ p h e.
          let l : p < Γ.signals = omega (arith, a.signals) in
          omega (
            arith,
            w.waited p l (ap (λ (ℓ : Label). mentions ℓ p) (a.labels u) ∙ e),
            known_from-agree a σ s p l,
            time-agree a σ s u,
          );
    }

    on-time-agree : (s u : ℕ) → OnTime Γ σ s u → OnTime Δ σ s u
    on-time-agree s u o = record {
      absent = λ e. sym (time-agree a σ s u) ∙ o.absent (happens-agree a s u ∙ e);
      placed = λ e.
          let w = o.placed (happens-agree a s u ∙ e) in
          record {
            in_horizon = omega (arith, w.in_horizon, time-agree a σ s u, a.horizon);
            origin = λ start. sym (time-agree a σ s u) ∙ w.origin start;
            waits = waits-agree s u w.waits;
          };
    }

    alike-agree : (s r u : ℕ) → Alike Γ σ s r u → Alike Δ σ s r u
    alike-agree s r u w = record {
      alike = λ here there i.
          sym (time-agree a σ s u)
          ∙ w.alike (happens-agree a s u ∙ here) (happens-agree a r u ∙ there) (record {
            unknown = λ p h e.
                known-agree a σ s p (time Γ.events σ s u) h ∙ ap (known Δ σ s p) (time-agree a σ s u)
                ∙ i.unknown p (omega (arith, a.signals)) e;
          })
          ∙ time-agree a σ r u;
    }

    -- an upper bound holds where one of its key with no greater limit holds
    kept-agree : (s : ℕ) → Each (Kept Γ σ s) (uppers_of Γ) no_constraint → (y : Constraint) → Stays (uppers_of Γ) y
        → Kept Δ σ s y
    kept-agree s k y w = record { kept = λ e. at w.upper w.key w.limit (each_in (Kept Γ σ s) k w.stands) e }
      where
        at : (x : Constraint) → key_of x ≡ key_of y → x.bound ≤ℤ y.bound → Kept Γ σ s x → covers Δ y s ≡ true
            → keeps (time Δ.events σ s) y ≡ true
        at x p l q e =
            let h = q.kept (covers-agree x y p s ∙ e) in
            let t = time Γ.events σ s in
            rw (
              ← (time-agree a σ s y.from),
              ← (time-agree a σ s y.to),
              ← (key-from x y p),
              ← (key-to x y p),
            )
            (at_most_mono (t x.from) (t x.to) x.bound y.bound l h)

  -- a rule holds in both
  pub holds_agree : (σ : List ℕ) (s : ℕ) (c : Constraint) → Holds Γ σ s c → Holds Δ σ s c
  holds_agree σ s c w = record {
    holds = λ e.
        rw (← (time-agree a σ s c.from), ← (time-agree a σ s c.to)) (w.holds (covers-agree c c refl s ∙ e));
  }

  -- a table of the first is one of the second where the rules of that hold
  pub solution_by-rules : (σ : List ℕ) → Solution Γ σ
      → ((s c : ℕ) → s < scenarios Δ → c < Δ.rules → Holds Δ σ s (constraint Δ c)) → Solution Δ σ
  solution_by-rules σ h rules = record {
    sized = h.sized ∙ cells_agree a;
    on_time = λ s u l m. on-time-agree σ s u (h.on_time s u (there_too l) (omega (arith, a.events)));
    viable = rules;
    dynamic = λ s r u l m n.
        alike-agree σ s r u (h.dynamic s r u (there_too l) (there_too m) (omega (arith, a.events)));
  }

  pub solution_by-uppers : Each (Stays (uppers_of Γ)) (uppers_of Δ) no_constraint → (σ : List ℕ) → Solution Γ σ
      → Solution Δ σ
  solution_by-uppers stay σ h =
      solution_by-rules σ h (λ s c l m.
      rules_hold Δ σ s
      (each_mono (kept-agree σ s (uppers-kept Γ σ s (λ c m. h.viable s c (there_too l) m))) stay)
      c
      m)

pub same_solutions : {Γ Δ : Network} → Agree Γ Δ → Each (Stays (uppers_of Γ)) (uppers_of Δ) no_constraint
    → Each (Stays (uppers_of Δ)) (uppers_of Γ) no_constraint → (σ : List ℕ) → Solution Γ σ ↔ Solution Δ σ
same_solutions a f g σ = (solution_by-uppers a f σ, solution_by-uppers (agree-sym a) g σ)

-- each of Δ stays among those of Γ, where the same ones remain
stays_by-remaining : (Γ Δ : Network) → WellFormed Γ → WellFormed Δ → remaining_of Γ ≡ remaining_of Δ
    → Each (Stays (uppers_of Γ)) (uppers_of Δ) no_constraint
stays_by-remaining Γ Δ w v e =
    each_mono (λ y s. record {
      upper = s.upper;
      stands = among (remaining-is (uppers_regular Γ w)) (rw (← e) at s.stands);
      key = s.key;
      limit = s.limit;
    }) (remaining-is (uppers_regular Δ v)).least

pub solutions_by-remaining : {Γ Δ : Network} → WellFormed Γ → WellFormed Δ → Agree Γ Δ → remaining_of Γ ≡ remaining_of Δ
    → (σ : List ℕ) → Solution Γ σ ↔ Solution Δ σ
solutions_by-remaining {Γ} {Δ} w v a e =
    same_solutions a (stays_by-remaining Γ Δ w v e) (stays_by-remaining Δ Γ v w (sym e))
