-- What the loop of `run` keeps, and where it ends: the run from t comes to base, and from there to u after k rounds in
-- all, and ends there as u's next rounds say. Assumes nothing.
use Rattle.std.proofs.Common.{◌≡◌, ℕ, suc, ◌+◌, ◌-◌, ◌<◌, ◌≤◌, List, sym, refl, ◌∙◌, zero-add, add-one, arith}
use Rattle.fixpoint.specs.Run.{Run, ran, run_from}
use Rattle.fixpoint.specs.Run as run
use Rattle.network.specs.declared.Network.{Network}
use Rattle.rows.specs.Rows.{Times}
use Rattle.rounds.specs.declared.Compiled.{Compiled}
use Rattle.rounds.specs.declared.Effect.TheVariants.{Passes, Rests}
use Rattle.rounds.specs.Propagate.{propagate}
use Rattle.rounds.specs.Cap.{cap}
use Rattle.rounds.specs.Rounds.{held, Rounded}
use Rattle.rounds.proofs.Effects.{round-passes, round-rests}
use Rattle.leap.specs.Tables.{Advanced}
use Rattle.leap.specs.Passing.{Passing}
use Rattle.leap.proofs.Tables.{advanced_none, advanced_join}
use Rattle.solver.specs.declared.End.TheVariants as variants
use Rattle.solver.specs.Run.{RunIs, Onward}

-- a run came from t to base; it has made so many rounds, the last `age` of them since then
pub record Underway (Γ : Network) (t base : List ℕ) (age rounds : ℕ) : Type 0 where
  pub order : age ≤ rounds
  pub to_base : Advanced Γ (rounds - age) t base

module _ {Γ : Network} {t : List ℕ} where
  pub underway_start : Times Γ t → Underway Γ t t 0 0
  underway_start T = record { order = omega arith; to_base = advanced_none T }

  pub all_of : {base now : List ℕ} {age rounds : ℕ} → Underway Γ t base age rounds → Advanced Γ age base now
      → Advanced Γ rounds t now
  all_of {age = age} {rounds} G A =
      let e : rounds - age + age ≡ rounds = omega (arith, G.order) in
      rw e at (advanced_join G.to_base A)

  -- a round more, and what was done after it
  pub underway_on : {base base' : List ℕ} {age age' rounds made : ℕ} → Underway Γ t base age rounds
      → Onward Γ base base' (age + 1) age' made → Underway Γ t base' age' (rounds + 1 + made)
  underway_on {age = age} {age'} {rounds} {made} G O =
      let e : rounds - age + (age + 1 + made - age') ≡ rounds + 1 + made - age' = omega (arith, G.order, O.order) in
      record { order = omega (arith, G.order, O.order); to_base = rw e at (advanced_join G.to_base O.gone) }

-- the same, where the stretch has its own name for what was compiled
pub all_there : {K K' : Compiled} {t base now : List ℕ} {age rounds : ℕ} → K ≡ K'
    → Underway K'.frame.network t base age rounds → Advanced K.frame.network age base now
    → Advanced K'.frame.network rounds t now
all_there e G A = all_of G (rw e at A)

-- where it ends
abbrev runs : Network → ℕ → ℕ → List ℕ → Run
runs Γ k n t = run_from (propagate Γ) (cap Γ) k n (held Γ t)

module _ {Γ : Network} {t u : List ℕ} {k : ℕ} (P : Advanced Γ k t u) (budget turns : ℕ) where
  goes_on : (r n : ℕ) → k + (r + n) ≡ budget → runs Γ k (r + n) u ≡ runs Γ 0 budget t
  goes_on r n e = sym (rw (e, zero-add) at (P.led.on 0 (r + n)))

  goes_on_one : k < budget → runs Γ k (suc (budget - suc k)) u ≡ runs Γ 0 budget t
  goes_on_one h =
      let e : 1 + (budget - suc k) ≡ suc (budget - suc k) = omega arith in
      rw e at (goes_on 1 (budget - suc k) (omega arith))

  pub ended_passing : {v exit : List ℕ} → k < budget → Rounded Γ u v Passes
      → RunIs Γ budget t exit (record { end = variants.Passes; rounds = k + 1; turns = turns })
  ended_passing h r = record {
    run = ran (suc k) (propagate Γ (held Γ u)) run.Passes;
    run_is = sym (round-passes Γ r k (budget - suc k)) ∙ goes_on_one h;
    end_is = refl;
    rounds_are = rw add-one;
    reached = λ n. absurd (n refl);
  }

  pub ended_resting : {v : List ℕ} → k < budget → Rounded Γ u v Rests
      → RunIs Γ budget t u (record { end = variants.Rests; rounds = k + 1; turns = turns })
  ended_resting h r = record {
    run = ran (suc k) (held Γ u) run.Rests;
    run_is = sym (round-rests Γ r k (budget - suc k)) ∙ goes_on_one h;
    end_is = refl;
    rounds_are = rw add-one;
    reached = λ _. refl;
  }

  pub ended-later : {r : ℕ} {exit : List ℕ} → k + r ≤ budget → Passing Γ r u
      → RunIs Γ budget t exit (record { end = variants.Passes; rounds = k + r; turns = turns })
  ended-later {r} h Q =
      let passes = Q.on in
      record {
        run = ran (k + r) passes.last run.Passes;
        run_is = sym (passes.on k (budget - (k + r))) ∙ goes_on r (budget - (k + r)) (omega arith);
        end_is = refl;
        rounds_are = refl;
        reached = λ n. absurd (n refl);
      }

  pub ended_spent : k ≡ budget → RunIs Γ budget t u (record { end = variants.Spent; rounds = k; turns = turns })
  ended_spent h =
      let e : 0 + 0 ≡ 0 = omega arith in
      record {
        run = ran k (held Γ u) run.Spent;
        run_is = rw e at (goes_on 0 0 (omega arith));
        end_is = refl;
        rounds_are = refl;
        reached = λ _. refl;
      }
