-- The verdict decides the three points: it passes just the solutions (`judged`), and a breach that it names is the
-- first (`breach_first`). Each search is one of `Nested`; that of point 3 stands within one more, over its first
-- scenario. Assumes nothing.
use mathlib.Core.Path.{◌≡◌, refl}
use mathlib.Core.Logic.{inl, inr, ◌↔◌}
use mathlib.Core.Option.{Option, none, some}
use mathlib.Core.List.{List}
use Prim.Native.Nat.{ℕ, ◌<◌}
use lib.ListN.{length}
use Rattle.prelude.specs.Search.{or_else}
use Rattle.prelude.proofs.Search.{or_else_none, or_else_some, some_of_first_below, none_of_first_below}
use Rattle.prelude.proofs.Search.{first_below-none}
use Rattle.prelude.proofs.Tests.{zero-is-one}
use Rattle.network.specs.Build.{constraint, scenarios, cells}
use Rattle.network.specs.Solution.{OnTime, Holds, Alike, Solution}
use Rattle.network.specs.declared.Network.{Network}
use Rattle.checker.specs.Verdict.{is_on_time, does_hold, is_alike, first_late_lem, first_broken_lem, unheard_from}
use Rattle.checker.specs.Verdict.{first_unheard_lem}
use Rattle.checker.specs.Verdict.{first_breach, verdict_of, verdict}
use Rattle.checker.specs.First.{First}
use Rattle.checker.specs.declared.Breach.{Breach}
use Rattle.checker.specs.declared.Breach.TheVariants.{Late, Rule, Unheard}
use Rattle.checker.specs.declared.Verdict.TheVariants.{Pass, Breach as Breached}
use Rattle.checker.proofs.Points.{is_on_time_iff, does_hold_iff, is_alike_iff}
use Rattle.checker.proofs.Nested.{Decided, decided}

-- a pass has no breach, and a breach is the one that was found
pub none_of_pass : (o : Option Breach) → verdict_of o ≡ Pass → o ≡ none
none_of_pass none e = refl
none_of_pass (some b) e = zero-is-one cc

pub some_of_breached : (o : Option Breach) (b : Breach) → verdict_of o ≡ Breached b → o ≡ some b
some_of_breached none b e = zero-is-one cc
some_of_breached (some a) b e = cc

module _ (Γ : Network) (σ : List ℕ) where
  -- the three points, each of all that it speaks of
  abbrev pub OnTimes : Type 0
  OnTimes = (s u : ℕ) → s < scenarios Γ → u < Γ.events → OnTime Γ σ s u

  abbrev pub Viable : Type 0
  Viable = (s c : ℕ) → s < scenarios Γ → c < Γ.rules → Holds Γ σ s (constraint Γ c)

  abbrev pub Dynamic : Type 0
  Dynamic = (s r u : ℕ) → s < scenarios Γ → r < scenarios Γ → u < Γ.events → Alike Γ σ s r u

  -- the three searches, that of point 3 from one scenario
  late : Decided (scenarios Γ) Γ.events Late (OnTime Γ σ) (first_late_lem Γ σ)
  late = decided (scenarios Γ) Γ.events Late (OnTime Γ σ) (is_on_time Γ σ) (is_on_time_iff Γ σ)

  broken : Decided (scenarios Γ) Γ.rules Rule (λ s c. Holds Γ σ s (constraint Γ c)) (first_broken_lem Γ σ)
  broken =
      decided (scenarios Γ) Γ.rules Rule (λ s c. Holds Γ σ s (constraint Γ c))
      (λ s c. does_hold Γ σ s (constraint Γ c))
      (λ s c. does_hold_iff Γ σ s (constraint Γ c))

  unheard : (s : ℕ) → Decided (scenarios Γ) Γ.events (Unheard s) (Alike Γ σ s) (unheard_from Γ σ s)
  unheard s = decided (scenarios Γ) Γ.events (Unheard s) (Alike Γ σ s) (is_alike Γ σ s) (is_alike_iff Γ σ s)

  none-unheard : (first_unheard_lem Γ σ ≡ none) ↔ Dynamic
  none-unheard = (
    λ e s r u l. (unheard s).nowhere.0 (none_of_first_below (unheard_from Γ σ) (scenarios Γ) e s l) r u,
    λ h. first_below-none (unheard_from Γ σ) (scenarios Γ) λ s l. (unheard s).nowhere.1 (λ r u. h s r u l),
  )

  -- a pass keeps the three points
  pub record Kept : Type 0 where
    pub on_time : OnTimes
    pub viable : Viable
    pub dynamic : Dynamic

  pub kept_of_pass : verdict Γ σ ≡ Pass → Kept
  unfolding verdict
  kept_of_pass e =
      let p = or_else_none (first_late_lem Γ σ) (or_else (first_broken_lem Γ σ) (first_unheard_lem Γ σ))
      (none_of_pass (first_breach Γ σ) e) in
      let q = or_else_none (first_broken_lem Γ σ) (first_unheard_lem Γ σ) p.1 in
      record { on_time = late.nowhere.0 p.0; viable = broken.nowhere.0 q.0; dynamic = none-unheard.0 q.1 }

  solution_of_pass : length σ ≡ cells Γ → verdict Γ σ ≡ Pass → Solution Γ σ
  solution_of_pass sized e =
      let k = kept_of_pass e in
      record { sized = sized; on_time = k.on_time; viable = k.viable; dynamic = k.dynamic }

  pass_of_solution : Solution Γ σ → verdict Γ σ ≡ Pass
  unfolding verdict
  pass_of_solution h = rw (late.nowhere.1 h.on_time, broken.nowhere.1 h.viable, none-unheard.1 h.dynamic)

  late_is_first : (b : Breach) → first_late_lem Γ σ ≡ some b → First Γ σ b
  late_is_first b e =
      let w = late.first b e in
      let first : First Γ σ (Late w.outer w.inner) =
      record { scenario = w.outer_lt; event = w.inner_lt; breaks = w.breaks; before = w.before } in
      rw (← w.named) first

  broken_is_first : (b : Breach) → OnTimes → first_broken_lem Γ σ ≡ some b → First Γ σ b
  broken_is_first b on_time e =
      let w = broken.first b e in
      let first : First Γ σ (Rule w.outer w.inner) =
      record { scenario = w.outer_lt; place = w.inner_lt; breaks = w.breaks; before = w.before; on_time = on_time }
      in
      rw (← w.named) first

  first-unheard : (b : Breach) → OnTimes → Viable → first_unheard_lem Γ σ ≡ some b → First Γ σ b
  first-unheard b on_time viable e =
      let from = some_of_first_below (unheard_from Γ σ) (scenarios Γ) b e in
      let w = (unheard from.index).first b from.answer in
      let first : First Γ σ (Unheard from.index w.outer w.inner) =
      record {
        scenario = from.index_lt;
        other = w.outer_lt;
        event = w.inner_lt;
        breaks = w.breaks;
        before = λ t q v k l m before.
            elim before [
              | inl p ↦ (unheard t).nowhere.0 (from.first t p) q v l m
              | inr p ↦ rw p.0 (w.before q v l m p.1)
            ];
        on_time = on_time;
        viable = viable;
      } in
      rw (← w.named) first

  breached : (b : Breach) → first_breach Γ σ ≡ some b → First Γ σ b
  breached b e =
      elim (or_else_some (first_late_lem Γ σ) (or_else (first_broken_lem Γ σ) (first_unheard_lem Γ σ)) b e) [
        | inl p ↦ late_is_first b p
        | inr p ↦
            elim (or_else_some (first_broken_lem Γ σ) (first_unheard_lem Γ σ) b p.1) [
              | inl q ↦ broken_is_first b (late.nowhere.0 p.0) q
              | inr q ↦ first-unheard b (late.nowhere.0 p.0) (broken.nowhere.0 q.0) q.1
            ]
      ]

-- the checker passes the good tables and no others
pub judged : (Γ : Network) (σ : List ℕ) → length σ ≡ cells Γ → (verdict Γ σ ≡ Pass) ↔ Solution Γ σ
judged Γ σ sized = (solution_of_pass Γ σ sized, pass_of_solution Γ σ)

-- the breach that it names is the first
pub breach_first : (Γ : Network) (σ : List ℕ) (b : Breach) → verdict Γ σ ≡ Breached b → First Γ σ b
unfolding verdict
breach_first Γ σ b e = breached Γ σ b (some_of_breached (first_breach Γ σ) b e)
