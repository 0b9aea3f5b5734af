-- Where rounds from tables lead: none, some after others, one, and p from a table that is placed. Assumes nothing.
use mathlib.Core.Path.{◌≡◌, refl, ◌∙◌, ap}
use mathlib.Core.Logic.{inr}
use mathlib.Core.List.{List}
use Prim.Native.Nat.{ℕ, ◌+◌, ◌*◌, ◌≤◌}
use native.Mathlib.Omega.{arith}
use lib.ListN.{length, get_or}
use Rattle.fixpoint.specs.Iterate.{iterate}
use Rattle.fixpoint.specs.Straight.{moved}
use Rattle.fixpoint.proofs.Moved.{moved_ext}
use Rattle.fixpoint.proofs.Leads.{leads_none, leads_join}
use Rattle.network.specs.Build.{scenarios}
use Rattle.network.specs.declared.Network.{Network}
use Rattle.rows.specs.Rows.{Times, Wrote}
use Rattle.rows.proofs.Gapless.{length-gapless}
use Rattle.rounds.specs.declared.Effect.TheVariants.{Rises}
use Rattle.rounds.specs.Propagate.{propagate}
use Rattle.rounds.specs.Cap.{cap}
use Rattle.rounds.specs.Rounds.{held, Rounded}
use Rattle.rounds.proofs.Effects.{round_leads}
use Rattle.moves.specs.Moves.{part_of, Placed}
use Rattle.moves.proofs.Moves.{wrote_at, wrote-times}
use Rattle.std.specs.Option.{MatchOption, unwrap_or}
use Rattle.std.specs.declared.option.Option.{Option}
use Rattle.std.specs.declared.option.Option.TheVariants.{None, Some}
use Rattle.leap.specs.Tables.{Advanced, Halted, Far, NoneFar}
use Rattle.leap.proofs.Strategies.{held-few, held_same, held_moved, placed-within}

module _ {Γ : Network} where
  -- all of a rise is between none and the longest horizon
  pub moved-whole : Γ.events ≤ 16 → (t d : List ℕ) (j : ℕ) → Times Γ d
      → moved (held Γ t) j (λ i. part_of 0 10080 (get_or (held Γ d) i 0)) ≡ moved (held Γ t) j
      (λ i. get_or (held Γ d) i 0)
  moved-whole few t d j D =
      moved_ext (held Γ t) j (λ i. part_of 0 10080 (get_or (held Γ d) i 0)) (λ i. get_or (held Γ d) i 0) (λ i b.
      omega (arith, held-few Γ few d D i (omega (arith, length-gapless Γ.events (scenarios Γ) t))))

  pub advanced_none : {t : List ℕ} → Times Γ t → Advanced Γ 0 t t
  advanced_none {t} T = record { times = T; led = leads_none (propagate Γ) (cap Γ) (held Γ t) }

  pub advanced_join : {p q : ℕ} {t u v : List ℕ} → Advanced Γ p t u → Advanced Γ q u v → Advanced Γ (p + q) t v
  advanced_join A B = record { times = B.times; led = leads_join (propagate Γ) (cap Γ) A.led B.led }

  -- a round that rises
  pub advanced_round : {t u : List ℕ} → Rounded Γ t u Rises → Advanced Γ 1 t u
  advanced_round R = record { times = R.times refl; led = round_leads Γ R }

  -- a table whose cells are copied is as good as the other
  pub advanced_copied : {p : ℕ} {t u v v₀ : List ℕ} → Γ.events ≤ 16 → Advanced Γ p t u → length v₀ ≡ 256
      → Wrote v₀ v 0 (scenarios Γ * 16) (λ i. get_or u i 0) → Advanced Γ p t v
  advanced_copied {u = u} {v = v} few A z W =
      let e : held Γ v ≡ held Γ u = held_same Γ few v u (λ i h. wrote_at W i h) in
      record {
        times = wrote-times (λ i. get_or u i 0) A.times z W (λ i b. omega arith);
        led = rw e A.led;
      }

  -- p rounds from a placed table
  pub far_of : {t d o u : List ℕ} {lo hi p j : ℕ} → Γ.events ≤ 16 → Times Γ o
      → Placed t d lo hi j Γ.horizon (scenarios Γ * 16) o → Advanced Γ p o u → Far Γ p j t d lo hi u
  far_of {p = p} few O P A = record {
    times = A.times;
    made = A.led.made ∙ ap (iterate p (propagate Γ)) (held_moved Γ few P);
    inside = A.led.inside (placed-within Γ few O P);
  }

  -- or why they are not all made
  pub far_or_none : {t d o : List ℕ} {lo hi j : ℕ} (p : ℕ) (r : Option (List ℕ)) → Γ.events ≤ 16
      → Times Γ o × Placed t d lo hi j Γ.horizon (scenarios Γ * 16) o
      → MatchOption r (Halted Γ p o) (λ u. Advanced Γ p o u)
      → MatchOption r (NoneFar Γ p j t d lo hi) (λ u. Far Γ p j t d lo hi u)
  far_or_none {o = o} p None few P H = inr (o, P.1, H)
  far_or_none p (Some u) few P A = far_of few P.0 P.1 A

  -- from one that is placed by all of its rises
  pub far-whole_of : {t d o u : List ℕ} {lo hi p j : ℕ} → Γ.events ≤ 16 → (lo ≡ 0) × (hi ≡ 10080)
      → Times Γ o × Placed t d lo hi j Γ.horizon (scenarios Γ * 16) o → Advanced Γ p o u → Far Γ p j t d 0 10080 u
  far-whole_of few e O A = rw (e.0, e.1) at (far_of few O.0 O.1 A)

  pub far_whole : {t d o : List ℕ} {lo hi p j : ℕ} → (lo ≡ 0) × (hi ≡ 10080) → Far Γ p j t d lo hi o
      → Far Γ p j t d 0 10080 o
  far_whole e F = rw (e.0, e.1) at F

  -- a leap, or none
  pub hopped : {left : ℕ} {t u : List ℕ} (r : Option ℕ) → Times Γ t
      → MatchOption r (u ≡ t) (λ made. (made ≤ left) × Advanced Γ made t u)
      → (unwrap_or r 0 ≤ left) × Advanced Γ (unwrap_or r 0) t u
  hopped None T e = (omega arith, rw e (advanced_none T))
  hopped (Some made) T h = h
