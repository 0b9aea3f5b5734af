-- Networks that say the same judge every table alike. Assumes nothing.
use mathlib.Core.Path.{◌≡◌, ◌∙◌, ap, ap₂}
use mathlib.Core.Bool.{Bool, ◌&&◌, ◌||◌, not, cond}
use mathlib.Core.Option.{Option}
use mathlib.Core.List.{List}
use Prim.Native.Nat.{ℕ, ◌<◌}
use lib.Dec.{eqb, leb}
use Rattle.prelude.specs.Search.{first_below, unless, or_else}
use Rattle.prelude.specs.Bounded.{all_below}
use Rattle.prelude.proofs.Bounded.{all_below_same}
use Rattle.prelude.proofs.Search.{first_below-same}
use Rattle.network.specs.Limits as L
use Rattle.network.specs.Build.{event_label, constraint}
use Rattle.network.specs.Scenario.{agree, satisfies}
use Rattle.network.specs.Happens.{mentions, happens}
use Rattle.network.specs.Constraint.{covers, admits}
use Rattle.network.specs.Strategy.{time, known_from, known}
use Rattle.network.specs.declared.Label.{Label}
use Rattle.network.specs.declared.Constraint.{Constraint}
use Rattle.network.specs.declared.Network.{Network}
use Rattle.checker.specs.Verdict.{does_wait, is_placed, is_on_time, does_hold, is_indistinct, is_alike, late_in}
use Rattle.checker.specs.Verdict.{first_late_lem}
use Rattle.checker.specs.Verdict.{broken_in, first_broken_lem}
use Rattle.checker.specs.Verdict.{unheard_in, unheard_from, first_unheard_lem, verdict_of, verdict}
use Rattle.checker.specs.declared.Breach.TheVariants.{Late, Rule, Unheard}
use Rattle.tighten.proofs.Agree.{scenarios-agree, happens-agree, time-agree, known_from-agree, known-agree}
use Rattle.calls.proofs.Likewise.{Likewise}

-- a search whose answers are the same, over as many numbers
pub first-same : {A : Type 0} (f g : ℕ → Option A) {n m : ℕ} → n ≡ m → ((k : ℕ) → k < n → f k ≡ g k)
    → first_below n f ≡ first_below m g
first-same f g {n} e h = first_below-same f g n h ∙ ap (λ (k : ℕ). first_below k g) e

pub all_same : (f g : ℕ → Bool) {n m : ℕ} → n ≡ m → ((k : ℕ) → k < n → f k ≡ g k) → all_below n f ≡ all_below m g
all_same f g {n} e h = all_below_same f g n h ∙ ap (λ (k : ℕ). all_below k g) e

module _ {Γ Δ : Network} (w : Likewise Γ Δ) (σ : List ℕ) where
  pub known_same : (s p m : ℕ) → p < Γ.signals → known Γ σ s p m ≡ known Δ σ s p m
  known_same s p m l = known-agree w.agrees σ s p m l

  happens-same : (s u : ℕ) → happens Γ s u ≡ happens Δ s u
  happens-same = happens-agree w.agrees

  -- point 1
  waits-same : (s u : ℕ) → does_wait Γ σ s u ≡ does_wait Δ σ s u
  waits-same s u =
      all_same (λ p. not (mentions (event_label Γ u) p) || leb (known_from Γ σ s p) (time Γ.events σ s u))
      (λ p. not (mentions (event_label Δ u) p) || leb (known_from Δ σ s p) (time Δ.events σ s u)) w.agrees.signals
      (λ p l.
      ap₂ (λ (ℓ : Label) (b : Bool). not (mentions ℓ p) || b) (w.agrees.labels u)
      (ap₂ leb (known_from-agree w.agrees σ s p l) (time-agree w.agrees σ s u)))

  placed_same : (s u : ℕ) → is_placed Γ σ s u ≡ is_placed Δ σ s u
  placed_same s u =
      ap₂ ◌&&◌
      (ap₂ (λ (t h : ℕ). leb t h && (not (eqb u 0) || eqb t 0)) (time-agree w.agrees σ s u) w.agrees.horizon)
      (waits-same s u)

  on-time-same : (s u : ℕ) → is_on_time Γ σ s u ≡ is_on_time Δ σ s u
  on-time-same s u =
      ap₂ (λ (h p : Bool). cond h p (eqb (time Γ.events σ s u) L.blank)) (happens-same s u) (placed_same s u)
      ∙ ap (λ (t : ℕ). cond (happens Δ s u) (is_placed Δ σ s u) (eqb t L.blank)) (time-agree w.agrees σ s u)

  late_same : first_late_lem Γ σ ≡ first_late_lem Δ σ
  late_same =
      first-same (late_in Γ σ) (late_in Δ σ) (scenarios-agree w.agrees) (λ s l.
      first-same (λ u. unless (is_on_time Γ σ s u) (Late s u)) (λ u. unless (is_on_time Δ σ s u) (Late s u))
      w.agrees.events (λ u m. ap (λ (b : Bool). unless b (Late s u)) (on-time-same s u)))

  -- point 2
  covers-same : (c : Constraint) (s : ℕ) → covers Γ c s ≡ covers Δ c s
  unfolding covers
  covers-same c s =
      ap₂ (λ (a b : Bool). satisfies s c.label && (a && b)) (happens-same s c.from) (happens-same s c.to)

  holds_same : (s : ℕ) (c : Constraint) → does_hold Γ σ s c ≡ does_hold Δ σ s c
  holds_same s c =
      ap₂ (λ (b d : Bool). not b || d) (covers-same c s)
      (ap₂ (λ (a b : ℕ). admits c.kind a b c.bound) (time-agree w.agrees σ s c.from)
      (time-agree w.agrees σ s c.to))

  broken_same : first_broken_lem Γ σ ≡ first_broken_lem Δ σ
  broken_same =
      first-same (broken_in Γ σ) (broken_in Δ σ) (scenarios-agree w.agrees) (λ s l.
      first-same (λ c. unless (does_hold Γ σ s (constraint Γ c)) (Rule s c))
      (λ c. unless (does_hold Δ σ s (constraint Δ c)) (Rule s c)) w.rules (λ c m.
      ap (λ (b : Bool). unless b (Rule s c))
      (holds_same s (constraint Γ c) ∙ ap (does_hold Δ σ s) (w.constraints c m))))

  -- point 3
  indistinct_same : (s r u : ℕ) → is_indistinct Γ σ s r u ≡ is_indistinct Δ σ s r u
  indistinct_same s r u =
      all_same (λ p. agree s r p || not (known Γ σ s p (time Γ.events σ s u)))
      (λ p. agree s r p || not (known Δ σ s p (time Δ.events σ s u))) w.agrees.signals (λ p l.
      ap (λ (b : Bool). agree s r p || not b)
      (known_same s p (time Γ.events σ s u) l ∙ ap (known Δ σ s p) (time-agree w.agrees σ s u)))

  alike_same : (s r u : ℕ) → is_alike Γ σ s r u ≡ is_alike Δ σ s r u
  alike_same s r u =
      ap₂ (λ (b d : Bool). not b || d) (ap₂ ◌&&◌ (happens-same s u) (happens-same r u))
      (ap₂ (λ (b d : Bool). not b || d) (indistinct_same s r u)
      (ap₂ eqb (time-agree w.agrees σ s u) (time-agree w.agrees σ r u)))

  unheard-same : first_unheard_lem Γ σ ≡ first_unheard_lem Δ σ
  unheard-same =
      first-same (unheard_from Γ σ) (unheard_from Δ σ) (scenarios-agree w.agrees) (λ s l.
      first-same (unheard_in Γ σ s) (unheard_in Δ σ s) (scenarios-agree w.agrees) (λ r m.
      first-same (λ u. unless (is_alike Γ σ s r u) (Unheard s r u)) (λ u. unless (is_alike Δ σ s r u) (Unheard s r u))
      w.agrees.events (λ u n. ap (λ (b : Bool). unless b (Unheard s r u)) (alike_same s r u))))

  pub verdict-same : verdict Γ σ ≡ verdict Δ σ
  unfolding verdict
  verdict-same =
      ap verdict_of (ap₂ or_else late_same (ap₂ or_else broken_same unheard-same))
