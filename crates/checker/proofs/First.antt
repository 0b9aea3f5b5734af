-- A strategy has at most one first breach, so the verdict names a breach exactly where it is the first. Assumes
-- nothing.
use mathlib.Core.Path.{◌≡◌, refl, sym, ap}
use mathlib.Core.Logic.{◌⊎◌, inl, inr, ◌↔◌}
use mathlib.Core.List.{List}
use Prim.Native.Nat.{ℕ, ◌<◌}
use native.Mathlib.Omega.{arith}
use Rattle.prelude.proofs.Tests.{lt_or_ge, eq_or_ne}
use Rattle.network.specs.Build.{constraint}
use Rattle.network.specs.Solution.{OnTime, Holds, Alike}
use Rattle.network.specs.declared.Network.{Network}
use Rattle.checker.specs.Verdict.{verdict}
use Rattle.checker.specs.First.{Before, FirstOf, First}
use Rattle.checker.specs.declared.Breach.{Breach}
use Rattle.checker.specs.declared.Breach.TheVariants.{Late, Rule, Unheard}
use Rattle.checker.specs.declared.Verdict.{Verdict}
use Rattle.checker.specs.declared.Verdict.TheVariants.{Pass, Breach as Breached}
use Rattle.checker.proofs.Judged.{Kept, kept_of_pass, breach_first}

-- of two numbers, or two pairs, neither of which is before the other, both are one
same_number : (a b : ℕ) → (a < b → ⊥) → (b < a → ⊥) → a ≡ b
same_number a b f g =
    elim (lt_or_ge a b) [
      | inl l ↦ absurd (f l)
      | inr l ↦ elim (eq_or_ne a b) [ inl e ↦ e | inr n ↦ absurd (g (omega arith)) ]
    ]

same-pair : (a b c d : ℕ) → (Before a b c d → ⊥) → (Before c d a b → ⊥) → (a ≡ c) × (b ≡ d)
same-pair a b c d f g =
    let e = same_number a c (λ l. f (inl l)) (λ l. g (inl l)) in
    (e, same_number b d (λ l. f (inr (e, l))) (λ l. g (inr (sym e, l))))

-- of any three points
module _ (Γ : Network) (Point1 Point2 : ℕ → ℕ → Type 0) (Point3 : ℕ → ℕ → ℕ → Type 0) where
  abbrev Is : Breach → Type 0
  Is b = FirstOf Γ Point1 Point2 Point3 b

  late_unique : (s u t v : ℕ) → Is (Late s u) → Is (Late t v) → Late s u ≡ Late t v
  late_unique s u t v f g =
      let e = same-pair s u t v (λ l. f.breaks (g.before s u f.scenario f.event l))
      (λ l. g.breaks (f.before t v g.scenario g.event l)) in
      rw (e.0, e.1)

  rule_unique : (s c t d : ℕ) → Is (Rule s c) → Is (Rule t d) → Rule s c ≡ Rule t d
  rule_unique s c t d f g =
      let e = same-pair s c t d (λ l. f.breaks (g.before s c f.scenario f.place l))
      (λ l. g.breaks (f.before t d g.scenario g.place l)) in
      rw (e.0, e.1)

  unheard_unique : (s r u t q v : ℕ) → Is (Unheard s r u) → Is (Unheard t q v) → Unheard s r u ≡ Unheard t q v
  unheard_unique s r u t q v f g =
      let no : ((s < t) ⊎ ((s ≡ t) × Before r u q v)) → ⊥ =
      λ l. f.breaks (g.before s r u f.scenario f.other f.event l) in
      let on : ((t < s) ⊎ ((t ≡ s) × Before q v r u)) → ⊥ =
      λ l. g.breaks (f.before t q v g.scenario g.other g.event l) in
      let e = same_number s t (λ l. no (inl l)) (λ l. on (inl l)) in
      let p = same-pair r u q v (λ l. no (inr (e, l))) (λ l. on (inr (sym e, l))) in
      rw (e, p.0, p.1)

  pub first_unique : (a b : Breach) → Is a → Is b → a ≡ b
  first_unique (Late s u) (Late t v) f g = late_unique s u t v f g
  first_unique (Late s u) (Rule t d) f g = absurd (f.breaks (g.on_time s u f.scenario f.event))
  first_unique (Late s u) (Unheard t q v) f g = absurd (f.breaks (g.on_time s u f.scenario f.event))
  first_unique (Rule s c) (Late t v) f g = absurd (g.breaks (f.on_time t v g.scenario g.event))
  first_unique (Rule s c) (Rule t d) f g = rule_unique s c t d f g
  first_unique (Rule s c) (Unheard t q v) f g = absurd (f.breaks (g.viable s c f.scenario f.place))
  first_unique (Unheard s r u) (Late t v) f g = absurd (g.breaks (f.on_time t v g.scenario g.event))
  first_unique (Unheard s r u) (Rule t d) f g = absurd (g.breaks (f.viable t d g.scenario g.place))
  first_unique (Unheard s r u) (Unheard t q v) f g = unheard_unique s r u t q v f g

-- points that hold alike have the same first breach
module _ (Γ : Network) {One One' Two Two' : ℕ → ℕ → Type 0} {Three Three' : ℕ → ℕ → ℕ → Type 0}
    (one : (s u : ℕ) → One s u ↔ One' s u) (two : (s c : ℕ) → Two s c ↔ Two' s c)
    (three : (s r u : ℕ) → Three s r u ↔ Three' s r u) where
  pub first_alike : (b : Breach) → FirstOf Γ One Two Three b → FirstOf Γ One' Two' Three' b
  first_alike (Late s u) f = record {
    scenario = f.scenario;
    event = f.event;
    breaks = λ p. f.breaks ((one s u).1 p);
    before = λ t v l m b. (one t v).0 (f.before t v l m b);
  }
  first_alike (Rule s c) f = record {
    scenario = f.scenario;
    place = f.place;
    breaks = λ p. f.breaks ((two s c).1 p);
    before = λ t d l m b. (two t d).0 (f.before t d l m b);
    on_time = λ t v l m. (one t v).0 (f.on_time t v l m);
  }
  first_alike (Unheard s r u) f = record {
    scenario = f.scenario;
    other = f.other;
    event = f.event;
    breaks = λ p. f.breaks ((three s r u).1 p);
    before = λ t q v l k m b. (three t q v).0 (f.before t q v l k m b);
    on_time = λ t v l m. (one t v).0 (f.on_time t v l m);
    viable = λ t d l m. (two t d).0 (f.viable t d l m);
  }

module _ (Γ : Network) (σ : List ℕ) where
  one_first : (a b : Breach) → First Γ σ a → First Γ σ b → a ≡ b
  one_first = first_unique Γ (OnTime Γ σ) (λ s c. Holds Γ σ s (constraint Γ c)) (Alike Γ σ)

  -- a strategy that keeps the three points has no first breach
  none_first : (b : Breach) → Kept Γ σ → First Γ σ b → ⊥
  none_first (Late s u) k f = f.breaks (k.on_time s u f.scenario f.event)
  none_first (Rule s c) k f = f.breaks (k.viable s c f.scenario f.place)
  none_first (Unheard s r u) k f = f.breaks (k.dynamic s r u f.scenario f.other f.event)

  pub breach_iff : (b : Breach) → (verdict Γ σ ≡ Breached b) ↔ First Γ σ b
  breach_iff b = (breach_first Γ σ b, λ f. by-verdict (verdict Γ σ) refl f)
    where
      by-verdict : (v : Verdict) → verdict Γ σ ≡ v → First Γ σ b → v ≡ Breached b
      by-verdict Pass e f = absurd (none_first b (kept_of_pass Γ σ e) f)
      by-verdict (Breached a) e f = ap Breached (one_first a b (breach_first Γ σ a e) f)
