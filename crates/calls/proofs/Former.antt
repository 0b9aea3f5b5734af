-- Where every signal has the reaction 1, and is given, it is known at a minute exactly where it was given before it; so
-- of a network without labels of events each of the three points is document 01's, and with them the good tables and
-- the first breach of a bad one. A signal has the reaction 1 unless a line says otherwise, and an event no label.
-- Assumes nothing.
use mathlib.Core.Path.{◌≡◌, sym, ◌∙◌, ap}
use mathlib.Core.Logic.{◌↔◌, inl, inr}
use mathlib.Core.Bool.{true}
use mathlib.Core.Bool.{and-true as and-true-right}
use mathlib.Core.Option.{Option, get_or, none}
use mathlib.Core.List.{List, []}
use Prim.Native.Nat.{ℕ, ◌<◌}
use native.Mathlib.Omega.{arith}
use lib.ListN.{length, length-map}
use Rattle.prelude.specs.Lists.{In}
use Rattle.prelude.proofs.Mapped.{get_d_map}
use Rattle.prelude.proofs.Tests.{lt_or_ge, clash, false_of_not-true}
use Rattle.network.specs.Limits as L
use Rattle.network.specs.Build.{letter, observation, reaction_stated, constraint}
use Rattle.network.specs.Scenario.{satisfies}
use Rattle.network.specs.Happens.{happens, given}
use Rattle.network.specs.Constraint.{covers}
use Rattle.network.specs.Strategy.{time, known}
use Rattle.network.specs.Solution.{OnTime, Holds, Indistinct, Alike, Solution}
use Rattle.network.specs.declared.Constraint.{Constraint}
use Rattle.network.specs.declared.Network.{Network}
use Rattle.network.proofs.Strategy.{reaction_of-least, from-known, is_known}
use Rattle.network.proofs.Labels.{happens-unlabelled, mentions-none}
use Rattle.layout.specs.Contents.{Reaction, Case, Contents, no_reaction, reaction_letters, listed_reactions}
use Rattle.layout.specs.Contents.{listed_cases, case_events}
use Rattle.layout.specs.Keeps.{Keeps}
use Rattle.layout.specs.Contains.{Contains}
use Rattle.checker.specs.First.{First}
use Rattle.checker.specs.declared.Breach.{Breach}
use Rattle.checker.proofs.First.{first_alike}
use Rattle.calls.specs.Former.{Prompt, Unlabelled, NoneBefore, FormerOnTime, FormerHolds, FormerAlike, Former}
use Rattle.calls.specs.Former.{PlainPoints, FormerFirst}
use Rattle.calls.specs.Reacting.{AllOne}

swap : {A B : Type 0} → A ↔ B → B ↔ A
swap e = (e.1, e.0)

-- lines that give 1 leave each signal its reaction of 1
pub prompt-by_ones : {sheet : List ℕ} {Γ : Network} {c : Contents} → Contains sheet Γ c → AllOne c → Prompt Γ
prompt-by_ones {sheet} {Γ} {c} h ones p l =
    elim (lt_or_ge L.fastest (reaction_stated Γ p)) [
      | inr few ↦ reaction_of-least (reaction_stated Γ p) few
      | inl slow ↦ absurd (omega (arith, h.unsaid p inside (λ i. omega (arith, said i))))
    ]
  where
    inside : p < length c.signals
    inside = omega (arith, h.signals)

    said : In (letter Γ p) (reaction_letters (listed_reactions c)) 0 → reaction_stated Γ p ≡ L.fastest
    said i =
        let ys = listed_reactions c in
        let at : i.place < length ys = omega (arith, i.place_lt, length-map ys (λ y. y.letter)) in
        h.reacts p i.place inside at (sym i.is ∙ get_d_map (λ y. y.letter) no_reaction 0 ys i.place at)
        ∙ ones.each i.place at

-- without the sections of reactions and cases there are neither
pub plain-contents : {sheet : List ℕ} {Γ : Network} {c : Contents} → Contains sheet Γ c → Keeps c → c.reactions ≡ none
    → Prompt Γ × Unlabelled Γ
plain-contents {sheet} {Γ} {c} h k e =
    let no_reactions : listed_reactions c ≡ [] = ap (λ (o : Option (List Reaction)). get_or o []) e in
    let no_cases : listed_cases c ≡ [] = ap (λ (o : Option (List Case)). get_or o []) (k.cases_follow e) in
    let none-listed : length (case_events (listed_cases c)) ≡ 0 = rw no_cases in (
      prompt-by_ones h (rw no_reactions (record { each = λ i l. absurd (omega arith) })),
      λ u. h.unlabelled u (λ i. omega (arith, i.place_lt)),
    )

module _ (Γ : Network) (σ : List ℕ) (prompt : Prompt Γ) where
  pub heard-before : (s p m : ℕ) → p < Γ.signals → given Γ s p ≡ true
      → (known Γ σ s p m ≡ true) ↔ (time Γ.events σ s (observation Γ p) < m)
  heard-before s p m l g = (
    λ e. omega (arith, from-known Γ σ s p m e, prompt p l),
    λ h. is_known Γ σ s p m g (omega (arith, prompt p l)),
  )

  module _ (unlabelled : Unlabelled Γ) where
    everywhere : (s u : ℕ) → happens Γ s u ≡ true
    everywhere s u = happens-unlabelled Γ s u (unlabelled u)

    -- a rule covers the scenarios that satisfy its label
    covers-plain : (c : Constraint) (s : ℕ) → covers Γ c s ≡ satisfies s c.label
    unfolding covers
    covers-plain c s = rw (everywhere s c.from, everywhere s c.to) (and-true-right (satisfies s c.label))

    unknown-after : (s r m : ℕ) → NoneBefore Γ σ s r m → Indistinct Γ σ s r m
    unknown-after s r m n = record {
      unknown = λ p l e. false_of_not-true (known Γ σ s p m) (λ k.
          n p l e ((heard-before s p m l (everywhere s (observation Γ p))).0 k));
    }

    none_before : (s r m : ℕ) → Indistinct Γ σ s r m → NoneBefore Γ σ s r m
    none_before s r m i p l e b =
        clash (known Γ σ s p m) ((heard-before s p m l (everywhere s (observation Γ p))).1 b) (i.unknown p l e)

    -- point by point
    on_time_iff : (s u : ℕ) → OnTime Γ σ s u ↔ FormerOnTime Γ σ s u
    on_time_iff s u = (
      λ h. let p = h.placed (everywhere s u) in record { in_horizon = p.in_horizon; origin = p.origin },
      λ f. record {
        absent = λ e. clash (happens Γ s u) (everywhere s u) e;
        placed = λ _. record {
          in_horizon = f.in_horizon;
          origin = f.origin;
          waits = record { waited = λ p l m. absurd (mentions-none p (rw (unlabelled u) at m)) };
        };
      },
    )

    holds_iff : (s c : ℕ) → Holds Γ σ s (constraint Γ c) ↔ FormerHolds Γ σ s c
    holds_iff s c =
        let same = covers-plain (constraint Γ c) s in (
          λ h e. h.holds (same ∙ e),
          λ f. record { holds = λ e. f (sym same ∙ e) },
        )

    alike_iff : (s r u : ℕ) → Alike Γ σ s r u ↔ FormerAlike Γ σ s r u
    alike_iff s r u = (
      λ h n. h.alike (everywhere s u) (everywhere r u) (unknown-after s r _ n),
      λ f. record { alike = λ _ _ i. f (none_before s r _ i) },
    )

    pub plain-points : PlainPoints Γ σ
    plain-points = record { everywhere = everywhere; on_time = on_time_iff; holds = holds_iff; alike = alike_iff }

    pub former_iff : Solution Γ σ ↔ Former Γ σ
    former_iff = (
      λ h. record {
        sized = h.sized;
        on_time = λ s u l m. (on_time_iff s u).0 (h.on_time s u l m);
        viable = λ s c l m. (holds_iff s c).0 (h.viable s c l m);
        dynamic = λ s r u l k m. (alike_iff s r u).0 (h.dynamic s r u l k m);
      },
      λ f. record {
        sized = f.sized;
        on_time = λ s u l m. (on_time_iff s u).1 (f.on_time s u l m);
        viable = λ s c l m. (holds_iff s c).1 (f.viable s c l m);
        dynamic = λ s r u l k m. (alike_iff s r u).1 (f.dynamic s r u l k m);
      },
    )

    pub former-first : (b : Breach) → First Γ σ b ↔ FormerFirst Γ σ b
    former-first b = (
      first_alike Γ on_time_iff holds_iff alike_iff b,
      first_alike Γ (λ s u. swap (on_time_iff s u)) (λ s c. swap (holds_iff s c)) (λ s r u. swap (alike_iff s r u)) b,
    )
