-- Networks of contents that differ in the horizon, the rules or the reactions only: each signal has the same letter and
-- event, and each event the same label; where the same reactions are listed, the same is stated of each signal. Assumes
-- nothing.
use mathlib.Core.Path.{◌≡◌, sym, ◌∙◌, ap}
use mathlib.Core.Logic.{inl, inr}
use mathlib.Core.List.{List, []}
use Prim.Native.Nat.{ℕ, ◌<◌}
use native.Mathlib.Omega.{arith}
use borrow.Author.Tests.{eq-eqb, eqb-true}
use lib.Dec.{eqb}
use lib.ListN.{length, get_or}
use Rattle.prelude.specs.Bytes.{same}
use Rattle.prelude.specs.Lists.{Distinct}
use Rattle.prelude.proofs.Bytes.{same_true, same_of_eq}
use Rattle.network.specs.Build.{letter, observation, reaction_stated, event_label}
use Rattle.network.specs.declared.Constraint.{Constraint}
use Rattle.network.specs.declared.Network.{Network}
use Rattle.layout.specs.Contents.{Signal, Rule, Reaction, Contents, no_signal, no_reaction, no_case}
use Rattle.layout.specs.Contents.{listed_reactions, listed_cases}
use Rattle.layout.specs.Contains.{Bears, Means, Contains}
use Rattle.layout.proofs.Keyed.{keyed_or_not}

-- an event is told by its name
pub bears_one : {names : List (List ℕ)} {u v : ℕ} {f : List ℕ} → Distinct names [] → Bears names u f → Bears names v f
    → u ≡ v
bears_one o a b = o.once _ _ a.defined b.defined (a.name ∙ sym b.name)

-- and a rule by what it says
pub means_one : {names : List (List ℕ)} {xs : List Signal} {x y : Constraint} {r : Rule} → Distinct names []
    → Means names xs x r → Means names xs y r → x ≡ y
means_one once m n =
    let from = bears_one once m.from n.from in
    let to = bears_one once m.to n.to in
    λ j. record {
      kind = (m.kind ∙ sym n.kind) j;
      from = from j;
      to = to j;
      bound = (m.bound ∙ sym n.bound) j;
      label = (m.label ∙ sym n.label) j;
    }

-- contents with the same events, signals and lines of cases
pub record Framed (c d : Contents) : Type 0 where
  pub names : c.names ≡ d.names
  pub signals : c.signals ≡ d.signals
  pub cases : listed_cases c ≡ listed_cases d

module _ {sheet other : List ℕ} {Γ Δ : Network} {c d : Contents} (h : Contains sheet Γ c) (g : Contains other Δ d)
    (b : Framed c d) where
  signal-same : (p : ℕ) → get_or c.signals p no_signal ≡ get_or d.signals p no_signal
  signal-same p = ap (λ (xs : List Signal). get_or xs p no_signal) b.signals

  pub letters-same : (p : ℕ) → p < Γ.signals → letter Γ p ≡ letter Δ p
  letters-same p l =
      h.lettered p (omega (arith, h.signals)) ∙ ap (λ (x : Signal). x.letter) (signal-same p)
      ∙ sym (g.lettered p (omega (arith, h.signals, ap length b.signals)))

  pub observed-same : Distinct c.names [] → (p : ℕ) → p < Γ.signals → observation Γ p ≡ observation Δ p
  observed-same once p l =
      let mine = h.observed p (omega (arith, h.signals)) in
      let theirs = g.observed p (omega (arith, h.signals, ap length b.signals)) in
      bears_one once mine (rw (b.names, signal-same p) theirs)

  pub labels-same : (u : ℕ) → event_label Γ u ≡ event_label Δ u
  labels-same u =
      elim (keyed_or_not same same_true same_of_eq (λ k. k.event) no_case [] (get_or c.names u []) (listed_cases c)) [
        | inl w ↦
            let theirs = g.labelled u w.place (omega (arith, w.place_lt, ap length b.cases))
            (rw (b.names, b.cases) at w.is) in
            h.labelled u w.place w.place_lt w.is ∙ sym (rw (b.signals, b.cases) theirs)
        | inr none ↦ h.unlabelled u none ∙ sym (g.unlabelled u (rw (b.names, b.cases) at none))
      ]

  pub reactions-same : listed_reactions c ≡ listed_reactions d → (p : ℕ) → p < Γ.signals
      → reaction_stated Γ p ≡ reaction_stated Δ p
  reactions-same r p l =
      let mine : p < length c.signals = omega (arith, h.signals) in
      let theirs : p < length d.signals = omega (arith, h.signals, ap length b.signals) in
      let one = letters-same p l in
      elim (keyed_or_not eqb eqb-true eq-eqb (λ y. y.letter) no_reaction 0 (letter Γ p) (listed_reactions c)) [
        | inl w ↦
            h.reacts p w.place mine w.place_lt w.is
            ∙ ap (λ (ys : List Reaction). (get_or ys w.place no_reaction).minutes) r
            ∙ sym (g.reacts p w.place theirs (omega (arith, w.place_lt, ap length r))
            (sym one ∙ w.is ∙ ap (λ (ys : List Reaction). (get_or ys w.place no_reaction).letter) r))
        | inr none ↦ h.unsaid p mine none ∙ sym (g.unsaid p theirs (rw (one, r) at none))
      ]
