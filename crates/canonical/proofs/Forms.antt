-- "Two sheets give equal bytes if and only if their horizons, event lists, signal lists and remaining rows are equal"
-- (02, point 2), and their reactions (point 3) and event labels (point 6). Equal bytes are read to one network, which
-- has the horizon, the lists, the reactions, the labels and what remains of each sheet; and the bytes are written from
-- these alone. Assumes nothing.
use mathlib.Core.Path.{◌≡◌, sym, ◌∙◌, ap}
use mathlib.Core.Logic.{◌↔◌}
use mathlib.Core.List.{List}
use Prim.Native.Nat.{ℕ, ◌<◌}
use native.Mathlib.Omega.{arith}
use Rattle.network.specs.Build.{event_label}
use Rattle.network.specs.Strategy.{reaction}
use Rattle.network.specs.declared.Network.{Network}
use Rattle.sheet.specs.Reading.{Accepts, network_of}
use Rattle.tighten.specs.Tightest.{remaining_of}
use Rattle.canonical.specs.House.{names_of, signals_of, house_text}
use Rattle.canonical.specs.Same.{Same}
use Rattle.canonical.proofs.Faithful.{faithful}
use Rattle.canonical.proofs.Likeness.{text_same}
use Rattle.canonical.proofs.Again.{form_agrees, form-same}

-- the network that is read from a form
abbrev from : List ℕ → Network
from form = network_of form

module _ (sheet : List ℕ) (a : Accepts sheet) (other : List ℕ) (b : Accepts other) where
  abbrev Γ : Network
  Γ = network_of sheet

  abbrev Δ : Network
  Δ = network_of other

  pub same_of_equal : house_text sheet Γ ≡ house_text other Δ → Same sheet Γ other Δ
  same_of_equal e =
      let one = form-same sheet a in
      let two = form-same other b in
      let back = form_agrees sheet a in
      let inside : (p : ℕ) → p < Γ.signals → p < (from (house_text sheet Γ)).signals =
      λ p l. omega (arith, back.signals) in
      let event : (u : ℕ) → u < Γ.events → u < (from (house_text sheet Γ)).events =
      λ u l. omega (arith, back.events) in
      record {
        horizons = sym one.horizons ∙ ap (λ (f : List ℕ). (from f).horizon) e ∙ two.horizons;
        events = sym one.events ∙ ap (λ (f : List ℕ). names_of f (from f)) e ∙ two.events;
        signals = sym one.signals ∙ ap (λ (f : List ℕ). signals_of f (from f)) e ∙ two.signals;
        remaining = sym one.remaining ∙ ap (λ (f : List ℕ). remaining_of (from f)) e ∙ two.remaining;
        reactions = λ p l.
            back.reactions p l ∙ ap (λ (f : List ℕ). reaction (from f) p) e
            ∙ two.reactions p (rw e at (inside p l));
        labels = λ u l.
            back.labels u ∙ ap (λ (f : List ℕ). event_label (from f) u) e ∙ two.labels u (rw e at (event u l));
      }

  pub equal_of_same : Same sheet Γ other Δ → house_text sheet Γ ≡ house_text other Δ
  equal_of_same s = text_same s (faithful sheet a)

  pub forms-equal : (house_text sheet Γ ≡ house_text other Δ) ↔ Same sheet Γ other Δ
  forms-equal = (same_of_equal, equal_of_same)
