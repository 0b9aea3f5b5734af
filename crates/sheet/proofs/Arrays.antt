-- The arrays of a network are as long as the limits say at first, and stay so with one event, signal, rule, reaction
-- or label more. Assumes nothing.
use mathlib.Core.Path.{◌∙◌}
use mathlib.Core.Bool.{true, false}
use Prim.Native.Nat.{ℕ}
use lib.ListN.{length-set, length-replicate}
use Rattle.network.specs.Limits as L
use Rattle.network.specs.Build.{no_label, no_constraint, empty, with_event, with_signal, with_rule, with_reaction}
use Rattle.network.specs.Build.{with_label}
use Rattle.network.specs.WellFormed.{Arrays}
use Rattle.network.specs.declared.Label.{Label}
use Rattle.network.specs.declared.Constraint.{Constraint}
use Rattle.network.specs.declared.Network.{Network}

pub arrays-empty : (h : ℕ) → Arrays (empty h)
arrays-empty h = record {
  starts = length-replicate {A = ℕ} L.events 0;
  lengths = length-replicate {A = ℕ} L.events 0;
  letters = length-replicate {A = ℕ} L.signals 0;
  observations = length-replicate {A = ℕ} L.signals 0;
  reactions = length-replicate {A = ℕ} L.signals 0;
  constraints = length-replicate L.rules no_constraint;
  labels = length-replicate L.events no_label;
  labelled = length-replicate L.events false;
}

module _ {Γ : Network} (a : Arrays Γ) where
  pub arrays-event : (start length : ℕ) → Arrays (with_event Γ start length)
  arrays-event start length = record {
    starts = length-set Γ.starts Γ.events start ∙ a.starts;
    lengths = length-set Γ.lengths Γ.events length ∙ a.lengths;
    letters = a.letters;
    observations = a.observations;
    reactions = a.reactions;
    constraints = a.constraints;
    labels = a.labels;
    labelled = a.labelled;
  }

  pub arrays-signal : (letter u : ℕ) → Arrays (with_signal Γ letter u)
  arrays-signal letter u = record {
    starts = a.starts;
    lengths = a.lengths;
    letters = length-set Γ.letters Γ.signals letter ∙ a.letters;
    observations = length-set Γ.observations Γ.signals u ∙ a.observations;
    reactions = a.reactions;
    constraints = a.constraints;
    labels = a.labels;
    labelled = a.labelled;
  }

  pub arrays-rule : (c : Constraint) → Arrays (with_rule Γ c)
  arrays-rule c = record {
    starts = a.starts;
    lengths = a.lengths;
    letters = a.letters;
    observations = a.observations;
    reactions = a.reactions;
    constraints = length-set Γ.constraints Γ.rules c ∙ a.constraints;
    labels = a.labels;
    labelled = a.labelled;
  }

  pub arrays-reaction : (p minutes : ℕ) → Arrays (with_reaction Γ p minutes)
  arrays-reaction p minutes = record {
    starts = a.starts;
    lengths = a.lengths;
    letters = a.letters;
    observations = a.observations;
    reactions = length-set Γ.reactions p minutes ∙ a.reactions;
    constraints = a.constraints;
    labels = a.labels;
    labelled = a.labelled;
  }

  pub arrays-label : (u : ℕ) (ℓ : Label) → Arrays (with_label Γ u ℓ)
  arrays-label u ℓ = record {
    starts = a.starts;
    lengths = a.lengths;
    letters = a.letters;
    observations = a.observations;
    reactions = a.reactions;
    constraints = a.constraints;
    labels = length-set Γ.labels u ℓ ∙ a.labels;
    labelled = length-set Γ.labelled u true ∙ a.labelled;
  }
