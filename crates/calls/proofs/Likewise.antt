-- Networks that say the same: they may differ in where their names stand, and in whether a reaction of 1 has a line.
-- Two sheets with the same contents besides reactions, and with the same reactions, have such networks. Assumes
-- nothing.
use mathlib.Core.Path.{◌≡◌, sym, ◌∙◌, ap}
use mathlib.Core.List.{List, []}
use Prim.Native.Nat.{ℕ, ◌<◌}
use native.Mathlib.Omega.{arith}
use lib.ListN.{length}
use Rattle.prelude.specs.Lists.{Distinct}
use Rattle.network.specs.Build.{letter, constraint}
use Rattle.network.specs.Strategy.{reaction}
use Rattle.network.specs.declared.Network.{Network}
use Rattle.layout.specs.Contents.{Contents}
use Rattle.layout.specs.Contains.{Contains}
use Rattle.layout.proofs.Framed.{means_one, Framed, letters-same, observed-same, labels-same}
use Rattle.tighten.specs.Tightest.{remaining, remaining_of}
use Rattle.tighten.proofs.Rules.{uppers_of-same}
use Rattle.tighten.proofs.Agree.{Agree}
use Rattle.canonical.specs.Same.{Same}
use Rattle.canonical.proofs.Faithful.{names-held, signals-held}
use Rattle.calls.specs.Reacting.{Besides}

pub record Likewise (Γ Δ : Network) : Type 0 where
  pub agrees : Agree Γ Δ
  pub letters : (p : ℕ) → p < Γ.signals → letter Γ p ≡ letter Δ p
  pub rules : Γ.rules ≡ Δ.rules
  pub constraints : (c : ℕ) → c < Γ.rules → constraint Γ c ≡ constraint Δ c

module _ {sheet other : List ℕ} {Γ Δ : Network} {c d : Contents} (h : Contains sheet Γ c) (g : Contains other Δ d)
    (b : Besides c d) (once : Distinct c.names [])
    (reacts : (p : ℕ) → p < Γ.signals → reaction Γ p ≡ reaction Δ p) where
  framed : Framed c d
  framed = record { names = b.names; signals = b.signals; cases = b.cases }

  constraint-same : (i : ℕ) → i < Γ.rules → constraint Γ i ≡ constraint Δ i
  constraint-same i l =
      let theirs = g.means i (omega (arith, h.rules, ap length b.rules)) in
      means_one once (h.means i (omega (arith, h.rules))) (rw (b.names, b.signals, b.rules) theirs)

  pub likewise : Likewise Γ Δ
  likewise = record {
    agrees = record {
      horizon = h.horizon ∙ b.horizon ∙ sym g.horizon;
      events = h.events ∙ ap length b.names ∙ sym g.events;
      signals = h.signals ∙ ap length b.signals ∙ sym g.signals;
      observations = observed-same h g framed once;
      reactions = reacts;
      labels = labels-same h g framed;
    };
    letters = letters-same h g framed;
    rules = h.rules ∙ ap length b.rules ∙ sym g.rules;
    constraints = constraint-same;
  }

  pub remaining-same : remaining_of Γ ≡ remaining_of Δ
  remaining-same =
      let count = likewise.rules in
      ap remaining (uppers_of-same Γ Δ count (λ i l. constraint-same i (omega arith)))

  pub same : Same sheet Γ other Δ
  same = record {
    horizons = likewise.agrees.horizon;
    events = names-held h ∙ b.names ∙ sym (names-held g);
    signals = signals-held h ∙ b.signals ∙ sym (signals-held g);
    remaining = remaining-same;
    reactions = reacts;
    labels = λ u _. labels-same h g framed u;
  }
