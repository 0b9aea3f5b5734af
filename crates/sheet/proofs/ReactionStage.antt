-- A reaction's line that passes keeps the stage of the sheet: it is said of a signal, and within its limit. Assumes
-- nothing.
use mathlib.Core.Logic.{inl, inr}
use mathlib.Core.Option
use mathlib.Core.List.{List}
use Prim.Native.Nat.{ℕ, suc, ◌<◌}
use native.Mathlib.Omega.{arith}
use lib.Dec.{eqb}
use lib.ListN.{get_or, set}
use Rattle.prelude.proofs.Tests.{eq_or_ne}
use Rattle.text.specs.Lines.{line_at, after_line, fields, field}
use Rattle.text.proofs.Lines.{line-inside}
use Rattle.network.specs.Limits as L
use Rattle.network.specs.declared.Network.{Network}
use Rattle.network.proofs.Strategy.{reaction_of-most, reaction-with, reaction-other}
use Rattle.names.proofs.Finds.{finds_answer}
use Rattle.line.specs.Tests.{signal_of, second_number, letter_tests, reaction_tests}
use Rattle.line.specs.Sections.{with_line}
use Rattle.line.specs.declared.Section.TheVariants.{Reactions}
use Rattle.line.proofs.Checks.{all_hold}
use Rattle.line.proofs.ReactionRefusals.{within}
use Rattle.sheet.specs.Stage.{to_come, Stage}
use Rattle.sheet.proofs.ReadLine.{Passes}
use Rattle.sheet.proofs.Stages.{forming_instead}
use Rattle.sheet.proofs.Arrays.{arrays-reaction}

-- the fields of the line at a place
abbrev cells : List ℕ → ℕ → List (List ℕ)
cells sheet at = fields (line_at sheet at)

module _ (sheet : List ℕ) (Γ : Network) (at k : ℕ) where
  -- the signal that a line names which passes
  pub reacting_signal : Passes sheet at k (reaction_tests Γ)
      → Option.get_or (signal_of Γ (field 0 (cells sheet at))) 0 < Γ.signals
  unfolding letter_tests reaction_tests
  reacting_signal p =
      let fs = cells sheet at in
      (finds_answer (λ q. eqb (get_or Γ.letters q 0) (get_or (field 0 fs) 0 0)) Γ.signals 0
      (all_hold (reaction_tests Γ fs) p.accepted 5)).index_lt

  pub stage_reaction : (m : ℕ) → Stage sheet (to_come Reactions (suc m)) Γ at k → Passes sheet at k (reaction_tests Γ)
      → Stage sheet (to_come Reactions m) (with_line sheet Reactions Γ at (cells sheet at)) (after_line sheet at)
      (suc k)
  unfolding letter_tests reaction_tests
  stage_reaction m g p =
      let w = g.forming in
      let fs = cells sheet at in
      let q = Option.get_or (signal_of Γ (field 0 fs)) 0 in
      let minutes = second_number fs in
      let most = (within L.fastest L.slowest (field 1 fs) (all_hold (reaction_tests Γ fs) p.accepted 2)).most in
      let signal = reacting_signal p in
      record {
        forming = forming_instead Γ (set Γ.reactions q minutes) Γ.labels Γ.labelled w
            (arrays-reaction w.arrays q minutes)
            (λ r.
            elim (eq_or_ne r q) [
              | inl e ↦
                  rw (e, reaction-with Γ q minutes (omega (arith, signal, w.signals, w.arrays.reactions)))
                  (reaction_of-most minutes most)
              | inr n ↦ rw (reaction-other Γ q minutes r n) (w.in_range_lem r)
            ])
            w.lettered w.labels;
        named = record { inside = g.named.inside; short = g.named.short };
        inside = line-inside sheet at p.ends;
        line = omega (arith, g.line);
      }
