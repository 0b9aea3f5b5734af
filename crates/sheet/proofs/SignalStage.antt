-- A signal's line that passes keeps the stage of the sheet. Assumes nothing.
use mathlib.Core.Path.{◌≡◌, sym, ◌∙◌}
use mathlib.Core.Logic.{inl, inr}
use mathlib.Core.Option
use mathlib.Core.List.{List}
use Prim.Native.Nat.{ℕ, suc, ◌+◌, ◌^◌, ◌<◌}
use native.Mathlib.Nat.{two-pow-succ}
use native.Mathlib.Numerals.{add-one}
use native.Mathlib.Omega.{arith}
use borrow.Author.Tests.{eqb-false}
use lib.ListN.{get_or}
use lib.Seq.{get_or-set_same, get_or-set_other}
use Rattle.prelude.proofs.Tests.{eq_or_ne}
use Rattle.prelude.proofs.Search.{answered}
use Rattle.text.specs.Lines.{line_at, after_line, fields, field}
use Rattle.text.proofs.Lines.{line-inside}
use Rattle.network.specs.Limits as L
use Rattle.network.specs.Build.{observation}
use Rattle.network.specs.declared.Network.{Network}
use Rattle.names.proofs.Finds.{finds_answer}
use Rattle.line.specs.Tests.{event_of, signal_tests}
use Rattle.line.specs.Sections.{with_line}
use Rattle.line.specs.declared.Section.TheVariants.{Signals}
use Rattle.line.proofs.Checks.{all_hold}
use Rattle.sheet.proofs.Passing.{is_named, new_signal}
use Rattle.sheet.specs.Stage.{to_come, Stage}
use Rattle.sheet.proofs.ReadLine.{Passes}
use Rattle.sheet.proofs.Arrays.{arrays-signal}
use Rattle.sheet.proofs.Stages.{came_le, lettered_on, proper_on}

module _ (sheet : List ℕ) {m : ℕ} {Γ : Network} {at k : ℕ} where
  -- a signal
  pub stage_signal : Stage sheet (to_come Signals (suc m)) Γ at k → Passes sheet at k (signal_tests sheet Γ)
      → Stage sheet (to_come Signals m) (with_line sheet Signals Γ at (fields (line_at sheet at)))
      (after_line sheet at) (suc k)
  unfolding signal_tests
  stage_signal g p =
      let w = g.forming in
      let fs = fields (line_at sheet at) in
      let holds = all_hold (signal_tests sheet Γ fs) p.accepted in
      let u = Option.get_or (event_of sheet Γ (field 1 fs)) 0 in
      let found = answered (event_of sheet Γ (field 1 fs)) (holds 3) in
      let event : u < Γ.events = (finds_answer (is_named sheet Γ (field 1 fs)) Γ.events 0 (holds 3)).index_lt in
      let fresh : (q : ℕ) → q < Γ.signals → observation Γ q ≡ u → ⊥ =
      λ q h x. eqb-false (observation Γ q) u (new_signal sheet Γ fs u (rw found.1) (holds 2) q h) x in
      let room = w.signals in
      let seen = w.arrays.observations in
      let more : 2 ^ (Γ.signals + 1) ≡ 2 ^ Γ.signals + 2 ^ Γ.signals = rw add-one (two-pow-succ Γ.signals) in
      record {
        forming = record {
          horizon = w.horizon;
          some_event = w.some_event;
          events = w.events;
          signals = came_le Γ.signals m L.signals w.signals;
          rules = w.rules;
          arrays = arrays-signal w.arrays (get_or (field 0 fs) 0 0) u;
          observed = λ q h.
              elim (eq_or_ne q Γ.signals) [
                | inl x ↦ rw (x, get_or-set_same Γ.observations Γ.signals u 0 (omega arith)) event
                | inr x ↦ rw (get_or-set_other Γ.observations Γ.signals q u 0 x) (w.observed q (omega arith))
              ];
          one_signal = λ a b ha hb x.
              elim (eq_or_ne a Γ.signals) [
                | inl y ↦ elim (eq_or_ne b Γ.signals) [
                  | inl z ↦ y ∙ sym z
                  | inr z ↦ absurd (fresh b (omega arith)
                      (sym (get_or-set_other Γ.observations Γ.signals b u 0 z) ∙ sym x
                      ∙ rw (y, get_or-set_same Γ.observations Γ.signals u 0 (omega arith))))
                ]
                | inr y ↦ elim (eq_or_ne b Γ.signals) [
                  | inl z ↦ absurd (fresh a (omega arith)
                      (sym (get_or-set_other Γ.observations Γ.signals a u 0 y) ∙ x
                      ∙ rw (z, get_or-set_same Γ.observations Γ.signals u 0 (omega arith))))
                  | inr z ↦ w.one_signal a b (omega arith) (omega arith)
                      (sym (get_or-set_other Γ.observations Γ.signals a u 0 y) ∙ x
                      ∙ get_or-set_other Γ.observations Γ.signals b u 0 z)
                ]
              ];
          proper = λ c h. proper_on (omega arith) (omega arith) (w.proper c h);
          in_range_lem = w.in_range_lem;
          lettered = λ v. lettered_on (omega arith) (w.lettered v);
          labels = w.labels;
        };
        named = record { inside = g.named.inside; short = g.named.short };
        inside = line-inside sheet at p.ends;
        line = omega (arith, g.line);
      }
