-- An event's line that passes keeps the stage of the sheet. Assumes nothing.
use mathlib.Core.Path.{◌≡◌}
use mathlib.Core.Logic.{inl, inr}
use mathlib.Core.Bool.{true}
use mathlib.Core.List.{List}
use Prim.Native.Nat.{ℕ, suc, ◌+◌}
use native.Mathlib.Omega.{arith}
use lib.ListN.{length}
use lib.Seq.{get_or-set_same, get_or-set_other}
use Rattle.prelude.proofs.Tests.{eq_or_ne}
use Rattle.text.specs.Lines.{line_at, after_line, fields, field}
use Rattle.text.proofs.Lines.{line-inside}
use Rattle.text.proofs.Fields.{first_field}
use Rattle.network.specs.Limits as L
use Rattle.network.specs.Build.{with_event}
use Rattle.network.specs.declared.Network.{Network}
use Rattle.names.specs.Names.{is_name_lem}
use Rattle.line.specs.Tests.{event_tests}
use Rattle.line.specs.declared.Section.TheVariants.{Events}
use Rattle.line.proofs.Checks.{all_hold}
use Rattle.sheet.specs.Stage.{to_come, Stage}
use Rattle.sheet.proofs.ReadLine.{Passes}
use Rattle.sheet.proofs.Arrays.{arrays-event}
use Rattle.names.proofs.Tokens.{name-short}
use Rattle.sheet.proofs.Stages.{and_more-is, came_le, lettered_on, proper_on}

module _ (sheet : List ℕ) {Γ : Network} {at k : ℕ} where
  -- an event
  pub stage_event : {m : ℕ} → Stage sheet (to_come Events (suc m)) Γ at k → Passes sheet at k (event_tests sheet Γ)
      → Stage sheet (to_come Events m) (with_event Γ at (length (field 0 (fields (line_at sheet at)))))
      (after_line sheet at) (suc k)
  unfolding event_tests
  stage_event {m} g p =
      let f = field 0 (fields (line_at sheet at)) in
      let fits : is_name_lem f ≡ true = all_hold (event_tests sheet Γ (fields (line_at sheet at))) p.accepted 1 in
      let here = line-inside sheet at p.ends in
      let part = first_field (line_at sheet at) in
      let w = g.forming in
      let room = w.events in
      let begins = w.arrays.starts in
      let ends = w.arrays.lengths in
      record {
        forming = record {
          horizon = w.horizon;
          some_event = omega (arith, and_more-is (Γ.events + 1) m);
          events = came_le Γ.events m L.events w.events;
          signals = w.signals;
          rules = w.rules;
          arrays = arrays-event w.arrays at (length f);
          observed = λ q h. omega (arith, w.observed q h);
          one_signal = w.one_signal;
          proper = λ c h. proper_on (omega arith) (omega arith) (w.proper c h);
          in_range_lem = w.in_range_lem;
          lettered = λ u. lettered_on (omega arith) (w.lettered u);
          labels = w.labels;
        };
        named = record {
          inside = λ u h.
              elim (eq_or_ne u Γ.events) [
                | inl q ↦
                    rw (
                      q,
                      get_or-set_same Γ.starts Γ.events at 0 (omega arith),
                      get_or-set_same Γ.lengths Γ.events
                          (length f) 0 (omega arith),
                    )
                    (omega arith)
                | inr q ↦
                    rw (
                      get_or-set_other Γ.starts Γ.events u at 0 q,
                      get_or-set_other Γ.lengths Γ.events u
                          (length f) 0 q,
                    )
                    (g.named.inside u (omega arith))
              ];
          short = λ u h.
              elim (eq_or_ne u Γ.events) [
                | inl q ↦ rw (q, get_or-set_same Γ.lengths Γ.events (length f) 0 (omega arith)) (name-short f fits)
                | inr q ↦ rw (get_or-set_other Γ.lengths Γ.events u (length f) 0 q)
                    (g.named.short u (omega arith))
              ];
        };
        inside = here;
        line = omega (arith, g.line);
      }
