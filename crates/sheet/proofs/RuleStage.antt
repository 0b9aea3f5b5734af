-- A rule's line that passes keeps the stage of the sheet. Assumes nothing.
use mathlib.Core.Logic.{inl, inr}
use mathlib.Core.Bool.{true, false, ◌&&◌}
use mathlib.Core.List.{List}
use Prim.Native.Nat.{ℕ, zero, suc, ◌≤◌}
use native.Mathlib.Omega.{arith}
use borrow.Author.Tests.{leb-true}
use lib.IntN.{pos, neg_ℤ}
use lib.Seq.{get_or-set_same, get_or-set_other}
use Rattle.prelude.specs.Search.{answers}
use Rattle.prelude.proofs.Tests.{eq_or_ne, and-true, by_cond}
use Rattle.text.specs.Lines.{line_at, after_line, fields, field}
use Rattle.text.specs.Number.{magnitude, is_negative, value_of}
use Rattle.text.proofs.Lines.{line-inside}
use Rattle.network.specs.Limits as L
use Rattle.network.specs.Build.{no_constraint}
use Rattle.network.specs.WellFormed.{InLimits}
use Rattle.network.specs.declared.Network.{Network}
use Rattle.names.specs.Names.{label_of, letters_of}
use Rattle.names.specs.Defined.{all_defined_lem}
use Rattle.names.proofs.Finds.{finds_answer}
use Rattle.names.proofs.Labels.{sum_is}
use Rattle.line.specs.Tests.{event_of, kind_tests, ends_tests, rule_tests}
use Rattle.line.specs.Sections.{rule_of, with_line}
use Rattle.line.specs.declared.Section.TheVariants.{Rules}
use Rattle.line.proofs.Checks.{all_hold}
use Rattle.sheet.proofs.Passing.{is_named}
use Rattle.sheet.specs.Stage.{to_come, Stage}
use Rattle.sheet.proofs.ReadLine.{Passes}
use Rattle.sheet.proofs.Arrays.{arrays-rule}
use Rattle.sheet.proofs.Stages.{came_le, lettered_on, proper_on}

-- a limit by its size
neg_limits : (m : ℕ) → m ≤ L.horizon → InLimits (neg_ℤ (pos m))
neg_limits zero h = h
neg_limits (suc m) h = h

limits_of : (f : List ℕ) → magnitude f ≤ L.horizon → InLimits (value_of f)
limits_of f h =
    by_cond InLimits (is_negative f) (neg_ℤ (pos (magnitude f))) (pos (magnitude f))
    (λ e. neg_limits (magnitude f) h) (λ e. h)

module _ (sheet : List ℕ) {m : ℕ} {Γ : Network} {at k : ℕ} where
  -- a rule
  pub stage_rule : Stage sheet (to_come Rules (suc m)) Γ at k → Passes sheet at k (rule_tests sheet Γ)
      → Stage sheet (to_come Rules m) (with_line sheet Rules Γ at (fields (line_at sheet at))) (after_line sheet at)
      (suc k)
  unfolding kind_tests ends_tests rule_tests
  stage_rule g p =
      let w = g.forming in
      let fs = fields (line_at sheet at) in
      let holds = all_hold (rule_tests sheet Γ fs) p.accepted in
      let ls = label_of (field 4 fs) in
      let c = rule_of sheet Γ fs in
      let ends = and-true (answers (event_of sheet Γ (field 1 fs)))
      (answers (event_of sheet Γ (field 2 fs)) && all_defined_lem Γ.signals Γ.letters (letters_of ls)) (holds 6) in
      let rest = and-true (answers (event_of sheet Γ (field 2 fs)))
      (all_defined_lem Γ.signals Γ.letters (letters_of ls)) ends.1 in
      let few = w.signals in
      let room = w.rules in
      let kept = w.arrays.constraints in
      record {
        forming = record {
          horizon = w.horizon;
          some_event = w.some_event;
          events = w.events;
          signals = w.signals;
          rules = came_le Γ.rules m L.rules w.rules;
          arrays = arrays-rule w.arrays c;
          observed = w.observed;
          one_signal = w.one_signal;
          proper = λ d h.
              elim (eq_or_ne d Γ.rules) [
                | inl x ↦
                    rw (x, get_or-set_same Γ.constraints Γ.rules c no_constraint (omega arith))
                    (record {
                      from = (finds_answer (is_named sheet Γ (field 1 fs)) Γ.events 0 ends.0).index_lt;
                      to = (finds_answer (is_named sheet Γ (field 2 fs)) Γ.events 0 rest.0).index_lt;
                      bound = limits_of (field 3 fs) (leb-true (magnitude (field 3 fs)) L.horizon (holds 4));
                      label = record {
                        positive = (sum_is Γ.signals Γ.letters true ls few rest.1 (holds 7)).below;
                        negative = (sum_is Γ.signals Γ.letters false ls few rest.1 (holds 7)).below;
                      };
                    })
                | inr x ↦
                    rw (get_or-set_other Γ.constraints Γ.rules d c no_constraint x)
                    (proper_on (omega arith) (omega arith) (w.proper d (omega arith)))
              ];
          in_range_lem = w.in_range_lem;
          lettered = λ u. lettered_on (omega arith) (w.lettered u);
          labels = w.labels;
        };
        named = record { inside = g.named.inside; short = g.named.short };
        inside = line-inside sheet at p.ends;
        line = omega (arith, g.line);
      }
