-- What is printed for the trial sheets, and what is due in the first of them, is as it is written: by computation.
-- Assumes nothing.
use mathlib.Core.Path.{◌≡◌, refl}
use mathlib.Core.Bool.{true}
use mathlib.Core.List.{[], ◌∷◌}
use Rattle.prelude.specs.Bytes.{same}
use Rattle.text.specs.Number.{is_number, in_range}
use Rattle.network.specs.Scenario.{satisfies}
use Rattle.network.specs.Happens.{happens}
use Rattle.network.specs.Constraint.{covers}
use Rattle.network.specs.Strategy.{reaction_of_lem}
use Rattle.line.specs.Tests.{section_tests, event_tests, signal_tests, kind_tests, ends_tests, rule_tests}
use Rattle.sheet.specs.Reading.{progress}
use Rattle.checker.specs.Verdict.{verdict}
use Rattle.rounds.specs.Propagate.{propagate}
use Rattle.solver.specs.Masked.{masked}
use Rattle.solver.specs.Solve.{solve}
use Rattle.dispatch.specs.Due.{due}
use Rattle.listing.specs.Listing.{listing}
use Rattle.conversion.specs.Rows.{is_fix_lem}
use Rattle.conversion.specs.FormerRules.{read_as_max_lem}
use Rattle.conversion.specs.Converted.{converted}
use Rattle.calls.specs.Play.{events_due_lem}
use Rattle.calls.specs.Table.{table_text, converted_text}
use Rattle.calls.specs.Trials.{Trials, lines, fourth, converted_fourth, trials, all_agree, questions, all_answered}

trials-agree : all_agree trials ≡ true
unfolding is_number in_range satisfies happens covers reaction_of_lem section_tests event_tests signal_tests kind_tests
    ends_tests rule_tests progress propagate masked solve listing is_fix_lem read_as_max_lem converted
trials-agree = refl

fourth_converted : same (converted_text (lines fourth)) (lines converted_fourth) ≡ true
unfolding is_number in_range section_tests event_tests signal_tests kind_tests ends_tests rule_tests progress is_fix_lem
    read_as_max_lem converted
fourth_converted = refl

fourth_retired : same (table_text (lines fourth)) (lines ("refused 22 line 11" ∷ [])) ≡ true
unfolding is_number in_range section_tests event_tests signal_tests kind_tests ends_tests rule_tests progress
fourth_retired = refl

questions_answered : all_answered questions ≡ true
unfolding is_number in_range satisfies happens covers reaction_of_lem section_tests event_tests signal_tests kind_tests
    ends_tests rule_tests progress verdict due events_due_lem
questions_answered = refl

pub trials_hold : Trials
trials_hold = record {
  agree = trials-agree;
  converted = fourth_converted;
  retired = fourth_retired;
  played = questions_answered;
}
