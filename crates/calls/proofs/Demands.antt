-- The demands hold: each is cited from where it is proved. Assumes nothing.
use mathlib.Core.Path.{sym}
use Rattle.sheet.specs.Reading.{network_of}
use Rattle.sheet.proofs.Fault.{refused_iff, fault-lowest}
use Rattle.line.proofs.WholeFails.{start_fails, complete_fails}
use Rattle.layout.proofs.Accepted.{accepted_iff, network-contains}
use Rattle.checker.proofs.Judged.{judged}
use Rattle.checker.proofs.First.{breach_iff}
use Rattle.solver.specs.Solve.{found}
use Rattle.rounds.proofs.Hyperarcs.{hyperarcs_agree}
use Rattle.solver.proofs.Least.{solve-least, solve-none}
use Rattle.conversion.proofs.Retired.{retired_iff}
use Rattle.calls.specs.Demands.{Demands}
use Rattle.calls.specs.Lent.{as_minutes}
use Rattle.calls.specs.Numbers.{minutes}
use Rattle.calls.proofs.Call.{reads_well_formed}
use Rattle.calls.proofs.Handed.{minutes_rightly}
use Rattle.calls.proofs.Judging.{judge_passes, judge-breaches}
use Rattle.calls.proofs.Reader.{summary_ok, summary_err, summary_counts}
use Rattle.calls.proofs.Counting.{counts_rounds}
use Rattle.calls.proofs.StopsEarly.{stops_after, finishes_within, makes_no_round}
use Rattle.calls.proofs.Solving.{refuses_13, solves-least}
use Rattle.calls.proofs.Writing.{wrote_into, listing-wrote}
use Rattle.calls.proofs.Numbers.{numbers}
use Rattle.calls.proofs.Benched.{benched}
use Rattle.calls.proofs.Labels.{rule-holds, event_happens}
use Rattle.calls.proofs.Former.{plain-points, plain-contents, former_iff, former-first}

pub demands : Demands
demands = record {
  numbers = numbers;
  reads = summary_ok;
  faults = summary_err;
  counts = summary_counts;
  accepted = accepted_iff;
  contains = λ sheet Γ r l. rw (← r.network) (network-contains sheet l);
  rule_holds = λ sheet Γ r l s i. rule-holds (rw r.network at (network-contains sheet l)) l.keeps s i;
  event_happens = λ sheet Γ r l s u. event_happens (rw r.network at (network-contains sheet l)) l.keeps s u;
  at_fault = refused_iff;
  start_labelled = λ Γ _. start_fails Γ;
  incomplete = complete_fails;
  labelled = λ sheet Γ r. (reads_well_formed r).labels;
  retired = retired_iff;
  lowest = fault-lowest;
  judged = λ sheet σ Γ r l. judged Γ σ l;
  breach_first = λ sheet σ Γ b r. breach_iff Γ σ b;
  agree = λ sheet σ Γ r. hyperarcs_agree Γ σ (reads_well_formed r);
  plain_points = λ sheet σ Γ r p u. plain-points Γ σ p u;
  plain = λ sheet σ Γ r. former_iff Γ σ;
  plain_first = λ sheet σ Γ b r p u. former-first Γ σ p u b;
  plain_sheet = λ sheet Γ r l. plain-contents (rw r.network at (network-contains sheet l)) l.keeps;
  least = λ sheet Γ r e. solve-least Γ (reads_well_formed r) e;
  none = λ sheet Γ r. (
    λ n. solve-none Γ (reads_well_formed r) n,
    λ i e. i.none (found Γ) (solve-least Γ (reads_well_formed r) e).solves,
  );
  passes = λ sheet t Γ r. rw (← r.network)
      (judge_passes sheet (as_minutes t) (minutes t) r.accepted (minutes_rightly t (network_of sheet)));
  breaches = λ sheet t Γ b r. rw (← r.network)
      (λ e. judge-breaches sheet (as_minutes t) (minutes t) r.accepted (minutes_rightly t (network_of sheet)) e b);
  refused = λ sheet m Γ r. rw (← r.network) (refuses_13 sheet m r.accepted);
  solved = λ sheet m Γ r. rw (← r.network)
      (λ room n. let s = solves-least sheet m r.accepted room n in (s.0, s.1, wrote_into m s.0 (sym s.2)));
  rounds = counts_rounds;
  stops = stops_after;
  finishes = finishes_within;
  makes_no_round = makes_no_round;
  lists = λ sheet t m Γ r. rw (← r.network)
      (λ e. listing-wrote sheet (as_minutes t) (minutes t) m r.accepted (minutes_rightly t (network_of sheet)) e);
  bench = benched;
}
