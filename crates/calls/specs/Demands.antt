-- The three demands, as statements about every sheet, table and lent buffer. They speak of the definitions that the
-- calls' contracts are equations with: `summary`, `judgement`, `solving_into` and `listed` (Calls), `within_into`
-- (Within), in `Numbers` and `Benched` those of all calls that read a sheet. What is said here of a call's definition
-- each call's contract says of its answer.
use Rattle.std.specs.Prelude.{◌≡◌, ◌↔◌, true, List, [], ℕ, ◌≤◌, ◌<◌, length, get_or, Err}
use Rattle.std.proofs.Math.Option.{none}
use Rattle.refusal.specs.Refusal.{turn_of}
use Rattle.prelude.specs.Checks.{FirstFails}
use Rattle.prelude.specs.Lists.{Each}
use Rattle.refusal.specs.declared.Cause.{Cause}
use Rattle.refusal.specs.declared.Cause.TheVariants.{StartLabelled, IncompleteLabel, RetiredKind}
use Rattle.refusal.specs.declared.Refusal.{Refusal}
use Rattle.fixpoint.specs.Run.{Rests}
use Rattle.network.specs.Build.{no_label, event_label, constraint, cells}
use Rattle.network.specs.Scenario.{satisfies}
use Rattle.network.specs.Happens.{happens}
use Rattle.network.specs.Complete.{AllComplete, WellLabelled}
use Rattle.network.specs.Solution.{Solution}
use Rattle.network.specs.Least.{Least}
use Rattle.network.specs.Least as L
use Rattle.network.specs.declared.Network.{Network}
use Rattle.line.specs.Tests.{rule_tests}
use Rattle.line.specs.Labelling.{Read, whole_tests}
use Rattle.sheet.specs.Reading.{read, Accepts}
use Rattle.sheet.specs.Place.{tests}
use Rattle.sheet.specs.Fault.{FirstFault, Fails, Fault}
use Rattle.layout.specs.Contents.{no_rule, no_case, listed_cases}
use Rattle.layout.specs.Layout.{Layout}
use Rattle.layout.specs.Contains.{Contains}
use Rattle.checker.specs.Verdict.{verdict}
use Rattle.checker.specs.First.{First}
use Rattle.checker.specs.declared.Breach.{Breach}
use Rattle.checker.specs.declared.Verdict.TheVariants.{Pass, Breach as Breached}
use Rattle.rounds.specs.Hyperarcs.{Dynamic, Waiting, Hyperarcs}
use Rattle.solver.specs.Solve.{solve, found}
use Rattle.conversion.specs.Rows.{are_fix}
use Rattle.calls.specs.Values.{number_values}
use Rattle.calls.specs.Lent.{Lent, in_place_lem}
use Rattle.calls.specs.Calls.{summary, judgement, solving_into, listed}
use Rattle.calls.specs.Counting.{rounds_taken}
use Rattle.calls.specs.Within.{reach_of, progress_values, within_into}
use Rattle.calls.specs.Bench.{judgement_values}
use Rattle.calls.specs.Answers.{Reads}
use Rattle.calls.specs.Reader.{AcceptsLayout, RefusesFault, CountsContents}
use Rattle.calls.specs.Judges.{Passes, Breaches}
use Rattle.calls.specs.Solves.{RefusesNone, WritesLeast, CountsRounds}
use Rattle.calls.specs.StopsEarly.{StopsAfter, FinishesWithin, MakesNoRound}
use Rattle.calls.specs.Lists.{WritesListing}
use Rattle.calls.specs.Labels.{LabelHolds}
use Rattle.calls.specs.Former.{Prompt, Unlabelled, PlainPoints, Former, FormerFirst}
use Rattle.calls.specs.Numbers.{minutes, Numbers}
use Rattle.calls.specs.Benched.{Benched}

pub record Demands : Type 0 where
  -- demand 1: every call has one of its defined answers, by its contract; which numbers and lines these are of a sheet,
  -- and where each comes; "a refusal leaves each lent buffer unaltered"
  pub numbers : Numbers
  -- of the reader's call
  pub reads : (sheet : List ℕ) → AcceptsLayout sheet (summary sheet)
  pub faults : (sheet : List ℕ) → RefusesFault sheet (summary sheet)
  pub counts : (sheet : List ℕ) → CountsContents sheet (summary sheet)
  -- demand 2: "A sheet is accepted when it keeps every rule of its layout, otherwise refused"
  pub accepted : (sheet : List ℕ) → Accepts sheet ↔ Layout sheet
  -- its network holds what it contains: ends, limits and labels of the rules as they are written, the reactions and the
  -- labels of events
  pub contains : (sheet : List ℕ) (Γ : Network) → Reads sheet Γ → (l : Layout sheet) → Contains sheet Γ l.contents
  -- what a label means: a rule's holds in a case exactly if each of its letters has there the truth that its sign asks,
  -- and an event happens exactly where that of its line among the cases holds, if it has a line
  pub rule_holds : (sheet : List ℕ) (Γ : Network) → Reads sheet Γ → (l : Layout sheet) (s i : ℕ) → i < Γ.rules
      → (satisfies s (constraint Γ i).label ≡ true)
      ↔ LabelHolds l.contents.signals s (get_or l.contents.rules i no_rule).label
  pub event_happens : (sheet : List ℕ) (Γ : Network) → Reads sheet Γ → (l : Layout sheet) (s u : ℕ)
      → (happens Γ s u ≡ true)
      ↔ Each (λ k. k.event ≡ get_or l.contents.names u [] → LabelHolds l.contents.signals s k.label)
      (listed_cases l.contents) no_case
  -- and it is refused with its first line at fault, on which the first test that fails decides
  pub at_fault : (sheet : List ℕ) (r : Refusal) → (read sheet ≡ Err r) ↔ Fault sheet r
  -- of the last line of the section `cases`, behind its own tests: "20, the start is given a label other than `-`;
  -- 21, an event's or rule's label lacks part of the label of an event whose signal it uses", "20 first" (02, point
  -- 6). `Γ` has what all lines define
  pub start_labelled : (Γ : Network) → Read Γ
      → FirstFails (whole_tests Γ) StartLabelled ↔ (event_label Γ 0 ≡ no_label → ⊥)
  pub incomplete : (Γ : Network) → Read Γ
      → FirstFails (whole_tests Γ) IncompleteLabel ↔ ((event_label Γ 0 ≡ no_label) × (AllComplete Γ → ⊥))
  -- so no sheet that is accepted has such a label
  pub labelled : (sheet : List ℕ) (Γ : Network) → Reads sheet Γ → WellLabelled Γ
  -- of a rule's line: "22, the row is a `fix`", which has a rule's fields and says so (02, point 7)
  pub retired : (sheet : List ℕ) (Γ : Network) (fs : List (List ℕ))
      → FirstFails (rule_tests sheet Γ fs) RetiredKind ↔ (are_fix fs ≡ true)
  -- "on one line the lowest number does", and 22 is "tried directly after 3" (02, point 7): before 4
  pub lowest : (sheet : List ℕ) (r : Refusal) (f : FirstFault sheet r) (c : Cause) → Fails (tests sheet f.above) c
      → turn_of r.cause ≤ turn_of c
  -- "The judge passes a table for an accepted sheet exactly when the three points of a good table hold"
  pub judged : (sheet σ : List ℕ) (Γ : Network) → Reads sheet Γ → length σ ≡ cells Γ
      → (verdict Γ σ ≡ Pass) ↔ Solution Γ σ
  -- and it names a breach exactly where that is the first in document 01's order
  pub breach_first : (sheet σ : List ℕ) (Γ : Network) (b : Breach) → Reads sheet Γ
      → (verdict Γ σ ≡ Breached b) ↔ First Γ σ b
  -- point 3 and the hyperarcs agree, where events wait for the signals of their labels
  pub agree : (sheet σ : List ℕ) (Γ : Network) → Reads sheet Γ → Waiting Γ σ → Dynamic Γ σ ↔ Hyperarcs Γ σ
  -- without labels of events and with reactions of 1 the three points are document 01's, cell by cell, rule by rule and
  -- pair by pair, where every event happens
  pub plain_points : (sheet σ : List ℕ) (Γ : Network) → Reads sheet Γ → Prompt Γ → Unlabelled Γ → PlainPoints Γ σ
  -- so the good tables are document 01's: a sheet without the last two sections has the good tables that it had before
  pub plain : (sheet σ : List ℕ) (Γ : Network) → Reads sheet Γ → Prompt Γ → Unlabelled Γ → Solution Γ σ ↔ Former Γ σ
  -- and of a bad table the first breach is the one of document 01's points
  pub plain_first : (sheet σ : List ℕ) (Γ : Network) (b : Breach) → Reads sheet Γ → Prompt Γ → Unlabelled Γ
      → First Γ σ b ↔ FormerFirst Γ σ b
  pub plain_sheet : (sheet : List ℕ) (Γ : Network) → Reads sheet Γ → (l : Layout sheet)
      → l.contents.reactions ≡ none → Prompt Γ × Unlabelled Γ
  -- demand 3: the run ends in "a good table in which each event, in each case, is no later than in any other good
  -- table"
  pub least : (sheet : List ℕ) (Γ : Network) → Reads sheet Γ → (solve Γ).end ≡ Rests → Least Γ (found Γ)
  -- or at none, "exactly when the sheet has no good table"
  pub none : (sheet : List ℕ) (Γ : Network) → Reads sheet Γ → ((solve Γ).end ≡ Rests → ⊥) ↔ L.Inconsistent Γ
  -- of the judge's call: it passes a table for an accepted sheet exactly when it is a good table, and of a table of the
  -- right length it tells the first breach
  pub passes : (sheet t : List ℕ) → Passes sheet (minutes t) t (judgement_values (judgement sheet t))
  pub breaches : (sheet t : List ℕ) → Breaches sheet (minutes t) t (judgement_values (judgement sheet t))
  -- demand 3, of the solver's call, with memory that is lent as minutes or as pairs of bytes
  pub refused : (sheet : List ℕ) (m : Lent) → RefusesNone sheet m (number_values (solving_into sheet m).answer)
  pub solved : (sheet : List ℕ) (m : Lent)
      → let l = solving_into sheet m in WritesLeast sheet m (number_values l.answer) l.memory
  -- and how long a sheet keeps it
  pub rounds : (sheet : List ℕ) (m : Lent)
      → CountsRounds sheet m (number_values (solving_into sheet m).answer) (rounds_taken sheet m)
  -- and what it answers within n rounds
  pub stops : (sheet : List ℕ) (n : ℕ) (m : Lent)
      → let l = within_into sheet n m in StopsAfter sheet n m (progress_values l.answer) (reach_of l.answer) l.memory
  pub finishes : (sheet : List ℕ) (n : ℕ) (m : Lent)
      → let l = within_into sheet n m in
      FinishesWithin sheet n m (progress_values l.answer) (reach_of l.answer) l.memory
  pub makes_no_round : (sheet : List ℕ) (n : ℕ) (m : Lent)
      → let l = within_into sheet n m in MakesNoRound (progress_values l.answer) (reach_of l.answer)
  -- of the listing's call
  pub lists : (sheet t m : List ℕ)
      → let l = listed sheet t m in
      WritesListing sheet (minutes t) t (in_place_lem m) (number_values l.answer) l.memory
  -- and of the bench's calls
  pub bench : Benched
