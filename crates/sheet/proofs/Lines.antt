-- The lines of a section, one turn at a time: a refusal ends them, and a line that passes leaves one line less.
-- Assumes nothing.
use mathlib.Core.Path.{◌≡◌, sym, ◌∙◌, ap}
use mathlib.Core.Option.{Option, none, some}
use mathlib.Core.List.{List}
use Prim.Native.Nat.{ℕ, ◌+◌, ◌-◌, ◌≤◌, ◌<◌}
use native.Mathlib.Omega.{arith}
use lib.ListN.{length, drop}
use lib.Dec.{eqb}
use Rattle.std.specs.Prelude.{Ok, Err}
use Rattle.prelude.specs.Checks.{first_failing_lem}
use Rattle.text.specs.Lines.{fields, line_at}
use Rattle.text.proofs.Lines.{line-inside}
use Rattle.refusal.specs.Refusal.{refusal}
use Rattle.refusal.specs.declared.Cause.{Cause}
use Rattle.network.specs.WellFormed.{ToCome}
use Rattle.network.specs.declared.Network.{Network}
use Rattle.names.specs.Found.{NamesIn}
use Rattle.line.specs.Answers.{entry_at}
use Rattle.line.specs.Sections.{own_tests, added, with_line}
use Rattle.line.specs.declared.Section.{Section}
use Rattle.line.specs.declared.entry.Entry.{Entry}
use Rattle.line.specs.declared.entry.Line.{Line}
use Rattle.line.proofs.LabelRefusals.{later_tests, line_fails, line-holds}
use Rattle.line.proofs.Refusals.{answer-err, answer-ok}
use Rattle.line.proofs.Answered.{held_at, entry_at_lem}
use Rattle.sheet.specs.Reading.{Progress, Stop}
use Rattle.sheet.specs.Stage.{Stage}
use Rattle.sheet.proofs.ReadLine.{refusal_at, passes}
use Rattle.sheet.proofs.Stages.{and_more-is}
use Rattle.sheet.specs.Turn.{Room, Testable, tests_behind}
use Rattle.sheet.proofs.Held.{testable_same, room_of, testable_of, later-is, adds}
use Rattle.sheet.proofs.EntriesLeft.{EntriesLeft, reads-stop, reads_on}

-- the events of the network are named by parts of the sheet
pub names_in : {sheet : List ℕ} {t : ToCome} {Γ : Network} {at k : ℕ} → Stage sheet t Γ at k
    → NamesIn sheet Γ
names_in {t = t} {Γ} g = record {
  few_events = omega (arith, g.forming.events, and_more-is Γ.events t.events);
  few_signals = omega (arith, g.forming.signals, and_more-is Γ.signals t.signals);
  inside = g.named.inside;
}

module _ {sheet : List ℕ} {s : Section} {p : Progress} {left : ℕ} {Γ : Network} {at k : ℕ}
    (here : EntriesLeft sheet s p left Γ at k) (more : 0 < left) where
  abbrev own : Option Cause
  own = refusal_at sheet at k (own_tests sheet s Γ)

  pub record EntryTurn (x : Entry) (n : ℕ) : Type 0 where
    pub room : Room x Γ
    pub testable : Testable x (added x Γ at n)
    pub inside : at + (n + 1) ≤ length sheet
    pub stop : (c : Cause) → first_failing_lem (tests_behind x (eqb left 1) (added x Γ at n)) ≡ some c
        → Stop (refusal c k) ≡ p
    pub next : first_failing_lem (tests_behind x (eqb left 1) (added x Γ at n)) ≡ none
        → EntriesLeft sheet s p (left - 1) (added x Γ at n) (at + (n + 1)) (k + 1)

  -- by what is left of the sheet
  module _ (rest : List ℕ) (is : rest ≡ drop at sheet) where
    pub entry_stop : (c : Cause) → entry_at rest s sheet Γ ≡ Err c → Stop (refusal c k) ≡ p
    entry_stop c e =
        reads-stop left Γ at k c here more
        (line_fails sheet Γ (drop at sheet) s (left - 1) c
        (answer-err own (held_at sheet s Γ at) c (sym (entry_at_lem sheet s Γ at rest is) ∙ e)))

    pub entry_turn : (l : Line) → entry_at rest s sheet Γ ≡ Ok l → EntryTurn l.entry l.length
    entry_turn l e =
        let x = l.entry in
        let n = l.length in
        let fs = fields (line_at sheet at) in
        let w = answer-ok own (held_at sheet s Γ at) l (sym (entry_at_lem sheet s Γ at rest is) ∙ e) in
        let pass = passes sheet at k (own_tests sheet s Γ) w.0 in
        let entry = ap (λ (l : Line). l.entry) w.1 in
        let size = ap (λ (l : Line). l.length) w.1 in
        let grown : with_line sheet s Γ at fs ≡ added x Γ at n = adds sheet Γ at k s pass ∙ rw (entry, size) in
        let later : later_tests sheet Γ s (left - 1) fs ≡ tests_behind x (eqb left 1) (added x Γ at n) =
        later-is sheet Γ at k s left more
        ∙ ap (λ (y : Entry). tests_behind y (eqb left 1) (with_line sheet s Γ at fs)) entry
        ∙ ap (λ (Δ : Network). tests_behind x (eqb left 1) Δ) grown in
        let whole = line-holds sheet Γ (drop at sheet) s (left - 1) w.0 ∙ ap first_failing_lem later in
        record {
          room = rw entry at (room_of sheet Γ at k s left here.stage more pass);
          testable = testable_same entry grown (testable_of sheet Γ at k s left here.stage more pass);
          inside = omega (arith, line-inside sheet at pass.ends);
          stop = λ c f. reads-stop left Γ at k c here more (whole ∙ f);
          next = λ f. reads_on left Γ at k here more (whole ∙ f) (added x Γ at n) (at + (n + 1)) grown (omega arith);
        }
