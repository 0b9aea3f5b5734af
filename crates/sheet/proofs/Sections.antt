-- A section's line, and the sections one behind the other, as the code reads them. Assumes nothing.
use mathlib.Core.Path.{◌≡◌, refl, sym, ◌∙◌, ap}
use mathlib.Core.Bool.{true}
use mathlib.Core.List.{List}
use Prim.Native.Nat.{ℕ, suc, ◌+◌, ◌≤◌, ◌<◌}
use native.Mathlib.Numerals.{add-one}
use native.Mathlib.Omega.{arith}
use lib.ListN.{length, drop}
use Rattle.text.specs.Lines.{fields, line_at, ends_at, after_line}
use Rattle.text.proofs.Lines.{line-inside}
use Rattle.refusal.specs.Refusal.{refusal}
use Rattle.refusal.specs.declared.Cause.TheVariants as C
use Rattle.network.specs.Limits as L
use Rattle.network.specs.Build.{empty}
use Rattle.network.specs.declared.Network.{Network}
use Rattle.line.specs.Tests.{line_tests, second_number}
use Rattle.line.specs.Sections.{Heading, heading_of_lem, horizon_heading, heading_tests}
use Rattle.line.specs.Answers.{passing, heading_at}
use Rattle.line.specs.declared.heading.CountLine.{CountLine}
use Rattle.line.specs.declared.Section.{Section}
use Rattle.line.proofs.Refusals.{answer-ok}
use Rattle.std.specs.Prelude.{Ok, Err}
use Rattle.sheet.specs.Reading.{Progress, Go, read_line, read_entries_lem, read_section_lem}
use Rattle.sheet.specs.Reading.{read_horizon_lem}
use Rattle.sheet.specs.Reading.{longest, answered, read}
use Rattle.sheet.specs.Stage.{to_come, whole, Stage}
use Rattle.sheet.proofs.ReadLine.{refusal_at, passes, read_line-on}
use Rattle.sheet.proofs.Whole.{too_long}
use Rattle.sheet.proofs.Passing.{counted}
use Rattle.sheet.proofs.Stages.{stage_section}

-- the line at a place of the sheet, whose remaining part is given
module _ (sheet : List ℕ) (at k : ℕ) (h : Heading) (rest : List ℕ) (is : rest ≡ drop at sheet) where
  abbrev said_at : CountLine
  said_at = record { count = second_number (fields (line_at sheet at)); length = length (line_at sheet at) }

  section-at : heading_at rest h ≡ passing (line_tests (drop at sheet) (heading_tests h)) said_at
  section-at = ap (λ (l : List ℕ). heading_at l h) is

  module _ (next : List (List ℕ) → Progress) where
    -- the line passes, with count m and of length n
    pub record SectionRead (m n : ℕ) : Type 0 where
      pub ends : ends_at sheet at ≡ true
      pub least : h.least ≤ m
      pub most : m ≤ h.most
      pub inside : at + (n + 1) ≤ length sheet
      pub count : second_number (fields (line_at sheet at)) ≡ m
      pub after : after_line sheet at ≡ at + (n + 1)
      pub goes_on : read_line sheet at k (heading_tests h) next ≡ next (fields (line_at sheet at))

    pub section-read : (l : CountLine) → heading_at rest h ≡ Ok l → SectionRead l.count l.length
    section-read l e =
        let m = l.count in
        let n = l.length in
        let w = answer-ok (refusal_at sheet at k (heading_tests h)) said_at l (sym section-at ∙ e) in
        let pass = passes sheet at k (heading_tests h) w.0 in
        let c = counted h (fields (line_at sheet at)) pass.accepted in
        let count = ap (λ (l : CountLine). l.count) w.1 in
        let size = ap (λ (l : CountLine). l.length) w.1 in
        let after : after_line sheet at ≡ at + (n + 1) = omega arith in
        record {
          ends = pass.ends;
          least = omega (arith, c.least);
          most = omega (arith, c.most);
          inside = omega (arith, line-inside sheet at pass.ends);
          count = count;
          after = after;
          goes_on = read_line-on sheet at k (heading_tests h) next w.0;
        }

-- a section, from its line on
module _ (sheet : List ℕ) (s : Section) (at k : ℕ) (rest : List ℕ) (is : rest ≡ drop at sheet) (Γ : Network) where
  abbrev lines : List (List ℕ) → Progress
  lines fs = read_entries_lem sheet s (second_number fs) Γ (after_line sheet at) (suc k)

  -- its line passes, with count m and of length n, and then m lines are read
  pub record SectionGoes (m n : ℕ) : Type 0 where
    pub inside : at + (n + 1) ≤ length sheet
    pub goes : read_entries_lem sheet s m Γ (at + (n + 1)) (k + 1) ≡ read_section_lem sheet s Γ at k
    pub stage : Stage sheet (whole s) Γ at k → Stage sheet (to_come s m) Γ (at + (n + 1)) (k + 1)

  pub section_goes : (l : CountLine) → heading_at rest (heading_of_lem Γ.events s) ≡ Ok l
      → SectionGoes l.count l.length
  section_goes l e =
      let w = section-read sheet at k (heading_of_lem Γ.events s) rest is lines l e in
      let count = w.count in
      let after = w.after in
      record {
        inside = w.inside;
        goes = rw (← count, ← after, add-one k) (sym w.goes_on);
        stage = λ g. rw (← after, add-one k) (stage_section sheet s l.count w.ends w.least w.most g);
      }

-- the first line
module _ (sheet : List ℕ) where
  pub record HorizonGoes (m n : ℕ) : Type 0 where
    pub most : m ≤ L.horizon
    pub inside : n + 1 ≤ length sheet
    pub goes : Go (empty m) (n + 1) 2 ≡ read_horizon_lem sheet

  pub horizon_goes : (l : CountLine) → heading_at sheet horizon_heading ≡ Ok l → HorizonGoes l.count l.length
  horizon_goes l e =
      let n = l.length in
      let w = section-read sheet 0 1 horizon_heading sheet refl
      (λ fs. Go (empty (second_number fs)) (after_line sheet 0) 2) l e in
      let count = w.count in
      let after : n + 1 ≡ after_line sheet 0 = omega (arith, w.after) in
      record {
        most = w.most;
        inside = omega (arith, w.inside);
        goes = ap (λ (h : ℕ). Go (empty h) (n + 1) 2) (sym count)
            ∙ ap (λ (b : ℕ). Go (empty (second_number (fields (line_at sheet 0)))) b 2) after ∙ sym w.goes_on;
      }

-- the whole sheet
module _ (sheet : List ℕ) where
  pub read_too_long : longest < length sheet → read sheet ≡ Err (refusal C.TooLong 0)
  read_too_long h = ap answered (too_long sheet h)
