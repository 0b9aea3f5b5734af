-- The turns of the loop over the lines of a section. `EntriesLeft` is its invariant: the lines that are left give what
-- all of them give, and the sheet is at a stage that each line keeps. Assumes nothing.
use mathlib.Core.Path.{◌≡◌, sym, ◌∙◌}
use mathlib.Core.Option.{none, some}
use mathlib.Core.List.{List}
use Prim.Native.Nat.{ℕ, zero, suc, ◌+◌, ◌-◌, ◌≤◌, ◌<◌}
use native.Mathlib.Numerals.{add-one}
use native.Mathlib.Omega.{arith}
use Rattle.text.specs.Lines.{fields, line_at, after_line}
use Rattle.refusal.specs.Refusal.{refusal}
use Rattle.refusal.specs.declared.Cause.{Cause}
use Rattle.network.specs.declared.Network.{Network}
use Rattle.line.specs.Sections.{tests_of, with_line}
use Rattle.line.specs.declared.Section.{Section}
use Rattle.line.specs.declared.Section.TheVariants.{Events, Signals, Rules, Reactions, Cases}
use Rattle.sheet.specs.Reading.{Progress, Stop, Go, read_entries_lem}
use Rattle.sheet.specs.Stage.{to_come, Stage}
use Rattle.sheet.proofs.ReadLine.{refusal_at, passes, read_line-stop, read_line-on, Keeps}
use Rattle.sheet.proofs.EventStage.{stage_event}
use Rattle.sheet.proofs.SignalStage.{stage_signal}
use Rattle.sheet.proofs.RuleStage.{stage_rule}
use Rattle.sheet.proofs.ReactionStage.{stage_reaction}
use Rattle.sheet.proofs.LabelStage.{stage_label}

-- the stage before m lines of a section, which each line keeps
abbrev pub Before : List ℕ → Section → ℕ → Network → ℕ → ℕ → Type 0
Before sheet s m = Stage sheet (to_come s m)

pub stage_keeps : (sheet : List ℕ) (s : Section) → Keeps sheet s (Before sheet s)
stage_keeps sheet Events m Γ at k g p = stage_event sheet g p
stage_keeps sheet Signals m Γ at k g p = stage_signal sheet g p
stage_keeps sheet Rules m Γ at k g p = stage_rule sheet g p
stage_keeps sheet Reactions m Γ at k g p = stage_reaction sheet Γ at k m g p
stage_keeps sheet Cases m Γ at k g p = stage_label sheet Γ at k m g p

-- the lines that are left, of those that give p
pub record EntriesLeft (sheet : List ℕ) (s : Section) (p : Progress) (left : ℕ) (Γ : Network) (at k : ℕ) : Type 0 where
  pub rest : read_entries_lem sheet s left Γ at k ≡ p
  pub stage : Before sheet s left Γ at k

module _ (sheet : List ℕ) (s : Section) where
  -- the lines behind this one
  abbrev behind : ℕ → Network → ℕ → ℕ → List (List ℕ) → Progress
  behind m Γ at k fs = read_entries_lem sheet s m (with_line sheet s Γ at fs) (after_line sheet at) (suc k)

module _ {sheet : List ℕ} {s : Section} {p : Progress} where
  pub reads-stop : (left : ℕ) (Γ : Network) (at k : ℕ) (c : Cause) → EntriesLeft sheet s p left Γ at k → 0 < left
      → refusal_at sheet at k (tests_of sheet s (left - 1) Γ) ≡ some c → Stop (refusal c k) ≡ p
  reads-stop zero Γ at k c w h e = absurd (omega arith)
  reads-stop (suc m) Γ at k c w h e =
      let one : suc m - 1 ≡ m = omega arith in
      sym (read_line-stop sheet at k (tests_of sheet s m Γ) (behind sheet s m Γ at k) c (rw one at e)) ∙ w.rest

  pub reads_on : (left : ℕ) (Γ : Network) (at k : ℕ) → EntriesLeft sheet s p left Γ at k → 0 < left
      → refusal_at sheet at k (tests_of sheet s (left - 1) Γ) ≡ none
      → (Δ : Network) (b : ℕ) → with_line sheet s Γ at (fields (line_at sheet at)) ≡ Δ → after_line sheet at ≡ b
      → EntriesLeft sheet s p (left - 1) Δ b (k + 1)
  reads_on zero Γ at k w h e Δ b d q = absurd (omega arith)
  reads_on (suc m) Γ at k w h e Δ b d q =
      let one : suc m - 1 ≡ m = omega arith in
      let passed : refusal_at sheet at k (tests_of sheet s m Γ) ≡ none = rw one at e in
      record {
        rest = rw (one, add-one, ← d, ← q)
            (sym (read_line-on sheet at k (tests_of sheet s m Γ) (behind sheet s m Γ at k) passed) ∙ w.rest);
        stage = rw (one, add-one, ← d, ← q)
            (stage_keeps sheet s m Γ at k w.stage (passes sheet at k (tests_of sheet s m Γ) passed));
      }

  pub reads_end : (left : ℕ) (Γ : Network) (at k : ℕ) → EntriesLeft sheet s p left Γ at k → left ≤ 0
      → (p ≡ Go Γ at k) × Before sheet s 0 Γ at k
  reads_end zero Γ at k w h = (sym w.rest, w.stage)
  reads_end (suc m) Γ at k w h = absurd (omega arith)
