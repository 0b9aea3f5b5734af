-- A sheet that was read gives a well_formed network: each line keeps the stage (Stages), the lines of a section are
-- read one by one (ReadLine), and the sections one behind the other. Assumes nothing.
use mathlib.Core.Path.{◌≡◌, refl, sym, ◌∙◌}
use mathlib.Core.Option.{Option, none, some}
use mathlib.Core.Bool.{Bool, true, false, cond}
use mathlib.Core.List.{List}
use Prim.Native.Nat.{ℕ, suc}
use native.Mathlib.Omega.{arith}
use Rattle.prelude.specs.Checks.{first_failing_lem}
use Rattle.prelude.proofs.Tests.{zero-is-one}
use Rattle.text.specs.Lines.{line_at, after_line, fields}
use Rattle.text.proofs.Lines.{line-inside}
use Rattle.refusal.specs.Refusal.{refusal}
use Rattle.refusal.specs.declared.Cause.{Cause}
use Rattle.network.specs.Build.{empty}
use Rattle.network.specs.WellFormed.{WellFormed, Named, ToCome}
use Rattle.network.specs.declared.Network.{Network}
use Rattle.line.specs.Tests.{second_number}
use Rattle.line.specs.Sections.{heading_of_lem, horizon_heading, heading_tests}
use Rattle.line.specs.declared.Section.{Section}
use Rattle.line.specs.declared.Section.TheVariants.{Events, Signals, Rules, Reactions, Cases}
use Rattle.sheet.specs.Reading.{Progress, Go, stop_or, and_then, read_entries_lem, read_section_lem}
use Rattle.sheet.specs.Reading.{read_horizon_lem}
use Rattle.sheet.specs.Reading.{follows, read_optional_lem, end_tests, read_end, progress, read, answered}
use Rattle.sheet.specs.Reading.{network_in, network_of, Accepts}
use Rattle.sheet.specs.Stage.{to_come, whole, Stage}
use Rattle.std.specs.Prelude.{Ok, Err}
use Rattle.sheet.proofs.ReadLine.{stop-not-go, go-same, came, went, entries-keep}
use Rattle.sheet.proofs.Whole.{to_events, to_signals, to_rules, to_reactions, to_cases, within-length}
use Rattle.sheet.proofs.Passing.{counted}
use Rattle.sheet.proofs.Stages.{stage_section, stage_absent}
use Rattle.sheet.proofs.FirstStage.{stage_empty}
use Rattle.sheet.proofs.EntriesLeft.{Before, stage_keeps}

-- where a section may go on, the sheet is at this stage
abbrev pub Ready : List ℕ → ToCome → Progress → Type 0
Ready sheet t p = (Γ : Network) (at k : ℕ) → p ≡ Go Γ at k → Stage sheet t Γ at k

module _ (sheet : List ℕ) where
  -- the sheet is ready for the events behind the horizon, and behind each section for the next
  pub horizon_ready : (p : Progress) → p ≡ read_horizon_lem sheet → Ready sheet (whole Events) p
  horizon_ready p i Γ at k e =
      let w = went sheet 0 1 (heading_tests horizon_heading) (λ fs. Go (empty (second_number fs)) (after_line sheet 0)
      2)
      Γ at k (sym i ∙ e) in
      let fs = fields (line_at sheet 0) in
      let c = counted horizon_heading fs w.passed.accepted in
      let same = go-same (empty (second_number fs)) Γ (after_line sheet 0) at 2 k w.then in
      rw (← same.0, ← same.1, ← same.2)
      (stage_empty sheet (second_number fs) (after_line sheet 0) 2 c.most (line-inside sheet 0 w.passed.ends)
      (omega arith))

  pub section_ready : (s : Section) (p q : Progress) → q ≡ and_then p (read_section_lem sheet s)
      → Ready sheet (whole s) p
      → Ready sheet (to_come s 0) q
  section_ready s p q i h Δ b j e =
      let c = came p (read_section_lem sheet s) Δ b j (sym i ∙ e) in
      let Γ = c.network in
      let head = heading_of_lem Γ.events s in
      let at = c.at in
      let k = c.line in
      let fs = fields (line_at sheet at) in
      let w = went sheet at k (heading_tests head)
      (λ fs. read_entries_lem sheet s (second_number fs) Γ (after_line sheet at) (suc k)) Δ b j c.then in
      let n = counted head fs w.passed.accepted in
      entries-keep sheet s (Before sheet s) (stage_keeps sheet s) (second_number fs) Γ Δ (after_line sheet at)
      (suc k) b j
      (stage_section sheet s (second_number fs) w.passed.ends n.least n.most (h Γ at k c.first)) w.then

  -- an optional section: behind it, or where it would begin, the sheet is ready for the end
  pub optional_ready : (s : Section) (p q : Progress) → q ≡ and_then p (read_optional_lem sheet s)
      → ((Γ : Network) (at k : ℕ) → Stage sheet (whole s) Γ at k → Stage sheet (to_come s 0) Γ at k)
      → Ready sheet (whole s) p → Ready sheet (to_come s 0) q
  optional_ready s p q i absent h Δ b j e =
      let c = came p (read_optional_lem sheet s) Δ b j (sym i ∙ e) in
      by_bytes c.network c.at c.line (follows sheet c.at) c.first c.then
    where
      by_bytes : (Γ : Network) (at k : ℕ) (more : Bool) → p ≡ Go Γ at k
          → cond more (read_section_lem sheet s Γ at k) (Go Γ at k) ≡ Go Δ b j → Stage sheet (to_come s 0) Δ b j
      by_bytes Γ at k true f t = section_ready s p (read_section_lem sheet s Γ at k) (rw f) h Δ b j t
      by_bytes Γ at k false f t = absent Δ b j (h Δ b j (f ∙ t))

  -- what is left at the end
  ended : (Γ Δ : Network) (at k b j : ℕ) → read_end sheet Γ at k ≡ Go Δ b j → Γ ≡ Δ
  ended Γ Δ at k b j e = by-refusal (first_failing_lem (end_tests sheet at)) e
    where
      by-refusal : (o : Option Cause) → stop_or k o (Go Γ at k) ≡ Go Δ b j → Γ ≡ Δ
      by-refusal (some c) e = stop-not-go (refusal c k) Δ b j e
      by-refusal none e = (go-same Γ Δ at b k j e).0

  -- the sections one behind the other
  pub events_ready : Ready sheet (whole Events) (read_horizon_lem sheet)
  events_ready = horizon_ready (read_horizon_lem sheet) refl

  pub signals_ready : Ready sheet (whole Signals) (to_events sheet)
  signals_ready = section_ready Events (read_horizon_lem sheet) (to_events sheet) refl events_ready

  pub rules_ready : Ready sheet (whole Rules) (to_signals sheet)
  rules_ready = section_ready Signals (to_events sheet) (to_signals sheet) refl signals_ready

  pub reactions_ready : Ready sheet (whole Reactions) (to_rules sheet)
  reactions_ready = section_ready Rules (to_signals sheet) (to_rules sheet) refl rules_ready

  pub cases_ready : Ready sheet (whole Cases) (to_reactions sheet)
  cases_ready = optional_ready Reactions (to_rules sheet) (to_reactions sheet) refl (λ Γ at k g. g) reactions_ready

  pub sections_ready : Ready sheet (to_come Cases 0) (to_cases sheet)
  sections_ready =
      optional_ready Cases (to_reactions sheet) (to_cases sheet) refl (λ Γ at k g. stage_absent sheet g) cases_ready

  read_stage : (Γ : Network) (at k : ℕ) → progress sheet ≡ Go Γ at k → (b : ℕ) × (j : ℕ)
      × Stage sheet (to_come Cases 0) Γ b j
  read_stage Γ at k e =
      let w = came (to_cases sheet) (read_end sheet) Γ at k (within-length sheet Γ at k e).1 in
      let same = ended w.network Γ w.at w.line at k w.then in
      (w.at, w.line, rw same at (sections_ready w.network w.at w.line w.first))

pub read_well_formed : (sheet : List ℕ) (Γ : Network) (at k : ℕ) → progress sheet ≡ Go Γ at k → WellFormed Γ
    × Named sheet Γ
read_well_formed sheet Γ at k e =
    let g = (read_stage sheet Γ at k e).2 in (g.forming, g.named)

-- the same of the reader's answer: where it is a network, that is the sheet's, and it is well formed
pub accepts : (sheet : List ℕ) (Γ : Network) → read sheet ≡ Ok Γ → Accepts sheet × (network_of sheet ≡ Γ)
accepts sheet Γ e = (rw e refl, rw e refl)

pub accepted_well_formed : (sheet : List ℕ) → Accepts sheet
    → WellFormed (network_of sheet) × Named sheet (network_of sheet)
accepted_well_formed sheet e = by-progress (progress sheet) refl e
  where
    by-progress : (p : Progress) → progress sheet ≡ p → answered p ≡ Ok (network_in (answered p))
        → WellFormed (network_in (answered p)) × Named sheet (network_in (answered p))
    by-progress (Err r) h e = zero-is-one cc
    by-progress (Ok p) h e = read_well_formed sheet p.network p.at p.line h
