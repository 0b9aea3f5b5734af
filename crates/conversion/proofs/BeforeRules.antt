-- How today's reader comes to the heading of the rules, whatever stands there: where the front of contents that keep
-- the layout's rules stands, it is read (`front_read`), and the number of the next line is told by the events and
-- signals so far (`number_at`). Assumes nothing.
use mathlib.Core.Path.{◌≡◌, ◌∙◌, ap}
use mathlib.Core.List.{List, [], ◌++◌, append_assoc, map}
use Prim.Native.Nat.{ℕ, suc, ◌+◌}
use native.Mathlib.Omega.{arith}
use Rattle.text.specs.Lines.{line, fields, line_at, after_line}
use Rattle.network.specs.Build.{empty}
use Rattle.network.specs.declared.Network.{Network}
use Rattle.line.specs.Tests.{second_number}
use Rattle.line.specs.Sections.{heading_of_lem, horizon_heading, heading_tests, with_line}
use Rattle.line.specs.declared.Section.{Section}
use Rattle.line.specs.declared.Section.TheVariants.{Events, Signals}
use Rattle.sheet.specs.Reading.{Go, read_entries_lem, read_horizon_lem, read_section_lem}
use Rattle.sheet.proofs.ReadLine.{go-same, came, went, entries-keep}
use Rattle.sheet.proofs.Whole.{to_events, to_signals}
use Rattle.layout.specs.Contents.{Contents}
use Rattle.layout.specs.Keeps.{Keeps}
use Rattle.layout.specs.Layout.{lines, signal_line}
use Rattle.layout.proofs.Read.{AtSignals, horizon-reads, events-read, signals-read}
use Rattle.layout.proofs.Text.{horizon_text, events_text, signals_text}
use Rattle.conversion.proofs.Sections.{headed, front, lines-append}

module _ (sheet : List ℕ) where
  -- how many events, signals and rules there are so far, each of which has a line
  abbrev pub so_far : Network → ℕ
  so_far Γ = Γ.events + Γ.signals + Γ.rules

  -- a section whose lines each add one
  section-number : (s : Section) → ((Γ : Network) (at : ℕ) (fs : List (List ℕ)) → so_far (with_line sheet s Γ at fs)
      ≡ suc (so_far Γ))
      → (b : ℕ) (Γ Δ : Network) (at k end j : ℕ) → k ≡ b + so_far Γ → read_section_lem sheet s Γ at k ≡ Go Δ end j
      → j ≡ suc b + so_far Δ
  section-number s one b Γ Δ at k end j h e =
      let w = went sheet at k (heading_tests (heading_of_lem Γ.events s))
      (λ fs. read_entries_lem sheet s (second_number fs) Γ (after_line sheet at) (suc k)) Δ end j e in
      entries-keep sheet s (λ m Γ at k. k ≡ suc b + so_far Γ)
      (λ m Γ at k h p. omega (arith, one Γ at (fields (line_at sheet at))))
      (second_number (fields (line_at sheet at))) Γ Δ (after_line sheet at) (suc k) end j (omega arith) w.then

  -- besides these stand the horizon and two headings
  pub number_at : (Γ : Network) (end j : ℕ) → to_signals sheet ≡ Go Γ end j → j ≡ 4 + so_far Γ
  number_at Γ end j e =
      let two = came (to_events sheet) (read_section_lem sheet Signals) Γ end j e in
      let one = came (read_horizon_lem sheet) (read_section_lem sheet Events) two.network two.at two.line two.first in
      let w = went sheet 0 1 (heading_tests horizon_heading)
      (λ fs. Go (empty (second_number fs)) (after_line sheet 0) 2) one.network one.at one.line one.first in
      let same = go-same (empty (second_number (fields (line_at sheet 0)))) one.network (after_line sheet 0) one.at 2
      one.line w.then in
      let events = section-number Events (λ Γ at fs. omega arith) 2 one.network two.network one.at one.line two.at
      two.line (omega (arith, same.2, ap so_far same.0)) one.then in
      section-number Signals (λ Γ at fs. omega arith) 3 two.network Γ two.at two.line end j events two.then

-- the events and signals are defined, and no rule
pub front_read : (sheet : List ℕ) (c : Contents) → Keeps c → (rest : List ℕ) → sheet ≡ lines (front c) ++ rest
    → AtSignals sheet c.horizon c.names c.signals c.rules (to_signals sheet) c.signals rest
front_read sheet c k rest t =
    let es = headed "events" (map (λ n. line n []) c.names) in
    let ss = headed "signals" (map signal_line c.signals) in
    let behind = signals_text c.signals ++ rest in
    let text : sheet ≡ horizon_text c.horizon ++ (events_text c.names ++ behind) =
    t ∙ append_assoc (horizon_text c.horizon) (lines (es ++ ss)) rest
    ∙ ap (λ (x : List ℕ). horizon_text c.horizon ++ (x ++ rest)) (lines-append es ss)
    ∙ ap (λ (x : List ℕ). horizon_text c.horizon ++ x) (append_assoc (lines es) (lines ss) rest) in
    let horizon =
    horizon-reads sheet c.horizon c.names c.signals c.rules (events_text c.names ++ behind) k.horizon text in
    let events =
    events-read sheet c.horizon c.names c.signals c.rules behind
    (record { each = k.names; once = k.names_once }) k.some_event k.events horizon in
    signals-read sheet c.horizon c.names c.signals c.rules rest
    (record { each = k.signals; letters_once = k.letters_once; events_once = k.events_once }) k.few_signals events
