-- A sheet that is the text of contents which keep the layout's rules is read section by section to its end, and the
-- network holds these contents. Assumes nothing.
use mathlib.Core.Path.{◌≡◌, refl, ap}
use mathlib.Core.Option.{Option, none, get_or}
use mathlib.Core.List.{List, [], ◌++◌}
use Prim.Native.Nat.{ℕ, ◌≤◌, zero-le}
use lib.ListN.{length, drop}
use Rattle.text.specs.Lines.{after_line}
use Rattle.text.proofs.Numbers.{magnitude-decimal}
use Rattle.network.specs.Limits as L
use Rattle.network.specs.Build.{empty}
use Rattle.line.specs.Tests.{second_number}
use Rattle.line.specs.Sections.{horizon_heading}
use Rattle.line.specs.declared.Section.TheVariants.{Events, Signals, Rules, Reactions, Cases}
use Rattle.sheet.specs.Reading.{Progress, Go, read_horizon_lem, read_section_lem, read_optional_lem, read_end}
use Rattle.sheet.proofs.Whole.{to_events, to_signals, to_rules, to_reactions, to_cases, to_end}
use Rattle.layout.specs.Contents.{Signal, Rule, Reaction, Case}
use Rattle.layout.specs.Keeps.{Keeps}
use Rattle.layout.specs.Layout.{reactions_text, cases_text, text_of}
use Rattle.layout.proofs.Kept.{KeptNames, KeptSignals, KeptRules, KeptReactions}
use Rattle.layout.proofs.Extends.{contents, contents_with, contents_of}
use Rattle.layout.proofs.Stands.{Stands, empty_stands}
use Rattle.layout.proofs.Entries.{Reads}
use Rattle.layout.proofs.Events.{events-understood}
use Rattle.layout.proofs.Signals.{signals-understood}
use Rattle.layout.proofs.Rules.{rules-understood}
use Rattle.layout.proofs.Optional.{reactions-reads}
use Rattle.layout.proofs.OptionalCases.{cases-reads}
use Rattle.layout.proofs.CountLine.{count-line-reads}
use Rattle.layout.proofs.Section.{section-reads}
use Rattle.layout.proofs.Text.{
  horizon_text,
  events_text,
  signals_text,
  rules_text,
  apart,
  end_reads,
  on,
  and_then_reads,
}

module _ (sheet : List ℕ) (h : ℕ) (ns : List (List ℕ)) (xs : List Signal) (rs : List Rule) where
  -- how far the reading comes with each section, and what stands behind it
  abbrev pub AtEvents : Progress → List (List ℕ) → List ℕ → Type 0
  AtEvents p ms rest = Reads sheet (λ Γ ms. Stands sheet Γ (contents h ms [] [])) p ms rest

  abbrev pub AtSignals : Progress → List Signal → List ℕ → Type 0
  AtSignals p ys rest = Reads sheet (λ Γ ys. Stands sheet Γ (contents h ns ys [])) p ys rest

  abbrev AtRules : Progress → List Rule → List ℕ → Type 0
  AtRules p ys rest = Reads sheet (λ Γ ys. Stands sheet Γ (contents h ns xs ys)) p ys rest

  pub horizon-reads : (rest : List ℕ) → h ≤ L.horizon → drop 0 sheet ≡ horizon_text h ++ rest
      → AtEvents (read_horizon_lem sheet) [] rest
  horizon-reads rest high t =
      let r = count-line-reads sheet horizon_heading 0 1 (λ fs. Go (empty (second_number fs)) (after_line sheet 0) 2)
      refl h rest zero-le high t in
      record {
        network = empty h;
        at = after_line sheet 0;
        number = 2;
        goes = r.1 (Go (empty h) (after_line sheet 0) 2)
            (ap (λ (n : ℕ). Go (empty n) (after_line sheet 0) 2) (magnitude-decimal h));
        held = empty_stands sheet h;
        behind = r.0;
      }

  pub events-read : (rest : List ℕ) → KeptNames ns → 1 ≤ length ns → length ns ≤ L.events
      → AtEvents (read_horizon_lem sheet) [] (events_text ns ++ rest) → AtEvents (to_events sheet) ns rest
  events-read rest kept least few r =
      and_then_reads sheet (read_horizon_lem sheet) (read_section_lem sheet Events) r
      (section-reads (events-understood sheet h) r.network r.at r.number (λ _. r.held)
      refl ns rest kept least few r.behind)

  pub signals-read : (rest : List ℕ) → KeptSignals ns xs → length xs ≤ L.signals
      → AtEvents (to_events sheet) ns (signals_text xs ++ rest) → AtSignals (to_signals sheet) xs rest
  signals-read rest kept few r =
      and_then_reads sheet (to_events sheet) (read_section_lem sheet Signals) r
      (section-reads (signals-understood sheet h ns) r.network r.at r.number (λ _. r.held)
      refl xs rest kept zero-le few r.behind)

  rules-read : (rest : List ℕ) → KeptRules ns xs rs → length rs ≤ L.rules
      → AtSignals (to_signals sheet) xs (rules_text rs ++ rest) → AtRules (to_rules sheet) rs rest
  rules-read rest kept few r =
      and_then_reads sheet (to_signals sheet) (read_section_lem sheet Rules) r
      (section-reads (rules-understood sheet h ns xs) r.network r.at r.number (λ _. r.held)
      refl rs rest kept zero-le few r.behind)

  abbrev AtReactions : Progress → Option (List Reaction) → List ℕ → Type 0
  AtReactions p o rest = Reads sheet (λ Γ o. Stands sheet Γ (contents_with h ns xs rs o)) p o rest

  reactions-read : (o : Option (List Reaction)) (rest : List ℕ) → (o ≡ none → rest ≡ [])
      → KeptReactions xs (get_or o []) → length (get_or o []) ≤ L.signals → length xs ≤ L.signals
      → AtRules (to_rules sheet) rs (reactions_text o ++ rest) → AtReactions (to_reactions sheet) o rest
  reactions-read o rest ends kept few signals r =
      and_then_reads sheet (to_rules sheet) (read_optional_lem sheet Reactions) r
      (reactions-reads sheet r.network r.at r.number signals r.held o kept few rest ends r.behind)

  module _ (o : Option (List Reaction)) (q : Option (List Case)) where
    abbrev AtCases : Progress → Type 0
    AtCases p = Reads sheet (λ Γ q. Stands sheet Γ (contents_of h ns xs rs o q)) p q []

    cases-read : Keeps (contents_of h ns xs rs o q) → AtReactions (to_reactions sheet) o (cases_text q ++ [])
        → AtCases (to_cases sheet)
    cases-read k r =
        and_then_reads sheet (to_reactions sheet) (read_optional_lem sheet Cases) r
        (cases-reads sheet k.events k.few_signals r.network r.at r.number r.held q
        (record { each = k.cases; once = k.cases_once }) k.labelled k.few_cases r.behind)

    end_read : AtCases (to_cases sheet) → AtCases (to_end sheet)
    end_read r = record {
      network = r.network;
      at = r.at;
      number = r.number;
      goes =
          on (to_cases sheet) (read_end sheet) r.network r.at r.number
          (Go r.network r.at r.number) r.goes
          (end_reads sheet r.network r.at r.number r.behind);
      held = r.held;
      behind = r.behind;
    }

    pub sections_read : Keeps (contents_of h ns xs rs o q) → sheet ≡ text_of (contents_of h ns xs rs o q)
        → AtCases (to_end sheet)
    sections_read k t =
        let behind-reactions = cases_text q ++ [] in
        let behind-rules = reactions_text o ++ behind-reactions in
        let behind-signals = rules_text rs ++ behind-rules in
        let behind-events = signals_text xs ++ behind-signals in
        let ends : o ≡ none → behind-reactions ≡ [] =
        λ n. ap (λ (p : Option (List Case)). cases_text p ++ []) (k.cases_follow n) in
        end_read
        (cases-read k
        (reactions-read o behind-reactions ends (record { each = k.reactions; once = k.reactions_once })
        k.few_reactions k.few_signals
        (rules-read behind-rules k.rules k.few_rules
        (signals-read behind-signals
        (record { each = k.signals; letters_once = k.letters_once; events_once = k.events_once }) k.few_signals
        (events-read behind-events
        (record { each = k.names; once = k.names_once }) k.some_event k.events
        (horizon-reads (events_text ns ++ behind-events) k.horizon
        (apart sheet (horizon_text h) (events_text ns) (signals_text xs) (rules_text rs) (reactions_text o)
        (cases_text q)
        t)))))))
