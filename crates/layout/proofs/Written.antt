-- A sheet that is read to its end is the text of what was read: a horizon, names, signals, rules and, where they stand,
-- reactions and cases that keep the layout's rules. Assumes nothing.
use mathlib.Core.Path.{◌≡◌, ◌∙◌, ap}
use mathlib.Core.List.{List, [], ◌++◌}
use Prim.Native.Nat.{ℕ, ◌≤◌}
use lib.ListN.{length, drop}
use Rattle.text.specs.Lines.{after_line, line}
use Rattle.network.specs.Limits as L
use Rattle.network.specs.Build.{empty}
use Rattle.network.specs.declared.Network.{Network}
use Rattle.line.specs.Tests.{second_number}
use Rattle.line.specs.Sections.{heading_of_lem, horizon_heading}
use Rattle.line.specs.declared.Section.TheVariants.{Events, Signals, Rules, Reactions, Cases}
use Rattle.sheet.specs.Reading.{longest, Go, read_horizon_lem, read_section_lem, read_optional_lem, read_end, progress}
use Rattle.sheet.proofs.ReadLine.{go-same, Came, came}
use Rattle.sheet.proofs.Whole.{to_events, to_signals, to_rules, to_reactions, to_cases, to_end, within-length}
use Rattle.layout.specs.Contents.{Signal}
use Rattle.layout.specs.Layout.{Layout, signal_line, rule_line, reactions_text, cases_text}
use Rattle.layout.proofs.Extends.{contents, contents_of}
use Rattle.layout.proofs.Stands.{Stands, empty_stands}
use Rattle.layout.proofs.Keeping.{keeps}
use Rattle.layout.proofs.Events.{events-understood}
use Rattle.layout.proofs.Signals.{signals-understood}
use Rattle.layout.proofs.Rules.{rules-understood}
use Rattle.layout.proofs.Optional.{ReactionsRead, reactions-read}
use Rattle.layout.proofs.OptionalCases.{cases-read}
use Rattle.layout.proofs.CountLine.{count-line-read}
use Rattle.layout.proofs.Section.{SectionRead, section-read}
use Rattle.layout.proofs.Text.{
  horizon_text,
  events_text,
  signals_text,
  rules_text,
  in_a_row,
  end_read,
}

module _ (sheet : List ℕ) where
  -- the first line and the sections that were read
  record HorizonRead (Γ : Network) (end : ℕ) : Type 0 where
    horizon : ℕ
    high : horizon ≤ L.horizon
    written : drop 0 sheet ≡ horizon_text horizon ++ drop end sheet
    held : Stands sheet Γ (contents horizon [] [] [])

  abbrev EventsRead : ℕ → ℕ → Network → ℕ → Type 0
  EventsRead h at Γ end =
      SectionRead sheet (λ Γ ns. Stands sheet Γ (contents h ns [] [])) (heading_of_lem 0 Events) (λ n. line n []) at Γ
      end

  abbrev SignalsRead : ℕ → List (List ℕ) → ℕ → Network → ℕ → Type 0
  SignalsRead h ns at Γ end =
      SectionRead sheet (λ Γ xs. Stands sheet Γ (contents h ns xs [])) (heading_of_lem 0 Signals) signal_line at Γ end

  abbrev RulesRead : ℕ → List (List ℕ) → List Signal → ℕ → Network → ℕ → Type 0
  RulesRead h ns xs at Γ end =
      SectionRead sheet (λ Γ rs. Stands sheet Γ (contents h ns xs rs)) (heading_of_lem 0 Rules) rule_line at Γ end

  horizon-read : (Γ : Network) (at k : ℕ) → read_horizon_lem sheet ≡ Go Γ at k → HorizonRead Γ at
  horizon-read Γ at k e =
      let c = count-line-read sheet horizon_heading 0 1 (λ fs. Go (empty (second_number fs)) (after_line sheet 0) 2) Γ
      at
      k e in
      let h = second_number c.fs in
      let same = go-same (empty h) Γ (after_line sheet 0) at 2 k c.then in
      record {
        horizon = h;
        high = c.high;
        written = c.text ∙ ap (λ (i : ℕ). horizon_text h ++ drop i sheet) same.1;
        held = rw same.0 at (empty_stands sheet h);
      }

  -- from one section to the next, and at last all six
  module _ {Γ₁ Γ₂ Γ₃ Γ₄ Γ₅ Γ₆ : Network} {a b c d i j : ℕ} (short : length sheet ≤ longest)
      (end : drop j sheet ≡ []) where
    module _ (h : HorizonRead Γ₁ a) (es : EventsRead h.horizon a Γ₂ b)
        (ss : SignalsRead h.horizon es.items b Γ₃ c)
        (rs : RulesRead h.horizon es.items ss.items c Γ₄ d) where
      from-reactions : ReactionsRead sheet h.horizon es.items ss.items rs.items d Γ₅ i → (n o : ℕ)
          → read_optional_lem sheet Cases Γ₅ i n ≡ Go Γ₆ j o → Layout sheet
      from-reactions ys n o v =
          let ks = cases-read sheet es.high ss.high Γ₅ i n ys.held ys.ended Γ₆ j o v in
          record {
            contents = contents_of h.horizon es.items ss.items rs.items ys.items ks.items;
            keeps = keeps ks.held_cases h.high es.low es.high ss.high rs.high ys.few ks.follow
                ks.few_cases ks.labelled;
            written =
                in_a_row sheet (horizon_text h.horizon) (events_text es.items) (signals_text ss.items)
                (rules_text rs.items) (reactions_text ys.items) (cases_text ks.items) a b c d i j
                h.written es.written ss.written rs.written ys.written ks.written end;
            short = short;
          }

      from-rules : (m n o : ℕ) → read_optional_lem sheet Reactions Γ₄ d m ≡ Go Γ₅ i n
          → read_optional_lem sheet Cases Γ₅ i n ≡ Go Γ₆ j o → Layout sheet
      from-rules m n o u v = from-reactions (reactions-read sheet Γ₄ d m ss.high rs.held Γ₅ i n u) n o v

    from-signals : (h : HorizonRead Γ₁ a) (es : EventsRead h.horizon a Γ₂ b)
        → SignalsRead h.horizon es.items b Γ₃ c
        → (l m n o : ℕ) → read_section_lem sheet Rules Γ₃ c l ≡ Go Γ₄ d m → read_optional_lem sheet Reactions Γ₄ d m
        ≡ Go Γ₅ i n
        → read_optional_lem sheet Cases Γ₅ i n ≡ Go Γ₆ j o → Layout sheet
    from-signals h es ss l m n o t u v =
        from-rules h es ss
        (section-read (rules-understood sheet h.horizon es.items ss.items) Γ₃ c l (λ _. ss.held) Γ₄ d m t)
        m n o u v

    from-events : (h : HorizonRead Γ₁ a) → EventsRead h.horizon a Γ₂ b → (k l m n o : ℕ)
        → read_section_lem sheet Signals Γ₂ b k ≡ Go Γ₃ c l → read_section_lem sheet Rules Γ₃ c l ≡ Go Γ₄ d m
        → read_optional_lem sheet Reactions Γ₄ d m ≡ Go Γ₅ i n → read_optional_lem sheet Cases Γ₅ i n ≡ Go Γ₆ j o
        → Layout sheet
    from-events h es k l m n o r t u v =
        from-signals h es
        (section-read (signals-understood sheet h.horizon es.items) Γ₂ b k (λ _. es.held) Γ₃ c l r) l m n o t u v

    from-horizon : HorizonRead Γ₁ a → (g k l m n o : ℕ) → read_section_lem sheet Events Γ₁ a g ≡ Go Γ₂ b k
        → read_section_lem sheet Signals Γ₂ b k ≡ Go Γ₃ c l → read_section_lem sheet Rules Γ₃ c l ≡ Go Γ₄ d m
        → read_optional_lem sheet Reactions Γ₄ d m ≡ Go Γ₅ i n → read_optional_lem sheet Cases Γ₅ i n ≡ Go Γ₆ j o
        → Layout sheet
    from-horizon h g k l m n o q r t u v =
        from-events h (section-read (events-understood sheet h.horizon) Γ₁ a g (λ _. h.held) Γ₂ b k q)
        k l m n o r t u v

  -- the steps, the last one first
  module _ (short : length sheet ≤ longest) (Γ : Network) (at k : ℕ) where
    by_steps : (j : Came (to_cases sheet) (read_end sheet) (Go Γ at k))
        (i : Came (to_reactions sheet) (read_optional_lem sheet Cases) (Go j.network j.at j.line))
        (d : Came (to_rules sheet) (read_optional_lem sheet Reactions) (Go i.network i.at i.line))
        (c : Came (to_signals sheet) (read_section_lem sheet Rules) (Go d.network d.at d.line))
        (b : Came (to_events sheet) (read_section_lem sheet Signals) (Go c.network c.at c.line))
        → Came (read_horizon_lem sheet) (read_section_lem sheet Events) (Go b.network b.at b.line) → Layout sheet
    by_steps j i d c b a =
        from-horizon short (end_read sheet j.network j.at j.line Γ at k j.then)
        (horizon-read a.network a.at a.line a.first)
        a.line b.line c.line d.line i.line j.line a.then b.then c.then d.then i.then

    sections_written : to_end sheet ≡ Go Γ at k → Layout sheet
    sections_written e =
        let j = came (to_cases sheet) (read_end sheet) Γ at k e in
        let i = came (to_reactions sheet) (read_optional_lem sheet Cases) j.network j.at j.line j.first in
        let d = came (to_rules sheet) (read_optional_lem sheet Reactions) i.network i.at i.line i.first in
        let c = came (to_signals sheet) (read_section_lem sheet Rules) d.network d.at d.line d.first in
        let b = came (to_events sheet) (read_section_lem sheet Signals) c.network c.at c.line c.first in
        by_steps j i d c b
        (came (read_horizon_lem sheet) (read_section_lem sheet Events) b.network b.at b.line b.first)

  pub layout_of : (Γ : Network) (at k : ℕ) → progress sheet ≡ Go Γ at k → Layout sheet
  layout_of Γ at k g = let w = within-length sheet Γ at k g in sections_written w.0 Γ at k w.1
