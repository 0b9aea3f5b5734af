-- The whole sheet by its length: what is too long is not read, and anything else is read section by section and then
-- to its end. The last two sections may be absent. Assumes nothing.
use mathlib.Core.Path.{◌≡◌, refl, sym, ◌∙◌, ap}
use mathlib.Core.Logic.{inl, inr}
use mathlib.Core.List.{List}
use Prim.Native.Nat.{ℕ, ◌≤◌, ◌<◌}
use borrow.Author.Tests.{lt-leb, le-leb, lt-ltb, le-ltb}
use lib.ListN.{length}
use Rattle.std.specs.Prelude.{Ok, Err}
use Rattle.prelude.proofs.Tests.{lt_or_ge}
use Rattle.refusal.specs.Refusal.{refusal}
use Rattle.refusal.specs.declared.Cause.TheVariants.{TooLong, TrailingBytes}
use Rattle.refusal.specs.declared.Refusal.{Refusal}
use Rattle.network.specs.declared.Network.{Network}
use Rattle.line.specs.declared.Section.TheVariants.{Events, Signals, Rules, Reactions, Cases}
use Rattle.sheet.specs.Reading.{longest, Progress, Stop, Go, and_then, read_horizon_lem, read_section_lem, read_end}
use Rattle.sheet.specs.Reading.{read_optional_lem, progress, answered, read}
use Rattle.sheet.specs.declared.section.Reached.{Reached}
use Rattle.sheet.proofs.ReadLine.{stop-not-go}

module _ (sheet : List ℕ) where
  -- the reading as far as each section, and to the end
  abbrev pub to_events : Progress
  to_events = and_then (read_horizon_lem sheet) (read_section_lem sheet Events)

  abbrev pub to_signals : Progress
  to_signals = and_then to_events (read_section_lem sheet Signals)

  abbrev pub to_rules : Progress
  to_rules = and_then to_signals (read_section_lem sheet Rules)

  abbrev pub to_reactions : Progress
  to_reactions = and_then to_rules (read_optional_lem sheet Reactions)

  abbrev pub to_cases : Progress
  to_cases = and_then to_reactions (read_optional_lem sheet Cases)

  abbrev pub to_end : Progress
  to_end = and_then to_cases (read_end sheet)

  pub too_long : longest < length sheet → progress sheet ≡ Stop (refusal TooLong 0)
  unfolding progress
  too_long h = rw (lt-leb (length sheet) longest h, progress)

  pub in_length : length sheet ≤ longest → progress sheet ≡ to_end
  unfolding progress
  in_length h = rw (le-leb (length sheet) longest h, progress)

  pub by_length : (P : Progress → Type 0) → (longest < length sheet → P (Stop (refusal TooLong 0)))
      → (length sheet ≤ longest → P to_end) → P (progress sheet)
  by_length P f g =
      elim (lt_or_ge longest (length sheet)) [ inl h ↦ rw (too_long h) (f h) | inr h ↦ rw (in_length h) (g h) ]

  -- a sheet that was read is short enough
  pub within-length : (Γ : Network) (at k : ℕ) → progress sheet ≡ Go Γ at k
      → (length sheet ≤ longest) × (to_end ≡ Go Γ at k)
  within-length Γ at k e =
      elim (lt_or_ge longest (length sheet)) [
        | inl h ↦ stop-not-go (refusal TooLong 0) Γ at k (sym (too_long h) ∙ e)
        | inr h ↦ (h, sym (in_length h) ∙ e)
      ]

-- the sections from one on give what the whole sheet does
module _ (sheet : List ℕ) where
  abbrev pub from_cases : Network → ℕ → ℕ → Progress
  from_cases Γ at k = and_then (read_optional_lem sheet Cases Γ at k) (read_end sheet)

  abbrev pub from_reactions : Network → ℕ → ℕ → Progress
  from_reactions Γ at k = and_then (read_optional_lem sheet Reactions Γ at k) from_cases

  abbrev pub from_rules : Network → ℕ → ℕ → Progress
  from_rules Γ at k = and_then (read_section_lem sheet Rules Γ at k) from_reactions

  abbrev pub from_signals : Network → ℕ → ℕ → Progress
  from_signals Γ at k = and_then (read_section_lem sheet Signals Γ at k) from_rules

  abbrev pub from_events : Network → ℕ → ℕ → Progress
  from_events Γ at k = and_then (read_section_lem sheet Events Γ at k) from_signals

  -- two steps behind a third, as one
  joined : (p : Progress) (f g : Network → ℕ → ℕ → Progress)
      → and_then (and_then p f) g ≡ and_then p (λ Γ at k. and_then (f Γ at k) g)
  joined (Err r) f g = refl
  joined (Ok x) f g = refl

  pub begun : length sheet ≤ longest → read sheet ≡ answered (and_then (read_horizon_lem sheet) from_events)
  begun h =
      ap answered (in_length sheet h
      ∙ joined (to_reactions sheet) (read_optional_lem sheet Cases) (read_end sheet)
      ∙ joined (to_rules sheet) (read_optional_lem sheet Reactions) from_cases
      ∙ joined (to_signals sheet) (read_section_lem sheet Rules) from_reactions
      ∙ joined (to_events sheet) (read_section_lem sheet Signals) from_rules
      ∙ joined (read_horizon_lem sheet) (read_section_lem sheet Events) from_signals)

-- behind a place, these steps give what the whole sheet does
abbrev pub Leads : List ℕ → (List ℕ → Network → ℕ → ℕ → Progress) → Reached → Type 0
Leads sheet next x = read sheet ≡ answered (next sheet x.network x.at x.line)

-- where a step goes on, so does the whole sheet; and where it stops, the whole does
module _ (sheet : List ℕ) {p : Progress} (next : List ℕ → Network → ℕ → ℕ → Progress)
    (is : read sheet ≡ answered (and_then p (next sheet))) where
  pub went_on : {x : Reached} → Ok x ≡ p → Leads sheet next x
  went_on e = is ∙ ap (λ (q : Progress). answered (and_then q (next sheet))) (sym e)

  pub stopped : {r : Refusal} → Err r ≡ p → read sheet ≡ Err r
  stopped e = is ∙ ap (λ (q : Progress). answered (and_then q (next sheet))) (sym e)

-- the end of the sheet
module _ (sheet : List ℕ) (Γ : Network) (at k : ℕ) where
  pub end_stops : at < length sheet → read_end sheet Γ at k ≡ Err (refusal TrailingBytes k)
  end_stops h = rw (lt-ltb at (length sheet) h)

  pub end_goes : length sheet ≤ at → read_end sheet Γ at k ≡ Go Γ at k
  end_goes h = rw (le-ltb at (length sheet) h)
