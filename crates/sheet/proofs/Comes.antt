-- The reading comes as far as each line holds its tests, and stops at the first of which one fails: a line, the lines
-- of a section, and the sections one behind the other. Assumes nothing.
use mathlib.Core.Path.{◌≡◌, refl, ap}
use mathlib.Core.Logic.{inl, inr}
use mathlib.Core.Bool.{Bool, true, false, cond}
use mathlib.Core.Option.{Option, none, some}
use mathlib.Core.List.{List}
use Prim.Native.Nat.{ℕ, zero, suc, ◌<◌}
use native.Mathlib.Omega.{arith}
use Rattle.std.specs.Prelude.{Ok, Err}
use Rattle.prelude.specs.Checks.{first_failing_lem, Hold, FirstFails}
use Rattle.prelude.proofs.Checks.{hold, first_fails}
use Rattle.prelude.proofs.Tests.{lt_or_ge}
use Rattle.text.specs.Lines.{line_at, after_line, fields}
use Rattle.refusal.specs.Refusal.{refusal}
use Rattle.refusal.specs.declared.Cause.{Cause}
use Rattle.network.specs.Build.{empty}
use Rattle.network.specs.declared.Network.{Network}
use Rattle.line.specs.Tests.{Tests, second_number}
use Rattle.line.specs.Sections.{with_line}
use Rattle.line.specs.declared.Section.{Section}
use Rattle.line.specs.declared.Section.TheVariants.{Events, Signals, Rules, Reactions, Cases}
use Rattle.sheet.specs.Reading.{Progress, Go, stop_or, and_then, read_entries_lem, read_section_lem}
use Rattle.sheet.specs.Reading.{read_horizon_lem}
use Rattle.sheet.specs.Reading.{follows, read_optional_lem}
use Rattle.sheet.specs.Place.{Expected, Horizon, Heading, Entry, NoMore, behind, entries, Place, tests_at}
use Rattle.sheet.specs.Place.{expected_after, defined_after, next, place, tests}
use Rattle.sheet.specs.Fault.{FirstFault}
use Rattle.sheet.proofs.Whole.{to_events, to_signals, to_rules, to_reactions, to_cases}

module _ (sheet : List ℕ) where
  -- line k begins at this place, and the lines above it pass
  pub record At (d : Expected) (Γ : Network) (at k : ℕ) : Type 0 where
    pub above : ℕ
    pub number : k ≡ suc above
    pub is : place sheet above ≡ record { expected = d; network = Γ; at = at }
    pub pass : (j : ℕ) → j < above → Hold (tests sheet j)

  -- the reading has come so far, to where this is expected, or it has stopped at the first fault
  abbrev pub Comes : (ℕ → Expected) → Progress → Type 0
  Comes d (Err r) = FirstFault sheet r
  Comes d (Ok p) = At (d p.at) p.network p.at p.line

  -- what is expected behind a section that ends here
  abbrev next_of : Section → ℕ → Expected
  next_of s at = behind s (follows sheet at)

  module _ (d : Expected) (Γ : Network) (at k : ℕ) (a : At d Γ at k) where
    own_tests : tests sheet a.above ≡ tests_at sheet d Γ at
    own_tests = ap (λ (p : Place). tests_at sheet p.expected p.network p.at) a.is

    pub stops : (c : Cause) → FirstFails (tests_at sheet d Γ at) c → FirstFault sheet (refusal c k)
    stops c f = record { above = a.above; line = a.number; pass = a.pass; fault = rw own_tests f }

    holds : Hold (tests_at sheet d Γ at) → (j : ℕ) → j < suc a.above → Hold (tests sheet j)
    holds h j l =
        elim (lt_or_ge j a.above) [
          | inl m ↦ a.pass j m
          | inr m ↦ let e : j ≡ a.above = omega arith in rw (e, own_tests) h
        ]

    goes_on : Hold (tests_at sheet d Γ at)
        → let fs = fields (line_at sheet at) in
        At (expected_after d (follows sheet (after_line sheet at)) fs) (defined_after sheet d Γ at fs)
        (after_line sheet at)
        (suc k)
    goes_on h = record {
      above = suc a.above;
      number = ap suc a.number;
      is = ap (next sheet) a.is;
      pass = holds h;
    }

  -- a line by its tests
  by-line : (d : ℕ → Expected) (k : ℕ) (ts : Tests) (p : Progress)
      → ((c : Cause) → FirstFails ts c → FirstFault sheet (refusal c k)) → (Hold ts → Comes d p)
      → Comes d (stop_or k (first_failing_lem ts) p)
  by-line d k ts p stop go = by-refusal (first_failing_lem ts) refl
    where
      by-refusal : (o : Option Cause) → first_failing_lem ts ≡ o → Comes d (stop_or k o p)
      by-refusal none e = go (hold ts e)
      by-refusal (some c) e = stop c (first_fails ts c e)

  entries_come : (s : Section) (m : ℕ) (Γ : Network) (at k : ℕ) → At (entries s (follows sheet at) m) Γ at k
      → Comes (next_of s) (read_entries_lem sheet s m Γ at k)
  entries_come s zero Γ at k a = a
  entries_come s (suc m) Γ at k a =
      by-line (next_of s) k (tests_at sheet (Entry s m) Γ at) _
      (stops (Entry s m) Γ at k a)
      (λ h. entries_come s m (with_line sheet s Γ at (fields (line_at sheet at))) (after_line sheet at) (suc k)
      (goes_on (Entry s m) Γ at k a h))

  section_comes : (s : Section) (Γ : Network) (at k : ℕ) → At (Heading s) Γ at k
      → Comes (next_of s) (read_section_lem sheet s Γ at k)
  section_comes s Γ at k a =
      by-line (next_of s) k (tests_at sheet (Heading s) Γ at) _
      (stops (Heading s) Γ at k a)
      (λ h. entries_come s (second_number (fields (line_at sheet at))) Γ (after_line sheet at) (suc k)
      (goes_on (Heading s) Γ at k a h))

  horizon_comes : Comes (λ at. Heading Events) (read_horizon_lem sheet)
  horizon_comes =
      let a : At Horizon (empty 0) 0 1 = record {
        above = 0;
        number = refl;
        is = refl;
        pass = λ j l. absurd
            (omega arith);
      } in
      by-line (λ at. Heading Events) 1 (tests_at sheet Horizon (empty 0) 0) _
      (stops Horizon (empty 0) 0 1 a)
      (goes_on Horizon (empty 0) 0 1 a)

  then_comes : (d e : ℕ → Expected) (p : Progress) (f : Network → ℕ → ℕ → Progress) → Comes d p
      → ((Γ : Network) (at k : ℕ) → At (d at) Γ at k → Comes e (f Γ at k)) → Comes e (and_then p f)
  then_comes d e (Err r) f c g = c
  then_comes d e (Ok p) f c g = g p.network p.at p.line c

  -- the last two sections may be absent: where bytes follow they are expected, and otherwise no more
  reactions_come : (Γ : Network) (at k : ℕ) → At (next_of Rules at) Γ at k
      → Comes (next_of Reactions) (read_optional_lem sheet Reactions Γ at k)
  reactions_come Γ at k a = by_bytes (follows sheet at) refl a
    where
      by_bytes : (more : Bool) → follows sheet at ≡ more → At (behind Rules more) Γ at k
          → Comes (next_of Reactions) (cond more (read_section_lem sheet Reactions Γ at k) (Go Γ at k))
      by_bytes true e a = section_comes Reactions Γ at k a
      by_bytes false e a = rw e a

  cases_come : (Γ : Network) (at k : ℕ) → At (next_of Reactions at) Γ at k
      → Comes (λ at. NoMore) (read_optional_lem sheet Cases Γ at k)
  cases_come Γ at k a = by_bytes (follows sheet at) a
    where
      by_bytes : (more : Bool) → At (behind Reactions more) Γ at k
          → Comes (λ at. NoMore) (cond more (read_section_lem sheet Cases Γ at k) (Go Γ at k))
      by_bytes true a = section_comes Cases Γ at k a
      by_bytes false a = a

  pub sections_come : Comes (λ at. NoMore) (to_cases sheet)
  sections_come =
      then_comes (next_of Reactions) (λ at. NoMore) (to_reactions sheet) (read_optional_lem sheet Cases)
      (then_comes (next_of Rules) (next_of Reactions) (to_rules sheet) (read_optional_lem sheet Reactions)
      (then_comes (λ at. Heading Rules) (next_of Rules) (to_signals sheet) (read_section_lem sheet Rules)
      (then_comes (λ at. Heading Signals) (λ at. Heading Rules) (to_events sheet) (read_section_lem sheet Signals)
      (then_comes (λ at. Heading Events) (λ at. Heading Signals) (read_horizon_lem sheet)
      (read_section_lem sheet Events)
      horizon_comes
      (section_comes Events))
      (section_comes Signals))
      (section_comes Rules))
      reactions_come)
      cases_come
