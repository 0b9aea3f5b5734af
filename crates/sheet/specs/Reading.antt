-- The whole sheet: its sections in order, and the first line at fault (01, The sheet and Refused sheets; 02, points
-- 3 and 6).
use Rattle.std.specs.Prelude.{◌≡◌, Bool, true, false, not, cond, List, [], ◌∷◌, ℕ, zero, suc, ltb, leb, length, drop}
use Rattle.std.specs.Prelude.{Result, Ok, Err}
use Rattle.std.proofs.Math.Option.{Option, none, some}
use Rattle.prelude.specs.Checks.{first_failing_lem}
use Rattle.text.specs.Lines.{line_at, after_line, fields}
use Rattle.refusal.specs.Refusal.{refusal}
use Rattle.refusal.specs.declared.Cause.{Cause}
use Rattle.refusal.specs.declared.Cause.TheVariants as C
use Rattle.refusal.specs.declared.Refusal.{Refusal}
use Rattle.network.specs.Build.{empty}
use Rattle.network.specs.declared.Network.{Network}
use Rattle.line.specs.Tests.{Tests, line_tests, second_number}
use Rattle.line.specs.Sections.{heading_of_lem, horizon_heading, heading_tests, tests_of, with_line}
use Rattle.line.specs.declared.Section.{Section}
use Rattle.line.specs.declared.Section.TheVariants.{Events, Signals, Rules, Reactions, Cases}
use Rattle.sheet.specs.declared.section.Reached.{Reached}

-- "longer than 4,096 bytes"
abbrev pub longest : ℕ
longest = 4096

-- the sheet has come so far: refused, or a network, the place of the next line and its number
abbrev pub Progress : Type 0
Progress = Result Reached Refusal

abbrev pub Stop : Refusal → Progress
Stop r = Err r

abbrev pub Go : Network → ℕ → ℕ → Progress
Go Γ at k = Ok (record { network = Γ; at = at; line = k })

abbrev pub and_then : Progress → (Network → ℕ → ℕ → Progress) → Progress
and_then (Err r) next = Err r
and_then (Ok p) next = next p.network p.at p.line

-- what a line says, or why it is refused, with its number
abbrev pub on_line : {A : Type 0} → ℕ → Result A Cause → Result A Refusal
on_line k (Err c) = Err (refusal c k)
on_line k (Ok x) = Ok x

-- refused on line k, or what follows
abbrev pub stop_or : ℕ → Option Cause → Progress → Progress
stop_or k (some c) p = Stop (refusal c k)
stop_or k none p = p

module _ (sheet : List ℕ) where
  -- the line at this place, line k of the sheet: it has to pass its tests; then what follows
  abbrev pub read_line : ℕ → ℕ → (List (List ℕ) → Tests) → (List (List ℕ) → Progress) → Progress
  read_line at k ts next =
      stop_or k (first_failing_lem (line_tests (drop at sheet) ts)) (next (fields (line_at sheet at)))

  -- so many lines of a section, each told how many more stand behind it
  abbrev pub read_entries_lem : Section → ℕ → Network → ℕ → ℕ → Progress
  read_entries_lem s zero Γ at k = Go Γ at k
  read_entries_lem s (suc m) Γ at k =
      read_line at k (tests_of sheet s m Γ)
      (λ fs. read_entries_lem s m (with_line sheet s Γ at fs) (after_line sheet at) (suc k))

  -- a section: its heading, and then as many lines as that counts
  abbrev pub read_section_lem : Section → Network → ℕ → ℕ → Progress
  read_section_lem s Γ at k =
      read_line at k (heading_tests (heading_of_lem Γ.events s))
      (λ fs. read_entries_lem s (second_number fs) Γ (after_line sheet at) (suc k))

  -- the horizon, which is the first line
  abbrev pub read_horizon_lem : Progress
  read_horizon_lem =
      read_line 0 1 (heading_tests horizon_heading) (λ fs. Go (empty (second_number fs)) (after_line sheet 0) 2)

  -- bytes stand from here on
  abbrev pub follows : ℕ → Bool
  follows at = ltb at (length sheet)

  -- a section that may be absent: any byte that stands here begins it
  abbrev pub read_optional_lem : Section → Network → ℕ → ℕ → Progress
  read_optional_lem s Γ at k = cond (follows at) (read_section_lem s Γ at k) (Go Γ at k)

  -- bytes behind the last section; "the line is the one that they begin"
  abbrev pub end_tests : ℕ → Tests
  end_tests at = (not (follows at), C.TrailingBytes) ∷ []

  abbrev pub read_end : Network → ℕ → ℕ → Progress
  read_end Γ at k = stop_or k (first_failing_lem (end_tests at)) (Go Γ at k)

  -- "Lines are read from the top and the first line at fault decides"
  unfoldable pub progress : Progress
  progress =
      elim (leb (length sheet) longest) [
        | false ↦ Stop (refusal C.TooLong 0)
        | true ↦
            and_then (and_then (and_then (and_then (and_then (and_then read_horizon_lem (read_section_lem Events))
            (read_section_lem Signals))
            (read_section_lem Rules))
            (read_optional_lem Reactions))
            (read_optional_lem Cases))
            read_end
      ]

-- what a sheet is read into, or why it is refused
abbrev pub answered : Progress → Result Network Refusal
answered (Err r) = Err r
answered (Ok p) = Ok p.network

abbrev pub read : List ℕ → Result Network Refusal
read sheet = answered (progress sheet)

-- the network of a sheet that is accepted; for one that is refused an empty one stands here
abbrev pub network_in : Result Network Refusal → Network
network_in (Err r) = empty 0
network_in (Ok Γ) = Γ

abbrev pub network_of : List ℕ → Network
network_of sheet = network_in (read sheet)

-- the sheet is accepted
abbrev pub Accepts : List ℕ → Type 0
Accepts sheet = read sheet ≡ Ok (network_of sheet)
