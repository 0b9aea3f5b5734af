-- Laws of reading a line, and so many lines. Assumes nothing.
use mathlib.Core.Path.{◌≡◌, refl, sym, ap}
use mathlib.Core.Bool.{Bool, true, false}
use mathlib.Core.Option.{Option, none, some}
use mathlib.Core.List.{List, ◌∷◌}
use Prim.Native.Nat.{ℕ, zero, suc}
use lib.ListN.{drop}
use Rattle.prelude.specs.Checks.{first_failing_lem}
use Rattle.prelude.proofs.Search.{some-not-none}
use Rattle.prelude.proofs.Tests.{zero-is-one}
use Rattle.text.specs.Lines.{line_at, ends_at, after_line, fields}
use Rattle.refusal.specs.Refusal.{refusal}
use Rattle.refusal.specs.declared.Cause.{Cause}
use Rattle.refusal.specs.declared.Cause.TheVariants as C
use Rattle.refusal.specs.declared.Refusal.{Refusal}
use Rattle.network.specs.declared.Network.{Network}
use Rattle.line.specs.Tests.{Tests, line_tests}
use Rattle.line.specs.Sections.{tests_of, with_line}
use Rattle.line.specs.declared.Section.{Section}
use Rattle.sheet.specs.Reading.{Progress, Stop, Go, on_line, stop_or, and_then, read_line, read_entries_lem}
use Rattle.sheet.specs.declared.section.Reached.{Reached}
use Rattle.std.specs.Prelude.{Result, Ok, Err}

-- a refusal is no network
pub stop-not-go {ℓ} : {A : Type ℓ} (r : Refusal) (Γ : Network) (at k : ℕ) → Stop r ≡ Go Γ at k → A
stop-not-go r Γ at k e = zero-is-one cc

-- what a line's answer with its number says of the answer
pub on_line-ok : {A : Type 0} (k : ℕ) (r : Result A Cause) (x : A) → ◌≡◌ {A = Result A Refusal} (Ok x) (on_line k r)
    → r ≡ Ok x
on_line-ok k (Ok y) x e = let same : x ≡ y = cc in ap Ok (sym same)
on_line-ok k (Err c) x e = zero-is-one cc

pub on_line-err : {A : Type 0} (k : ℕ) (r : Result A Cause) (d : Refusal)
    → ◌≡◌ {A = Result A Refusal} (Err d) (on_line k r) → (c : Cause) × (r ≡ Err c) × (d ≡ refusal c k)
on_line-err k (Ok y) d e = zero-is-one cc
on_line-err k (Err c) d e = (c, refl, cc)

-- a reading has come to one place
go : Reached → Progress → Reached
go d (Err r) = d
go d (Ok p) = p

pub go-same : (Γ Δ : Network) (at b k j : ℕ) → Go Γ at k ≡ Go Δ b j → (Γ ≡ Δ) × (at ≡ b) × (k ≡ j)
unfolding go
go-same Γ Δ at b k j e =
    let same = ap (go (record { network = Γ; at = at; line = k })) e in (
      ap (λ (p : Reached). p.network) same,
      ap (λ (p : Reached). p.at) same,
      ap (λ (p : Reached). p.line) same,
    )

-- what follows a section that was read
pub record Came (p : Progress) (next : Network → ℕ → ℕ → Progress) (q : Progress) : Type 0 where
  pub network : Network
  pub at : ℕ
  pub line : ℕ
  pub first : p ≡ Go network at line
  pub then : next network at line ≡ q

pub came : (p : Progress) (next : Network → ℕ → ℕ → Progress) (Γ : Network) (at k : ℕ)
    → and_then p next ≡ Go Γ at k → Came p next (Go Γ at k)
came (Err r) next Γ at k e = stop-not-go r Γ at k e
came (Ok p) next Γ at k e = record { network = p.network; at = p.at; line = p.line; first = refl; then = e }

module _ (sheet : List ℕ) (at k : ℕ) (ts : List (List ℕ) → Tests) where
  abbrev fs : List (List ℕ)
  fs = fields (line_at sheet at)

  abbrev pub refusal_at : Option Cause
  refusal_at = first_failing_lem (line_tests (drop at sheet) ts)

  -- a line that passes ends, and its fields pass
  pub record Passes : Type 0 where
    pub ends : ends_at sheet at ≡ true
    pub accepted : first_failing_lem (ts fs) ≡ none

  passing_line : (b : Bool) → first_failing_lem ((b, C.MissingLine) ∷ ts fs) ≡ none → (b ≡ true)
      × (first_failing_lem (ts fs) ≡ none)
  passing_line true e = (refl, e)
  passing_line false e = some-not-none C.MissingLine e

  pub passes : refusal_at ≡ none → Passes
  passes e = let w = passing_line (ends_at sheet at) e in record { ends = w.0; accepted = w.1 }

  module _ (next : List (List ℕ) → Progress) where
    pub read_line-stop : (c : Cause) → refusal_at ≡ some c → read_line sheet at k ts next ≡ Stop (refusal c k)
    read_line-stop c e = ap (λ (o : Option Cause). stop_or k o (next fs)) e

    pub read_line-on : refusal_at ≡ none → read_line sheet at k ts next ≡ next fs
    read_line-on e = ap (λ (o : Option Cause). stop_or k o (next fs)) e

    -- where a line led on, it passed
    pub record Went (p : Progress) : Type 0 where
      pub passed : Passes
      pub then : next fs ≡ p

    pub went : (Γ : Network) (a j : ℕ) → read_line sheet at k ts next ≡ Go Γ a j → Went (Go Γ a j)
    went Γ a j e = by-refusal refusal_at refl e
      where
        by-refusal : (o : Option Cause) → refusal_at ≡ o → stop_or k o (next fs) ≡ Go Γ a j → Went (Go Γ a j)
        by-refusal (some c) h e = stop-not-go (refusal c k) Γ a j e
        by-refusal none h e = record { passed = passes h; then = e }

-- what each line keeps that passes, all of them keep: P m is what holds before m lines
module _ (sheet : List ℕ) (s : Section) (P : ℕ → Network → ℕ → ℕ → Type 0) where
  abbrev pub Keeps : Type 0
  Keeps =
      (m : ℕ) (Γ : Network) (at k : ℕ) → P (suc m) Γ at k → Passes sheet at k (tests_of sheet s m Γ)
      → P m (with_line sheet s Γ at (fields (line_at sheet at))) (after_line sheet at) (suc k)

  pub entries-keep : Keeps → (m : ℕ) (Γ Δ : Network) (at k b j : ℕ) → P m Γ at k → read_entries_lem sheet s m Γ at k
      ≡ Go Δ b j → P 0 Δ b j
  entries-keep keep zero Γ Δ at k b j h e =
      let same = go-same Γ Δ at b k j e in
      rw (← same.0, ← same.1, ← same.2) h
  entries-keep keep (suc m) Γ Δ at k b j h e =
      let w = went sheet at k (tests_of sheet s m Γ)
      (λ fs. read_entries_lem sheet s m (with_line sheet s Γ at fs) (after_line sheet at) (suc k)) Δ b j e in
      entries-keep keep m (with_line sheet s Γ at (fields (line_at sheet at))) Δ (after_line sheet at) (suc k) b j
      (keep m Γ at k h w.passed) w.then
