-- The network that a former sheet is read into holds what the sheet contains (`read_into`): the names of its events are
-- the same parts of the sheet and of the sheet with `fix` read as `max`. Assumes nothing.
use mathlib.Core.Path.{◌≡◌, refl, sym, ◌∙◌, ap, subst}
use mathlib.Core.Logic.{inr}
use mathlib.Core.Option.{Option, none, some}
use mathlib.Core.List.{List}
use Prim.Native.Nat.{ℕ}
use native.Mathlib.Omega.{arith}
use Rattle.std.specs.Prelude.{Ok, Err}
use Rattle.prelude.specs.Checks.{first_failing_lem}
use Rattle.prelude.proofs.Tests.{zero-is-one}
use Rattle.refusal.specs.Refusal.{refusal}
use Rattle.refusal.specs.declared.Cause.{Cause}
use Rattle.network.specs.declared.Network.{Network}
use Rattle.sheet.specs.Place.{NoMore, Place}
use Rattle.sheet.specs.Reading.{Progress, Go, stop_or, progress, answered, read_end, end_tests}
use Rattle.sheet.specs.Reading.{network_in, network_of, Accepts}
use Rattle.sheet.proofs.Comes.{At, Comes, sections_come}
use Rattle.sheet.proofs.ReadLine.{stop-not-go, go-same, came}
use Rattle.sheet.proofs.Whole.{to_cases, within-length}
use Rattle.layout.specs.Contains.{Contains}
use Rattle.layout.specs.Contents.{Contents}
use Rattle.layout.proofs.Accepted.{network-contains}
use Rattle.conversion.specs.FormerSheet.{FormerLayout, FormerContains}
use Rattle.conversion.specs.FormerRules.{read_as_max_lem}
use Rattle.conversion.proofs.Alongside.{along}
use Rattle.conversion.proofs.FormerLayout.{read-layout, former_iff}
use Rattle.conversion.proofs.NamesSame.{NamesSame}

-- the network of a sheet that is accepted is the one of the place behind its last line
record Ended (sheet : List ℕ) : Type 0 where
  at : ℕ
  line : ℕ
  comes : At sheet NoMore (network_of sheet) at line

ended : (sheet : List ℕ) → Accepts sheet → Ended sheet
ended sheet a = by_progress (progress sheet) a refl
  where
    -- the end of the sheet adds nothing
    end_same : (Γ Δ : Network) (at k b j : ℕ) → read_end sheet Γ at k ≡ Go Δ b j → Γ ≡ Δ
    end_same Γ Δ at k b j e = by_refusal (first_failing_lem (end_tests sheet at)) e
      where
        by_refusal : (o : Option Cause) → stop_or k o (Go Γ at k) ≡ Go Δ b j → Γ ≡ Δ
        by_refusal none e = (go-same Γ Δ at b k j e).0
        by_refusal (some c) e = stop-not-go (refusal c k) Δ b j e

    comes_at : (p : Progress) (Γ : Network) (at k : ℕ) → p ≡ Go Γ at k → Comes sheet (λ at. NoMore) p
        → At sheet NoMore Γ at k
    comes_at p Γ at k e c = subst (Comes sheet (λ at. NoMore)) e c

    by_progress : (p : Progress) → answered p ≡ Ok (network_in (answered p)) → progress sheet ≡ p → Ended sheet
    by_progress (Err r) a e = zero-is-one cc
    by_progress (Ok p) a e =
        let whole = (within-length sheet p.network p.at p.line e).1 in
        let w = came (to_cases sheet) (read_end sheet) p.network p.at p.line whole in
        let c = comes_at (to_cases sheet) w.network w.at w.line w.first (sections_come sheet) in
        let is : w.network ≡ network_of sheet =
        end_same w.network p.network w.at w.line p.at p.line w.then
        ∙ sym (ap (λ (q : Progress). network_in (answered q)) e) in
        record { at = w.at; line = w.line; comes = subst (λ (Γ : Network). At sheet NoMore Γ w.at w.line) is c }

-- a network holds the same contents of both where the names of its events are the same parts
moved : {sheet other : List ℕ} {Γ : Network} {c : Contents} → NamesSame sheet other Γ → Contains other Γ c
    → Contains sheet Γ c
moved n h = record {
  horizon = h.horizon;
  events = h.events;
  named = λ u l. n.name u (omega (arith, h.events)) ∙ h.named u l;
  signals = h.signals;
  lettered = h.lettered;
  observed = h.observed;
  rules = h.rules;
  means = h.means;
  reacts = h.reacts;
  unsaid = h.unsaid;
  labelled = h.labelled;
  unlabelled = h.unlabelled;
}

pub read_into : (sheet : List ℕ) (l : FormerLayout sheet)
    → FormerContains sheet (network_of (read_as_max_lem sheet)) l.contents
read_into sheet l =
    let s = read_as_max_lem sheet in
    let a = (ended s ((former_iff sheet).1 l)).comes in
    let along_side = along sheet a.above (λ j m. inr (a.pass j m)) in
    let there = ap (λ (p : Place). p.network) (sym along_side.same ∙ a.is) in
    moved (subst (NamesSame sheet s) there along_side.names) (network-contains s (read-layout sheet l))
