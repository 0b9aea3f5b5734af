-- What a line holds that passes by itself: there is room for it, with the last label all labels may be tested, and it
-- is what the line adds. Assumes nothing.
use mathlib.Core.Path.{◌≡◌, refl, ap}
use mathlib.Core.List.{List}
use Prim.Native.Nat.{ℕ, zero, suc, ◌-◌, ◌<◌}
use native.Mathlib.Omega.{arith}
use borrow.Author.Tests.{eqb-true, ne_eqb}
use lib.Dec.{eqb}
use lib.ListN.{length}
use Rattle.text.specs.Lines.{fields, line_at}
use Rattle.text.proofs.Fields.{only-field}
use Rattle.network.specs.Build.{with_event}
use Rattle.network.specs.declared.Network.{Network}
use Rattle.line.specs.Tests.{event_tests}
use Rattle.line.specs.Sections.{own_tests, entry_of, added, with_line}
use Rattle.line.specs.declared.Section.{Section}
use Rattle.line.specs.declared.Section.TheVariants.{Events, Signals, Rules, Reactions, Cases}
use Rattle.line.specs.declared.entry.Entry.{Entry}
use Rattle.line.proofs.Checks.{all_hold}
use Rattle.line.proofs.LabelRefusals.{later_tests}
use Rattle.sheet.specs.Turn.{Room, Testable, tests_behind}
use Rattle.sheet.proofs.ReadLine.{Passes}
use Rattle.sheet.proofs.Stages.{and_more-is}
use Rattle.sheet.proofs.ReactionStage.{reacting_signal}
use Rattle.sheet.proofs.LabelStage.{placed, label-read}
use Rattle.sheet.proofs.EntriesLeft.{Before}

pub testable_same : {x y : Entry} {Γ Δ : Network} → x ≡ y → Γ ≡ Δ → Testable x Γ → Testable y Δ
testable_same e d t = rw (← e, ← d) t

module _ (sheet : List ℕ) (Γ : Network) (at k : ℕ) where
  abbrev fs : List (List ℕ)
  fs = fields (line_at sheet at)

  pub room_of : (s : Section) (left : ℕ) → Before sheet s left Γ at k → 0 < left
      → Passes sheet at k (own_tests sheet s Γ) → Room (entry_of sheet s Γ fs) Γ
  room_of Events left g h p = omega (arith, g.forming.events, and_more-is Γ.events left)
  room_of Signals left g h p = omega (arith, g.forming.signals, and_more-is Γ.signals left)
  room_of Rules left g h p = omega (arith, g.forming.rules, and_more-is Γ.rules left)
  room_of Reactions left g h p = omega (arith, g.forming.signals, reacting_signal sheet Γ at k p)
  room_of Cases zero g h p = absurd (omega arith)
  room_of Cases (suc m) g h p = omega (arith, g.forming.events, (placed sheet Γ at k m g p).is_event)

  pub testable_of : (s : Section) (left : ℕ) → Before sheet s left Γ at k → 0 < left
      → Passes sheet at k (own_tests sheet s Γ) → Testable (entry_of sheet s Γ fs) (with_line sheet s Γ at fs)
  testable_of Events left g h p = tt
  testable_of Signals left g h p = tt
  testable_of Rules left g h p = tt
  testable_of Reactions left g h p = tt
  testable_of Cases zero g h p = absurd (omega arith)
  testable_of Cases (suc m) g h p = label-read sheet Γ at k m g p

  pub later-is : (s : Section) (left : ℕ) → 0 < left
      → later_tests sheet Γ s (left - 1) fs
      ≡ tests_behind (entry_of sheet s Γ fs) (eqb left 1) (with_line sheet s Γ at fs)
  later-is Events left h = refl
  later-is Signals left h = refl
  later-is Rules left h = refl
  later-is Reactions left h = refl
  later-is Cases zero h = absurd (omega arith)
  later-is Cases (suc zero) h = refl
  later-is Cases (suc (suc m)) h =
      let one : suc (suc m) - 1 ≡ suc m = omega arith in
      rw (one, ne_eqb (suc (suc m)) 1 (λ e. omega arith))

  -- what a line that passes adds is what it holds
  pub adds : (s : Section) → Passes sheet at k (own_tests sheet s Γ)
      → with_line sheet s Γ at fs ≡ added (entry_of sheet s Γ fs) Γ at (length (line_at sheet at))
  unfolding event_tests
  adds Events p =
      let one = eqb-true (length fs) 1 (all_hold (event_tests sheet Γ fs) p.accepted 0) in
      ap (λ (f : List ℕ). with_event Γ at (length f)) (only-field (line_at sheet at) one)
  adds Signals p = refl
  adds Rules p = refl
  adds Reactions p = refl
  adds Cases p = refl
