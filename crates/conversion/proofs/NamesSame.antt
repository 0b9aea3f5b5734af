-- A sheet, and the same with `fix` read as `max`: while both have the same bytes where the names of a network's events
-- stand, the same events are found in both, and so the tests of a line with the same fields are alike. Assumes nothing.
use mathlib.Core.Path.{◌≡◌, refl, sym, ◌∙◌, ap}
use mathlib.Core.Logic.{inl, inr}
use mathlib.Core.List.{List}
use Prim.Native.Nat.{ℕ, zero, suc, ◌≤◌, ◌<◌}
use native.Mathlib.Omega.{arith}
use lib.ListN.{length, get_or, take, drop, set, length-set, get_or-eq_default}
use lib.Seq.{take-take, get_or-set_same, get_or-set_other}
use Rattle.prelude.specs.Search.{when}
use Rattle.prelude.specs.Bytes.{same}
use Rattle.prelude.proofs.Search.{first_below-same}
use Rattle.prelude.proofs.Tests.{lt_or_ge, eq_or_ne}
use Rattle.text.specs.Lines.{line_feed, up_to, field}
use Rattle.text.proofs.Lines.{take_up_to}
use Rattle.network.specs.Build.{with_event, name_of_lem}
use Rattle.network.specs.declared.Network.{Network}
use Rattle.line.specs.Tests.{Tests, event_of, event_tests, signal_tests, rule_tests, rule_tests_by, ends_tests}
use Rattle.line.specs.Tests.{placed_tests, label_tests}
use Rattle.line.specs.Sections.{tests_of, entry_of}
use Rattle.line.specs.declared.Section.{Section}
use Rattle.line.specs.declared.Section.TheVariants.{Events, Signals, Rules, Reactions, Cases}

pub record NamesSame (sheet other : List ℕ) (Γ : Network) : Type 0 where
  pub sized : length Γ.starts ≡ length Γ.lengths
  pub name : (u : ℕ) → u < Γ.events → name_of_lem Γ sheet u ≡ name_of_lem Γ other u

module _ {sheet other : List ℕ} {Γ : Network} (n : NamesSame sheet other Γ) where
  pub event_same : (f : List ℕ) → event_of sheet Γ f ≡ event_of other Γ f
  event_same f =
      first_below-same (λ u. when (same (name_of_lem Γ sheet u) f) u) (λ u. when (same (name_of_lem Γ other u) f) u)
      Γ.events (λ u l. ap (λ (x : List ℕ). when (same x f) u) (n.name u l))

  pub own_alike : (s : Section) (m : ℕ) (fs : List (List ℕ)) → tests_of sheet s m Γ fs ≡ tests_of other s m Γ fs
  unfolding event_tests signal_tests rule_tests ends_tests label_tests placed_tests
  own_alike Events m fs = rw (event_same (field 0 fs)) refl
  own_alike Signals m fs = rw (event_same (field 1 fs)) refl
  own_alike Rules m fs = rw (event_same (field 1 fs), event_same (field 2 fs)) refl
  own_alike Reactions m fs = refl
  own_alike Cases zero fs = rw (event_same (field 0 fs)) refl
  own_alike Cases (suc m) fs = rw (event_same (field 0 fs)) refl

  pub rule_alike : (kinds : List ℕ → Tests) (fs : List (List ℕ))
      → rule_tests_by sheet Γ kinds fs ≡ rule_tests_by other Γ kinds fs
  unfolding ends_tests
  rule_alike kinds fs = rw (event_same (field 1 fs), event_same (field 2 fs)) refl

  pub entry_same : (s : Section) (fs : List (List ℕ)) → entry_of sheet s Γ fs ≡ entry_of other s Γ fs
  entry_same Events fs = refl
  entry_same Signals fs = rw (event_same (field 1 fs)) refl
  entry_same Rules fs = rw (event_same (field 1 fs), event_same (field 2 fs)) refl
  entry_same Reactions fs = refl
  entry_same Cases fs = rw (event_same (field 0 fs)) refl

-- one event more, whose name is the same part of both
module _ {sheet other : List ℕ} {Γ : Network} (n : NamesSame sheet other Γ) where
  pub event-name : (at len : ℕ) → take len (drop at sheet) ≡ take len (drop at other)
      → NamesSame sheet other (with_event Γ at len)
  event-name at len part = record {
    sized = omega (arith, n.sized, length-set Γ.starts Γ.events at, length-set Γ.lengths Γ.events len);
    name = λ u l. elim (eq_or_ne u Γ.events) [
      | inl e ↦ rw e last
      | inr d ↦
          rw (get_or-set_other Γ.starts Γ.events u at 0 d, get_or-set_other Γ.lengths Γ.events u len 0 d)
          (n.name u (omega arith))
    ];
  }
    where
      last : name_of_lem (with_event Γ at len) sheet Γ.events ≡ name_of_lem (with_event Γ at len) other Γ.events
      last =
          elim (lt_or_ge Γ.events (length Γ.lengths)) [
            | inl l ↦
                rw (
                  get_or-set_same Γ.starts Γ.events at 0 (omega (arith, n.sized)),
                  get_or-set_same Γ.lengths Γ.events len 0 l,
                )
                part
            | inr l ↦
                let none : get_or (set Γ.lengths Γ.events len) Γ.events 0 ≡ 0 =
                get_or-eq_default (set Γ.lengths Γ.events len) 0 {n = Γ.events}
                (omega (arith, length-set Γ.lengths Γ.events len)) in
                rw none refl
          ]

-- a first part of a line is the same part of both, where the line is
pub part-same : (s t : List ℕ) (len : ℕ) → len ≤ length (up_to line_feed s) → up_to line_feed t ≡ up_to line_feed s
    → take len s ≡ take len t
part-same s t len h e =
    let x = up_to line_feed s in
    let y = up_to line_feed t in
    let there : len ≤ length y = omega (arith, ap length e) in
    sym (take-take len (length x) s h) ∙ ap (take len) (take_up_to line_feed s ∙ sym e ∙ sym (take_up_to line_feed t))
    ∙ take-take len (length y) t there
