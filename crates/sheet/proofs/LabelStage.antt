-- A line of the section `cases` that passes keeps the stage of the sheet: it is said of an event, its letters are
-- signals, and with the last of them no label lacks anything. Assumes nothing.
use mathlib.Core.Path.{◌≡◌, refl}
use mathlib.Core.Logic.{inl, inr}
use mathlib.Core.Bool.{true, false}
use mathlib.Core.Option
use mathlib.Core.List.{List}
use Prim.Native.Nat.{ℕ, zero, suc, ◌<◌}
use native.Mathlib.Omega.{arith}
use lib.ListN.{get_or, replicate, set}
use lib.Seq.{get_or-set_same, get_or-set_other}
use Rattle.prelude.specs.Search.{answers}
use Rattle.prelude.proofs.Tests.{eq_or_ne, and-true}
use Rattle.text.specs.Lines.{line_at, after_line, fields, field}
use Rattle.text.proofs.Lines.{line-inside}
use Rattle.network.specs.Limits as L
use Rattle.network.specs.Build.{no_label, empty, event_label}
use Rattle.network.specs.WellFormed.{Lettered, Labels}
use Rattle.network.specs.declared.Label.{Label}
use Rattle.network.specs.declared.Network.{Network}
use Rattle.names.specs.Names.{label_of, letters_of}
use Rattle.names.specs.Defined.{all_defined_lem, mask_of}
use Rattle.names.proofs.Finds.{finds_answer}
use Rattle.names.proofs.Labels.{sum_is}
use Rattle.line.specs.Tests.{event_of, placed_tests, label_tests}
use Rattle.line.specs.Labelling.{Read, whole_tests}
use Rattle.line.specs.Sections.{tests_of, with_line}
use Rattle.line.specs.declared.Section.TheVariants.{Cases}
use Rattle.line.proofs.Checks.{all_hold, holds-before, holds-behind}
use Rattle.line.proofs.Labelling.{whole_iff}
use Rattle.sheet.specs.Stage.{labelling, to_come, Stage}
use Rattle.sheet.proofs.Passing.{is_named}
use Rattle.sheet.proofs.ReadLine.{Passes}
use Rattle.sheet.proofs.Stages.{forming_instead}
use Rattle.sheet.proofs.Arrays.{arrays-label}

-- an empty network has no label
replicated : (x : Label) (n u : ℕ) → get_or (replicate n x) u x ≡ x
replicated x zero u = refl
replicated x (suc n) zero = refl
replicated x (suc n) (suc u) = replicated x n u

pub label-empty : (h u : ℕ) → event_label (empty h) u ≡ no_label
label-empty h u = replicated no_label L.events u

-- the fields of the line at a place
abbrev cells : List ℕ → ℕ → List (List ℕ)
cells sheet at = fields (line_at sheet at)

module _ (sheet : List ℕ) (Γ : Network) (at k : ℕ) where
  abbrev event : ℕ
  event = Option.get_or (event_of sheet Γ (field 0 (cells sheet at))) 0

  -- the event that a line names which passes, and its label
  pub record Placed : Type 0 where
    pub is_event : event < Γ.events
    pub lettered : Lettered Γ (mask_of Γ.signals Γ.letters (label_of (field 1 (cells sheet at))))

  module _ (m : ℕ) (g : Stage sheet (to_come Cases (suc m)) Γ at k) (p : Passes sheet at k (label_tests sheet Γ)) where
    pub placed : Placed
    unfolding placed_tests label_tests
    placed =
        let fs = cells sheet at in
        let ls = label_of (field 1 fs) in
        let holds = all_hold (label_tests sheet Γ fs) p.accepted in
        let known = and-true (answers (event_of sheet Γ (field 0 fs)))
        (all_defined_lem Γ.signals Γ.letters (letters_of ls)) (holds 3) in
        let few = g.forming.signals in
        record {
          is_event = (finds_answer (is_named sheet Γ (field 0 fs)) Γ.events 0 known.0).index_lt;
          lettered = record {
            positive = (sum_is Γ.signals Γ.letters true ls few known.1 (holds 4)).below;
            negative = (sum_is Γ.signals Γ.letters false ls few known.1 (holds 4)).below;
          };
        }

    -- all but what is asked of all labels
    pub label-read : Read (with_line sheet Cases Γ at (cells sheet at))
    label-read =
        let w = g.forming in
        let ℓ = mask_of Γ.signals Γ.letters (label_of (field 1 (cells sheet at))) in
        let x = placed in
        forming_instead Γ Γ.reactions (set Γ.labels event ℓ) (set Γ.labelled event true) w
        (arrays-label w.arrays event ℓ) w.in_range_lem
        (λ u.
        elim (eq_or_ne u event) [
          | inl e ↦
              rw (e, get_or-set_same Γ.labels event ℓ no_label (omega (arith, x.is_event, w.events, w.arrays.labels)))
              x.lettered
          | inr n ↦ rw (get_or-set_other Γ.labels event u ℓ no_label n) (w.lettered u)
        ])
        tt

-- a line that passes, passes by itself
pub own_passes : (sheet : List ℕ) (Γ : Network) (at k m : ℕ) → Passes sheet at k (tests_of sheet Cases m Γ)
    → Passes sheet at k (label_tests sheet Γ)
own_passes sheet Γ at k zero p = record {
  ends = p.ends;
  accepted = holds-before (label_tests sheet Γ (cells sheet at)) _ p.accepted;
}
own_passes sheet Γ at k (suc m) p = p

pub stage_label : (sheet : List ℕ) (Γ : Network) (at k m : ℕ) → Stage sheet (to_come Cases (suc m)) Γ at k
    → Passes sheet at k (tests_of sheet Cases m Γ)
    → Stage sheet (to_come Cases m) (with_line sheet Cases Γ at (cells sheet at)) (after_line sheet at) (suc k)
stage_label sheet Γ at k m g p =
    let own = own_passes sheet Γ at k m p in
    let Δ = with_line sheet Cases Γ at (cells sheet at) in
    let R = label-read sheet Γ at k m g own in
    record {
      forming = forming_instead Δ Δ.reactions Δ.labels Δ.labelled R R.arrays R.in_range_lem R.lettered
          (by_lines m p R);
      named = record { inside = g.named.inside; short = g.named.short };
      inside = line-inside sheet at p.ends;
      line = omega (arith, g.line);
    }
  where
    by_lines : (m : ℕ) → Passes sheet at k (tests_of sheet Cases m Γ)
        → Read (with_line sheet Cases Γ at (cells sheet at))
        → Labels (labelling m) (with_line sheet Cases Γ at (cells sheet at))
    by_lines zero p R =
        let fs = cells sheet at in
        let Δ = with_line sheet Cases Γ at fs in
        (whole_iff Δ R).0 (holds-behind (label_tests sheet Γ fs) (whole_tests Δ) p.accepted)
    by_lines (suc m) p R = tt
