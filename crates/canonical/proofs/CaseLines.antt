-- Laws of the labels of events as they are written: whether one is counted; the line of each; and the section, where
-- there are any. Assumes nothing.
use mathlib.Core.Path.{◌≡◌, sym, ◌∙◌, ap}
use mathlib.Core.Bool.{false, not}
use mathlib.Core.List.{List, [], ◌∷◌, append-nil, map, map-map}
use Prim.Native.Nat.{ℕ, ◌+◌, ◌≤◌}
use native.Mathlib.Omega.{arith}
use lib.ListN.{length, take, length-map}
use Rattle.std.proofs.Common.{count_by}
use Rattle.prelude.specs.Bytes.{ascii}
use Rattle.text.specs.Lines.{line}
use Rattle.text.specs.Decimal.{decimal}
use Rattle.page.specs.Joined.{join_from}
use Rattle.page.specs.Pushed.{Pushed}
use Rattle.page.proofs.Pushed.{pushed_as}
use Rattle.network.specs.Build.{no_label, event_label}
use Rattle.network.specs.declared.Network.{Network}
use Rattle.line.specs.Labelling.{is_none_lem}
use Rattle.layout.specs.Layout.{section, case_line, cases_text}
use Rattle.canonical.specs.Listed.{labelled_at, labelled_of, section_of}
use Rattle.canonical.specs.House.{as_case}
use Rattle.layout.specs.Most.{most_count, most_cases}
use Rattle.canonical.proofs.Gathered.{line_by, counted_gathered, gathered_pushed}
use Rattle.canonical.proofs.Listed.{section-some}

-- how many of the labels are listed
pub labelled-counted : (Γ : Network) → Γ.events ≤ length Γ.labels
    → count_by (λ ℓ. not (is_none_lem ℓ)) (take Γ.events Γ.labels) ≡ length (labelled_of Γ)
labelled-counted Γ h = counted_gathered is_none_lem (λ u. u) Γ.labels no_label Γ.events h

module _ (sheet : List ℕ) (Γ : Network) where
  -- the line of event u
  abbrev pub line_of : ℕ → List ℕ
  line_of u = case_line (as_case sheet Γ u)

  pub label-line : (u : ℕ) → is_none_lem (event_label Γ u) ≡ false → line_of u ≡ line_by line_of (labelled_at Γ u)
  label-line u n = rw n (sym (append-nil _))

  abbrev section_of_lem : List ℕ
  section_of_lem = cases_text (section_of (map (as_case sheet Γ) (labelled_of Γ)))

  -- where any is listed, the first line and theirs
  pub labels_pushed : (n : ℕ) → n ≡ length (labelled_of Γ) → (n ≡ 0 → ⊥) → {k : ℕ} {b m a : List ℕ}
      → Pushed (most_count 5) b (line (ascii "cases") (decimal n ∷ [])) m
      → Pushed k m (join_from 0 Γ.events (λ u. line_by line_of (labelled_at Γ u))) a
      → most_count 5 + k ≤ most_cases → Pushed most_cases b section_of_lem a
  labels_pushed n c h first rest fits =
      let ks = map (as_case sheet Γ) (labelled_of Γ) in
      let all : cases_text (section_of ks) ≡ section "cases" (map line_of (labelled_of Γ)) =
      ap cases_text (section-some ks (λ e. h (c ∙ sym (length-map (labelled_of Γ) (as_case sheet Γ)) ∙ e)))
      ∙ ap (section "cases") (map-map case_line (as_case sheet Γ) (labelled_of Γ)) in
      pushed_as (sym all)
      (gathered_pushed (labelled_at Γ) line_of "cases" Γ.events n c first rest fits) (omega arith)
