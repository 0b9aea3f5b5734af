-- Laws of the reactions as they are written: whether one is counted; the line of each; and the section, where there are
-- any or labels follow. Assumes nothing.
use mathlib.Core.Path.{◌≡◌, sym, ◌∙◌, ap}
use mathlib.Core.Bool.{not}
use mathlib.Core.List.{List, [], ◌∷◌, ◌++◌, append-nil}
use Prim.Native.Nat.{ℕ, ◌+◌, ◌≤◌}
use native.Mathlib.Omega.{arith}
use borrow.Author.Tests.{ne_eqb}
use lib.Dec.{eqb}
use lib.ListN.{length, take}
use Rattle.std.proofs.Common.{count_by}
use Rattle.prelude.specs.Bytes.{ascii}
use Rattle.text.specs.Lines.{comma, line_feed, line}
use Rattle.text.specs.Decimal.{decimal}
use Rattle.page.specs.Joined.{join_from}
use Rattle.page.specs.Pushed.{Pushed}
use Rattle.page.proofs.Pushed.{pushed_as}
use Rattle.network.specs.Limits as L
use Rattle.network.specs.Build.{letter}
use Rattle.network.specs.Strategy.{reaction, reaction_of_lem}
use Rattle.network.specs.declared.Network.{Network}
use Rattle.layout.specs.Layout.{reaction_line, reactions_text}
use Rattle.canonical.specs.Listed.{slow_by, slow_at, slow_of, before_labels}
use Rattle.layout.specs.Most.{most_count, most_reactions}
use Rattle.canonical.proofs.Gathered.{line_by, counted_gathered, gathered_pushed}
use Rattle.canonical.proofs.Listed.{before-some}

module _ (b x : ℕ) where
  pub slow_line : (x ≡ L.fastest → ⊥) → b ∷ comma ∷ decimal x ++ line_feed ∷ [] ≡ line_by reaction_line (slow_by b x)
  slow_line n = rw (ne_eqb x L.fastest n) (sym (append-nil _))

module _ (Γ : Network) where
  -- how many of the stated reactions are listed
  pub slow_counted : Γ.signals ≤ length Γ.reactions
      → count_by (λ x. not (eqb (reaction_of_lem x) L.fastest)) (take Γ.signals Γ.reactions) ≡ length (slow_of Γ)
  slow_counted h =
      counted_gathered (λ x. eqb (reaction_of_lem x) L.fastest)
      (λ p. record { letter = letter Γ p; minutes = reaction Γ p }) Γ.reactions 0 Γ.signals h

  -- where any is listed or a label follows, the first line and theirs
  pub slow_pushed : (labelled n : ℕ) → n ≡ length (slow_of Γ) → (n ≡ 0 → labelled ≡ 0 → ⊥)
      → {k : ℕ} {b m a : List ℕ}
      → Pushed (most_count 9) b (line (ascii "reactions") (decimal n ∷ [])) m
      → Pushed k m (join_from 0 Γ.signals (λ p. line_by reaction_line (slow_at Γ p))) a
      → most_count 9 + k ≤ most_reactions
      → Pushed most_reactions b (reactions_text (before_labels labelled (slow_of Γ))) a
  slow_pushed labelled n c h first rest fits =
      pushed_as (sym (ap reactions_text (before-some labelled (slow_of Γ) (λ e. h (c ∙ e)))))
      (gathered_pushed (slow_at Γ) reaction_line "reactions" Γ.signals n c first rest fits) (omega arith)
