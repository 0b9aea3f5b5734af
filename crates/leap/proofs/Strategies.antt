-- What holds of a table's cells holds of the strategy that it holds. Assumes nothing.
use mathlib.Core.Path.{◌≡◌, sym, ◌∙◌}
use mathlib.Core.Logic.{inl, inr}
use mathlib.Core.Bool.{true}
use mathlib.Core.List.{List}
use Prim.Native.Nat.{ℕ, ◌+◌, ◌*◌, ◌%◌, ◌≤◌, ◌<◌}
use native.Mathlib.Nat.{mul-mod_left, add-zero}
use native.Mathlib.Omega.{arith}
use lib.ListN.{length, get_or}
use lib.Seq.{ext_get_or}
use Rattle.prelude.proofs.Tests.{lt_or_ge}
use Rattle.prelude.proofs.Cells.{by-cell, cell_lt, cell_of}
use Rattle.fixpoint.specs.Run.{within}
use Rattle.fixpoint.specs.Straight.{moved}
use Rattle.fixpoint.proofs.Moved.{length_moved, moved_at}
use Rattle.network.specs.Build.{scenarios, cells}
use Rattle.network.specs.declared.Network.{Network}
use Rattle.rows.specs.Rows.{Times}
use Rattle.rows.proofs.Gapless.{length-gapless, gapless-at}
use Rattle.rounds.specs.Cap.{cap}
use Rattle.rounds.specs.Rounds.{held}
use Rattle.rounds.proofs.Cap.{within_cap}
use Rattle.moves.specs.Moves.{part_of, Placed}
use Rattle.moves.specs.Levels.{SomeRise, NextLevel}

-- what is few at each row and column is few at each cell
cell-few : {Γ : Network} {e : List ℕ} → Times Γ e → (i : ℕ) → i < scenarios Γ * 16 → get_or e i 0 ≤ 10080
cell-few {Γ} E i l =
    let w = cell_of 16 (scenarios Γ) i (omega arith) in
    rw w.place (E.few w.row w.column w.row_lt w.column_lt)

-- the next level is the rise of a cell
pub level_few : {Γ : Network} {l r : ℕ} {d : List ℕ} → Times Γ d → NextLevel d l (scenarios Γ * 16) r → r ≤ 10080
level_few D N = let w = N.found in omega (arith, w.2, cell-few D w.0 w.1)

module _ (Γ : Network) (few : Γ.events ≤ 16) where
  pub held_at : (t : List ℕ) (s u : ℕ) → s < scenarios Γ → u < Γ.events
      → get_or (held Γ t) (s * Γ.events + u) 0 ≡ get_or t (s * 16 + u) 0
  held_at t s u hs hu = gapless-at Γ.events (scenarios Γ) t s u hs hu

  -- a strategy is what its cells are
  pub held_by : (t xs : List ℕ) → length xs ≡ cells Γ
      → ((s u : ℕ) → s < scenarios Γ → u < Γ.events → get_or t (s * 16 + u) 0 ≡ get_or xs
      (s * Γ.events + u) 0)
      → held Γ t ≡ xs
  held_by t xs l h =
      let n = length-gapless Γ.events (scenarios Γ) t in
      ext_get_or 0 (held Γ t) xs (n ∙ sym l) (λ i b.
      by-cell Γ.events (scenarios Γ) (λ i. get_or (held Γ t) i 0 ≡ get_or xs i 0)
      (λ s u hs hu. held_at t s u hs hu ∙ h s u hs hu) i (omega (arith, n)))

  -- what bounds each cell bounds each time
  pub held_low : (d : List ℕ) (l : ℕ) → ((i : ℕ) → i < scenarios Γ * 16 → get_or d i 0 ≤ l) → (i : ℕ)
      → i < Γ.events * scenarios Γ
      → get_or (held Γ d) i 0 ≤ l
  held_low d l h i b =
      by-cell Γ.events (scenarios Γ) (λ i. get_or (held Γ d) i 0 ≤ l)
      (λ s u hs hu. rw (held_at d s u hs hu) (h (s * 16 + u) (omega arith))) i b

  pub held-few : (d : List ℕ) → Times Γ d → (i : ℕ) → i < Γ.events * scenarios Γ
      → get_or (held Γ d) i 0 ≤ 10080
  held-few d D i b =
      by-cell Γ.events (scenarios Γ) (λ i. get_or (held Γ d) i 0 ≤ 10080)
      (λ s u hs hu. rw (held_at d s u hs hu) (D.few s u hs (omega arith))) i b

  -- equal cells
  pub held_same : (t u : List ℕ) → ((i : ℕ) → i < scenarios Γ * 16 → get_or t i 0 ≡ get_or u i 0)
      → held Γ t ≡ held Γ u
  held_same t u h =
      held_by t (held Γ u) (length-gapless Γ.events (scenarios Γ) u) (λ s v hs hv.
      h (s * 16 + v) (omega arith) ∙ sym (held_at u s v hs hv))

  -- a table that is placed holds a strategy that is moved on
  pub held_moved : {t d o : List ℕ} {lo hi j h : ℕ} → Placed t d lo hi j h (scenarios Γ * 16) o
      → held Γ o ≡ moved (held Γ t) j (λ i. part_of lo hi (get_or (held Γ d) i 0))
  held_moved {t} {d} {o} {lo} {hi} {j} P =
      let rise : ℕ → ℕ = λ i. part_of lo hi (get_or (held Γ d) i 0) in
      let m = length-gapless Γ.events (scenarios Γ) t in
      held_by o (moved (held Γ t) j rise) (length_moved (held Γ t) j rise ∙ m) (λ s u hs hu.
      let at-cell : s * Γ.events + u < length (held Γ t) = omega
      (arith, m, cell_lt Γ.events (scenarios Γ) s u hs hu) in
      P.at (s * 16 + u) (omega arith)
      ∙ sym (moved_at (held Γ t) j rise (s * Γ.events + u) at-cell
      ∙ rw (held_at t s u hs hu, held_at d s u hs hu)))

  -- and is within the limits
  pub placed-within : {t d o : List ℕ} {lo hi j : ℕ} → Times Γ o
      → Placed t d lo hi j Γ.horizon (scenarios Γ * 16) o → within (cap Γ) (held Γ o) ≡ true
  placed-within {o = o} T P = within_cap Γ (held Γ o) (λ s u hs hu.
      let inside : s * 16 + u < scenarios Γ * 16 = omega arith in
      let here = held_at o s u hs hu in
      record {
        in_horizon = rw here (P.low (s * 16 + u) inside);
        origin = λ z.
            let row : (s * 16 + u) % 16 ≡ 0 = rw (z, add-zero) (mul-mod_left s 16) in
            here ∙ P.origin (s * 16 + u) inside row;
        absent = λ e. here ∙ T.absent s u hs (omega arith) e;
      })

  -- where some rise of the table is not 0, some rise of the strategy is not
  pub some-cell : {d : List ℕ} → Times Γ d → SomeRise d (scenarios Γ * 16)
      → (c : ℕ) × (c < Γ.events * scenarios Γ) × (0 < get_or (held Γ d) c 0)
  some-cell {d} D S =
      let w = cell_of 16 (scenarios Γ) S.cell (omega (arith, S.inside)) in
      let up : 0 < get_or d (w.row * 16 + w.column) 0 = rw w.place at S.up in
      elim (lt_or_ge w.column Γ.events) [
        | inl h ↦ (
          w.row * Γ.events + w.column,
          cell_lt Γ.events (scenarios Γ) w.row w.column w.row_lt h,
          rw (held_at d w.row w.column w.row_lt h) up,
        )
        | inr h ↦ absurd (omega (arith, D.beyond w.row w.column w.row_lt h w.column_lt))
      ]
