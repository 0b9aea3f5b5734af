-- Tables that rounds may go from. Assumes nothing.
use mathlib.Core.Path.{◌≡◌, ◌∙◌}
use mathlib.Core.List.{List}
use Prim.Native.Nat.{ℕ, ◌+◌, ◌*◌, ◌≤◌, ◌<◌}
use native.Mathlib.Nat.{mul-zero, zero-add}
use native.Mathlib.Omega.{arith}
use lib.ListN.{length, get_or}
use Rattle.network.specs.Build.{scenarios}
use Rattle.network.specs.declared.Network.{Network}
use Rattle.rows.specs.Rows.{Times, Wrote}
use Rattle.moves.specs.Moves.{part_of, Placed, Clipped}

module _ {Γ : Network} where
  -- those that are placed, clipped or written from such tables
  pub placed-times : {lo hi j h : ℕ} {t d o : List ℕ} → Times Γ t → Times Γ d
      → Placed t d lo hi j h (scenarios Γ * 16) o → length o ≡ 256 → h ≤ 10080 → Times Γ o
  placed-times {lo} {hi} {j} {t = t} {d} {o} T D P z l = record {
    sized = z;
    few = λ s u hs hu. omega (arith, P.low (s * 16 + u) (omega arith));
    beyond = λ s u hs hn hu. still (s * 16 + u) (omega arith) (T.beyond s u hs hn hu) (D.beyond s u hs hn hu);
    absent = λ s u hs hu e. still (s * 16 + u) (omega arith) (T.absent s u hs hu e) (D.absent s u hs hu e);
  }
    where
      -- a cell at zero that does not rise
      still : (i : ℕ) → i < scenarios Γ * 16 → get_or t i 0 ≡ 0 → get_or d i 0 ≡ 0 → get_or o i 0 ≡ 0
      still i b p q =
          let none : part_of lo hi (get_or d i 0) ≡ 0 = omega arith in
          let stays : j * part_of lo hi (get_or d i 0) ≡ 0 = rw none (mul-zero j) in
          omega (arith, P.at i b)

  pub clipped_times : {d o : List ℕ} {top m : ℕ} → Times Γ d → Clipped d top m (scenarios Γ * 16) o → Times Γ o
  clipped_times D C = record {
    sized = C.sized;
    few = λ s u hs hu. C.low (s * 16 + u) (omega arith) (D.few s u hs hu);
    beyond = λ s u hs hn hu. C.none (s * 16 + u) (omega arith) (D.beyond s u hs hn hu);
    absent = λ s u hs hu e. C.none (s * 16 + u) (omega arith) (D.absent s u hs hu e);
  }

-- what is written from the start on
pub wrote_at : {e₀ e : List ℕ} {n : ℕ} {f : ℕ → ℕ} → Wrote e₀ e 0 n f → (i : ℕ) → i < n → get_or e i 0 ≡ f i
wrote_at W i h = rw zero-add at (W.here i h)

-- written so that no number is greater than another table's
pub wrote-times : {Γ : Network} {x e₀ e : List ℕ} (f : ℕ → ℕ) → Times Γ x → length e₀ ≡ 256
    → Wrote e₀ e 0 (scenarios Γ * 16) f → ((i : ℕ) → i < scenarios Γ * 16 → f i ≤ get_or x i 0) → Times Γ e
wrote-times {Γ} {x} {e₀} {e} f X z W low = record {
  sized = W.sized ∙ z;
  few = λ s u hs hu. omega (arith, at_most (s * 16 + u) (omega arith), X.few s u hs hu);
  beyond = λ s u hs hn hu. omega (arith, at_most (s * 16 + u) (omega arith), X.beyond s u hs hn hu);
  absent = λ s u hs hu e. omega (arith, at_most (s * 16 + u) (omega arith), X.absent s u hs hu e);
}
  where
    at_most : (i : ℕ) → i < scenarios Γ * 16 → get_or e i 0 ≤ get_or x i 0
    at_most i h = omega (arith, wrote_at W i h, low i h)
