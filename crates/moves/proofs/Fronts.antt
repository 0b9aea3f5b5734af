-- What is found of the first n numbers of tables, as slices, is found of the tables. Assumes nothing.
use mathlib.Core.Path.{◌≡◌, ap, ◌∙◌}
use mathlib.Core.List.{List}
use Prim.Native.Nat.{ℕ, ◌-◌, ◌*◌, ◌≤◌, ◌<◌}
use native.Mathlib.Omega.{arith}
use lib.ListN.{length, get_or, take, replicate, length-replicate}
use Rattle.std.proofs.lemmas.List.{get_or-take, length-take-le}
use Rattle.network.specs.Build.{scenarios}
use Rattle.network.specs.declared.Network.{Network}
use Rattle.rows.specs.Rows.{Times, Wrote}
use Rattle.moves.specs.Moves.{clipped_lem, Clipped}
use Rattle.moves.specs.Levels.{SomeRise}
use Rattle.moves.proofs.Moves.{clipped_times, wrote-times}

module _ {n : ℕ} where
  front_length : (t : List ℕ) → n ≤ length t → length (take n t) ≡ n
  front_length t h = length-take-le n t h

  module _ {Γ : Network} (e : n ≡ scenarios Γ * 16) where
    -- how far times rose from t
    pub rise-times : (t x : List ℕ) {d : List ℕ} → Times Γ x → n ≤ length t
        → Wrote (replicate 256 0) d 0 (length (take n t)) (λ i. get_or (take n x) i 0 - get_or (take n t) i 0)
        → Times Γ d
    rise-times t x X h W =
        let l : length (take n t) ≡ scenarios Γ * 16 = front_length t h ∙ e in
        wrote-times (λ i. get_or (take n x) i 0 - get_or (take n t) i 0) X (length-replicate {A = ℕ} 256 0)
        (rw l at W) (λ i b. omega (arith, get_or-take n x i 0 (omega arith)))

    pub clip-times : {d o : List ℕ} {top m : ℕ} → Times Γ d → n ≤ length d
        → Clipped (take n d) top m (length (take n d)) o → Times Γ o
    clip-times {d} {top = top} {m} D h C =
        let l = front_length d h in
        clipped_times D (record {
          sized = C.sized;
          at = λ i b.
              C.at i (omega arith) ∙ ap (clipped_lem top m) (get_or-take n d i 0 (omega arith));
          low = λ i b q. C.low i (omega arith) (omega (arith, get_or-take n d i 0 (omega arith)));
          none = λ i b q. C.none i (omega arith) (get_or-take n d i 0 (omega arith) ∙ q);
        })

  -- a slice written over another table
  pub copied : (b : List ℕ) {a v : List ℕ} → n ≤ length b → Wrote a v 0 (length (take n b)) (λ i. get_or (take n b) i 0)
      → Wrote a v 0 n (λ i. get_or b i 0)
  copied b h W =
      let l = front_length b h in
      record {
        sized = W.sized;
        here = λ u k. W.here u (omega arith) ∙ get_or-take n b u 0 k;
        other = rw l at W.other;
      }

  -- some rise is not 0
  pub some_risen : {d : List ℕ} → n ≤ length d → SomeRise (take n d) (length (take n d)) → SomeRise d n
  some_risen {d} h S =
      let b : S.cell < n = omega (arith, S.inside, front_length d h) in
      record { cell = S.cell; inside = b; up = omega (arith, S.up, get_or-take n d S.cell 0 b) }
