-- A loop that writes f 0, f 1, .. , each of at most `most` bytes and `total` of them, has come to n: what is written so
-- far is the definition at n. It begins by `pushing-none`, goes on by `pushing-next` and ends by `pushing-all`. Assumes
-- nothing.
use mathlib.Core.Path.{◌≡◌}
use mathlib.Core.List.{List}
use Prim.Native.Nat.{ℕ, ◌+◌, ◌*◌, ◌≤◌, ◌<◌}
use native.Mathlib.Omega.{arith}
use Rattle.page.specs.Joined.{join_from}
use Rattle.page.specs.Pushed.{Pushed}
use Rattle.page.proofs.Join.{join_more}
use Rattle.page.proofs.Pushed.{pushed-nothing, pushed_then}

pub record Pushing (most : ℕ) (f : ℕ → List ℕ) (total : ℕ) (before : List ℕ) (n : ℕ) (page : List ℕ) : Type 0 where
  pub within : n ≤ total
  pub done : Pushed (most * n) before (join_from 0 n f) page

module _ {most : ℕ} {f : ℕ → List ℕ} {total : ℕ} {before : List ℕ} where
  pub pushing-none : Pushing most f total before 0 before
  pushing-none =
      let none : most * 0 ≡ 0 = omega arith in
      record { within = omega arith; done = rw none (pushed-nothing before) }

  module _ {n : ℕ} {m : List ℕ} (here : Pushing most f total before n m) where
    pub pushing-next : {j : ℕ} {a : List ℕ} → n < total → Pushed j m (f n) a → j ≤ most
        → Pushing most f total before (n + 1) a
    pushing-next h g k =
        record { within = omega arith; done = rw (join_more f n) (pushed_then here.done g (omega arith)) }

    pub pushing-all : total ≤ n → Pushed (most * total) before (join_from 0 total f) m
    pushing-all h = let all : n ≡ total = omega arith in rw all at here.done
