-- Tables moved on, cell by cell. t is a table of times, d one of rises.
use Rattle.std.specs.Prelude.{◌≡◌, ◌⊎◌, cond, eqb, ◌||◌, List, ℕ, ◌+◌, ◌-◌, ◌*◌, ◌%◌, ◌≤◌, ◌<◌, min, length, get_or}
use Rattle.network.specs.Limits as L

-- what of a rise is above lo, and at most hi of that
abbrev pub part_of : ℕ → ℕ → ℕ → ℕ
part_of lo hi x = min (x - lo) hi

-- o is t moved on j times by the part of d between lo and hi; no time is over h, and event 0 stays at 0
pub record Placed (t d : List ℕ) (lo hi j h cells : ℕ) (o : List ℕ) : Type 0 where
  pub at : (i : ℕ) → i < cells → get_or o i 0 ≡ get_or t i 0 + j * part_of lo hi (get_or d i 0)
  pub low : (i : ℕ) → i < cells → get_or o i 0 ≤ h
  pub origin : (i : ℕ) → i < cells → i % L.events ≡ 0 → get_or o i 0 ≡ 0

-- some time so moved on is over h, or is one of event 0 and over 0
pub record TooFar (t d : List ℕ) (lo hi j h cells : ℕ) : Type 0 where
  pub cell : ℕ
  pub inside : cell < cells
  pub over : (h < get_or t cell 0 + j * part_of lo hi (get_or d cell 0))
      ⊎ ((cell % L.events ≡ 0) × (0 < get_or t cell 0 + j * part_of lo hi (get_or d cell 0)))

-- each time whose rise is l has gone at least `least` and at most `most` from t to o
pub record Between (t d : List ℕ) (l least most : ℕ) (o : List ℕ) (cells : ℕ) : Type 0 where
  pub at : (i : ℕ) → i < cells → get_or d i 0 ≡ l
      → (get_or t i 0 + least ≤ get_or o i 0) × (get_or o i 0 ≤ get_or t i 0 + most)

-- some time whose rise is l has gone less than `least` or more than `most`
pub record Outside (t d : List ℕ) (l least most : ℕ) (o : List ℕ) (cells : ℕ) : Type 0 where
  pub cell : ℕ
  pub inside : cell < cells
  pub level : get_or d cell 0 ≡ l
  pub gone : (get_or o cell 0 < get_or t cell 0 + least) ⊎ (get_or t cell 0 + most < get_or o cell 0)

-- a rise clipped: the highest stays and none stays none, and any other is m
abbrev pub clipped_lem : ℕ → ℕ → ℕ → ℕ
clipped_lem top m r = cond (eqb r 0 || eqb r top) r m

-- o has the rises of d, clipped: so it has some only where d has, and none over a horizon where d's is not
pub record Clipped (d : List ℕ) (top m cells : ℕ) (o : List ℕ) : Type 0 where
  pub sized : length o ≡ L.cells
  pub at : (i : ℕ) → i < cells → get_or o i 0 ≡ clipped_lem top m (get_or d i 0)
  pub low : (i : ℕ) → i < cells → get_or d i 0 ≤ L.horizon → get_or o i 0 ≤ L.horizon
  pub none : (i : ℕ) → i < cells → get_or d i 0 ≡ 0 → get_or o i 0 ≡ 0
