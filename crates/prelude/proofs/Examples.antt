-- What the definitions say at the edges, in one table that one theorem covers by computation. Assumes nothing.
use mathlib.Core.Path.{◌≡◌, refl}
use mathlib.Core.Bool.{Bool, true, false, ◌&&◌, not}
use mathlib.Core.Option.{Option, get_or}
use mathlib.Core.List.{List, [], ◌∷◌}
use Prim.Native.Nat.{ℕ, ◌*◌, ◌-◌}
use lib.Dec.{eqb, leb}
use Rattle.prelude.specs.Search.{first_below, when, answers}
use Rattle.prelude.specs.Bounded.{all_below, max_below, sum_below, tabulate}
use Rattle.prelude.specs.Checks.{first_failing_lem}
use Rattle.prelude.specs.Bytes.{ascii, same, is_in, distinct}

abbrev all : List Bool → Bool
all [] = true
all (b ∷ bs) = b && all bs

-- the first number below n whose square is at least 10
abbrev large : ℕ → Option ℕ
large n = first_below n (λ i. when (leb 10 (i * i)) i)

pub edges :
    all
    (eqb (get_or (large 9) 0) 4
    ∷ not (answers (large 4))
    ∷ not (answers (large 0))
    ∷ all_below 0 (λ i. false)
    ∷ not (all_below 3 (λ i. eqb i 0))
    ∷ eqb (max_below 0 (λ i. 7)) 0
    ∷ eqb (max_below 4 (λ i. 3 - i)) 3
    ∷ eqb (sum_below 4 (λ i. i)) 6
    ∷ same (tabulate 3 (λ i. i * i)) (0 ∷ 1 ∷ 4 ∷ [])
    ∷ eqb (get_or (first_failing_lem ((true, 3) ∷ (false, 4) ∷ (false, 5) ∷ [])) 0) 4
    ∷ not (answers (first_failing_lem {A = ℕ} ((true, 3) ∷ [])))
    ∷ same (ascii "max") (109 ∷ 97 ∷ 120 ∷ [])
    ∷ not (same (ascii "max") (ascii "ma"))
    ∷ is_in 97 (ascii "max")
    ∷ distinct (ascii "pq")
    ∷ not (distinct (ascii "pqp"))
    ∷ []) ≡ true
edges = refl
