-- Runs of small steps, and far lists, each in one table that one theorem covers by computation. Assumes nothing.
use mathlib.Core.Path.{◌≡◌, refl}
use mathlib.Core.Bool.{Bool, true, ◌&&◌, not}
use mathlib.Core.List.{List, [], ◌∷◌}
use Prim.Native.Nat.{ℕ, suc, ◌+◌, ◌-◌, min, max}
use lib.Dec.{eqb, leb}
use lib.ListN.{get_or}
use Rattle.prelude.specs.Bytes.{same}
use Rattle.fixpoint.specs.Run.{room, End, Rests, Passes, Spent, Run, run_from, run}
use Rattle.fixpoint.specs.Iterate.{iterate}
use Rattle.fixpoint.specs.Straight.{moved}

-- the second of two entries rises by one a round, up to the first
abbrev climb : List ℕ → List ℕ
climb t = get_or t 0 0 ∷ max (get_or t 1 0) (min (suc (get_or t 1 0)) (get_or t 0 0)) ∷ []

-- 0 at rest, 1 past the cap, 2 stopped
abbrev ended : End → ℕ
ended Rests = 0
ended Passes = 1
ended Spent = 2

abbrev is_run : Run → ℕ → ℕ → List ℕ → Bool
is_run r k e t = eqb r.rounds k && (eqb (ended r.end) e && same r.reached t)

abbrev all : List Bool → Bool
all [] = true
all (b ∷ bs) = b && all bs

pub small-runs :
    all
    -- from 0 to 3 in three rounds, and one that raises nothing
    (is_run (run climb (3 ∷ 3 ∷ []) (3 ∷ 0 ∷ [])) 4 0 (3 ∷ 3 ∷ [])
    -- the cap of each entry is its own: the third round passes 2
    ∷ is_run (run climb (3 ∷ 2 ∷ []) (3 ∷ 0 ∷ [])) 3 1 (3 ∷ 3 ∷ [])
    -- a floor over its cap passes in the first round, whatever the room elsewhere
    ∷ is_run (run climb (2 ∷ 9 ∷ []) (3 ∷ 0 ∷ [])) 1 1 (3 ∷ 1 ∷ [])
    -- a floor that asks for nothing takes one round
    ∷ is_run (run climb (0 ∷ 0 ∷ []) (0 ∷ 0 ∷ [])) 1 0 (0 ∷ 0 ∷ [])
    -- a budget of two rounds leaves what they reached
    ∷ is_run (run_from climb (3 ∷ 3 ∷ []) 0 2 (3 ∷ 0 ∷ [])) 2 2 (3 ∷ 2 ∷ [])
    ∷ eqb (room (3 ∷ 2 ∷ []) (3 ∷ 0 ∷ [])) 2
    ∷ []) ≡ true
small-runs = refl

-- a ring of two behind an entry that rests: a raise of one goes round in two rounds
abbrev ring : List ℕ → List ℕ
ring t = get_or t 0 0 ∷ max (get_or t 1 0) (suc (get_or t 2 0)) ∷ max (get_or t 2 0) (get_or t 1 0) ∷ []

-- the first entry rises by two a round, the second by one, and is never more than ten behind the first
abbrev chase : List ℕ → List ℕ
chase t = (2 + get_or t 0 0) ∷ max (1 + get_or t 1 0) (2 + get_or t 0 0 - 10) ∷ []

-- where both of its entries are j moves on, and where the first is j leads ahead of the second's pace
abbrev moves : ℕ → List ℕ
moves j = moved (0 ∷ 0 ∷ []) j (λ i. get_or (2 ∷ 1 ∷ []) i 0)

abbrev ahead : ℕ → List ℕ
ahead j = moved (0 ∷ 0 ∷ []) j (λ i. get_or (2 ∷ 1 ∷ []) i 0 - 1)

pub far-lists :
    all
    -- two rounds of the ring add one to each of its entries, and six add three
    (same (iterate 2 ring (0 ∷ 1 ∷ 1 ∷ [])) (0 ∷ 2 ∷ 2 ∷ [])
    ∷ same (iterate 6 ring (0 ∷ 1 ∷ 1 ∷ [])) (moved (0 ∷ 1 ∷ 1 ∷ []) 3 (λ i. get_or (0 ∷ 1 ∷ 1 ∷ []) i 0))
    -- it passes a cap of three in round seven
    ∷ is_run (run ring (0 ∷ 3 ∷ 3 ∷ []) (0 ∷ 0 ∷ 0 ∷ [])) 7 1 (0 ∷ 4 ∷ 3 ∷ [])
    -- the first entry does not push the second in the first ten rounds, and then it does; the far lists say just this
    ∷ same (iterate 10 chase (0 ∷ 0 ∷ [])) (moves 10)
    ∷ not (same (iterate 11 chase (0 ∷ 0 ∷ [])) (moves 11))
    ∷ leb (get_or (chase (ahead 9)) 1 0) 1
    ∷ not (leb (get_or (chase (ahead 10)) 1 0) 1)
    ∷ []) ≡ true
unfolding moved
far-lists = refl
