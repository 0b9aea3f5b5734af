-- What the definitions say at the edges, in tables that one theorem each covers by computation. Assumes nothing.
use mathlib.Core.Path.{◌≡◌, refl}
use mathlib.Core.Bool.{Bool, true, false, ◌&&◌, beq}
use mathlib.Core.List.{List, [], ◌∷◌}
use Prim.Native.Nat.{ℕ, suc}
use lib.IntN.{ℤ, pos, negsuc}
use lib.Dec.{eqb}
use Rattle.network.specs.Build.{empty, with_event, with_signal, with_reaction, with_label, observation, scenarios}
use Rattle.network.specs.Build.{cells}
use Rattle.network.specs.Scenario.{truth, agree, satisfies}
use Rattle.network.specs.Happens.{happens, given, tells}
use Rattle.network.specs.Constraint.{admits, covers}
use Rattle.network.specs.Strategy.{reaction_of_lem, known_from, known}
use Rattle.network.specs.declared.Kind.{Kind}
use Rattle.network.specs.declared.Kind.TheVariants.{Max, Min}
use Rattle.network.specs.declared.Label.{Label}
use Rattle.network.specs.declared.Constraint.{Constraint}
use Rattle.network.specs.declared.Network.{Network}

abbrev all : List Bool → Bool
all [] = true
all (b ∷ bs) = b && all bs

-- a kind with a limit, the time of `from`, and three times of `to`: one before the limit, at it and behind it
pub record Row : Type 0 where
  pub kind : Kind
  pub bound : ℤ
  pub from : ℕ
  pub to : ℕ
  pub before : Bool
  pub there : Bool
  pub behind : Bool

abbrev row : Kind → ℤ → ℕ → ℕ → Bool → Bool → Bool → Row
row k w a b x y z = record { kind = k; bound = w; from = a; to = b; before = x; there = y; behind = z }

-- every kind, with a positive limit, none and a negative one
abbrev rows : List Row
rows =
    row Max (pos 5) 3 7 true true false
    ∷ row Max (pos 0) 3 2 true true false
    ∷ row Max (negsuc 4) 8 2 true true false
    ∷ row Min (pos 5) 3 7 false true true
    ∷ row Min (pos 0) 3 2 false true true
    ∷ row Min (negsuc 4) 8 2 false true true
    ∷ row Max (pos 10080) 0 10079 true true false
    ∷ row Min (negsuc 10079) 10081 0 false true true
    ∷ []

abbrev row_holds : Row → Bool
row_holds r =
    beq (admits r.kind r.from r.to r.bound) r.before
    && (beq (admits r.kind r.from (suc r.to) r.bound) r.there
    && beq (admits r.kind r.from (suc (suc r.to)) r.bound) r.behind)

abbrev all_rows : List Row → Bool
all_rows [] = true
all_rows (r ∷ rs) = row_holds r && all_rows rs

pub kinds_and_signs : all_rows rows ≡ true
kinds_and_signs = refl

-- p true and q false; p has weight 1, q has 2
abbrev p_not_q : Label
p_not_q = record { positive = 1; negative = 2 }

abbrev every_case : Label
every_case = record { positive = 0; negative = 0 }

-- an origin and a call, which gives the one signal
abbrev small : Network
small = with_signal (with_event (with_event (empty 60) 0 5) 6 4) 112 1

pub scenarios-and-signals :
    all
    (beq (truth 5 0) true
    ∷ beq (truth 5 1) false
    ∷ beq (truth 5 2) true
    ∷ beq (agree 5 1 2) false
    ∷ beq (agree 5 1 0) true
    ∷ beq (satisfies 0 p_not_q) false
    ∷ beq (satisfies 1 p_not_q) true
    ∷ beq (satisfies 2 p_not_q) false
    ∷ beq (satisfies 3 p_not_q) false
    ∷ beq (satisfies 13 p_not_q) true
    ∷ beq (satisfies 0 every_case && satisfies 15 every_case) true
    ∷ eqb (scenarios small) 2
    ∷ eqb (cells small) 4
    ∷ eqb (observation small 0) 1
    -- given at minute 5 in case 1, and known from minute 6 on
    ∷ eqb (known_from small (0 ∷ 9 ∷ 0 ∷ 5 ∷ []) 1 0) 6
    ∷ beq (known small (0 ∷ 9 ∷ 0 ∷ 5 ∷ []) 1 0 5) false
    ∷ beq (known small (0 ∷ 9 ∷ 0 ∷ 5 ∷ []) 1 0 6) true
    -- a line that gives 1 changes nothing; with one that gives 3 it is known from minute 8 on
    ∷ eqb (known_from (with_reaction small 0 1) (0 ∷ 9 ∷ 0 ∷ 5 ∷ []) 1 0) 6
    ∷ beq (known (with_reaction small 0 3) (0 ∷ 9 ∷ 0 ∷ 5 ∷ []) 1 0 7) false
    ∷ beq (known (with_reaction small 0 3) (0 ∷ 9 ∷ 0 ∷ 5 ∷ []) 1 0 8) true
    ∷ []) ≡ true
unfolding satisfies happens reaction_of_lem
scenarios-and-signals = refl

-- the call, which gives the signal p, happens where q is true and r is false; the start gives q, and a third event r
abbrev some-cases : Network
some-cases =
    with_label
    (with_signal (with_signal (with_signal (with_event (with_event (with_event (empty 60) 0 5) 6 4) 11 4) 112 1) 113 0)
    114 2)
    1 (record { positive = 2; negative = 4 })

-- a rule from the start to the call, for the cases where p is true
abbrev to_the_call : Constraint
to_the_call = record { kind = Max; from = 0; to = 1; bound = pos 5; label = record { positive = 1; negative = 0 } }

-- minute 7 in each case in which the call happens, and 65,535 in the others, of which 0 and 2 are shown
abbrev times : List ℕ
times = 0 ∷ 65535 ∷ 0 ∷ 0 ∷ 65535 ∷ 0 ∷ 0 ∷ 7 ∷ 0 ∷ []

pub labels-and-cases :
    all
    (beq (happens some-cases 0 0 && happens some-cases 7 0) true
    ∷ beq (happens some-cases 2 1 && happens some-cases 3 1) true
    ∷ beq (happens some-cases 0 1) false
    ∷ beq (happens some-cases 6 1) false
    ∷ beq (given some-cases 2 0) true
    ∷ beq (given some-cases 0 0) false
    -- p tells 2 from 3, where it is given, and does not tell 0 from 1
    ∷ beq (tells some-cases 2 3 0) true
    ∷ beq (tells some-cases 0 1 0) false
    -- a rule's own label, and its events
    ∷ beq (covers some-cases to_the_call 3) true
    ∷ beq (covers some-cases to_the_call 2) false
    ∷ beq (covers some-cases to_the_call 1) false
    -- what is not given is never known, not even long after 65,535
    ∷ beq (known some-cases times 2 0 7) false
    ∷ beq (known some-cases times 2 0 8) true
    ∷ beq (known some-cases times 0 0 70000) false
    ∷ []) ≡ true
unfolding satisfies happens reaction_of_lem covers
labels-and-cases = refl
