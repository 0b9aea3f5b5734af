-- What the round and its run say at the edges, in one table that one theorem covers by computation. Assumes nothing.
use Rattle.std.proofs.Common.{◌≡◌, ℕ, Bool, true, ◌&&◌, eqb, List, [], ◌∷◌, ℤ, pos, negsuc, refl}
use Rattle.prelude.specs.Bytes.{same}
use Rattle.fixpoint.specs.Run.{Run, End, Rests, Passes, Spent, run_from}
use Rattle.network.specs.Build.{empty, with_event, with_signal, with_rule, with_reaction, with_label}
use Rattle.network.specs.Scenario.{satisfies}
use Rattle.network.specs.Happens.{happens}
use Rattle.network.specs.Constraint.{covers}
use Rattle.network.specs.Strategy.{reaction_of_lem}
use Rattle.network.specs.declared.Kind.{Kind}
use Rattle.network.specs.declared.Kind.TheVariants.{Max, Min}
use Rattle.network.specs.declared.Constraint.{Constraint}
use Rattle.network.specs.declared.Network.{Network}
use Rattle.rounds.specs.Propagate.{least_from, least_to, propagate}
use Rattle.rounds.specs.Cap.{cap}
use Rattle.solver.specs.Masked.{masked}
use Rattle.solver.specs.Solve.{floor, solve, found}

abbrev all : List Bool → Bool
all [] = true
all (b ∷ bs) = b && all bs

-- a rule, with its label's two sums
abbrev rule : Kind → ℕ → ℕ → ℤ → ℕ → ℕ → Constraint
rule k u v w p n = record { kind = k; from = u; to = v; bound = w; label = record { positive = p; negative = n } }

-- document 01's first trial: start, call and door; p is given at call
abbrev safe : Network
safe =
    with_rule (with_rule (with_rule
    (with_signal (with_event (with_event (with_event (empty 60) 0 0) 0 0) 0 0) 112 1)
    (rule Min 0 1 (pos 5) 0 0))
    (rule Min 1 2 (pos 15) 1 0))
    (rule Max 0 2 (pos 30) 0 0)

-- the ring of document 02, point 8, with three events: it takes (3 - 1) × H + 1 rounds and has no table
abbrev ring : ℕ → Network
ring h =
    with_rule (with_rule (with_event (with_event (with_event (empty h) 0 0) 0 0) 0 0)
    (rule Min 1 2 (pos 0) 0 0))
    (rule Min 2 1 (pos 1) 0 0)

-- start alone, with a rule to itself
abbrev alone : ℤ → Network
alone w = with_rule (with_event (empty 60) 0 0) (rule Max 0 0 w 0 0)

-- the same with a key that turns where p is true, p trusted after three minutes: it waits for p
abbrev duress : Network
duress =
    with_label (with_reaction
    (with_rule (with_signal (with_event (with_event (with_event (empty 60) 0 0) 0 0) 0 0) 112 1)
    (rule Min 0 1 (pos 5) 0 0))
    0 3)
    2 (record { positive = 1; negative = 0 })

-- the call labelled with its own signal: it would have to wait for itself
abbrev own_signal : Network
own_signal = with_label duress 1 (record { positive = 1; negative = 0 })

-- how a run ended: 0 at rest, 1 past a limit, 2 stopped
abbrev ended : End → ℕ
ended Rests = 0
ended Passes = 1
ended Spent = 2

abbrev is_run : Run → ℕ → ℕ → List ℕ → Bool
is_run r k e t = eqb r.rounds k && (eqb (ended r.end) e && same r.reached t)

pub rounds-and-runs :
    all
    -- what a limit asks, by its sign
    (eqb (least_from 8 (pos 5)) 3
    ∷ eqb (least_from 3 (pos 5)) 0
    ∷ eqb (least_from 3 (negsuc 4)) 8
    ∷ eqb (least_to 3 (pos 5)) 8
    ∷ eqb (least_to 8 (negsuc 4)) 3
    ∷ eqb (least_to 3 (negsuc 4)) 0
    -- every cell is raised from the table before the round: the door waits for the call of this round
    ∷ same (propagate safe (0 ∷ 0 ∷ 0 ∷ 0 ∷ 0 ∷ 0 ∷ [])) (0 ∷ 5 ∷ 0 ∷ 0 ∷ 5 ∷ 15 ∷ [])
    ∷ same (propagate safe (0 ∷ 5 ∷ 0 ∷ 0 ∷ 5 ∷ 15 ∷ [])) (0 ∷ 5 ∷ 6 ∷ 0 ∷ 5 ∷ 20 ∷ [])
    -- the round that raises nothing counts, and so does the one that passes a limit
    ∷ is_run (solve safe) 3 0 (0 ∷ 5 ∷ 6 ∷ 0 ∷ 5 ∷ 20 ∷ [])
    ∷ is_run (solve (ring 4)) 9 1 (0 ∷ 5 ∷ 4 ∷ [])
    ∷ is_run (solve (alone (pos 0))) 1 0 (0 ∷ [])
    ∷ is_run (solve (alone (negsuc 0))) 1 1 (1 ∷ [])
    -- a budget that is used up leaves the floor reached so far
    -- a cell without its event stays at zero, and is handed out as a blank
    ∷ is_run (solve duress) 3 0 (0 ∷ 5 ∷ 0 ∷ 0 ∷ 5 ∷ 8 ∷ [])
    ∷ same (found duress) (0 ∷ 5 ∷ 65535 ∷ 0 ∷ 5 ∷ 8 ∷ [])
    ∷ eqb (ended (solve own_signal).end) 1
    ∷ is_run (run_from (propagate (ring 4)) (cap (ring 4)) 0 3 (floor (ring 4))) 3 2 (0 ∷ 2 ∷ 1 ∷ [])
    ∷ []) ≡ true
unfolding satisfies happens covers reaction_of_lem propagate masked solve
rounds-and-runs = refl
