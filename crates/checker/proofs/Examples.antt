-- Verdicts at the edges of the three points: one table, which one theorem covers by computation. Assumes nothing.
use mathlib.Core.Path.{◌≡◌, refl}
use mathlib.Core.List.{List, [], ◌∷◌}
use Prim.Native.Nat.{ℕ, zero, suc}
use lib.IntN.{ℤ, pos, negsuc}
use Rattle.network.specs.Build.{empty, with_event, with_signal, with_rule}
use Rattle.network.specs.Scenario.{satisfies}
use Rattle.network.specs.Happens.{happens}
use Rattle.network.specs.Constraint.{covers}
use Rattle.network.specs.Strategy.{reaction_of_lem}
use Rattle.network.specs.declared.Kind.{Kind}
use Rattle.network.specs.declared.Kind.TheVariants.{Max, Min}
use Rattle.network.specs.declared.Label.{Label}
use Rattle.network.specs.declared.Constraint.{Constraint}
use Rattle.network.specs.declared.Network.{Network}
use Rattle.checker.specs.Verdict.{verdict}
use Rattle.checker.specs.declared.Breach.TheVariants.{Late, Rule, Unheard}
use Rattle.checker.specs.declared.Verdict.{Verdict}
use Rattle.checker.specs.declared.Verdict.TheVariants.{Pass, Breach as Breached}

-- a network by its horizon, its count of events, the observation event of each proposition, and its constraints; no
-- name matters here
abbrev with_events : ℕ → Network → Network
with_events zero Γ = Γ
with_events (suc n) Γ = with_events n (with_event Γ 0 0)

abbrev with_signals : List ℕ → Network → Network
with_signals [] Γ = Γ
with_signals (o ∷ os) Γ = with_signals os (with_signal Γ 0 o)

abbrev with_rules : List Constraint → Network → Network
with_rules [] Γ = Γ
with_rules (c ∷ cs) Γ = with_rules cs (with_rule Γ c)

abbrev pub network : ℕ → ℕ → List ℕ → List Constraint → Network
network horizon events observations constraints =
    with_rules constraints (with_signals observations (with_events events (empty horizon)))

abbrev pub rule : Kind → ℕ → ℕ → ℤ → Label → Constraint
rule k a b w ℓ = record { kind = k; from = a; to = b; bound = w; label = ℓ }

-- the labels `-`, `p` and `!p`, of the first proposition
abbrev pub always : Label
always = record { positive = 0; negative = 0 }

abbrev pub p : Label
p = record { positive = 1; negative = 0 }

abbrev not_p : Label
not_p = record { positive = 0; negative = 1 }

-- document 01's sheet: start, call and door, where p is given at call
abbrev safe : Network
safe = network 60 3 (1 ∷ []) (rule Min 0 1 (pos 5) always ∷ rule Min 1 2 (pos 15) p ∷ rule Max 0 2 (pos 30) always ∷ [])

-- start, an event, and one after it in the sheet that gives the only signal
abbrev heard-last : List Constraint → Network
heard-last constraints = network 60 3 (2 ∷ []) constraints

pub record Example : Type 0 where
  pub on : Network
  pub times : List ℕ
  pub judged : Verdict

abbrev pub example : Network → List ℕ → Verdict → Example
example Γ σ v = record { on = Γ; times = σ; judged = v }

abbrev examples : List Example
examples =
    -- document 01's listing passes
    example safe (0 ∷ 5 ∷ 6 ∷ 0 ∷ 5 ∷ 20 ∷ []) Pass
    -- a door at 5 uses the signal in the minute it is given
    ∷ example safe (0 ∷ 5 ∷ 5 ∷ 0 ∷ 5 ∷ 20 ∷ []) (Breached (Unheard 0 1 2))
    -- "With the signal at 5 and 2 in cases 0 and 1, and an event before it in the sheet at 3 and 4, the breach is
    -- cases 0, 1"
    ∷ example (heard-last []) (0 ∷ 3 ∷ 5 ∷ 0 ∷ 4 ∷ 2 ∷ []) (Breached (Unheard 0 1 1))
    -- the horizon itself is in time, and one minute more is late
    ∷ example (network 10 2 [] []) (0 ∷ 10 ∷ []) Pass
    ∷ example (network 10 2 [] []) (0 ∷ 11 ∷ []) (Breached (Late 0 1))
    -- a start at 1 is late though the horizon is far, and though it differs between the scenarios
    ∷ example (network 10 2 (1 ∷ []) []) (0 ∷ 1 ∷ 1 ∷ 1 ∷ []) (Breached (Late 1 0))
    -- the lowest cell, by scenario and then event
    ∷ example (network 10 2 (1 ∷ []) []) (0 ∷ 11 ∷ 1 ∷ 1 ∷ []) (Breached (Late 0 1))
    -- a constraint that only scenario 1 satisfies and breaks, after one that only scenario 0 does
    ∷ example (network 60 2 (0 ∷ []) (rule Max 0 1 (pos 9) not_p ∷ rule Max 0 1 (pos 5) p ∷ [])) (0 ∷ 9 ∷ 0 ∷ 6 ∷ [])
    (Breached (Rule 1 1))
    -- negative limits, which Max and Min take as they stand, and one limit from both sides
    ∷ example (network 60 2 [] (rule Max 1 0 (negsuc 4) always ∷ rule Min 1 0 (negsuc 5) always ∷ [])) (0 ∷ 5 ∷ []) Pass
    ∷ example (network 60 2 [] (rule Max 1 0 (negsuc 4) always ∷ [])) (0 ∷ 4 ∷ []) (Breached (Rule 0 0))
    ∷ example (network 60 2 [] (rule Min 1 0 (negsuc 4) always ∷ [])) (0 ∷ 6 ∷ []) (Breached (Rule 0 0))
    ∷ example
    (network 60 2 []
    (rule Max 0 1 (pos 5) always
    ∷ rule Min 0 1 (pos 5) always
    ∷ rule Max 0 1 (pos 6) always
    ∷ rule Min 0 1 (pos 6) always
    ∷ []))
    (0 ∷ 5 ∷ []) (Breached (Rule 0 3))
    -- "The first breach may stand between two cases that differ in two": no signal is known at 3, and scenario 3
    -- alone has 4
    ∷ example (network 60 4 (2 ∷ 3 ∷ []) [])
    (0 ∷ 3 ∷ 5 ∷ 5 ∷ 0 ∷ 3 ∷ 5 ∷ 5 ∷ 0 ∷ 3 ∷ 5 ∷ 5 ∷ 0 ∷ 4 ∷ 5 ∷ 5 ∷ []) (Breached (Unheard 0 3 1))
    -- a point is tried everywhere before the next: Late before Rule, and Rule before Unheard, though the later ones
    -- break sooner
    ∷ example (heard-last (rule Max 0 1 (pos 2) always ∷ [])) (0 ∷ 3 ∷ 5 ∷ 0 ∷ 4 ∷ 61 ∷ []) (Breached (Late 1 2))
    ∷ example (heard-last (rule Max 0 1 (pos 3) always ∷ [])) (0 ∷ 3 ∷ 5 ∷ 0 ∷ 4 ∷ 2 ∷ []) (Breached (Rule 1 0))
    ∷ []

-- the verdicts given, and those that the table has
abbrev pub given : List Example → List Verdict
given [] = []
given (e ∷ es) = verdict e.on e.times ∷ given es

abbrev pub expected : List Example → List Verdict
expected [] = []
expected (e ∷ es) = e.judged ∷ expected es

pub examples_agree : given examples ≡ expected examples
unfolding verdict satisfies happens covers reaction_of_lem
examples_agree = refl
