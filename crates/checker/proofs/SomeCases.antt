-- Verdicts on events that only some cases have (02, point 6): one table, which one theorem covers by computation.
-- Assumes nothing.
use mathlib.Core.Path.{◌≡◌, refl}
use mathlib.Core.Bool.{true, false}
use mathlib.Core.List.{List, [], ◌∷◌}
use Prim.Native.Nat.{ℕ}
use lib.IntN.{pos}
use Rattle.network.specs.Limits as L
use Rattle.network.specs.Build.{with_reaction, with_label}
use Rattle.network.specs.Scenario.{satisfies}
use Rattle.network.specs.Happens.{happens}
use Rattle.network.specs.Constraint.{covers}
use Rattle.network.specs.Strategy.{reaction_of_lem}
use Rattle.network.specs.declared.Kind.TheVariants.{Max}
use Rattle.network.specs.declared.Constraint.{Constraint}
use Rattle.network.specs.declared.Network.{Network}
use Rattle.checker.specs.Verdict.{is_alike, verdict}
use Rattle.checker.specs.declared.Breach.TheVariants.{Late, Rule, Unheard}
use Rattle.checker.specs.declared.Verdict.TheVariants.{Pass, Breach as Breached}
use Rattle.checker.proofs.Examples.{network, rule, always, p, Example, example, given, expected}

-- a cell without its event
abbrev none : ℕ
none = L.blank

-- start, call and key, where p is given at call and the key is turned only where p is true
abbrev second_key : List Constraint → Network
second_key constraints = with_label (network 60 3 (1 ∷ []) constraints) 2 p

-- the same, with the key before the call in the sheet
abbrev key-before-call : Network
key-before-call = with_label (network 60 3 (2 ∷ []) []) 1 p

-- start, call, key and door, where p is given at call, and q at the key, which is turned only where p is true
abbrev key-tells : Network
key-tells = with_label (network 60 4 (1 ∷ 2 ∷ []) []) 2 p

abbrev examples : List Example
examples =
    -- the key is turned in case 1 only, so its two cells are not compared
    example (second_key []) (0 ∷ 5 ∷ none ∷ 0 ∷ 5 ∷ 6 ∷ []) Pass
    -- its cell is wrongly filled, with a minute or with 0, or wrongly blank
    ∷ example (second_key []) (0 ∷ 5 ∷ 6 ∷ 0 ∷ 5 ∷ 6 ∷ []) (Breached (Late 0 2))
    ∷ example (second_key []) (0 ∷ 5 ∷ 0 ∷ 0 ∷ 5 ∷ 6 ∷ []) (Breached (Late 0 2))
    ∷ example (second_key []) (0 ∷ 5 ∷ none ∷ 0 ∷ 5 ∷ none ∷ []) (Breached (Late 1 2))
    -- it comes sooner than its label's signal allows: in the minute of the call, or before the signal's reaction
    ∷ example (second_key []) (0 ∷ 5 ∷ none ∷ 0 ∷ 5 ∷ 5 ∷ []) (Breached (Late 1 2))
    ∷ example (with_reaction (second_key []) 0 3) (0 ∷ 5 ∷ none ∷ 0 ∷ 5 ∷ 7 ∷ []) (Breached (Late 1 2))
    ∷ example (with_reaction (second_key []) 0 3) (0 ∷ 5 ∷ none ∷ 0 ∷ 5 ∷ 8 ∷ []) Pass
    -- the call's cell is wrongly blank: what waits for it is late, too, and the lowest cell is named
    ∷ example key-before-call (0 ∷ none ∷ 59 ∷ 0 ∷ 60 ∷ 59 ∷ []) Pass
    ∷ example key-before-call (0 ∷ none ∷ 59 ∷ 0 ∷ 60 ∷ none ∷ []) (Breached (Late 1 1))
    -- a rule counts only where both its events happen
    ∷ example (second_key (rule Max 0 2 (pos 9) always ∷ [])) (0 ∷ 5 ∷ none ∷ 0 ∷ 5 ∷ 9 ∷ []) Pass
    ∷ example (second_key (rule Max 0 2 (pos 9) always ∷ [])) (0 ∷ 5 ∷ none ∷ 0 ∷ 5 ∷ 10 ∷ []) (Breached (Rule 1 0))
    -- q tells case 1 from case 3, where it is given, from minute 7 on
    ∷ example key-tells (0 ∷ 5 ∷ none ∷ 6 ∷ 0 ∷ 5 ∷ 6 ∷ 7 ∷ 0 ∷ 5 ∷ none ∷ 6 ∷ 0 ∷ 5 ∷ 6 ∷ 9 ∷ []) Pass
    -- and does not tell case 0 from case 2, where it is not given
    ∷ example key-tells (0 ∷ 5 ∷ none ∷ 60 ∷ 0 ∷ 5 ∷ 6 ∷ 7 ∷ 0 ∷ 5 ∷ none ∷ 59 ∷ 0 ∷ 5 ∷ 6 ∷ 9 ∷ [])
    (Breached (Unheard 0 2 3))
    -- events that happen in both cases are compared as ever
    ∷ example key-tells (0 ∷ 5 ∷ none ∷ 6 ∷ 0 ∷ 5 ∷ 6 ∷ 7 ∷ 0 ∷ 5 ∷ none ∷ 6 ∷ 0 ∷ 5 ∷ 7 ∷ 9 ∷ [])
    (Breached (Unheard 1 3 2))
    ∷ []

pub some-cases-agree : given examples ≡ expected examples
unfolding verdict satisfies happens covers reaction_of_lem
some-cases-agree = refl

-- in a table whose cells are blank where they must be, a signal that is not given is after every minute, and what
-- tells two cases apart is known before an event that one of them lacks; so these two are of the tests alone. q is not
-- given in case 0, though the key's cell there is filled; and the key, much too soon in case 1, is not in case 0
abbrev filled : List ℕ
filled = 0 ∷ 5 ∷ 6 ∷ 60 ∷ 0 ∷ 5 ∷ 6 ∷ 7 ∷ 0 ∷ 5 ∷ 6 ∷ 59 ∷ 0 ∷ 5 ∷ 6 ∷ 9 ∷ []

pub not-given : is_alike key-tells filled 0 2 3 ≡ false
unfolding satisfies happens reaction_of_lem
not-given = refl

pub in_one_case : is_alike (second_key []) (0 ∷ 60 ∷ none ∷ 0 ∷ 60 ∷ 6 ∷ []) 1 0 2 ≡ true
unfolding satisfies happens reaction_of_lem
in_one_case = refl
