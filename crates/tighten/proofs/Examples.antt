-- Rules and upper bounds at the edges: one table, which one theorem covers by computation. Assumes nothing.
use mathlib.Core.Path.{◌≡◌, refl}
use mathlib.Core.Bool.{Bool, true, ◌&&◌}
use mathlib.Core.Option.{Option, none, some}
use mathlib.Core.List.{List, [], ◌∷◌}
use Prim.Native.Nat.{ℕ}
use lib.Dec.{eqb, ltb}
use lib.IntN.{ℤ, pos, negsuc}
use lib.Signed.{le_z}
use Rattle.network.specs.declared.Kind.{Kind}
use Rattle.network.specs.declared.Kind.TheVariants.{Max, Min}
use Rattle.network.specs.declared.Label.{Label}
use Rattle.network.specs.declared.Constraint.{Constraint}
use Rattle.tighten.specs.Upper.{upper, upper_of}
use Rattle.tighten.specs.Tightest.{rank, tightest}

abbrev label : ℕ → ℕ → Label
label positive negative = record { positive = positive; negative = negative }

-- from event 1 to event 2, in every case
abbrev rule : Kind → ℤ → Constraint
rule k w = record { kind = k; from = 1; to = 2; bound = w; label = label 0 0 }

-- the same ends, label and limit
abbrev same : Constraint → Constraint → Bool
same a b = eqb (rank a) (rank b) && (le_z a.bound b.bound && le_z b.bound a.bound)

abbrev is_some : Option Constraint → Constraint → Bool
is_some none r = eqb 0 1
is_some (some q) r = same q r

-- each before the next
abbrev rising : List Constraint → Bool
rising [] = true
rising (a ∷ []) = true
rising (a ∷ (b ∷ xs)) = ltb (rank a) (rank b) && rising (b ∷ xs)

-- the upper bound of each kind: 0 has no sign
abbrev kinds : Bool
kinds =
    same (upper_of (rule Max (pos 5))) (upper 1 2 (pos 5) (label 0 0))
    && (same (upper_of (rule Min (pos 5))) (upper 2 1 (negsuc 4) (label 0 0))
    && (same (upper_of (rule Min (negsuc 10079))) (upper 2 1 (pos 10080) (label 0 0))
    && same (upper_of (rule Min (pos 0))) (upper 2 1 (pos 0) (label 0 0))))

-- `from` decides before `to`, this before the true letters, and these before the false ones
abbrev order : Bool
order =
    rising
    (upper 0 3 (pos 9) (label 8 7)
    ∷ (upper 1 0 (pos 9) (label 0 15)
    ∷ (upper 1 0 (pos 1) (label 1 2)
    ∷ (upper 1 0 (pos 0) (label 1 4)
    ∷ (upper 1 0 (negsuc 4) (label 2 0)
    ∷ (upper 1 1 (pos 7) (label 0 0) ∷ []))))))

-- the least of three limits, between which another key stands
abbrev three : List Constraint
three =
    upper 1 2 (pos 5) (label 0 0)
    ∷ (upper 2 1 (negsuc 8) (label 0 0)
    ∷ (upper 1 2 (negsuc 2) (label 0 0) ∷ (upper 1 2 (pos 0) (label 0 0) ∷ [])))

abbrev least : Bool
least = is_some (tightest three (rank (upper 1 2 (pos 0) (label 0 0)))) (upper 1 2 (negsuc 2) (label 0 0))

pub examples_hold : kinds && (order && least) ≡ true
examples_hold = refl
