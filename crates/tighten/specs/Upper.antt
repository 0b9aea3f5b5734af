-- Every rule as an upper bound on a difference, an edge of the network's distance graph. Document 02, point 2, calls
-- them rows, since a sheet writes each as a `max` row.
use Rattle.std.specs.Prelude.{List, ℕ, ℤ, neg_ℤ}
use Rattle.prelude.specs.Bounded.{tabulate}
use Rattle.network.specs.Build.{constraint}
use Rattle.network.specs.declared.Kind.{Kind}
use Rattle.network.specs.declared.Kind.TheVariants.{Max, Min}
use Rattle.network.specs.declared.Label.{Label}
use Rattle.network.specs.declared.Constraint.{Constraint}
use Rattle.network.specs.declared.Network.{Network}

-- the upper bound that a sheet writes as `max,from,to,w,ℓ`
abbrev pub upper : ℕ → ℕ → ℤ → Label → Constraint
upper from to w ℓ = record { kind = Max; from = from; to = to; bound = w; label = ℓ }

-- a rule's ends and limit as they stand, and with swapped ends and the limit negated
abbrev pub forward : Constraint → Constraint
forward c = upper c.from c.to c.bound c.label

abbrev pub backward : Constraint → Constraint
backward c = upper c.to c.from (neg_ℤ c.bound) c.label

-- "All rules become `max` rows: a `min` swaps its ends and negates its limit"
abbrev pub by_kind : Kind → Constraint → Constraint
by_kind Max c = forward c
by_kind Min c = backward c

abbrev pub upper_of : Constraint → Constraint
upper_of c = by_kind c.kind c

-- those of all rules, in the sheet's order
abbrev pub uppers_of : Network → List Constraint
uppers_of Γ = tabulate Γ.rules (λ i. upper_of (constraint Γ i))
