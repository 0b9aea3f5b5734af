-- What a constraint says of the times of its two events (01, The sheet; 004, Definition 2).
use Rattle.std.specs.Prelude.{Bool, ◌&&◌, ℕ, suc, ◌+◌, ℤ, pos, negsuc, leb}
use Rattle.network.specs.Scenario.{satisfies}
use Rattle.network.specs.Happens.{happens}
use Rattle.network.specs.declared.Kind.{Kind}
use Rattle.network.specs.declared.Kind.TheVariants.{Max, Min}
use Rattle.network.specs.declared.Constraint.{Constraint}
use Rattle.network.specs.declared.Network.{Network}

-- "`to` comes at most limit minutes after `from`": b - a ≤ w, said without subtraction
abbrev pub at_most : ℕ → ℕ → ℤ → Bool
at_most a b (pos w) = leb b (a + w)
at_most a b (negsuc w) = leb (b + suc w) a

-- "the same difference is at least the limit": w ≤ b - a
abbrev pub at_least : ℕ → ℕ → ℤ → Bool
at_least a b (pos w) = leb (a + w) b
at_least a b (negsuc w) = leb a (b + suc w)

-- the time a of `from` and the time b of `to` keep the kind and its limit
abbrev pub admits : Kind → ℕ → ℕ → ℤ → Bool
admits Max a b w = at_most a b w
admits Min a b w = at_least a b w

-- the constraint counts in scenario s: its label holds there, and "A rule covers a case only if both its events happen
-- there" (02, point 6)
unfoldable pub covers : Network → Constraint → ℕ → Bool
covers Γ c s = satisfies s c.label && (happens Γ s c.from && happens Γ s c.to)
