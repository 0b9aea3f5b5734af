-- The upper bounds that remain, computed: key by key in their order, the tightest of each key that there is.
-- `remaining-is` and `remaining_unique` say that these are those of `Remaining`, and the only ones.
use Rattle.std.specs.Prelude.{true, false, cond, List, [], ◌∷◌, ℕ, ◌+◌, ◌*◌, eqb}
use Rattle.std.proofs.Math.Option.{Option, none, some}
use Rattle.std.specs.Int.Signed.{le_z}
use Rattle.prelude.specs.Gather.{gather}
use Rattle.network.specs.declared.Constraint.{Constraint}
use Rattle.network.specs.declared.Network.{Network}
use Rattle.tighten.specs.Upper.{uppers_of}

-- a key as one number, whose digits in base 16 are the parts of the key
abbrev pub rank : Constraint → ℕ
rank r = ((r.from * 16 + r.to) * 16 + r.label.positive) * 16 + r.label.negative

-- how many such numbers there are
abbrev pub ranks : ℕ
ranks = 65536

-- the one with the lesser limit
abbrev pub tighter : Constraint → Option Constraint → Constraint
tighter r none = r
tighter r (some q) = cond (le_z r.bound q.bound) r q

-- the tightest of those with this key, if there is one
abbrev pub tightest : List Constraint → ℕ → Option Constraint
tightest [] k = none
tightest (r ∷ rs) k =
    elim (eqb (rank r) k) [
      | true ↦ some (tighter r (tightest rs k))
      | false ↦ tightest rs k
    ]

unfoldable pub remaining : List Constraint → List Constraint
remaining rs = gather ranks (tightest rs)

abbrev pub remaining_of : Network → List Constraint
remaining_of Γ = remaining (uppers_of Γ)
