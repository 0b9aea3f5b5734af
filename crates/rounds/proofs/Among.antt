-- The bounds that are listed are between events of the sheet. Assumes nothing.
use mathlib.Core.Path.{◌≡◌}
use mathlib.Core.List.{List}
use Prim.Native.Nat.{ℕ}
use Rattle.std.proofs.lemmas.List.Elements.{All-nil}
use Rattle.network.specs.Build.{scenarios}
use Rattle.network.specs.WellFormed.{Proper}
use Rattle.network.specs.declared.Kind.{Kind}
use Rattle.network.specs.declared.Kind.TheVariants.{Max, Min}
use Rattle.network.specs.declared.Constraint.{Constraint}
use Rattle.network.specs.declared.Network.{Network}
use Rattle.bounds.specs.declared.bound.Bound.{Bound}
use Rattle.bounds.specs.declared.list.BoundList.{BoundList}
use Rattle.bounds.specs.Listed.{ByKind, case, EndsAmong, AllEndsAmong, Added}
use Rattle.bounds.proofs.Listed.{added-ends}

-- none is listed yet
pub none-among : (n : ℕ) (lists : List BoundList) → ((s : ℕ) → (case lists s).count ≡ 0) → AllEndsAmong n lists
none-among n lists h s = rw (h s) (All-nil (EndsAmong n))

-- the ends of a constraint's bound are events
by_kind-ends : {Γ : Network} (c : Constraint) → Proper Γ c → (b : Bound) (k : Kind) → ByKind k c b
    → EndsAmong Γ.events b
by_kind-ends c p b Max B = record { target_in = rw B.target_is p.from; source_in = rw B.source_is p.to }
by_kind-ends c p b Min B = record { target_in = rw B.target_is p.to; source_in = rw B.source_is p.from }

-- one constraint more is listed
pub more-among : {Γ : Network} {lists lists' : List BoundList} (c : Constraint) → Proper Γ c → (b : Bound)
    → ByKind c.kind c b → Added c.label b lists lists' (scenarios Γ) → AllEndsAmong Γ.events lists
    → AllEndsAmong Γ.events lists'
more-among c p b B L = added-ends L (by_kind-ends c p b c.kind B)
