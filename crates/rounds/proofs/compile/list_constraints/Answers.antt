use mathlib.Core.Path.{◌≡◌, refl}
use Prim.Native.Nat.{◌<◌}
use native.Mathlib.Omega.{arith}
use lib.ListN.{get_or, take}
use Rattle.std.proofs.lemmas.List.{get_or-take, length-take}
use Rattle.network.specs.Build.{constraint, no_constraint}
use Rattle.network.specs.WellFormed.{Proper}
use Rattle.bounds.specs.Listed.{Listable}
use Rattle.rounds.specs.Compiled.{jointly}
use Rattle.rounds.proofs.Asking.{listable, jointly-proper, asking_as, listing_none, listing-next}
use Rattle.rounds.proofs.Among.{none-among, more-among}
use Rattle.rounds.proofs.compile.list_constraints.Goals.{In-loop-c}
use Rattle.rounds.proofs.compile.list_constraints.Goals as goal

pub loop-c-init : goal.loop-c-init
loop-c-init c =
    let Γ = c.args.frame.now.network in
    (listing_none Γ c.told-lists c.requires, none-among Γ.events _ c.requires)

within : (d : In-loop-c) → d.loop-c.c-index < d.args.frame.now.network.rules
within d =
    let Γ = d.args.frame.now.network in
    omega (arith, length-take Γ.rules Γ.constraints, d.loop-c-test.true)

-- what a turn takes is the rule of its number
rule : (d : In-loop-c) → let Γ = d.args.frame.now.network in
    get_or (take Γ.rules Γ.constraints) d.loop-c.c-index no_constraint ≡ constraint Γ d.loop-c.c-index
rule d =
    let Γ = d.args.frame.now.network in
    get_or-take Γ.rules Γ.constraints d.loop-c.c-index no_constraint (within d)

-- and it can be listed under its joint label
proper : (d : In-loop-c) → let Γ = d.args.frame.now.network in Proper Γ (jointly Γ (constraint Γ d.loop-c.c-index))
proper d =
    let W = d.args.frame.now.formed in
    jointly-proper W _ (W.proper d.loop-c.c-index (within d))

ready : (d : In-loop-c) → let Γ = d.args.frame.now.network in Listable (jointly Γ (constraint Γ d.loop-c.c-index))
ready d = listable d.args.frame.now.formed _ (proper d)

pub by_kind-requires : goal.by_kind-requires
by_kind-requires c =
    let d = (goal.at.by_kind-requires c).In-loop-c in
    rw (c.joined-joint.ensures, rule d) (ready d)

pub add-requires : goal.add-requires
add-requires c =
    let d = (goal.at.add-requires c).In-loop-c in (
      rw (c.joined-joint.ensures, rule d) (ready d).label,
      λ s. omega (arith, c.loop-c.invariant.0.short s, c.args.frame.now.formed.rules, within d),
    )

pub loop-c-preserved : goal.loop-c-preserved
loop-c-preserved c =
    let d = (goal.at.loop-c-preserved c).In-loop-c in
    let frame = c.args.frame.now in
    let here = c.loop-c.invariant in
    let b = c.by_kind.result in
    let is = rw (c.joined-joint.ensures, rule d) at c.by_kind.ensures in
    let added = rw (c.joined-joint.ensures, rule d, frame.scenarios_are) at c.add.ensures in (
      listing-next frame.network c.loop-c.c-index here.0 (proper d) b is added,
      more-among _ (proper d) b is added here.1,
    )

pub returns : goal.returns
returns c =
    let Γ = c.args.frame.now.network in
    let few = c.args.frame.now.formed in
    let e : c.loop-c.c-index ≡ Γ.rules = omega (
      arith,
      length-take Γ.rules Γ.constraints,
      few.arrays.constraints,
      few.rules,
      c.loop-c.auto,
      c.loop-c-test.false,
    ) in
    (asking_as (rw e at c.loop-c.invariant.0) (omega (arith, few.rules)) (λ σ s u. refl), c.loop-c.invariant.1)
