use mathlib.Core.Path.{◌≡◌}
use Prim.Native.Nat.{◌<◌}
use native.Mathlib.Omega.{arith}
use lib.Bits.{bit_xor, xor_lt}
use lib.ListN.{length}
use Rattle.std.proofs.lemmas.List.{get_or_default}
use Rattle.network.specs.Build.{scenarios}
use Rattle.rows.specs.Known.{known_in, FirstKnown}
use Rattle.rows.specs.Rows.{Few, Sixteen, row_of}
use Rattle.rows.proofs.Framed.{scenarios_few}
use Rattle.rows.proofs.Gapless.{row_is}
use Rattle.bounds.specs.Listed.{none}
use Rattle.rounds.specs.Rounds.{held}
use Rattle.rounds.proofs.Raise.{ruled, ruled_is, across_start, raised-row}
use Rattle.rounds.proofs.Raised.{row_in}
use Rattle.rounds.proofs.Compiled.raised.Goals.{Start, After-raised-o, At-loop-d}
use Rattle.rounds.proofs.Compiled.raised.Goals as goal

in-s : (d : Start) → d.args.s < scenarios d.args.self.now.frame.network
in-s d = omega (arith, d.requires.0, d.args.self.now.frame.scenarios_are)

few : (d : Start) → d.args.s < 16
few d = omega (arith, d.requires.0, scenarios_few d.args.self.now.frame)

row_of_lem : (d : Start) → d.args.row.now ≡ row_of d.args.t.now d.args.s
row_of_lem d = row_is d.args.t.now d.args.s d.args.row.now d.told-t (few d) d.requires.2

times-few : (d : Start) → Few 10080 d.args.row.now
times-few d u l = omega (arith, d.requires.2.is u l, d.requires.1.few d.args.s u (in-s d) l)

firsts : (d : After-raised-o) → let Γ = d.args.self.now.frame.network in
    FirstKnown Γ.signals (known_in Γ (held Γ d.args.t.now) d.args.s) d.first_known.new.first
firsts d =
    let frame = d.args.self.now.frame in
    let e = (goal.at.After-raised-o d).Start in
    d.first_known.ensures (held frame.network d.args.t.now)
    (row_in frame.formed d.args.t.now d.args.s (in-s e) d.requires.2)

by-bounds : (d : After-raised-o) → Sixteen d.raised-o.result (ruled d.args.self.now.lists.now d.args.t.now d.args.s)
by-bounds d =
    let e = (goal.at.After-raised-o d).Start in
    let lists = d.args.self.now.lists.now in
    let inside : d.args.s < length lists = omega (arith, few e, d.args.self.now.compiled.0.sized) in
    ruled_is lists d.args.t.now d.args.s _ (get_or_default lists d.args.s d.index-self-s.result none inside)
    (row_of_lem e) d.raised-o.ensures

pub first_known-requires : goal.first_known-requires
first_known-requires c =
    let d = (goal.at.first_known-requires c).Start in
    (times-few d, few d)

pub listed : goal.listed
listed c = omega (arith, few (goal.at.listed c).Start, c.args.self.now.compiled.0.sized)

pub bounds-self-s : goal.bounds-self-s
bounds-self-s c = few (goal.at.bounds-self-s c).Start

pub raised-o-requires : goal.raised-o-requires
raised-o-requires c = times-few (goal.at.raised-o-requires c).Start

pub loop-d-init : goal.loop-d-init
loop-d-init c =
    let a = c.args in
    across_start a.self.now.lists.now a.t.now a.s c.first_known.new.first
    (by-bounds (goal.at.loop-d-init c).After-raised-o)

pub bounds-first-d : goal.bounds-first-d
bounds-first-d c = omega (arith, c.loop-d-test.true, scenarios_few c.args.self.now.frame)

pub raise_by_scenario-requires : goal.raise_by_scenario-requires
raise_by_scenario-requires c =
    let frame = c.args.self.now.frame in
    let Γ = frame.network in
    let d-in : c.loop-d.d < scenarios Γ = omega (arith, c.loop-d-test.true, frame.scenarios_are) in
    let start = (goal.at.raise_by_scenario-requires c).Start in
    let other : bit_xor c.args.s c.loop-d.d < scenarios Γ = xor_lt Γ.signals c.args.s c.loop-d.d (in-s start) d-in in
    omega (arith, other, frame.scenarios_are, scenarios_few frame)

pub clear_absent-requires : goal.clear_absent-requires
clear_absent-requires c = few (goal.at.clear_absent-requires c).Start

pub returns : goal.returns
returns c =
    let a = c.args in
    let frame = a.self.now.frame in
    let d = (goal.at.returns c).After-raised-o in
    let e : c.loop-d.d ≡ scenarios frame.network = omega (
      arith,
      c.loop-d.auto.d-end (omega (arith, c.requires.0)),
      c.loop-d-test.false,
      frame.scenarios_are,
    ) in
    raised-row a.self.now.lists.now a.t.now a.s frame.network (firsts d) (by-bounds d) (rw e at c.loop-d.invariant)
    c.clear_absent.ensures
