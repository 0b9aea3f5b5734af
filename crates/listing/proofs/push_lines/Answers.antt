use mathlib.Core.Path.{refl}
use Prim.Native.Nat.{ℕ, ◌+◌, ◌*◌, ◌^◌, ◌≤◌, ◌<◌}
use native.Mathlib.Nat.{mul-le-mul_right}
use native.Mathlib.Omega.{arith}
use borrow.Author.Rules.{rules}
use lib.ListN.{length, length-take}
use Rattle.text.proofs.Lines.{take-drop}
use Rattle.network.specs.Build.{scenarios}
use Rattle.page.proofs.Pushed.{pushed_as}
use Rattle.page.proofs.Pushing.{pushing-next, pushing-all}
use Rattle.listing.proofs.Fields.{line_of-table}
use Rattle.listing.proofs.Truths.{few-scenarios}
use Rattle.listing.proofs.push_lines.Goals as goal

pub push_line-requires : goal.push_line-requires
push_line-requires g c =
    let network = c.args.strategy.now.formed.now.network in
    let known = c.args.strategy.now.formed.now.well_formed in
    let before : c.loop-s.s < 2 ^ network.signals = omega arith in (
      search rules,
      (
        omega (arith, known.events, length-take {A = ℕ} network.events),
        omega (arith, few-scenarios network.signals known.signals),
      ),
    )

pub loop-s-preserved : goal.loop-s-preserved
loop-s-preserved g c =
    let network = c.args.strategy.now.formed.now.network in
    let s = c.loop-s.s in
    let before : s < scenarios network = omega arith in
    let inside : s * network.events + network.events ≤ length c.args.strategy.now.table.now = omega (
      arith,
      c.args.strategy.now.sized,
      mul-le-mul_right network.events before,
    ) in
    pushing-next c.loop-s.invariant before
    (rw (
      take-drop c.args.strategy.now.table.now (s * network.events),
      line_of-table network.signals network.events s
          c.args.strategy.now.table.now inside,
    ) at c.push_line.ensures)
    (omega arith)

pub returns : goal.returns
returns g c =
    let network = c.args.strategy.now.formed.now.network in
    let few = few-scenarios network.signals c.args.strategy.now.formed.now.well_formed.signals in
    pushed_as refl (pushing-all c.loop-s.invariant (omega arith)) (omega arith)
