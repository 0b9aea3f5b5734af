use mathlib.Core.Path.{◌≡◌, sym}
use Prim.Native.Nat.{ℕ, ◌+◌, ◌-◌, ◌*◌, ◌≤◌, ◌<◌}
use native.Mathlib.Omega.{arith}
use native.Mathlib.Nat.{mul_comm, suc-mul, mul-le-mul_right}
use native.Mathlib.Numerals.{add-one}
use lib.ListN.{length, drop}
use Rattle.std.proofs.lemmas.List.{length-take}
use Rattle.network.specs.Build.{scenarios, cells}
use Rattle.prelude.proofs.Cells.{row_of_lem, column_of}
use Rattle.rows.specs.declared.frame.Frame.{Frame}
use Rattle.rows.specs.Rows.{handed}
use Rattle.rows.proofs.Framed.{scenarios_few}
use Rattle.rows.proofs.Wrote.{wrote_part, wrote-join, wrote-all}
use Rattle.rows.proofs.frame.Frame.copy_out.Goals.{In-loop-s}
use Rattle.rows.proofs.frame.Frame.copy_out.Goals as goal

-- the end of a row of n, and the count of all cells
row-end : (s c n : ℕ) → s < c → s * n + n ≤ n * c
row-end s c n h = omega (arith, mul-le-mul_right n h)

one_more : (s n : ℕ) → s * n + n ≡ (s + 1) * n
one_more s n = rw (add-one s) (sym (suc-mul s n))

-- rows of as many scenarios as the frame has are all cells
all : (frame : Frame) (s : ℕ) → s ≤ frame.scenarios → frame.scenarios ≤ s
    → s * frame.network.events ≡ cells frame.network
all frame s h l =
    let e : s ≡ scenarios frame.network = omega (arith, frame.scenarios_are) in
    rw e (mul_comm (scenarios frame.network) frame.network.events)

-- the scenario of a turn, and that its row has room
here : (d : In-loop-s) → d.loop-s.s < scenarios d.args.self.now.network
here d = omega (arith, d.loop-s-test.true, d.args.self.now.scenarios_are)

room : (d : In-loop-s) → let n = d.args.self.now.network.events in d.loop-s.s * n + n ≤ length d.loop-s.out
room d =
    let Γ = d.args.self.now.network in
    omega (arith, row-end d.loop-s.s (scenarios Γ) Γ.events (here d), d.requires, d.loop-s.auto.out)

pub copy_row-requires : goal.copy_row-requires
copy_row-requires c =
    let frame = c.args.self.now in
    let n = frame.network.events in
    let s = c.loop-s.s in (
      omega (arith, c.loop-s-test.true, scenarios_few frame),
      omega (arith, length-take (s * n + n - s * n) (drop (s * n) c.loop-s.out), frame.formed.events),
    )

pub loop-s-preserved : goal.loop-s-preserved
loop-s-preserved c =
    let n = c.args.self.now.network.events in
    let s = c.loop-s.s in
    let row = wrote_part _ (s * n) (s * n + n - s * n) n (omega arith) (room (goal.at.loop-s-preserved c).In-loop-s)
    c.copy_row.ensures in
    rw (← one_more s n)
    (wrote-join _ c.loop-s.invariant row (omega arith)
    (λ u h. rw (row_of_lem n s u h, column_of n s u h)))

pub returns : goal.returns
unfolding handed
returns c =
    wrote-all _ (rw (all c.args.self.now c.loop-s.s c.loop-s.auto.s-end c.loop-s-test.false) at c.loop-s.invariant)
    c.requires
