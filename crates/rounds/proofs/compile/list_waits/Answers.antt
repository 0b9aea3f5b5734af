use mathlib.Core.Path.{◌≡◌, refl, sym, ◌∙◌}
use Prim.Native.Nat.{◌<◌}
use native.Mathlib.Omega.{arith}
use lib.ListN.{length, get_or, take}
use lib.Seq.{get_or-take, length-take-le}
use Rattle.network.specs.Build.{no_label, event_label}
use Rattle.rows.specs.declared.frame.Frame.{Frame}
use Rattle.rows.proofs.Framed.{sums}
use Rattle.rounds.proofs.Asking.{listable, asking_as}
use Rattle.rounds.proofs.Waits.{wait-proper, wait_skip, wait-next, waits_start, waits-next, compiled-waits}
use Rattle.rounds.proofs.Waits.{compiled-unlabelled}
use Rattle.rounds.proofs.Among.{more-among}
use Rattle.rounds.proofs.compile.list_waits.Goals.{In-loop-w, then-mentions, else-mentions}
use Rattle.rounds.proofs.compile.list_waits.Goals as goal

-- as many labels are gone through as there are events
count : (frame : Frame) → length frame.network.labels ≡ 16
    → length (take frame.network.events frame.network.labels) ≡ frame.network.events
count frame h = length-take-le frame.network.events frame.network.labels (omega (arith, frame.formed.events))

-- the event of a turn, and that the label is its own
event : (d : In-loop-w) → d.loop-w.w < d.args.frame.now.network.events
event d = omega (arith, d.loop-w-test.true, count d.args.frame.now (omega arith))

own : (d : In-loop-w)
    → get_or (take d.args.frame.now.network.events d.args.frame.now.network.labels) d.loop-w.w no_label
    ≡ event_label d.args.frame.now.network d.loop-w.w
own d =
    let Γ = d.args.frame.now.network in
    get_or-take Γ.events Γ.labels d.loop-w.w no_label (event d)

pub returns-then-not-frame : goal.returns-then-not-frame
returns-then-not-frame c =
    let frame = c.args.frame.now in
    (compiled-unlabelled frame.formed (frame.unlabelled c.if-not-frame.true) c.requires.0, c.requires.1)

pub loop-w-init : goal.loop-w-init
loop-w-init c = (waits_start c.requires.0, c.requires.1)

pub mentions-requires : goal.mentions-requires
mentions-requires c = omega (arith, c.loop-p-test.true, c.args.frame.now.formed.signals)

pub by_kind-requires : goal.by_kind-requires
by_kind-requires c =
    let d = (goal.at.by_kind-requires c).In-loop-w in
    let frame = c.args.frame.now in
    let W = frame.formed in
    let known = frame.reactions_are c.loop-p.p (omega (arith, c.loop-p-test.true, W.signals)) in
    rw (c.wait_of-wait.ensures, known)
    (rw (own d) (listable W _ (wait-proper W c.loop-w.w (event d) c.loop-p.p c.loop-p-test.true)))

pub add-requires : goal.add-requires
add-requires c =
    let d = (goal.at.add-requires c).In-loop-w in
    let frame = c.args.frame.now in
    let W = frame.formed in (
      rw (own d) (sums frame c.loop-w.w),
      λ s. omega (
        arith,
        c.loop-p.invariant.0.short s,
        event d,
        c.loop-p-test.true,
        W.events,
        W.signals,
      ),
    )

pub loop-p-preserved : goal.loop-p-preserved
loop-p-preserved c =
    let d = (goal.at.loop-p-preserved c).In-loop-w in
    let frame = c.args.frame.now in
    let W = frame.formed in
    let w = c.loop-w.w in
    let p = c.loop-p.p in
    let known = frame.reactions_are p (omega (arith, c.loop-p-test.true, W.signals)) in
    let so-far = c.loop-p.invariant in
    let e = rw (own d) at c.mentions.ensures in
    elim c.if-mentions.branch [
      | then-mentions t ↦
          let b = t.by_kind.result in
          let is = rw (t.wait_of-wait.ensures, known) at t.by_kind.ensures in
          let added = rw (frame.scenarios_are, own d) at t.add.ensures in
          let in-p = c.loop-p-test.true in
          rw t.lists-is (
            asking_as (wait-next W w p so-far.0 b (event d) in-p (sym e ∙ t.if-mentions.true) is added) (omega arith)
                (λ σ s u. refl),
            more-among _ (wait-proper W w (event d) p in-p) b is added so-far.1,
          )
      | else-mentions t ↦ rw t.lists-is (
        asking_as (wait_skip W w p so-far.0 (sym e ∙ t.if-mentions.false)) (omega arith) (λ σ s u. refl),
        so-far.1,
      )
    ]

pub loop-w-preserved : goal.loop-w-preserved
loop-w-preserved c =
    let W = c.args.frame.now.formed in
    let e : c.loop-p.p ≡ c.args.frame.now.network.signals = omega (arith, c.loop-p.auto.p-end, c.loop-p-test.false) in
    (waits-next W c.loop-w.w (rw e at c.loop-p.invariant.0) (omega (arith, W.signals)), c.loop-p.invariant.1)

pub returns : goal.returns
returns c =
    let all = count c.args.frame.now (omega arith) in
    let e : c.loop-w.w ≡ c.args.frame.now.network.events =
    omega (arith, c.loop-w.auto.w-end, c.loop-w-test.false, all) in
    (compiled-waits c.args.frame.now.formed (rw e at c.loop-w.invariant.0), c.loop-w.invariant.1)
