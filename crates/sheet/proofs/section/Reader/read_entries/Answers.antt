use mathlib.Core.Path.{◌≡◌, refl, sym, ◌∙◌, ap}
use mathlib.Core.Logic.{◌≢◌}
use mathlib.Core.Bool.{true, false}
use mathlib.Core.List.{[]}
use Prim.Native.Nat.{ℕ, ◌+◌, ◌-◌, ◌≤◌, ◌<◌}
use native.Mathlib.Omega.{arith}
use borrow.Author.Tests.{eq-eqb, ne_eqb}
use lib.Dec.{eqb}
use lib.ListN.{length}
use Rattle.std.specs.Prelude.{Err}
use Rattle.prelude.specs.Checks.{first_failing_lem}
use Rattle.network.specs.declared.Network.{Network}
use Rattle.line.specs.declared.entry.Entry.{Entry}
use Rattle.line.specs.declared.entry.Entry.TheVariants as E
use Rattle.line.proofs.Refusals.{exits, answer-err, answer-ok}
use Rattle.sheet.specs.Turn.{tests_behind}
use Rattle.sheet.proofs.EntriesLeft.{reads_end}
use Rattle.sheet.proofs.Left.{left_behind, left_holds}
use Rattle.sheet.proofs.ReadLine.{on_line-ok, on_line-err}
use Rattle.sheet.proofs.Lines.{entry_stop, EntryTurn, entry_turn}
use Rattle.sheet.proofs.section.Reader.read_entries.Goals.{In_ok-line, then-last+in_ok-on_line, else-last}
use Rattle.sheet.proofs.section.Reader.read_entries.Goals as goal

-- more lines are left
more : (n i : ℕ) → i < n → 0 < n - i
more n i h = omega arith

-- with line i of n, whether one is left
one_left : (n i : ℕ) → i + 1 ≡ n → eqb (n - i) 1 ≡ true
one_left n i e = eq-eqb (n - i) 1 (omega arith)

more_left : (n i : ℕ) → i + 1 ≢ n → i < n → eqb (n - i) 1 ≡ false
more_left n i e h = ne_eqb (n - i) 1 (λ one. e (omega arith))

-- behind a line that is not the last nothing is tested
untested : (x : Entry) (Δ : Network) → tests_behind x false Δ ≡ []
untested E.Event Δ = refl
untested (E.Signal b u) Δ = refl
untested (E.Rule c) Δ = refl
untested (E.Reaction p m) Δ = refl
untested (E.Label u ℓ) Δ = refl

-- the turn that a line makes which has passed
turn : (d : In_ok-line) → let here = d.loop-done.invariant in
    EntryTurn here.1 (more d.args.count d.loop-done.done d.loop-done-test.true)
    d.in_ok-line.line.entry d.in_ok-line.line.length
turn d =
    let here = d.loop-done.invariant in
    entry_turn here.1 (more d.args.count d.loop-done.done d.loop-done-test.true) d.loop-done.left.now here.0
    d.in_ok-line.line
    (sym d.entry_at.ensures
    ∙ on_line-ok d.loop-done.reached.line d.entry_at.result d.in_ok-line.line d.in_ok-line.ensures)

-- it ends within what is left, which is short
inside : (d : In_ok-line) → (d.in_ok-line.line.length + 1 ≤ length d.loop-done.left.now)
    × (d.loop-done.reached.at + (d.in_ok-line.line.length + 1) ≤ 4096)
inside d = (
  left_holds d.args.self.now.sheet.now d.loop-done.reached.at d.loop-done.left.now d.loop-done.invariant.0
      (d.in_ok-line.line.length + 1) (turn d).inside,
  omega (arith, (turn d).inside, d.args.self.now.short),
)

pub returns-in_err-line : goal.returns-in_err-line
returns-in_err-line c =
    let here = c.loop-done.invariant in
    let d = c.in_err-line.field-0.0 in
    let w = on_line-err c.loop-done.reached.line c.entry_at.result d c.in_err-line.ensures in
    rw (exits c.from_residual.result d c.from_residual.ensures.1)
    (sym (ap Err w.2
    ∙ entry_stop here.1 (more c.args.count c.loop-done.done c.loop-done-test.true) c.loop-done.left.now here.0 w.0
    (sym c.entry_at.ensures ∙ w.1)))

pub add-requires : goal.add-requires
add-requires c =
    let d = (goal.at.add-requires c).In_ok-line in
    (turn d).room

pub test_behind-requires : goal.test_behind-requires
test_behind-requires c =
    let d = (goal.at.test_behind-requires c).In_ok-line in
    rw c.add.ensures (turn d).testable

pub returns-in_err-on_line : goal.returns-in_err-on_line
returns-in_err-on_line c =
    let d = (goal.at.returns-in_err-on_line c).In_ok-line in
    let r = c.in_err-on_line.field-0.0 in
    let w = on_line-err c.loop-done.reached.line c.test_behind.result r c.in_err-on_line.ensures in
    let fails = answer-err (first_failing_lem (tests_behind c.in_ok-line.line.entry true c.add.new.network))
    tt w.0 (sym c.test_behind.ensures ∙ w.1) in
    rw (exits c.from_residual-in_err-on_line.result r c.from_residual-in_err-on_line.ensures.1)
    (sym (ap Err w.2
    ∙ (turn d).stop w.0
    (rw (one_left c.args.count c.loop-done.done c.if-last.true) (rw c.add.ensures at fails))))

pub overflow_add-taken : goal.overflow_add-taken
overflow_add-taken c =
    let d = (goal.at.overflow_add-taken c).In_ok-line in
    omega (arith, inside d)

pub slice_bounds-left-count : goal.slice_bounds-left-count
slice_bounds-left-count c = (inside (goal.at.slice_bounds-left-count c).In_ok-line).0

pub slice_bounds-left-start : goal.slice_bounds-left-start
slice_bounds-left-start c = omega (arith, inside (goal.at.slice_bounds-left-start c).In_ok-line)

pub overflow_add-reached : goal.overflow_add-reached
overflow_add-reached c =
    let d = (goal.at.overflow_add-reached c).In_ok-line in
    omega (arith, inside d)

pub overflow_add-reached-in-loop-done : goal.overflow_add-reached-in-loop-done
overflow_add-reached-in-loop-done c =
    let d = (goal.at.overflow_add-reached-in-loop-done c).In_ok-line in
    omega (arith, inside d)

pub returns : goal.returns
returns c =
    let out = c.loop-done.reached in
    reads_end (c.args.count - c.loop-done.done) out.network out.at out.line c.loop-done.invariant.1 (omega arith)

pub loop-done-preserved : goal.loop-done-preserved
loop-done-preserved c =
    let d = (goal.at.loop-done-preserved c).In_ok-line in
    let n = c.args.count in
    let i = c.loop-done.done in
    let x = c.in_ok-line.line.entry in
    let here = c.loop-done.invariant in
    let one : n - (i + 1) ≡ n - i - 1 = omega arith in
    let k = c.loop-done.reached.line in
    let taken = c.in_ok-line.line.length + 1 in (
      left_behind c.args.self.now.sheet.now c.loop-done.reached.at c.loop-done.left.now here.0 taken,
      rw (one, c.add.ensures)
          ((turn d).next (elim c.if-last.branch [
            | then-last+in_ok-on_line w ↦
                let passed = answer-ok (first_failing_lem (tests_behind x true c.add.new.network)) tt
                w.in_ok-on_line.field-0 (sym w.test_behind.ensures
                ∙ on_line-ok k w.test_behind.result w.in_ok-on_line.field-0 w.in_ok-on_line.ensures) in
                rw (one_left n i w.if-last.true) (rw c.add.ensures at passed.0)
            | else-last w ↦ rw (more_left n i w.if-last.false c.loop-done-test.true, untested) refl
          ])),
    )
