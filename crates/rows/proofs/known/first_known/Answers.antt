-- Each doubling takes in one proposition: after p of them the table has the sets of the first p (`FirstKnown`). A table
-- for two or for four propositions is one for as many as there are signals (`first-fewer`), whose known times are the
-- network's (`known_in_row`).
use mathlib.Core.Path.{refl, ◌∙◌}
use mathlib.Core.List.{List}
use Prim.Native.Nat.{ℕ, ◌≤◌}
use native.Mathlib.Omega.{arith}
use lib.ListN.{set, length-set}
use lib.Seq.{get_or-set_same}
use Rattle.rows.specs.declared.frame.Frame.{Frame}
use Rattle.rows.specs.Rows.{RowIn}
use Rattle.rows.specs.Known.{known_in, known_at, FirstKnown}
use Rattle.rows.proofs.FirstKnown.{first-start, first_next, first-fewer, known_in_row}
use Rattle.rows.proofs.known.first_known.Goals.{After-double-2, After-double-3}
use Rattle.rows.proofs.known.first_known.Goals as goal

-- a table for at least the network's propositions
ended : (frame : Frame) (s : ℕ) (row : List ℕ) (m : ℕ) {first : List ℕ}
    → FirstKnown m (known_at frame.network row s) first → frame.network.signals ≤ m → m ≤ 4
    → (σ : List ℕ) → RowIn frame.network σ s row
    → FirstKnown frame.network.signals (known_in frame.network σ s) first
ended frame s row m F h l σ r =
    let Γ = frame.network in
    first-fewer (known_at Γ row s) (known_in Γ σ s) Γ.signals m F h l (known_in_row Γ σ s frame.formed r)

two : (d : After-double-2) → FirstKnown 2 (known_at d.args.frame.now.network d.args.row.now d.args.s)
    d.double-2.new.first
two d =
    let first = d.args.first.now in
    let zero : FirstKnown 0 (known_at d.args.frame.now.network d.args.row.now d.args.s) (set first 0 32767) =
    first-start _ _ (length-set first 0 32767 ∙ d.told-first)
    (get_or-set_same first 0 32767 0 (omega (arith, d.told-first)))
    in
    let one = first_next _ 1 (omega arith) zero refl d.known_from.ensures d.double.ensures in
    first_next _ 2 (omega arith) one refl d.known_from-2.ensures d.double-2.ensures

three : (d : After-double-3) → FirstKnown 3 (known_at d.args.frame.now.network d.args.row.now d.args.s)
    d.double-3.new.first
three d =
    first_next _ 4 (omega arith) (two (goal.at.After-double-3 d).After-double-2) refl d.known_from-3.ensures
    d.double-3.ensures

pub returns-then-signals-le2 : goal.returns-then-signals-le2
returns-then-signals-le2 c =
    let d = (goal.at.returns-then-signals-le2 c).After-double-2 in
    ended c.args.frame.now c.args.s c.args.row.now 2 (two d) c.if-signals-le2.true (omega arith)

pub returns : goal.returns
returns c =
    let d = (goal.at.returns c).After-double-3 in
    let four = first_next _ 8 (omega arith) (three d) refl c.known_from-4.ensures c.double-4.ensures in
    ended c.args.frame.now c.args.s c.args.row.now 4 four c.args.frame.now.formed.signals (omega arith)
