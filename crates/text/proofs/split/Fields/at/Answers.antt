-- The ends are those of the fields, so the part is the field. Assumes nothing.
use mathlib.Core.Path.{sym, ap}
use Prim.Native.Nat.{ℕ}
use native.Mathlib.Nat.{sub-zero}
use native.Mathlib.Omega.{arith}
use lib.Seq.{length-take-le}
use Rattle.text.specs.Lines.{fields}
use Rattle.text.specs.Cuts.{start_of}
use Rattle.text.proofs.Splitting.{end_le, start_le, start_is, field_is}
use Rattle.text.proofs.split.Fields.at.Goals as goal

pub slice_bounds-result-end : goal.slice_bounds-result-end
slice_bounds-result-end g c = sym (length-take-le _ _ (end_le c.args.self.now.cut c.requires))

pub returns-then-k-eq0 : goal.returns-then-k-eq0
returns-then-k-eq0 g c =
    let self = c.args.self.now in
    let whole = field_is self.cut c.requires 0
    (sym (ap (λ (k : ℕ). start_of k (fields self.line.now)) c.if-k-eq0.true)) in
    rw sub-zero at whole

pub overflow_add-start : goal.overflow_add-start
overflow_add-start g c =
    let cut = c.args.self.now.cut in
    omega (arith, end_le cut c.requires, start_le cut c.requires, start_is cut c.requires c.if-k-eq0.false)

pub slice_bounds-result-count : goal.slice_bounds-result-count
slice_bounds-result-count g c =
    let cut = c.args.self.now.cut in
    omega (arith, start_le cut c.requires, start_is cut c.requires c.if-k-eq0.false)

pub slice_bounds-result-start : goal.slice_bounds-result-start
slice_bounds-result-start g c =
    let cut = c.args.self.now.cut in
    omega (arith, start_le cut c.requires, start_is cut c.requires c.if-k-eq0.false)

pub slice_bounds-result-end-2 : goal.slice_bounds-result-end-2
slice_bounds-result-end-2 g c = omega (arith, end_le c.args.self.now.cut c.requires)

pub returns : goal.returns
returns g c =
    let cut = c.args.self.now.cut in
    field_is cut c.requires _ (start_is cut c.requires c.if-k-eq0.false)
