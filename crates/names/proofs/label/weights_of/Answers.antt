use native.Mathlib.Omega.{arith}
use Rattle.names.proofs.Tokens.{weights-at}
use Rattle.names.proofs.Labels.{scenarios-fit}
use Rattle.names.proofs.label.weights_of.Goals as goal

pub overflow_add-sum : goal.overflow_add-sum
overflow_add-sum c =
    let defined = c.args.defined.now in let Γ = defined.network.now in let loop = c.loop-b in
    let more = weights-at Γ.signals Γ.letters c.args.truth loop.bang c.args.t.now loop.b-index c.loop-b-test.true in
    omega (
      arith,
      more,
      loop.invariant,
      c.added_by-sum.ensures,
      c.requires,
      scenarios-fit Γ.signals defined.names.few_signals,
    )
