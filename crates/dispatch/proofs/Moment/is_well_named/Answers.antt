use mathlib.Core.Path.{sym, ◌∙◌, ap}
use Prim.Native.Nat.{ℕ, ◌<◌}
use native.Mathlib.Omega.{arith}
use Rattle.std.proofs.lemmas.List.{get_or-take, length-take}
use Rattle.dispatch.specs.Said.{stands_on}
use Rattle.dispatch.proofs.Core.{naming_one, naming_none, naming_end}
use Rattle.dispatch.proofs.Moment.is_well_named.Goals.{then-stands, else-stands}
use Rattle.dispatch.proofs.Moment.is_well_named.Goals as goal

pub loop-letter-preserved : goal.loop-letter-preserved
loop-letter-preserved c =
    let Γ = c.args.self.now.strategy.formed.now.network in
    let p = c.loop-letter.letter-index in
    let inv = c.loop-letter.invariant in
    let within : p < Γ.signals = omega (arith, length-take Γ.signals Γ.letters, c.loop-letter-test.true) in
    let is = get_or-take Γ.signals Γ.letters p 0 within in
    let stood = ap (λ (b : ℕ). stands_on c.args.said.mask b) (sym is) ∙ sym c.stands.ensures in
    elim c.if-stands.branch [
      | then-stands w ↦ rw (w.named-is, w.add-named.ensures, w.says-truth.ensures, is)
          (naming_one inv within (stood ∙ w.if-stands.true))
      | else-stands w ↦ rw w.named-is (naming_none inv within (stood ∙ w.if-stands.false))
    ]

pub returns : goal.returns
returns c =
    let formed = c.args.self.now.strategy.formed.now in
    let Γ = formed.network in
    let past = length-take Γ.signals Γ.letters in
    c.eq.ensures
    ∙ naming_end c.loop-letter.invariant (omega (arith, past, c.loop-letter-test.false, formed.well_formed))
