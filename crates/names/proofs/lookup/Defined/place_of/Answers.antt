-- The letters of the signals are the front of the letters. Assumes nothing.
use mathlib.Core.Path.{◌∙◌, ap}
use lib.Dec.{eqb}
use Rattle.std.specs.List.{position}
use Rattle.prelude.proofs.Positions.{position_in-front}
use Rattle.names.proofs.lookup.Defined.place_of.Goals as goal

pub returns : goal.returns
returns c =
    let Γ = c.args.self.now.network.now in let letter = c.args.letter in
    c.find.ensures ∙ ap (position (λ b. eqb b letter)) c.letters.ensures.0
    ∙ position_in-front (λ b. eqb b letter) Γ.signals Γ.letters c.letters.ensures.1
