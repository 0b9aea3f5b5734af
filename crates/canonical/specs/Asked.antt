-- What a label asks of a signal, and how that is written.
use Rattle.std.specs.Prelude.{Bool, true, false, cond, List, [], ◌∷◌, ℕ, Option, Some, None}
use Prim.Native.Char.{code}
use Rattle.network.specs.Scenario.{truth}
use Rattle.network.specs.declared.Label.{Label}

-- that it is true, or that it is false, if it asks anything of signal p
abbrev pub asked : Label → ℕ → Option Bool
asked ℓ p = cond (truth ℓ.positive p) (Some true) (cond (truth ℓ.negative p) (Some false) None)

-- the letter b, behind `!` where it is to be false
abbrev pub asked_text : ℕ → Option Bool → List ℕ
asked_text b None = []
asked_text b (Some true) = b ∷ []
asked_text b (Some false) = code "!" ∷ b ∷ []
