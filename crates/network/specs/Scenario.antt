-- Scenarios and labels (004, Definitions 2 and 3). Document 01 calls a scenario a case.
use Rattle.std.specs.Prelude.{Bool, ◌&&◌, ◌||◌, not, ℕ, ◌/◌, ◌%◌, ◌^◌, eqb}
use Rattle.std.specs.Bool.{beq}
use Rattle.prelude.specs.Bounded.{all_below}
use Rattle.network.specs.Limits as L
use Rattle.network.specs.declared.Label.{Label}

-- "the signal is true where its weight is in the case number"; the weights of p's are 1, 2, 4, 8
abbrev pub truth : ℕ → ℕ → Bool
truth s p = eqb (s / 2 ^ p % 2) 1

-- s and r give p the same truth; their difference set is where they do not (004, Definition 10)
abbrev pub agree : ℕ → ℕ → ℕ → Bool
agree s r p = beq (truth s p) (truth r p)

-- s has what the label asks of p: "`p!q` means p true and q false"
abbrev pub asked : ℕ → Label → ℕ → Bool
asked s ℓ p = (not (truth ℓ.positive p) || truth s p) && (not (truth ℓ.negative p) || not (truth s p))

-- s satisfies the label; document 01 says that the case agrees with it
unfoldable pub satisfies : ℕ → Label → Bool
satisfies s ℓ = all_below L.signals (asked s ℓ)
