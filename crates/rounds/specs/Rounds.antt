-- What a round makes of a table, and what its effect is.
use Rattle.std.specs.Prelude.{◌≡◌, Bool, true, false, cond, List, ℕ, ◌+◌, ◌-◌, ◌*◌, max, min, length, get_or}
use Rattle.std.specs.Int.Bits.{bit_xor}
use Rattle.prelude.specs.Bounded.{max_below}
use Rattle.prelude.specs.Bytes.{same}
use Rattle.fixpoint.specs.Run.{within}
use Rattle.network.specs.Limits as L
use Rattle.network.specs.Build.{scenarios}
use Rattle.network.specs.Happens.{happens}
use Rattle.network.specs.declared.Network.{Network}
use Rattle.rows.specs.Rows.{gapless, row_of, Times}
use Rattle.rows.specs.Known.{known_in, first_of}
use Rattle.bounds.specs.declared.list.BoundList.{BoundList}
use Rattle.bounds.specs.Listed.{asks, in_case}
use Rattle.rounds.specs.declared.Effect.{Effect}
use Rattle.rounds.specs.declared.Effect.TheVariants.{Passes, Rests, Rises}
use Rattle.rounds.specs.Propagate.{propagate}
use Rattle.rounds.specs.Cap.{cap}

-- the strategy that a table holds
abbrev pub held : Network → List ℕ → List ℕ
held Γ t = gapless Γ.events (scenarios Γ) t

-- what it makes of event u in scenario s, where that happens: the other scenarios are told by the set d of propositions
-- on which they differ from s. Elsewhere zero stays
unfoldable pub raised_at : Network → List BoundList → List ℕ → ℕ → ℕ → ℕ
raised_at Γ lists t s u =
    cond (happens Γ s u)
    (max (max (get_or t (s * 16 + u) 0) (asks (in_case lists s) (row_of t s) u - L.horizon))
    (max_below (scenarios Γ)
    (λ d. min (get_or t (bit_xor s d * 16 + u) 0) (first_of Γ.signals (known_in Γ (held Γ t) s) d))))
    0

-- by the two tests of a run: no time is over its limit; no time was raised
abbrev pub effect : Bool → Bool → Effect
effect false rests = Passes
effect true true = Rests
effect true false = Rises

unfoldable pub effect_of : Network → List ℕ → Effect
effect_of Γ σ = effect (within (cap Γ) (propagate Γ σ)) (same (propagate Γ σ) σ)

-- a round from t to t'
pub record Rounded (Γ : Network) (t t' : List ℕ) (r : Effect) : Type 0 where
  pub sized : length t' ≡ 256
  pub made : held Γ t' ≡ propagate Γ (held Γ t)
  pub effect_is : r ≡ effect_of Γ (held Γ t)
  pub times : r ≡ Rises → Times Γ t'
