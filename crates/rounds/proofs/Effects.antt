-- What a round's effect says of a run that comes to its table: one that rises leads on, one that passes or rests
-- ends the run. Assumes nothing.
use mathlib.Core.Path.{◌≡◌, refl, sym, ◌∙◌}
use mathlib.Core.Bool.{Bool, true, false}
use mathlib.Core.List.{List}
use Prim.Native.Nat.{ℕ, suc}
use lib.ListN.{length}
use Rattle.prelude.specs.Bytes.{same}
use Rattle.fixpoint.specs.Step.{Rising}
use Rattle.fixpoint.specs.Near.{Nonexpansive}
use Rattle.fixpoint.specs.Run.{within, ran, run_from}
use Rattle.fixpoint.specs.Run as run
use Rattle.fixpoint.specs.Leads.{Leads}
use Rattle.fixpoint.proofs.Turns.{rest_turn, pass_turn}
use Rattle.fixpoint.proofs.Leads.{leads_one}
use Rattle.network.specs.Build.{scenarios}
use Rattle.network.specs.declared.Network.{Network}
use Rattle.rows.proofs.Gapless.{length-gapless}
use Rattle.rounds.specs.declared.Effect.{Effect}
use Rattle.rounds.specs.declared.Effect.TheVariants.{Passes, Rests, Rises}
use Rattle.rounds.specs.Propagate.{propagate}
use Rattle.rounds.specs.Cap.{cap}
use Rattle.rounds.specs.Rounds.{held, effect, effect_of, Rounded}
use Rattle.rounds.proofs.Rising.{rising, nonexpansive}
use Rattle.rounds.proofs.Cap.{length-cap}

-- what an effect tells of the two tests
passes-false : (a b : Bool) → Passes ≡ effect a b → a ≡ false
passes-false true true e = cc
passes-false true false e = cc
passes-false false b e = refl

rests-true : (a b : Bool) → Rests ≡ effect a b → (a ≡ true) × (b ≡ true)
rests-true true true e = (refl, refl)
rests-true true false e = (refl, cc)
rests-true false b e = (cc, cc)

rises_false : (a b : Bool) → Rises ≡ effect a b → (a ≡ true) × (b ≡ false)
rises_false true true e = (refl, cc)
rises_false true false e = (refl, refl)
rises_false false b e = (cc, cc)

-- a round whose effect is told
pub rounded_as : {Γ : Network} {t t' : List ℕ} {r r' : Effect} → r ≡ r' → Rounded Γ t t' r → Rounded Γ t t' r'
rounded_as e h = rw e at h

module _ (Γ : Network) where
  pub length-held : (t : List ℕ) → length (held Γ t) ≡ length (cap Γ)
  length-held t = length-gapless Γ.events (scenarios Γ) t ∙ sym (length-cap Γ)

  pub step_rises : Rising (length (cap Γ)) (propagate Γ)
  step_rises = rw (length-cap Γ) (rising Γ)

  pub step_near : Nonexpansive (length (cap Γ)) (propagate Γ)
  step_near = rw (length-cap Γ) (nonexpansive Γ)

  module _ {t t' : List ℕ} where
    -- a round that passes is over a limit
    pub round-out : Rounded Γ t t' Passes → within (cap Γ) (propagate Γ (held Γ t)) ≡ false
    unfolding effect_of
    round-out r = passes-false _ _ r.effect_is

    pub round-passes : Rounded Γ t t' Passes → (k n : ℕ)
        → run_from (propagate Γ) (cap Γ) k (suc n) (held Γ t) ≡ ran (suc k) (propagate Γ (held Γ t)) run.Passes
    round-passes r k n = pass_turn (propagate Γ) (cap Γ) step_rises k n (held Γ t) (round-out r)

    pub round-rests : Rounded Γ t t' Rests → (k n : ℕ)
        → run_from (propagate Γ) (cap Γ) k (suc n) (held Γ t) ≡ ran (suc k) (held Γ t) run.Rests
    unfolding effect_of
    round-rests r k n =
        let w = rests-true _ _ r.effect_is in
        rest_turn (propagate Γ) (cap Γ) step_rises k n (held Γ t) w.0 w.1

    pub round_leads : Rounded Γ t t' Rises → Leads (propagate Γ) (cap Γ) 1 (held Γ t) (held Γ t')
    unfolding effect_of
    round_leads r =
        let w : (within (cap Γ) (propagate Γ (held Γ t)) ≡ true) × (same (propagate Γ (held Γ t)) (held Γ t) ≡ false) =
        rises_false _ _ r.effect_is
        in
        rw r.made (leads_one (propagate Γ) (cap Γ) step_rises (held Γ t) w.0 w.1)
