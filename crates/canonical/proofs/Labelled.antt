-- The events that a form lists with their labels: those whose label is not `-`, each once. Assumes nothing.
use mathlib.Core.Path.{◌≡◌}
use mathlib.Core.Bool.{false}
use mathlib.Core.Option.{some}
use Prim.Native.Nat.{ℕ, ◌≤◌, ◌<◌}
use native.Mathlib.Omega.{arith}
use lib.ListN.{length, get_or}
use Rattle.prelude.specs.Lists.{In, Distinct, Each}
use Rattle.prelude.proofs.Lists.{distinct_of_later}
use Rattle.prelude.proofs.Gather.{gather-answer, in_gather, gather-ordered, length-gather}
use Rattle.prelude.proofs.Search.{unless-some}
use Rattle.network.specs.Build.{event_label}
use Rattle.network.specs.declared.Network.{Network}
use Rattle.line.specs.Labelling.{is_none_lem}
use Rattle.canonical.specs.Listed.{labelled_at, labelled_of}

module _ (Γ : Network) where
  pub record IsLabelled (u : ℕ) : Type 0 where
    pub event : u < Γ.events
    pub labelled : is_none_lem (event_label Γ u) ≡ false

  -- an event is its own answer
  answer-is : (u v : ℕ) → labelled_at Γ u ≡ some v → u ≡ v
  answer-is u v e = (unless-some (is_none_lem (event_label Γ u)) u v e).1

  is-labelled : (u v : ℕ) → u < Γ.events → labelled_at Γ u ≡ some v → IsLabelled v
  is-labelled u v h e =
      let w = unless-some (is_none_lem (event_label Γ u)) u v e in
      rw (← w.1) (record { event = h; labelled = w.0 })

  pub each-labelled : Each IsLabelled (labelled_of Γ) 0
  each-labelled = record {
    each = λ i h.
        let a = gather-answer (labelled_at Γ) 0 0 Γ.events i h in
        is-labelled a.number (get_or (labelled_of Γ) i 0) (omega (arith, a.below)) a.is;
  }

  pub labelled-once : Distinct (labelled_of Γ) 0
  labelled-once =
      distinct_of_later 0 (labelled_of Γ) (λ i j h l e.
      let o = gather-ordered (labelled_at Γ) 0 0 Γ.events i j h l in
      let a = answer-is o.first.number (get_or (labelled_of Γ) i 0) o.first.is in
      let b = answer-is o.second.number (get_or (labelled_of Γ) j 0) o.second.is in
      omega (arith, o.order))

  pub labelled_in : (u : ℕ) → u < Γ.events → is_none_lem (event_label Γ u) ≡ false → In u (labelled_of Γ) 0
  labelled_in u h n =
      in_gather (labelled_at Γ) 0 0 Γ.events u
      (record { number = u; from = omega arith; below = omega arith; is = rw n })

  pub labelled-few : length (labelled_of Γ) ≤ Γ.events
  labelled-few = length-gather (labelled_at Γ) 0 Γ.events
