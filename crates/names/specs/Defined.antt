-- What has been defined so far: an event by its name, a signal by its letter, and labels as sums of weights.
use Rattle.std.specs.Prelude.{Bool, true, false, ◌&&◌, cond, List, [], ◌∷◌, ℕ, ◌+◌, ◌^◌, eqb, get_or, take, drop}
use Rattle.std.specs.Bool.{beq}
use Rattle.std.proofs.Math.Option.{Option, none, some}
use Rattle.prelude.specs.Search.{first_below, when, answers}
use Rattle.prelude.specs.Bytes.{same}
use Rattle.network.specs.declared.Label.{Label}
use Rattle.names.specs.Names.{Literal}

-- the place of the first of n events whose name, the sheet's part that starts and lengths bound, is f
abbrev pub event_named : List ℕ → ℕ → List ℕ → List ℕ → List ℕ → Option ℕ
event_named sheet n starts lengths f =
    first_below n (λ u. when (same (take (get_or lengths u 0) (drop (get_or starts u 0) sheet)) f) u)

-- the place of b among the first k letters
abbrev pub place_of : ℕ → List ℕ → ℕ → Option ℕ
place_of k letters b = first_below k (λ p. when (eqb (get_or letters p 0) b) p)

-- whether one of k signals is given by event u
abbrev pub gives_signal_lem : ℕ → List ℕ → ℕ → Bool
gives_signal_lem k observations u = answers (first_below k (λ p. when (eqb (get_or observations p 0) u) p))

module _ (k : ℕ) (letters : List ℕ) where
  -- whether each of these letters is defined
  abbrev pub all_defined_lem : List ℕ → Bool
  all_defined_lem [] = true
  all_defined_lem (b ∷ bs) = answers (place_of k letters b) && all_defined_lem bs

  -- "The first signal of the sheet has weight 1, the next 2, and so on"
  abbrev pub weight : ℕ → ℕ
  weight b = elim (place_of k letters b) [ none ↦ 0 | some p ↦ 2 ^ p ]

  -- the sum of the weights of the letters that stand with this truth
  abbrev pub weights : Bool → List Literal → ℕ
  weights v [] = 0
  weights v (l ∷ ls) = cond (beq v l.value) (weight l.letter) 0 + weights v ls

  -- a label as its two sums
  abbrev pub mask_of : List Literal → Label
  mask_of ls = record { positive = weights true ls; negative = weights false ls }
