-- What the last two sections of a form list (02, points 3 and 6): "only reactions other than 1, in signal order", and
-- "the lines whose label is not `-`, in event order"; each "with no section if there are none".
use Rattle.std.proofs.Math.Option.{Option, none, some}
use Rattle.std.specs.Prelude.{List, [], ◌∷◌, ℕ, zero, suc, eqb}
use Rattle.prelude.specs.Search.{unless}
use Rattle.prelude.specs.Gather.{gather}
use Rattle.network.specs.Limits as L
use Rattle.network.specs.Build.{letter, event_label}
use Rattle.network.specs.Strategy.{reaction}
use Rattle.network.specs.declared.Network.{Network}
use Rattle.line.specs.Labelling.{is_none_lem}
use Rattle.layout.specs.Contents.{Reaction}

-- a reaction that is listed: "only reactions other than 1" (02, point 3)
abbrev pub slow_by : ℕ → ℕ → Option Reaction
slow_by b x = unless (eqb x L.fastest) (record { letter = b; minutes = x })

module _ (Γ : Network) where
  -- that of signal p, if it is listed
  abbrev pub slow_at : ℕ → Option Reaction
  slow_at p = slow_by (letter Γ p) (reaction Γ p)

  -- "in signal order"
  abbrev pub slow_of : List Reaction
  slow_of = gather Γ.signals slow_at

  -- event u, if its label is listed: one that "is not `-`" (02, point 6)
  abbrev pub labelled_at : ℕ → Option ℕ
  labelled_at u = unless (is_none_lem (event_label Γ u)) u

  -- "in event order"
  abbrev pub labelled_of : List ℕ
  labelled_of = gather Γ.events labelled_at

-- "with no section if there are none"
abbrev pub section_of : {A : Type 0} → List A → Option (List A)
section_of [] = none
section_of (x ∷ xs) = some (x ∷ xs)

-- the section of reactions, before so many labels: "`reactions,0` before them where needed"
abbrev pub before_labels : ℕ → List Reaction → Option (List Reaction)
before_labels zero ys = section_of ys
before_labels (suc n) ys = some ys
