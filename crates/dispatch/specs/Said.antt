-- The list as a mask of 64 bits, which the covered core works on: a letter that is true has its bit from 0 on, one
-- that is false from 32 on. A mask has a bit where its weight is in it, as a case has a signal.
use Rattle.std.specs.Prelude.{Bool, true, false, ◌&&◌, ◌||◌, not, cond, List, [], ◌∷◌, ℕ, ◌+◌, ◌-◌, ◌^◌, eqb}
use Rattle.std.specs.Prelude.{Option, Some, None, Result}
use Prim.Native.Char.{code}
use Rattle.std.specs.Int.Bits.{bit_or}
use Rattle.network.specs.Build.{letter}
use Rattle.network.specs.Scenario.{truth}
use Rattle.network.specs.declared.Network.{Network}
use Rattle.names.specs.Names.{is_letter_lem}
use Rattle.dispatch.specs.Heard.{records_of}
use Rattle.dispatch.specs.Due.{due_by}
use Rattle.dispatch.specs.declared.Heard.{Heard}
use Rattle.dispatch.specs.declared.Unanswered.{Unanswered}

-- the bit of a letter with a truth
abbrev pub bit_of : ℕ → Bool → ℕ
bit_of l v = cond v (l - code "a") (l - code "a" + 32)

-- the bit of a list that holds a byte that is no letter, or a letter twice
abbrev pub misnamed : ℕ
misnamed = 63

abbrev pub with_bit : ℕ → ℕ → ℕ
with_bit x k = bit_or x (2 ^ k)

-- whether the letter l is said to be v
abbrev pub said_on : ℕ → ℕ → Bool → Bool
said_on x l v = truth x (bit_of l v)

-- whether it stands, with either truth
abbrev pub stands_on : ℕ → ℕ → Bool
stands_on x l = said_on x l true || said_on x l false

-- whether what is said of the letter l is its truth where that is known, and nothing where it is not
abbrev pub tells : ℕ → ℕ → Option Bool → Bool
tells x l None = not (stands_on x l)
tells x l (Some v) = said_on x l v && not (said_on x l (not v))

-- one record more
unfoldable pub with_heard : ℕ → Heard → ℕ
with_heard x h =
    cond (is_letter_lem h.letter && not (stands_on x h.letter)) (with_bit x (bit_of h.letter h.truth))
    (with_bit x misnamed)

abbrev pub said_from : ℕ → List Heard → ℕ
said_from x [] = x
said_from x (h ∷ hs) = said_from (with_heard x h) hs

module _ (Γ : Network) where
  -- the records that a mask names: one of each signal whose letter stands, true where it is said to be
  abbrev pub records_on : ℕ → List Heard
  records_on x = records_of Γ (λ p. stands_on x (letter Γ p)) (λ p. said_on x (letter Γ p) true)

  -- it is their mask: nothing else is in it, as a letter that is undefined, a second truth or a bit of no letter
  abbrev pub well_named_on : ℕ → Bool
  well_named_on x = eqb (said_from 0 (records_on x)) x

  unfoldable pub due_on : List ℕ → ℕ → ℕ → Result ℕ Unanswered
  due_on σ m x = due_by Γ σ m (well_named_on x) (said_on x)
