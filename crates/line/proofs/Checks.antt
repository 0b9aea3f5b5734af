-- Laws of tests in checking order. Assumes nothing.
use mathlib.Core.Path.{◌≡◌, refl}
use mathlib.Core.Bool.{Bool, true, false}
use mathlib.Core.Option.{none, some}
use mathlib.Core.List.{List, [], ◌∷◌, ◌++◌}
use Prim.Native.Nat.{ℕ, zero, suc}
use Rattle.prelude.specs.Checks.{first_failing_lem}
use Rattle.prelude.proofs.Search.{some-not-none, none-not-some}

module _ {A : Type 0} where
  -- test i, where there are as many
  abbrev pub test : ℕ → List (Bool × A) → Bool
  test i [] = true
  test zero (t ∷ ts) = t.0
  test (suc i) (t ∷ ts) = test i ts

  -- where nothing failed, every test holds
  pub all_hold : (ts : List (Bool × A)) → first_failing_lem ts ≡ none → (i : ℕ) → test i ts ≡ true
  all_hold [] e i = refl
  all_hold ((true, c) ∷ ts) e zero = refl
  all_hold ((true, c) ∷ ts) e (suc i) = all_hold ts e i
  all_hold ((false, c) ∷ ts) e i = some-not-none c e

  -- tests behind others: the first to fail is among those, or, where they hold, among these
  pub fails_before : (ts us : List (Bool × A)) (c : A) → first_failing_lem ts ≡ some c → first_failing_lem (ts ++ us)
      ≡ some c
  fails_before [] us c e = none-not-some c e
  fails_before ((true, a) ∷ ts) us c e = fails_before ts us c e
  fails_before ((false, a) ∷ ts) us c e = e

  pub fails_behind : (ts us : List (Bool × A)) → first_failing_lem ts ≡ none → first_failing_lem (ts ++ us)
      ≡ first_failing_lem us
  fails_behind [] us e = refl
  fails_behind ((true, a) ∷ ts) us e = fails_behind ts us e
  fails_behind ((false, a) ∷ ts) us e = some-not-none a e

  -- where all hold, so do those before and those behind
  pub holds-before : (ts us : List (Bool × A)) → first_failing_lem (ts ++ us) ≡ none → first_failing_lem ts ≡ none
  holds-before [] us e = refl
  holds-before ((true, a) ∷ ts) us e = holds-before ts us e
  holds-before ((false, a) ∷ ts) us e = e

  pub holds-behind : (ts us : List (Bool × A)) → first_failing_lem (ts ++ us) ≡ none → first_failing_lem us ≡ none
  holds-behind [] us e = e
  holds-behind ((true, a) ∷ ts) us e = holds-behind ts us e
  holds-behind ((false, a) ∷ ts) us e = some-not-none a e
