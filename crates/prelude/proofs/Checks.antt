-- Tests in checking order: none fails exactly where each holds, and the first to fail is the only one. Assumes nothing.
use mathlib.Core.Path.{◌≡◌, refl, sym, ◌∙◌, ap}
use mathlib.Core.Logic.{inl, inr}
use mathlib.Core.Bool.{Bool, true, false}
use mathlib.Core.Option.{none, some}
use mathlib.Core.List.{List, [], ◌∷◌}
use Rattle.prelude.specs.Checks.{first_failing_lem, Hold, FirstFails}
use Rattle.prelude.proofs.Search.{some-not-none, none-not-some}
use Rattle.prelude.proofs.Tests.{clash}

-- a proof for each of several tests: `p & q & tt`
infixr 40 ◌&◌
pub ◌&◌ : {A B : Type 0} → A → B → A × B
a & b = (a, b)

module _ {A : Type 0} where
  pub hold : (ts : List (Bool × A)) → first_failing_lem ts ≡ none → Hold ts
  hold [] e = tt
  hold ((true, a) ∷ ts) e = (refl, hold ts e)
  hold ((false, a) ∷ ts) e = some-not-none a e

  pub none_fails : (ts : List (Bool × A)) → Hold ts → first_failing_lem ts ≡ none
  none_fails [] h = refl
  none_fails ((true, a) ∷ ts) h = none_fails ts h.1
  none_fails ((false, a) ∷ ts) h = clash false h.0 refl

  pub first_fails : (ts : List (Bool × A)) (c : A) → first_failing_lem ts ≡ some c → FirstFails ts c
  first_fails [] c e = none-not-some c e
  first_fails ((true, a) ∷ ts) c e = inr (refl, first_fails ts c e)
  first_fails ((false, a) ∷ ts) c e = inl (refl, cc)

  pub some_fails : (ts : List (Bool × A)) (c : A) → FirstFails ts c → first_failing_lem ts ≡ some c
  some_fails [] c f = absurd f
  some_fails ((true, a) ∷ ts) c (inl f) = clash true refl f.0
  some_fails ((false, a) ∷ ts) c (inl f) = ap some f.1
  some_fails ((true, a) ∷ ts) c (inr f) = some_fails ts c f.1
  some_fails ((false, a) ∷ ts) c (inr f) = clash false f.0 refl

  pub fails-not-hold {ℓ} : {B : Type ℓ} (ts : List (Bool × A)) (c : A) → FirstFails ts c → Hold ts → B
  fails-not-hold [] c f h = absurd f
  fails-not-hold (t ∷ ts) c (inl f) h = clash t.0 h.0 f.0
  fails-not-hold (t ∷ ts) c (inr f) h = fails-not-hold ts c f.1 h.1

  pub first_fails_unique : (ts : List (Bool × A)) (c d : A) → FirstFails ts c → FirstFails ts d → c ≡ d
  first_fails_unique [] c d f g = absurd f
  first_fails_unique (t ∷ ts) c d (inl f) (inl g) = sym f.1 ∙ g.1
  first_fails_unique (t ∷ ts) c d (inl f) (inr g) = clash t.0 g.0 f.0
  first_fails_unique (t ∷ ts) c d (inr f) (inl g) = clash t.0 f.0 g.0
  first_fails_unique (t ∷ ts) c d (inr f) (inr g) = first_fails_unique ts c d f.1 g.1
