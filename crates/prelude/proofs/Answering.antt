-- Laws of answers that may be none: of the first of two, of one where a test holds or fails, and whether there is one.
-- Assumes nothing.
use mathlib.Core.Path.{◌≡◌, refl, sym}
use mathlib.Core.Logic.{◌⊎◌, inl, inr}
use mathlib.Core.Bool.{Bool, true, false}
use mathlib.Core.Option.{Option, none, some}
use Rattle.prelude.specs.Search.{or_else, when, unless, answers}
use Rattle.prelude.proofs.Tests.{zero-is-one}

-- an answer or none
pub some_or_none : {A : Type 0} (o : Option A) → ((a : A) × (o ≡ some a)) ⊎ (o ≡ none)
some_or_none none = inr refl
some_or_none (some a) = inl (a, refl)

-- no answer is none
pub some-not-none {ℓ} : {A : Type 0} {B : Type ℓ} (a : A) → ◌≡◌ {A = Option A} (some a) none → B
some-not-none a e = zero-is-one cc

pub none-not-some {ℓ} : {A : Type 0} {B : Type ℓ} (a : A) → ◌≡◌ {A = Option A} none (some a) → B
none-not-some a e = some-not-none a (sym e)

module _ {A : Type 0} where
  pub or_else_none : (a b : Option A) → or_else a b ≡ none → (a ≡ none) × (b ≡ none)
  or_else_none none b e = (refl, e)
  or_else_none (some a) b e = some-not-none a e

  pub or_else_some : (o p : Option A) (a : A) → or_else o p ≡ some a → (o ≡ some a) ⊎ ((o ≡ none) × (p ≡ some a))
  or_else_some none p a e = inr (refl, e)
  or_else_some (some b) p a e = inl e

  pub true_of_unless : (b : Bool) (a : A) → unless b a ≡ none → b ≡ true
  true_of_unless true a e = refl
  true_of_unless false a e = some-not-none a e

  pub unless-true : (b : Bool) (a : A) → b ≡ true → unless b a ≡ none
  unless-true b a e = rw e

  pub unless-some : (b : Bool) (a c : A) → unless b a ≡ some c → (b ≡ false) × (a ≡ c)
  unless-some true a c e = none-not-some c e
  unless-some false a c e = (refl, cc)

  pub when-some : (b : Bool) (a c : A) → when b a ≡ some c → (b ≡ true) × (a ≡ c)
  when-some true a c e = (refl, cc)
  when-some false a c e = none-not-some c e

  pub when-none : (b : Bool) (a : A) → when b a ≡ none → b ≡ false
  when-none true a e = some-not-none a e
  when-none false a e = refl

  -- what answers has an answer
  pub answered : (o : Option A) → answers o ≡ true → (a : A) × (o ≡ some a)
  answered none e = zero-is-one cc
  answered (some a) e = (a, refl)

  pub unanswered : (o : Option A) → answers o ≡ false → o ≡ none
  unanswered none e = refl
  unanswered (some a) e = zero-is-one cc
