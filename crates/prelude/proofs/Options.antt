-- Laws of answers as functions of the code give them. Assumes nothing.
use mathlib.Core.Path.{◌≡◌, refl, ap}
use mathlib.Core.Bool.{Bool, true, false}
use mathlib.Core.Option.{Option, none, some, get_or}
use Rattle.std.specs.Prelude as code
use Rattle.std.specs.Prelude.{Some, None, is_some, unwrap_or, MatchOption, IsSomeAnd}
use Rattle.std.specs.Bool.{then_some}
use Rattle.std.specs.Option.{option_map}
use Rattle.prelude.specs.Search.{answers}
use Rattle.prelude.specs.Options.{option_of}
use Rattle.prelude.proofs.Tests.{zero-is-one}

pub is_some-option_of : {A : Type 0} (o : Option A) → is_some (option_of o) ≡ answers o
is_some-option_of none = refl
is_some-option_of (some a) = refl

pub unwrap_or-option_of : {A : Type 0} (o : Option A) (d : A) → unwrap_or (option_of o) d ≡ get_or o d
unwrap_or-option_of none d = refl
unwrap_or-option_of (some a) d = refl

pub option_of-some : {A : Type 0} (o : Option A) (a : A) → option_of o ≡ Some a → o ≡ some a
option_of-some none a e = zero-is-one cc
option_of-some (some b) a e = cc

pub option_of-none : {A : Type 0} (o : Option A) → option_of o ≡ None → o ≡ none
option_of-none none e = refl
option_of-none (some a) e = zero-is-one cc

-- what `map` answers
pub mapped : {A B : Type 0} (f : A → B) (o : code.Option A) (r : code.Option B)
    → MatchOption o (r ≡ None) (λ x. IsSomeAnd r (λ y. y ≡ f x)) → r ≡ option_map f o
mapped f None r h = h
mapped f (Some x) (Some y) h = ap (λ z. Some z) h
mapped f (Some x) None h = absurd h

-- what `then_some` answers
pub then_some_none : {A : Type 0} (b : Bool) (a : A) → then_some b a ≡ None → b ≡ false
then_some_none true a e = zero-is-one cc
then_some_none false a e = refl

pub then_some_some : {A : Type 0} (b : Bool) (a x : A) → then_some b a ≡ Some x → (b ≡ true) × (a ≡ x)
then_some_some true a x e = (refl, cc)
then_some_some false a x e = zero-is-one cc
