-- What an answer says that is there where a test holds or fails, and one with an error in its place. Assumes nothing.
use mathlib.Core.Path.{◌≡◌, refl}
use mathlib.Core.Logic.{◌⊎◌, inl, inr}
use mathlib.Core.Bool.{Bool, true, false, cond}
use mathlib.Core.Option as O
use Rattle.std.specs.Prelude.{Option, Some, None, Ok, Err, ok_or}
use Rattle.prelude.specs.Search.{or_else, unless}
use Rattle.prelude.proofs.Tests.{zero-is-one}

module _ {A : Type 0} where
  pub cond_none : (b : Bool) (a : A) → cond b (Some a) None ≡ None → b ≡ false
  cond_none true a e = zero-is-one cc
  cond_none false a e = refl

  pub cond_some : (b : Bool) (a x : A) → cond b (Some a) None ≡ Some x → (b ≡ true) × (a ≡ x)
  cond_some true a x e = (refl, cc)
  cond_some false a x e = zero-is-one cc

  -- of a test and what is tested behind it
  pub unless_or_else : (b : Bool) (a : A) (o : O.Option A) (x : A) → or_else (unless b a) o ≡ O.some x
      → ((b ≡ false) × (a ≡ x)) ⊎ ((b ≡ true) × (o ≡ O.some x))
  unless_or_else true a o x e = inr (refl, e)
  unless_or_else false a o x e = inl (refl, cc)

module _ {A E : Type 0} where
  pub ok_or_err : (o : Option A) (e x : E) → ok_or o e ≡ Err x → (o ≡ None) × (x ≡ e)
  ok_or_err None e x q = (refl, cc)
  ok_or_err (Some a) e x q = zero-is-one cc

  pub ok_or_ok : (o : Option A) (e : E) (a : A) → ok_or o e ≡ Ok a → o ≡ Some a
  ok_or_ok None e a q = zero-is-one cc
  ok_or_ok (Some b) e a q = cc
