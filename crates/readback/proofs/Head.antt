-- Laws of bytes that begin with the header. Assumes nothing.
use mathlib.Core.Path.{◌≡◌, refl, sym, ◌∙◌}
use mathlib.Core.Logic.{inl, inr}
use mathlib.Core.Bool.{true, false}
use mathlib.Core.List.{List, [], ◌∷◌}
use Prim.Native.Nat.{◌≤◌, ◌<◌, ℕ}
use native.Mathlib.Omega.{arith}
use lib.ListN.{length, take, length-take}
use lib.Pointwise.{pointwise}
use Rattle.std.specs.Prelude.{nat_eq}
use Rattle.prelude.specs.Bytes.{same}
use Rattle.prelude.proofs.Bytes.{equal_is}
use Rattle.prelude.proofs.Tests.{clash, lt_or_ge, eqb_same}
use Rattle.text.proofs.Lines.{same_length}
use Rattle.readback.specs.Rows.{header_fits}

-- what the code finds by `starts_with`
same_comm : (a b : List ℕ) → same a b ≡ same b a
same_comm [] [] = refl
same_comm [] (y ∷ ys) = refl
same_comm (x ∷ xs) [] = refl
same_comm (x ∷ xs) (y ∷ ys) = rw (eqb_same x y y x sym sym, same_comm xs ys)

pub begins-is : (head bytes : List ℕ) → pointwise nat_eq head (take (length head) bytes) ≡ header_fits head bytes
begins-is head bytes = equal_is head (take (length head) bytes) ∙ same_comm head (take (length head) bytes)

-- bytes that are shorter than the header do not begin with it
header-short : (head bytes : List ℕ) → length bytes < length head → header_fits head bytes ≡ false
header-short head bytes h =
    same_length (take (length head) bytes) head (λ e. absurd (omega (arith, length-take (length head) bytes)))

pub header-inside : (head bytes : List ℕ) → header_fits head bytes ≡ true → length head ≤ length bytes
header-inside head bytes e =
    elim (lt_or_ge (length bytes) (length head)) [
      | inl h ↦ clash (header_fits head bytes) e (header-short head bytes h)
      | inr h ↦ h
    ]
