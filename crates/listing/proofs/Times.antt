-- Laws of what a cell holds, as it is printed. Assumes nothing.
use mathlib.Core.Path.{◌≡◌, refl}
use mathlib.Core.Bool.{true, cond}
use mathlib.Core.List.{List}
use Prim.Native.Nat.{ℕ, ◌≤◌}
use native.Mathlib.Omega.{arith}
use borrow.Author.Tests.{eq-eqb, ne_eqb}
use lib.Dec.{eqb}
use lib.ListN.{length}
use Rattle.prelude.specs.Bytes.{ascii, every}
use Rattle.prelude.proofs.Tests.{by_cond}
use Rattle.text.specs.Lines.{plain}
use Rattle.text.specs.Decimal.{decimal}
use Rattle.text.proofs.Decimal.{length-decimal_16}
use Rattle.text.proofs.Numbers.{plain-decimal}
use Rattle.network.specs.Limits as L
use Rattle.listing.specs.Listing.{time_text}

module _ (v : ℕ) where
  pub time_text-blank : v ≡ L.blank → time_text v ≡ ascii "-"
  time_text-blank e = rw (eq-eqb v L.blank e, cond)

  pub time_text-time : (v ≡ L.blank → ⊥) → time_text v ≡ decimal v
  time_text-time h = rw (ne_eqb v L.blank h, cond)

  -- a dash is no longer than five digits
  pub length-time_text : v ≤ L.blank → length (time_text v) ≤ 5
  length-time_text h =
      by_cond (λ (t : List ℕ). length t ≤ 5) (eqb v L.blank) (ascii "-") (decimal v) (λ e. omega arith)
      (λ e. length-decimal_16 v h)

  -- it is a field: it has no comma and no line feed
  pub plain-time_text : every plain (time_text v) ≡ true
  plain-time_text =
      by_cond (λ (t : List ℕ). every plain t ≡ true) (eqb v L.blank) (ascii "-") (decimal v) (λ e. refl)
      (λ e. plain-decimal v)
