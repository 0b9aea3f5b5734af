-- A number has the digits that std's `Display` writes, so that what is printed by counting off is what std says of it.
-- Assumes nothing.
use mathlib.Core.Path.{◌≡◌, sym}
use Prim.Native.Nat.{ℕ, ◌<◌, ◌^◌}
use Rattle.std.specs.Fmt as F
use Rattle.std.proofs.lemmas.Fmt.{decimal_by_steps}
use Rattle.text.specs.Decimal.{decimal}
use Rattle.text.proofs.Decimal.{decimal_digit, decimal-more}

pub displayed : (n : ℕ) → n < 2 ^ 64 → F.decimal n ≡ decimal n
displayed =
    decimal_by_steps (λ m ds. ds ≡ decimal m) (λ m l. sym (decimal_digit m l))
    (λ m ds l h. rw h (sym (decimal-more m l)))
