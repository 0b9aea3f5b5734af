-- A table that is handed in has the right length exactly where document 01 says so, as minutes and as bytes. Assumes
-- nothing.
use mathlib.Core.Path.{◌≡◌}
use mathlib.Core.Logic.{◌↔◌}
use mathlib.Core.Bool.{true, false}
use mathlib.Core.List.{List}
use Prim.Native.Nat.{ℕ, ◌*◌, ◌≤◌}
use native.Mathlib.Nat.{mul-le-mul}
use native.Mathlib.Omega.{arith}
use borrow.Author.Tests.{eqb-true, eqb-false, eq-eqb, ne_eqb}
use lib.ListN.{length}
use lib.Pow.{pow_mono}
use Rattle.pairs.proofs.Packing.{length-minutes_of}
use Rattle.network.specs.Build.{cells}
use Rattle.network.specs.WellFormed.{WellFormed}
use Rattle.network.specs.declared.Network.{Network}
use Rattle.calls.specs.Lent.{Handed, as_minutes, as_bytes}
use Rattle.calls.specs.Numbers.{minutes, bytes}

-- a network has at most 256 cells
pub cells-few : {Γ : Network} → WellFormed Γ → cells Γ ≤ 256
cells-few {Γ} w = omega (arith, mul-le-mul w.events (pow_mono {i = Γ.signals} {j = 4} w.signals))

-- and at least one
pub cells-some : {Γ : Network} → WellFormed Γ → 1 ≤ cells Γ
cells-some {Γ} w = omega (arith, mul-le-mul w.some_event (pow_mono {i = 0} {j = Γ.signals} (omega arith)))

pub record Rightly (t : Handed) (right : Network → Type 0) (Γ : Network) : Type 0 where
  pub yes : (t.has (cells Γ) ≡ true) ↔ right Γ
  pub no : (t.has (cells Γ) ≡ false) ↔ (right Γ → ⊥)
  pub sized : right Γ → length t.minutes ≡ cells Γ

pub minutes_rightly : (t : List ℕ) (Γ : Network) → Rightly (as_minutes t) (minutes t) Γ
minutes_rightly t Γ = record {
  yes = (eqb-true (length t) (cells Γ), eq-eqb (length t) (cells Γ));
  no = (eqb-false (length t) (cells Γ), ne_eqb (length t) (cells Γ));
  sized = λ e. e;
}

pub bytes_rightly : (b : List ℕ) (Γ : Network) → Rightly (as_bytes b) (bytes b) Γ
bytes_rightly b Γ = record {
  yes = (eqb-true (length b) (2 * cells Γ), eq-eqb (length b) (2 * cells Γ));
  no = (eqb-false (length b) (2 * cells Γ), ne_eqb (length b) (2 * cells Γ));
  sized = λ e. omega (arith, length-minutes_of b);
}
