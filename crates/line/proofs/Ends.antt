-- Where a line ends: its line feed is found, and it is what stands before that; or there is none. Assumes nothing.
use mathlib.Core.Path.{◌≡◌, refl, sym, ◌∙◌}
use mathlib.Core.Bool.{Bool, true, false, cond}
use mathlib.Core.List.{List}
use Prim.Native.Nat.{ℕ}
use lib.Dec.{eqb}
use lib.ListN.{length}
use Rattle.std.specs.Prelude.{Option, Some, None, position}
use Rattle.prelude.specs.Bytes.{is_in}
use Rattle.prelude.proofs.Tests.{zero-is-one}
use Rattle.text.specs.Lines.{line_feed, up_to}
use Rattle.text.proofs.Lines.{find-is}

by-some : (b : Bool) (n e : ℕ) → ◌≡◌ {A = Option ℕ} (cond b (Some n) None) (Some e) → (b ≡ true) × (e ≡ n)
by-some true n e p = (refl, cc)
by-some false n e p = zero-is-one cc

by-none : (b : Bool) (n : ℕ) → ◌≡◌ {A = Option ℕ} (cond b (Some n) None) None → b ≡ false
by-none true n p = zero-is-one cc
by-none false n p = refl

module _ (rest : List ℕ) where
  abbrev found : Option ℕ
  found = position (λ b. eqb b line_feed) rest

  pub found-ends : (e : ℕ) → found ≡ Some e → (is_in line_feed rest ≡ true) × (e ≡ length (up_to line_feed rest))
  found-ends e p = by-some (is_in line_feed rest) (length (up_to line_feed rest)) e (sym (find-is line_feed rest) ∙ p)

  pub nothing-ends : found ≡ None → is_in line_feed rest ≡ false
  nothing-ends p = by-none (is_in line_feed rest) (length (up_to line_feed rest)) (sym (find-is line_feed rest) ∙ p)
