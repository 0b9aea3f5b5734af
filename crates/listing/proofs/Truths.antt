-- Laws of a scenario's truths as they are printed. Assumes nothing.
use mathlib.Core.Path.{◌≡◌, refl, sym}
use mathlib.Core.Bool.{true}
use mathlib.Core.List.{[], ◌∷◌}
use Prim.Native.Nat.{ℕ, zero, suc, ◌/◌, ◌^◌, ◌≤◌}
use Prim.Native.Char.{code}
use borrow.Author.Tests.{ne_eqb}
use lib.Dec.{eqb}
use lib.Pow.{pow_mono}
use Rattle.prelude.specs.Bytes.{ascii, every}
use Rattle.prelude.specs.Bounded.{tabulate_from}
use Rattle.prelude.proofs.Tests.{and_both, by_test, by_cond}
use Rattle.text.specs.Lines.{plain}
use Rattle.page.specs.Joined.{join_from}
use Rattle.page.proofs.Join.{tabulate-join}
use Rattle.network.specs.Limits as L
use Rattle.network.specs.Scenario.{truth}
use Rattle.listing.specs.Listing.{scenario_text}
use Rattle.listing.specs.Line.{mark_of_lem}

module _ (s : ℕ) where
  -- where there is no signal
  pub scenario_text-none : (k : ℕ) → k ≡ 0 → ascii "-" ≡ scenario_text k s
  scenario_text-none k e = rw e

  -- where there is a signal, the marks one by one
  pub scenario_text-some : (k : ℕ) → (k ≡ 0 → ⊥) → join_from 0 k (λ p. mark_of_lem (s / 2 ^ p) ∷ []) ≡ scenario_text k s
  scenario_text-some k h = rw (ne_eqb k 0 h, scenario_text) (sym (tabulate-join (λ p. mark_of_lem (s / 2 ^ p)) k))

  -- what is printed is a field: it has no comma and no line feed
  plain_marks : (i n : ℕ) → every plain (tabulate_from i n (λ p. mark_of_lem (s / 2 ^ p))) ≡ true
  plain_marks i zero = refl
  plain_marks i (suc n) =
      and_both _ _ (by_cond (λ b. plain b ≡ true) (truth s i) (code "T") (code "F") (λ e. refl) (λ e. refl))
      (plain_marks (suc i) n)

  pub plain-scenario : (k : ℕ) → every plain (scenario_text k s) ≡ true
  plain-scenario k = by_test (λ t. every plain t ≡ true) (eqb k 0) _ _ (λ e. refl) (λ e. plain_marks 0 k)

-- the limit of the signals limits the scenarios
pub few-scenarios : (k : ℕ) → k ≤ L.signals → 2 ^ k ≤ 2 ^ L.signals
few-scenarios k h = pow_mono {j = L.signals} h
