-- No listing of times of sixteen bits is longer than the limits of a sheet allow: a name has at most 8 bytes, a time at
-- most 5 digits, and a blank one byte. The times of a good table have sixteen bits. Assumes nothing.
use mathlib.Core.List.{List, [], ◌∷◌}
use mathlib.Core.Bool.{cond}
use mathlib.Core.Logic.{inl, inr}
use Prim.Native.Nat.{ℕ, zero, suc, ◌+◌, ◌*◌, ◌≤◌, ◌<◌}
use Prim.Native.Char.{code}
use native.Mathlib.Nat.{zero-mul, suc-mul}
use native.Mathlib.Omega.{arith}
use lib.Dec.{eqb}
use lib.ListN.{length, get_or, drop, length-append, length-take}
use lib.Pow.{pow_mono}
use Rattle.prelude.specs.Bounded.{tabulate}
use Rattle.prelude.proofs.Bounded.{length-tabulate}
use Rattle.prelude.proofs.Tests.{either, by_test}
use Rattle.prelude.specs.Bytes.{ascii}
use Rattle.text.specs.Lines.{comma, line_feed, line}
use Rattle.page.specs.Joined.{join_from}
use Rattle.network.specs.Limits as L
use Rattle.network.specs.Build.{name_of_lem, scenarios}
use Rattle.network.specs.Scenario.{truth}
use Rattle.network.specs.Happens.{happens}
use Rattle.network.specs.Strategy.{time}
use Rattle.network.specs.Solution.{Solution}
use Rattle.network.specs.WellFormed.{WellFormed, Named}
use Rattle.network.specs.declared.Network.{Network}
use Rattle.listing.specs.Listing.{scenario_text, header, line_over, time_texts, listing}
use Rattle.listing.specs.Line.{fields_of}
use Rattle.listing.proofs.Fields.{line-tabulate}
use Rattle.listing.proofs.Times.{length-time_text}
use Rattle.listing.specs.Most.{most_header, most_line, most_listing}

length-join : (f : ℕ → List ℕ) (most i n : ℕ) → ((j : ℕ) → i ≤ j → j < i + n → length (f j) ≤ most)
    → length (join_from i n f) ≤ n * most
length-join f most i zero h = rw (zero-mul most) (omega arith)
length-join f most i (suc n) h =
    rw (suc-mul n most)
    (omega (
      arith,
      length-append (f i) (join_from (suc i) n f),
      h i (omega arith) (omega arith),
      length-join f most (suc i) n (λ j a b. h j (omega arith) (omega arith)),
    ))

length_fields : (n most : ℕ) (f : ℕ → List ℕ) → ((j : ℕ) → j < n → length (f j) ≤ most)
    → length (fields_of n f) ≤ n * suc most + 1
length_fields n most f h =
    omega (
      arith,
      length-append (join_from 0 n (λ i. comma ∷ f i)) (line_feed ∷ []),
      length-join (λ i. comma ∷ f i) (suc most) 0 n (λ j a b. omega (arith, h j (omega arith))),
    )

-- a line of n fields behind its first
length-line : (f : List ℕ) (n most : ℕ) (g : ℕ → List ℕ) → ((j : ℕ) → j < n → length (g j) ≤ most)
    → length (line f (tabulate n g)) ≤ length f + (n * suc most + 1)
length-line f n most g h =
    rw (← line-tabulate f n g) (omega (arith, length-append f (fields_of n g), length_fields n most g h))

length-scenario : (k s : ℕ) → k ≤ 4 → length (scenario_text k s) ≤ 4
length-scenario k s h =
    by_test (λ (t : List ℕ). length t ≤ 4) (eqb k 0) _ (tabulate k (λ p. cond (truth s p) (code "T") (code "F")))
    (λ e. omega arith)
    (λ e. omega (arith, length-tabulate (λ p. cond (truth s p) (code "T") (code "F")) k))

module _ (sheet : List ℕ) (Γ : Network) (σ : List ℕ) (wf : WellFormed Γ) (named : Named sheet Γ) where
  name-short : (u : ℕ) → u < Γ.events → length (name_of_lem Γ sheet u) ≤ 8
  name-short u l =
      omega (arith, named.short u l, length-take (get_or Γ.lengths u 0) (drop (get_or Γ.starts u 0) sheet))

  header-short : length (header sheet Γ) ≤ most_header
  header-short =
      omega (arith, wf.events, length-line (ascii "case") Γ.events 8 (name_of_lem Γ sheet) name-short)

  module _ (times : (s u : ℕ) → s < scenarios Γ → u < Γ.events → time Γ.events σ s u ≤ L.blank) where
    abbrev texts : ℕ → ℕ → List ℕ
    texts = time_texts Γ.events σ

    line-short : (s : ℕ) → s < scenarios Γ → length (line_over Γ.signals Γ.events texts s) ≤ most_line
    line-short s l =
        omega (
          arith,
          wf.events,
          length-scenario Γ.signals s wf.signals,
          length-line (scenario_text Γ.signals s) Γ.events 5 (texts s)
              (λ u h. length-time_text _ (times s u l h)),
        )

    pub listing-short : length (listing sheet Γ σ) ≤ most_listing
    unfolding listing
    listing-short =
        let rows = line_over Γ.signals Γ.events texts in
        omega (
          arith,
          header-short,
          length-append (header sheet Γ) (join_from 0 (scenarios Γ) rows),
          length-join rows most_line 0 (scenarios Γ) (λ s a b. line-short s (omega arith)),
          pow_mono {i = Γ.signals} {j = 4} wf.signals,
        )

-- a cell of a good table is a minute within the horizon, or blank
pub good-times : (Γ : Network) (σ : List ℕ) → WellFormed Γ → Solution Γ σ → (s u : ℕ) → s < scenarios Γ → u < Γ.events
    → time Γ.events σ s u ≤ L.blank
good-times Γ σ wf good s u l h =
    let cell = good.on_time s u l h in
    elim (either (happens Γ s u)) [
      | inl p ↦ omega (arith, (cell.placed p).in_horizon, wf.horizon)
      | inr p ↦ omega (arith, cell.absent p)
    ]
