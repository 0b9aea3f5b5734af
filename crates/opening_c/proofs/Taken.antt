-- A table that comes as bytes is played, judged and listed as its minutes are: it has as many, and the same, or neither
-- is a sheet's. Assumes nothing.
use mathlib.Core.Path.{◌≡◌, refl, sym, ◌∙◌, ap}
use mathlib.Core.Logic.{inl, inr, ◌↔◌}
use mathlib.Core.Bool.{Bool, true, false}
use mathlib.Core.List.{List}
use Prim.Native.Nat.{ℕ, ◌*◌, ◌/◌, ◌%◌, ◌≤◌, ◌<◌}
use native.Mathlib.Omega.{arith}
use borrow.Author.Tests.{eqb-true, eq-eqb, ne_eqb, le-leb}
use lib.Dec.{eqb, leb}
use lib.ListN.{length}
use Rattle.prelude.proofs.Tests.{eq_or_ne, and-true, zero-is-one}
use Rattle.pairs.specs.Pairs.{minutes_of, is_table, table_of_lem, Short}
use Rattle.pairs.proofs.Packing.{length-minutes_of}
use Rattle.network.specs.Limits as L
use Rattle.network.specs.Build.{cells}
use Rattle.sheet.specs.Reading.{network_of, Accepts}
use Rattle.sheet.proofs.WellFormed.{accepted_well_formed}
use Rattle.dispatch.specs.Said.{due_on}
use Rattle.dispatch.specs.HeardText.{said_text, due_text}
use Rattle.dispatch.proofs.HeardText.{due-said-text}
use Rattle.calls.specs.Values.{number_values}
use Rattle.calls.specs.Lent.{as_minutes, as_bytes}
use Rattle.calls.specs.Calls.{judgement, listed}
use Rattle.calls.specs.Play.{events_due_on_lem}
use Rattle.calls.specs.Bench.{bench_judgement, bench_listed, bench_due}
use Rattle.calls.proofs.Handed.{cells-few, cells-some}
use Rattle.calls.proofs.Alike.{Alike, judging-alike, listing-alike, playing-alike}
use Rattle.calls.proofs.Play.{lettered}
use Rattle.calls.proofs.Small.{listing_small}

-- two tests of equality that say the same
eqb_iff : (a b c d : ℕ) → (a ≡ b) ↔ (c ≡ d) → eqb a b ≡ eqb c d
eqb_iff a b c d h =
    elim (eq_or_ne a b) [
      | inl e ↦ eq-eqb a b e ∙ sym (eq-eqb c d (h.0 e))
      | inr n ↦ ne_eqb a b n ∙ sym (ne_eqb c d (λ e. n (h.1 e)))
    ]

-- how many minutes a sheet's table has: at least the start's, and at most all
record Sized (k : ℕ) : Type 0 where
  some : 1 ≤ k
  most : k ≤ L.cells

sized : (sheet : List ℕ) → Accepts sheet → Sized (cells (network_of sheet))
sized sheet a =
    let w = (accepted_well_formed sheet a).0 in
    record { some = cells-some w; most = cells-few w }

module _ (b : List ℕ) where
  abbrev table : List ℕ
  table = table_of_lem L.cells b

  -- the table has k minutes where the bytes have twice as many, and then they are those of the bytes
  alike : (k : ℕ) → Sized k → Alike (as_minutes table) (as_bytes b) k
  alike k s = by_test (is_table L.cells b) refl
    where
      no_table : (k : ℕ) → Sized k → length b ≡ 2 * k → is_table L.cells b ≡ false → ⊥
      no_table k s q e =
          let even : eqb (length b % 2) 0 ≡ true = eq-eqb (length b % 2) 0 (omega arith) in
          let few : leb (length b / 2) L.cells ≡ true = le-leb (length b / 2) L.cells (omega (arith, s.most)) in
          let yes : is_table L.cells b ≡ true = rw (even, few) refl in
          let z : ◌≡◌ {A = Bool} true false = sym yes ∙ e in
          zero-is-one cc

      by_test : (t : Bool) → is_table L.cells b ≡ t → Alike (as_minutes table) (as_bytes b) k
      by_test true e =
          let h = and-true (eqb (length b % 2) 0) (leb (length b / 2) L.cells) e in
          let even : length b % 2 ≡ 0 = eqb-true (length b % 2) 0 h.0 in
          let all : table ≡ minutes_of b = rw e refl in
          let size : length table ≡ length b / 2 = rw all (length-minutes_of b) in
          record {
            has = eqb_iff (length table) k (length b) (2 * k) (λ q. omega arith, λ q. omega arith);
            minutes = λ _. all;
          }
      by_test false e =
          let none : length table ≡ 0 = rw e refl in
          record {
            has = eqb_iff (length table) k (length b) (2 * k)
                (λ q. absurd (omega (arith, s.some)), λ q. absurd (no_table k s q e));
            minutes = λ q. absurd (omega (arith, s.some, eqb-true (length table) k q));
          }

  module _ (sheet : List ℕ) where
    of_sheet : Accepts sheet → Alike (as_minutes table) (as_bytes b) (cells (network_of sheet))
    of_sheet a = alike (cells (network_of sheet)) (sized sheet a)

    pub taken_judged : judgement sheet table ≡ bench_judgement sheet b
    taken_judged = judging-alike sheet (as_minutes table) (as_bytes b) of_sheet

    pub taken_listed : (m : List ℕ) → listed sheet table m ≡ bench_listed sheet b m
    taken_listed = listing-alike sheet (as_minutes table) (as_bytes b) of_sheet

    pub taken_played : (m : ℕ) (text : List ℕ) → events_due_on_lem sheet table m (said_text text)
        ≡ bench_due sheet b m text
    unfolding events_due_on_lem bench_due
    taken_played m text =
        playing-alike sheet (as_minutes table) (as_bytes b) of_sheet (λ Γ. due_on Γ table m (said_text text))
        (λ Γ. due_text Γ (minutes_of b) m text)
        (λ a h.
        ap (λ (σ : List ℕ). due_on (network_of sheet) σ m (said_text text)) ((of_sheet a).minutes h)
        ∙ due-said-text (network_of sheet) (minutes_of b) m (lettered sheet a) text)

    pub taken_small : Short (minutes_of b) → (m : List ℕ) → (number_values (listed sheet table m).answer).value < 65536
    taken_small short m = listing_small sheet (as_minutes table) m (λ a h. rw ((of_sheet a).minutes h) short)
