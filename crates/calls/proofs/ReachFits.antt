-- How far a run came fits three bytes, and the header's functions tell it. Assumes nothing.
use mathlib.Core.Path.{◌≡◌, refl, sym, ◌∙◌, ap}
use mathlib.Core.List.{List}
use mathlib.Core.Bool.{false}
use Prim.Native.Nat.{ℕ, zero, suc, ◌+◌, ◌≤◌, ◌<◌}
use native.Mathlib.Omega.{arith}
use borrow.Author.Tests.{ne_eqb}
use lib.Dec.{eqb}
use Rattle.network.specs.declared.Network.{Network}
use Rattle.sheet.specs.Reading.{network_of}
use Rattle.sheet.proofs.WellFormed.{accepted_well_formed}
use Rattle.solver.specs.Stopped.{floor_after}
use Rattle.solver.proofs.Rounds.{counted}
use Rattle.solver.proofs.Stopped.{length-floor, left_most}
use Rattle.calls.specs.Values.{OrRefusal, Values, number_values}
use Rattle.calls.specs.Call.{Left}
use Rattle.calls.specs.Lent.{Lent, in_pairs}
use Rattle.calls.specs.Calls.{solving_into}
use Rattle.calls.specs.Within.{OrProgress, Reach, NoRound, Finishes, Stops, progress_values, reach_of, within_into}
use Rattle.calls.specs.Bench.{bench_within, packed_count_lem, packed_rounds_lem, reach_bytes, packed_reach_lem}
use Rattle.calls.specs.Header.{bits, CountHolds, ReachTold, ReachHolds}
use Rattle.calls.specs.Numbers.{solves_within}
use Rattle.calls.proofs.Handed.{cells-few}
use Rattle.calls.proofs.Small.{solving_small}
use Rattle.calls.proofs.Counting.{rise_few, rounds_few}
use Rattle.calls.proofs.Within.{Came, refused, stopped, finished, came, written-same}
use Rattle.calls.proofs.StopsEarly.{unstopped}
use Rattle.calls.proofs.Numbers.{numbers}
use Rattle.calls.proofs.Header.{count-holds, values_below}

abbrev pub Fits : Reach → Type 0
Fits NoRound = Unit {0}
Fits (Finishes k) = (1 ≤ k) × (k < 8388608)
Fits (Stops l) = l < 8388608

module _ (sheet : List ℕ) (n : ℕ) (m : Lent) where
  abbrev net : Network
  net = network_of sheet

  abbrev whole : Left OrProgress
  whole = within_into sheet n m

  pub reach_fits : Fits (reach_of whole.answer)
  reach_fits = by_came (came sheet n m)
    where
      by_came : Came sheet n m → Fits (reach_of whole.answer)
      by_came (refused r made e f) = rw (← e) tt
      by_came (stopped made l e f) =
          let w = (accepted_well_formed sheet made.accepted).0 in
          rw (← e) (omega (arith, left_most net (floor_after net n), rise_few net w))
      by_came (finished made g e f) =
          let w = (accepted_well_formed sheet made.accepted).0 in
          rw (unstopped sheet n m made g).reach (omega (arith, (counted net).some), omega (arith, rounds_few net w))

  pub progress_small : (progress_values whole.answer).value < 65536
  progress_small = by_came (came sheet n m)
    where
      by_came : Came sheet n m → (progress_values whole.answer).value < 65536
      by_came (refused r made e f) = rw (← e) (omega arith)
      by_came (stopped made l e f) =
          let w = (accepted_well_formed sheet made.accepted).0 in
          rw (← e) (omega (arith, length-floor net n, cells-few w))
      by_came (finished made g e f) =
          let same : progress_values whole.answer ≡ number_values (solving_into sheet m).answer =
          ap number_values (written-same sheet n m ∙ ap (λ (l : Left (OrRefusal ℕ)). l.answer) (sym f)) in
          omega (arith, ap (λ (v : Values ℕ). v.value) same, solving_small sheet m)

bytes_few : (c : Reach) → Fits c → reach_bytes c < 16777216
bytes_few NoRound f = omega arith
bytes_few (Finishes k) f = omega (arith, f.1)
bytes_few (Stops l) f = omega (arith, f)

-- what stands in the three bytes tells it
reach-holds : (v : Values ℕ) (c : Reach) → CountHolds (packed_count_lem v) v → Fits c
    → ReachHolds (packed_reach_lem v c) v c
reach-holds v c h f = by_reach c f
  where
    low : packed_count_lem v < 1099511627776
    low = omega (arith, h.rest)

    by_reach : (c : Reach) → Fits c → ReachHolds (packed_reach_lem v c) v c
    by_reach NoRound f =
        let a = packed_rounds_lem v 0 in
        let clear : bits a 63 1 ≡ 0 = omega (arith, low) in
        let value : bits a 40 23 ≡ 0 = omega (arith, low) in
        record { values = values_below v 0 h (omega arith); reach = rw (clear, value) refl }
    by_reach (Finishes k) f =
        let a = packed_rounds_lem v k in
        let clear : bits a 63 1 ≡ 0 = omega (arith, low, f.1) in
        let value : bits a 40 23 ≡ k = omega (arith, low, f.1) in
        let some : eqb k 0 ≡ false = ne_eqb k 0 (λ z. omega (arith, f.0)) in
        record { values = values_below v k h (omega (arith, f.1)); reach = rw (clear, value, some) refl }
    by_reach (Stops l) f =
        let a = packed_rounds_lem v (8388608 + l) in
        let set : bits a 63 1 ≡ 1 = omega (arith, low, f) in
        let value : bits a 40 23 ≡ l = omega (arith, low, f) in
        record { values = values_below v (8388608 + l) h (omega (arith, f)); reach = rw (set, value) refl }

-- and the header's functions tell it
pub reach_told_by : (a : ℕ) → ReachTold a
reach_told_by a = by_bits (bits a 63 1) (bits a 40 23) refl refl (omega arith)
  where
    by_bits : (b v : ℕ) → bits a 63 1 ≡ b → bits a 40 23 ≡ v → b < 2 → ReachTold a
    by_bits zero zero p q l = record { finished = rw (p, q) refl; rounds = rw (p, q) refl; left = rw (p, q) refl }
    by_bits zero (suc v) p q l =
        let some : eqb (suc v) 0 ≡ false = ne_eqb (suc v) 0 (λ z. omega arith) in
        record {
          finished = rw (p, q, some) (omega arith);
          rounds = rw (p, q, some) (omega arith);
          left = rw (p, q, some) (omega arith);
        }
    by_bits (suc zero) v p q l = record {
      finished = rw (p, q) (omega arith);
      rounds = rw (p, q) (omega arith);
      left = rw (p, q) (omega arith);
    }
    by_bits (suc (suc b)) v p q l = absurd (omega arith)

module _ (sheet : List ℕ) (n : ℕ) (b : List ℕ) where
  abbrev answer : OrProgress
  answer = (bench_within sheet n b).answer

  pub within_count : let v = progress_values answer in CountHolds (packed_count_lem v) v
  within_count =
      count-holds (solves_within n _) (progress_values (bench_within sheet n b).answer) refl
      (numbers.within sheet n (in_pairs b)).answers (progress_small sheet n (in_pairs b))

  pub reach-few : reach_bytes (reach_of answer) < 16777216
  reach-few = bytes_few (reach_of answer) (reach_fits sheet n (in_pairs b))

  pub header-within : ReachHolds (packed_reach_lem (progress_values answer) (reach_of answer)) (progress_values answer)
      (reach_of answer)
  header-within =
      reach-holds (progress_values answer) (reach_of answer) within_count (reach_fits sheet n (in_pairs b))
