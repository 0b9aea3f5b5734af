-- Solving within n rounds, into minutes that are written as pairs of bytes: there is room in the minutes where there is
-- in the pairs, so that the run comes as far. Assumes nothing.
use mathlib.Core.Path.{◌≡◌, refl, sym, ◌∙◌, ap}
use mathlib.Core.List.{List, ◌++◌}
use Prim.Native.Nat.{ℕ, ◌/◌, min}
use borrow.Author.Tests.{leb-true, le-leb}
use lib.Dec.{leb}
use lib.ListN.{length, take, drop}
use Rattle.network.specs.Build.{cells}
use Rattle.sheet.specs.Reading.{network_of}
use Rattle.calls.specs.Values.{OrRefusal}
use Rattle.calls.specs.Call.{Leaves}
use Rattle.calls.specs.Lent.{Lent, in_place_lem, in_pairs}
use Rattle.calls.specs.Within.{OrProgress, written_of, reach_of, within}
use Rattle.calls.specs.Bench.{packed_left, bench_within}
use Rattle.calls.proofs.Within.{Made, written_into, within_left}
use Rattle.calls.proofs.StopsEarly.{reach-alike}
use Rattle.opening_c.specs.Packed.{packed_table_lem}
use Rattle.opening_c.proofs.Fills.{within_fills}
use Rattle.opening_c.proofs.Pairs.{same-room, zeros, from_zeros}

module _ (sheet : List ℕ) (n : ℕ) (b : List ℕ) (k : ℕ) (lent : k ≡ min (length b / 2) 256) {s : OrProgress}
    {x : List ℕ} (left : Leaves (within sheet n (take k zeros)) s x) where
  abbrev within_minutes : Lent
  within_minutes = in_place_lem (take k zeros)

  abbrev here : ℕ
  here = cells (network_of sheet)

  pub within_from_zeros : {w : OrRefusal ℕ} {r : ℕ} {after : List ℕ} → w ≡ written_of s
      → Leaves (packed_table_lem w (x ++ drop k zeros) b) r after
      → Leaves (packed_left (written_into sheet n (in_pairs b))) r after
  within_from_zeros e packed =
      from_zeros sheet (within_fills sheet n) b k lent (rw e (within_left sheet n within_minutes left)) packed

  pub reach_from_zeros : reach_of s ≡ reach_of (bench_within sheet n b).answer
  reach_from_zeros =
      ap reach_of left.answer
      ∙ reach-alike sheet n within_minutes (in_pairs b)
      (λ d. by_room d (same-room sheet (within_fills sheet n) b zeros refl k lent d.accepted))
      (λ d. back d (same-room sheet (within_fills sheet n) b zeros refl k lent d.accepted))
    where
      by_room : Made sheet n within_minutes → leb here (length (take k zeros)) ≡ leb here (length b / 2)
          → Made sheet n (in_pairs b)
      by_room d e = record {
        accepted = d.accepted;
        room = leb-true here (length b / 2) (sym e ∙ le-leb here (length (take k zeros)) d.room);
        some = d.some;
      }

      back : Made sheet n (in_pairs b) → leb here (length (take k zeros)) ≡ leb here (length b / 2)
          → Made sheet n within_minutes
      back d e = record {
        accepted = d.accepted;
        room = leb-true here (length (take k zeros)) (e ∙ le-leb here (length b / 2) d.room);
        some = d.some;
      }
