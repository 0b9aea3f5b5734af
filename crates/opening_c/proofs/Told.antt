-- What the header's functions tell of a count that was packed. Assumes nothing.
use mathlib.Core.Path.{◌≡◌, refl, sym, ◌∙◌, ap}
use mathlib.Core.List.{List}
use Prim.Native.Nat.{ℕ, ◌+◌, ◌*◌}
use Rattle.calls.specs.Values.{OrRefusal, Values, number_values}
use Rattle.calls.specs.Call.{Left, Leaves}
use Rattle.calls.specs.Lent.{Lent}
use Rattle.calls.specs.Calls.{solving_into}
use Rattle.calls.specs.Counting.{rounds_taken, counting_into}
use Rattle.calls.specs.Within.{reach_of, within_into}
use Rattle.calls.specs.Bench.{packed_count_lem, packed_left, packed_counted, reach_bytes, packed_progress}
use Rattle.calls.specs.Header.{told, shifted, CountHolds}
use Rattle.calls.proofs.Counting.{answer-counted, rounds-counted}
use Rattle.calls.proofs.Within.{written_into, written-same, memory-same}

pub record Tells (a : ℕ) (v : Values ℕ) : Type 0 where
  pub values : told a ≡ v
  pub unused : shifted a 40 ≡ 0

pub tells : (a : ℕ) (v : Values ℕ) → a ≡ packed_count_lem v → CountHolds (packed_count_lem v) v → Tells a v
tells a v e h = record {
  values = ap told e ∙ h.values;
  unused = ap (λ (x : ℕ). shifted x 40) e ∙ h.rest;
}

-- of what a call is defined to leave
pub left-tells : (l : Left (OrRefusal ℕ)) {a : ℕ} {x : List ℕ} → Leaves (packed_left l) a x
    → CountHolds (packed_count_lem (number_values l.answer)) (number_values l.answer)
    → Tells a (number_values l.answer)
left-tells l h held = tells _ _ h.answer held

-- a call's answer is packed, and what it left stays
pub packed-left : (l : Left (OrRefusal ℕ)) {w : OrRefusal ℕ} {x : List ℕ} {a : ℕ} → Leaves l w x
    → a ≡ packed_count_lem (number_values w) → Leaves (packed_left l) a x
packed-left l h e = record {
  answer = e ∙ ap (λ (w : OrRefusal ℕ). packed_count_lem (number_values w)) h.answer;
  memory = h.memory;
}

-- the solver's answer with its count
pub counted-left : (sheet : List ℕ) (m : Lent) {a k r : ℕ} {x : List ℕ}
    → Leaves (packed_left (solving_into sheet m)) a x → k ≡ rounds_taken sheet m → r ≡ a + 1099511627776 * k
    → Leaves (packed_counted (counting_into sheet m)) r x
counted-left sheet m h e f =
    let c = rounds_taken sheet m in
    let a = (solving_into sheet m).answer in
    record {
      answer = f ∙ rw (e, h.answer, answer-counted c a, rounds-counted c a) refl;
      memory = h.memory;
    }

-- and with how far the run came
pub progress-left : (sheet : List ℕ) (n : ℕ) (m : Lent) {a k r : ℕ} {x : List ℕ}
    → Leaves (packed_left (written_into sheet n m)) a x → k ≡ reach_bytes (reach_of (within_into sheet n m).answer)
    → r ≡ a + 1099511627776 * k → Leaves (packed_progress (within_into sheet n m)) r x
progress-left sheet n m h e f = record {
  answer = f ∙ rw (e, h.answer, written-same sheet n m) refl;
  memory = h.memory ∙ sym (memory-same sheet n m);
}
