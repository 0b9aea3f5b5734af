-- Minutes written as pairs of bytes: a call that fills a table with its minutes gives the same answer for pairs, and
-- what was written is written as pairs. Assumes nothing.
use mathlib.Core.Path.{◌≡◌, refl, sym, ◌∙◌, ap, subst}
use mathlib.Core.Logic.{inl, inr}
use mathlib.Core.Bool.{Bool}
use mathlib.Core.List.{List, [], ◌∷◌, ◌++◌, append_assoc}
use Prim.Native.Nat.{ℕ, ◌/◌, ◌≤◌, min}
use native.Mathlib.Omega.{arith}
use borrow.Author.Tests.{leb-true, le-leb, lt-leb}
use lib.Dec.{leb}
use lib.ListN.{length, take, drop, replicate, length-take, length-drop, length-append}
use lib.Seq.{take_at, length-take-le}
use Rattle.prelude.specs.Checks.{Hold, FirstFails, first_failing_lem}
use Rattle.prelude.proofs.Tests.{lt_or_ge}
use Rattle.refusal.specs.declared.Cause.TheVariants.{BufferTooShort}
use Rattle.refusal.specs.declared.Refusal.{Refusal}
use Rattle.network.specs.Limits as L
use Rattle.network.specs.Build.{cells}
use Rattle.network.specs.declared.Network.{Network}
use Rattle.sheet.specs.Reading.{network_of, Accepts}
use Rattle.sheet.proofs.WellFormed.{accepted_well_formed}
use Rattle.solver.specs.Solve.{solve}
use Rattle.calls.specs.Values.{OrRefusal, done}
use Rattle.calls.specs.Call.{without_line_lem, Tests, call, Left, Leaves}
use Rattle.calls.specs.Lent.{Lent, in_place_lem, in_pairs}
use Rattle.calls.specs.Calls.{enough, writing, refusing}
use Rattle.calls.specs.Counting.{OrUnsolved, answer_of, rounds_of, rounds_taken, counting}
use Rattle.calls.specs.Bench.{packed_count_lem, packed_left, bench_solving}
use Rattle.calls.proofs.Counting.{uncounted, rounds-left}
use Rattle.calls.proofs.Call.{Ends, faulty, failed, worked, ends, call-refused, call_fails, call_works, call-alike}
use Rattle.calls.proofs.Handed.{cells-few}
use Rattle.opening_c.specs.Packed.{HasRoom, packed_table_lem}
use Rattle.opening_c.proofs.Fills.{Fills, solver_fills}

-- minutes are lent for as many whole pairs as a table may need
module _ (sheet : List ℕ) (fills : Fills sheet) (b z : List ℕ) (size : length z ≡ 256) (k : ℕ)
    (lent : k ≡ min (length b / 2) 256) where
  abbrev m : List ℕ
  m = take k z

  pub lent_sized : length m ≡ k
  lent_sized = length-take-le k z (omega arith)

  abbrev net : Network
  net = (network_of sheet)

  abbrev tests : Lent → Network → Tests
  tests l Γ = fills.tests (leb (cells Γ) l.room) Γ

  abbrev work : Lent → Network → Left (OrRefusal ℕ)
  work l Γ = writing l (fills.text Γ)

  abbrev into : Lent → Left (OrRefusal ℕ)
  into l = call (refusing l) sheet (tests l) (work l)

  pub same-room : Accepts sheet → leb (cells net) (length m) ≡ leb (cells net) (length b / 2)
  same-room a =
      let few = cells-few (accepted_well_formed sheet a).0 in
      elim (lt_or_ge (length b / 2) (cells net)) [
        | inl l ↦ lt-leb (cells net) (length m) (omega (arith, lent_sized)) ∙ sym (lt-leb (cells net) (length b / 2) l)
        | inr l ↦ le-leb (cells net) (length m) (omega (arith, lent_sized)) ∙ sym (le-leb (cells net) (length b / 2) l)
      ]

  same_tests : Accepts sheet → tests (in_place_lem m) net ≡ tests (in_pairs b) net
  same_tests a = ap (λ (roomy : Bool). fills.tests roomy net) (same-room a)

  -- how the two end
  data Both : Type 0 where
    both_refused : (r : Refusal) → refusing (in_place_lem m) r ≡ into (in_place_lem m)
        → refusing (in_pairs b) r ≡ into (in_pairs b) → Both
    both_wrote : (σ : List ℕ) → length σ ≤ length b / 2 → length σ ≤ 256
        → writing (in_place_lem m) σ ≡ into (in_place_lem m)
        → writing (in_pairs b) σ ≡ into (in_pairs b) → Both

  both : Both
  both = by_end (ends (refusing (in_place_lem m)) sheet (tests (in_place_lem m)) (work (in_place_lem m)))
    where
      by_end : Ends (refusing (in_place_lem m)) sheet (tests (in_place_lem m)) (work (in_place_lem m)) → Both
      by_end (faulty r p e) =
          both_refused r e
          (call-refused (refusing (in_pairs b)) sheet (tests (in_pairs b)) (work (in_pairs b)) r p)
      by_end (failed a r f e) =
          both_refused r e
          (call_fails (refusing (in_pairs b)) sheet (tests (in_pairs b)) (work (in_pairs b)) (network_of sheet) a r
          (subst (λ (ts : Tests). FirstFails ts r) (same_tests a) f))
      by_end (worked a h e) =
          let h' : Hold (tests (in_pairs b) net) = subst (λ (ts : Tests). Hold ts) (same_tests a) h in
          let s = fills.sized a (leb (cells net) (length b / 2)) h' in
          both_wrote (fills.text net) (omega (arith, s.0, leb-true (cells net) (length b / 2) s.1))
          (omega (arith, s.0, cells-few (accepted_well_formed sheet a).0)) e
          (call_works (refusing (in_pairs b)) sheet (tests (in_pairs b)) (work (in_pairs b)) (network_of sheet) a h')

  -- what was written into the minutes goes out as pairs; behind the minutes stands the rest of the array
  module _ {w : OrRefusal ℕ} {x : List ℕ} (left : Leaves (into (in_place_lem m)) w x) where
    abbrev array : List ℕ
    array = x ++ drop k z

    answer-is : {l : Left (OrRefusal ℕ)} → l ≡ into (in_place_lem m) → w ≡ l.answer
    answer-is e = left.answer ∙ ap (λ (y : Left (OrRefusal ℕ)). y.answer) (sym e)

    -- the minutes that were written
    front : (σ : List ℕ) → writing (in_place_lem m) σ ≡ into (in_place_lem m) → take (length σ) array ≡ σ
    front σ e =
        let whole : x ≡ σ ++ drop (length σ) m = left.memory ∙ ap (λ (y : Left (OrRefusal ℕ)). y.memory) (sym e) in
        rw (whole, append_assoc) (take_at σ (drop (length σ) m ++ drop k z) (length σ) refl)

    pairs_sized : length array ≡ 256
    pairs_sized = omega (arith, size, lent, lent_sized, length-append x (drop k z), length-drop k z, kept_size both)
      where
        kept_size : Both → length x ≡ length m
        kept_size (both_refused r e e') = ap length (left.memory ∙ ap (λ (y : Left (OrRefusal ℕ)). y.memory) (sym e))
        kept_size (both_wrote σ room few e e') =
            ap length (left.memory ∙ ap (λ (y : Left (OrRefusal ℕ)). y.memory) (sym e))
            ∙ omega (arith, lent_sized, length-append σ (drop (length σ) m), length-drop (length σ) m)

    pairs_room : HasRoom w array b
    pairs_room = by_both both
      where
        by_both : Both → HasRoom w array b
        by_both (both_refused r e e') = rw (answer-is e) tt
        by_both (both_wrote σ room few e e') =
            rw (answer-is e)
            (omega (arith, ap length (front σ e), length-take (length σ) array), omega arith, omega arith)

    pairs_packed : packed_table_lem w array b ≡ packed_left (into (in_pairs b))
    pairs_packed = by_both both
      where
        by_both : Both → packed_table_lem w array b ≡ packed_left (into (in_pairs b))
        by_both (both_refused r e e') =
            ap (λ (y : OrRefusal ℕ). packed_table_lem y array b) (answer-is e) ∙ ap packed_left e'
        by_both (both_wrote σ room few e e') =
            ap (λ (y : OrRefusal ℕ). packed_table_lem y array b) (answer-is e)
            ∙ ap (λ (t : List ℕ). record { answer = packed_count_lem (done (length σ)); memory = (in_pairs b).after t })
            (front σ e)
            ∙ ap packed_left e'

  pub record Goes (w : OrRefusal ℕ) (x : List ℕ) : Type 0 where
    pub sized : length (x ++ drop k z) ≡ 256
    pub room : HasRoom w (x ++ drop k z) b
    pub packed : packed_table_lem w (x ++ drop k z) b ≡ packed_left (into (in_pairs b))

  pub pairs_go : {w : OrRefusal ℕ} {x : List ℕ} → Leaves (into (in_place_lem m)) w x → Goes w x
  pairs_go left = record { sized = pairs_sized left; room = pairs_room left; packed = pairs_packed left }

-- the array of the bench's calls before they go
abbrev pub zeros : List ℕ
zeros = replicate L.cells 0

pub from_zeros : (sheet : List ℕ) (fills : Fills sheet) (b : List ℕ) (k : ℕ) (lent : k ≡ min (length b / 2) 256)
    {w : OrRefusal ℕ} {x : List ℕ} {r : ℕ} {after : List ℕ}
    → Leaves (into sheet fills b zeros refl k lent (in_place_lem (take k zeros))) w x
    → Leaves (packed_table_lem w (x ++ drop k zeros) b) r after
    → Leaves (packed_left (into sheet fills b zeros refl k lent (in_pairs b))) r after
from_zeros sheet fills b k lent left packed = rw (← (pairs_go sheet fills b zeros refl k lent left).packed) packed

-- the solver's call, with its count: there is room in the minutes where there is in the pairs, so that as many rounds
-- are made
module _ (sheet b : List ℕ) (k : ℕ) (lent : k ≡ min (length b / 2) 256) {s : OrUnsolved} {x : List ℕ}
    (left : Leaves (counting sheet (take k zeros)) s x) where
  abbrev minutes : Lent
  minutes = in_place_lem (take k zeros)

  pub solved_from_zeros : {w : OrRefusal ℕ} {r : ℕ} {after : List ℕ} → w ≡ answer_of s
      → Leaves (packed_table_lem w (x ++ drop k zeros) b) r after → Leaves (packed_left (bench_solving sheet b)) r after
  solved_from_zeros e packed =
      from_zeros sheet (solver_fills sheet) b k lent (rw e (uncounted sheet minutes left)) packed

  pub rounds_from_zeros : rounds_of s ≡ rounds_taken sheet (in_pairs b)
  rounds_from_zeros =
      rounds-left sheet minutes left
      ∙ call-alike (λ _. 0) sheet (λ Γ. enough minutes (cells Γ) ∷ []) (λ Γ. enough (in_pairs b) (cells Γ) ∷ [])
      (λ Γ. (solve Γ).rounds) (λ Γ. (solve Γ).rounds)
      (λ a.
      ap (λ (roomy : Bool). first_failing_lem ((roomy, without_line_lem BufferTooShort) ∷ []))
      (same-room sheet (solver_fills sheet) b zeros refl k lent a))
      (λ _ _. refl)
