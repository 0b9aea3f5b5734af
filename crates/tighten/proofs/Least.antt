-- The least of the numbers that are at least lo, if there is one: it stands among them, and none of these is less; or
-- all are below lo. Assumes nothing.
use mathlib.Core.Path.{◌≡◌, refl}
use mathlib.Core.Logic.{◌⊎◌, inl, inr}
use mathlib.Core.List.{List, [], ◌∷◌}
use Prim.Native.Nat.{ℕ, zero, suc, ◌≤◌, ◌<◌, min}
use native.Mathlib.Omega.{arith}
use borrow.Author.Tests.{leb-true, leb-false}
use lib.Dec.{leb}
use lib.ListN.{length, get_or}
use Rattle.std.proofs.Common.{Option, Some, None, MatchOption, filter, fold}
use Rattle.prelude.proofs.Tests.{either, lt_or_ge}
use Rattle.tighten.specs.Encoding.{least_of}

-- v is the least of the numbers that are at least lo
pub record LeastFrom (numbers : List ℕ) (lo v : ℕ) : Type 0 where
  pub place : ℕ
  pub place_lt : place < length numbers
  pub is : get_or numbers place 0 ≡ v
  pub from : lo ≤ v
  pub least : (k : ℕ) → k < length numbers → lo ≤ get_or numbers k 0 → v ≤ get_or numbers k 0

-- none is at least lo
abbrev pub AllBelow : List ℕ → ℕ → Type 0
AllBelow numbers lo = (k : ℕ) → k < length numbers → get_or numbers k 0 < lo

-- v is the least of a and of these
record LeastWith (numbers : List ℕ) (lo a v : ℕ) : Type 0 where
  le : v ≤ a
  least : (k : ℕ) → k < length numbers → lo ≤ get_or numbers k 0 → v ≤ get_or numbers k 0
  at : (v ≡ a) ⊎ LeastFrom numbers lo v

-- one number more in front
module _ (lo n : ℕ) (ns : List ℕ) where
  front-least : {v : ℕ} → ((k : ℕ) → k < length ns → lo ≤ get_or ns k 0 → v ≤ get_or ns k 0) → (lo ≤ n → v ≤ n)
      → (k : ℕ) → k < length (n ∷ ns) → lo ≤ get_or (n ∷ ns) k 0 → v ≤ get_or (n ∷ ns) k 0
  front-least rest first zero h l = first l
  front-least rest first (suc k) h l = rest k (omega arith) l

  passed : {v : ℕ} → LeastFrom ns lo v → (lo ≤ n → v ≤ n) → LeastFrom (n ∷ ns) lo v
  passed f first = record {
    place = suc f.place;
    place_lt = omega (arith, f.place_lt);
    is = f.is;
    from = f.from;
    least = front-least f.least first;
  }

  met : {v : ℕ} → lo ≤ n → n ≡ v → ((k : ℕ) → k < length ns → lo ≤ get_or ns k 0 → v ≤ get_or ns k 0)
      → LeastFrom (n ∷ ns) lo v
  met h e rest = record {
    place = 0;
    place_lt = omega arith;
    is = e;
    from = omega arith;
    least = front-least rest (λ l. omega arith);
  }

  -- it does not count
  skipped : n < lo → (o : Option ℕ) → MatchOption o (AllBelow ns lo) (LeastFrom ns lo)
      → MatchOption o (AllBelow (n ∷ ns) lo) (LeastFrom (n ∷ ns) lo)
  skipped h None f = below
    where
      below : AllBelow (n ∷ ns) lo
      below zero l = h
      below (suc k) l = f k (omega arith)
  skipped h (Some v) f = passed f (λ l. absurd (omega arith))

  with_counted : {a v : ℕ} → lo ≤ n → LeastWith ns lo (min a n) v → LeastWith (n ∷ ns) lo a v
  with_counted {a} {v} h f = record {
    le = omega (arith, f.le);
    least = front-least f.least (λ l. omega (arith, f.le));
    at = elim f.at [
      | inl e ↦
          elim (lt_or_ge n a) [
            | inl l ↦ inr (met h (omega arith) f.least)
            | inr l ↦ inl (omega arith)
          ]
      | inr g ↦ inr (passed g (λ l. omega (arith, f.le)))
    ];
  }

  with_skipped : {a v : ℕ} → n < lo → LeastWith ns lo a v → LeastWith (n ∷ ns) lo a v
  with_skipped {a} {v} h f = record {
    le = f.le;
    least = front-least f.least (λ l. absurd (omega arith));
    at = elim f.at [
      | inl e ↦ inl e
      | inr g ↦ inr (passed g (λ l. absurd (omega arith)))
    ];
  }

module _ (lo : ℕ) where
  least_with : (a : ℕ) (ns : List ℕ) → LeastWith ns lo a (fold min a (filter (λ v. leb lo v) ns))
  least_with a [] = record { le = omega arith; least = λ k h l. absurd (omega arith); at = inl refl }
  least_with a (n ∷ ns) =
      elim (either (leb lo n)) [
        | inl e ↦ rw e (with_counted lo n ns (leb-true lo n e) (least_with (min a n) ns))
        | inr e ↦ rw e (with_skipped lo n ns (leb-false lo n e) (least_with a ns))
      ]

  with_first : (n : ℕ) (ns : List ℕ) {v : ℕ} → lo ≤ n → LeastWith ns lo n v → LeastFrom (n ∷ ns) lo v
  with_first n ns {v} h f = elim f.at [
    | inl e ↦ met lo n ns h (omega arith) f.least
    | inr g ↦ passed lo n ns g (λ l. f.le)
  ]

  least-is : (ns : List ℕ) → MatchOption (least_of ns lo) (AllBelow ns lo) (LeastFrom ns lo)
  least-is [] = λ k h. absurd (omega arith)
  least-is (n ∷ ns) =
      elim (either (leb lo n)) [
        | inl e ↦ rw e (with_first n ns (leb-true lo n e) (least_with n ns))
        | inr e ↦ rw e (skipped lo n ns (leb-false lo n e) (least_of ns lo) (least-is ns))
      ]

  pub least_some : (ns : List ℕ) (v : ℕ) → least_of ns lo ≡ Some v → LeastFrom ns lo v
  least_some ns v e = rw e at (least-is ns)

  pub least_none : (ns : List ℕ) → least_of ns lo ≡ None → AllBelow ns lo
  least_none ns e = rw e at (least-is ns)
