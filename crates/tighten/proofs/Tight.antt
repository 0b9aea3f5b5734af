-- The tightest upper bound of a key: it stands among them, has the key, and none with the key has a lesser limit;
-- there is none exactly where none has the key; and where they are regular, it is the only such one. One by one, the
-- lesser of two limits is kept. Assumes nothing.
use mathlib.Core.Path.{◌≡◌, sym, ◌∙◌, ap}
use mathlib.Core.Logic.{inl, inr}
use mathlib.Core.Option.{Option, none, some}
use mathlib.Core.List.{List, [], ◌∷◌}
use Prim.Native.Nat.{ℕ}
use native.Mathlib.Omega.{arith}
use borrow.Author.Tests.{eqb-true, eqb-false}
use lib.Dec.{eqb}
use lib.Signed.{le_z, ◌≤ℤ◌, ≤ℤ_refl}
use Rattle.prelude.specs.Lists.{In, Each}
use Rattle.prelude.proofs.Tests.{by_test, by_cond}
use Rattle.prelude.proofs.Parts.{in_first, in_later, in_cons}
use Rattle.prelude.proofs.Lists.{each_in}
use Rattle.prelude.proofs.Gather.{by_answer}
use Rattle.network.specs.Build.{no_constraint}
use Rattle.network.specs.declared.Constraint.{Constraint}
use Rattle.tighten.specs.Tightest.{rank, tighter, tightest}
use Rattle.tighten.proofs.Order.{le_of_test, ge_of_test, ≤ℤ-trans, ≤ℤ-antisym}
use Rattle.tighten.proofs.Regular.{Regular, upper_unique}

pub record TightestAt (xs : List Constraint) (k : ℕ) (x : Constraint) : Type 0 where
  pub stands : In x xs no_constraint
  pub key : rank x ≡ k
  pub least : (y : Constraint) → In y xs no_constraint → rank y ≡ k → x.bound ≤ℤ y.bound

-- none of them has the key k
abbrev Absent : List Constraint → ℕ → Type 0
Absent xs k = (y : Constraint) → In y xs no_constraint → rank y ≡ k → ⊥

-- what an answer says
abbrev Says : List Constraint → ℕ → Option Constraint → Type 0
Says xs k none = Absent xs k
Says xs k (some x) = TightestAt xs k x

module _ (r : Constraint) (rs : List Constraint) (k : ℕ) where
  -- r has the key: r, or one behind it with a lesser limit
  hit : rank r ≡ k → (o : Option Constraint) → Says rs k o → TightestAt (r ∷ rs) k (tighter r o)
  hit e none s = record {
    stands = in_first;
    key = e;
    least = λ y i p. elim (in_cons i) [ inl q ↦ rw q (≤ℤ_refl y.bound) | inr j ↦ absurd (s y j p) ];
  }
  hit e (some q) s =
      by_cond (TightestAt (r ∷ rs) k) (le_z r.bound q.bound) r q
      (λ t. record {
        stands = in_first;
        key = e;
        least = λ y i p. elim (in_cons i) [
          | inl a ↦ rw a (≤ℤ_refl y.bound)
          | inr j ↦ ≤ℤ-trans r.bound q.bound y.bound (le_of_test r.bound q.bound t) (s.least y j p)
        ];
      })
      (λ t. record {
        stands = in_later s.stands;
        key = s.key;
        least = λ y i p. elim (in_cons i) [
          | inl a ↦ rw a at (ge_of_test r.bound q.bound t)
          | inr j ↦ s.least y j p
        ];
      })

  -- r has another
  miss : (rank r ≡ k → ⊥) → (o : Option Constraint) → Says rs k o → Says (r ∷ rs) k o
  miss n none s = λ y i p. elim (in_cons i) [ inl a ↦ n (ap rank a ∙ p) | inr j ↦ s y j p ]
  miss n (some q) s = record {
    stands = in_later s.stands;
    key = s.key;
    least = λ y i p. elim (in_cons i) [ inl a ↦ absurd (n (ap rank a ∙ p)) | inr j ↦ s.least y j p ];
  }

tightest-says : (xs : List Constraint) (k : ℕ) → Says xs k (tightest xs k)
tightest-says [] k = λ y i p. absurd (omega (arith, i.place_lt))
tightest-says (r ∷ rs) k =
    by_test (Says (r ∷ rs) k) (eqb (rank r) k) (some (tighter r (tightest rs k))) (tightest rs k)
    (λ e. hit r rs k (eqb-true (rank r) k e) (tightest rs k) (tightest-says rs k))
    (λ e. miss r rs k (eqb-false (rank r) k e) (tightest rs k) (tightest-says rs k))

module _ (xs : List Constraint) (k : ℕ) where
  pub tightest-is : {x : Constraint} → tightest xs k ≡ some x → TightestAt xs k x
  tightest-is e = rw e at (tightest-says xs k)

  pub tightest-none : tightest xs k ≡ none → (y : Constraint) → In y xs no_constraint → rank y ≡ k → ⊥
  tightest-none e = rw e at (tightest-says xs k)

  pub none-tightest : ((y : Constraint) → In y xs no_constraint → rank y ≡ k → ⊥) → tightest xs k ≡ none
  none-tightest h =
      by_answer (tightest xs k) (λ e. e) (λ x e. let t = tightest-is e in absurd (h x t.stands t.key))

-- two of one key, neither of which has a greater limit, are one
pub tightest-same : {xs : List Constraint} {k : ℕ} {x y : Constraint} → Each Regular xs no_constraint
    → TightestAt xs k x → TightestAt xs k y → x ≡ y
tightest-same {x = x} {y = y} h a b =
    upper_unique (each_in Regular h a.stands) (each_in Regular h b.stands)
    (a.key ∙ sym b.key)
    (≤ℤ-antisym x.bound y.bound (a.least y b.stands b.key) (b.least x a.stands a.key))

pub tightest_unique : {xs : List Constraint} {k : ℕ} {x : Constraint} → Each Regular xs no_constraint
    → TightestAt xs k x → tightest xs k ≡ some x
tightest_unique {xs = xs} {k = k} {x = x} h a =
    by_answer (tightest xs k)
    (λ e. absurd (tightest-none xs k e x a.stands a.key))
    (λ y e. e ∙ ap some (tightest-same h (tightest-is xs k e) a))
