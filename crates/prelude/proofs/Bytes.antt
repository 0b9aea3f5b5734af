-- Laws of byte strings. Assumes nothing.
use mathlib.Core.Path.{◌≡◌, refl, sym}
use mathlib.Core.Logic.{inl, inr}
use mathlib.Core.Bool.{Bool, true, false, or-true as or-true_right}
use mathlib.Core.List.{List, [], ◌∷◌}
use Prim.Native.Nat.{ℕ}
use borrow.Author.Tests.{eqb-true, eq-eqb}
use lib.Dec.{eqb}
use Rattle.std.specs.Prelude.{nat_eq}
use Rattle.std.specs.Cmp.Lexicographic.{pointwise}
use Rattle.std.specs.List.{list_any, list_all}
use Rattle.prelude.specs.Bytes.{same, is_in, every}
use Rattle.prelude.proofs.Tests.{clash, and-true, and_both, or-true, eqb_same}

-- the test finds out equality
pub same_true : (s t : List ℕ) → same s t ≡ true → s ≡ t
same_true [] [] e = refl
same_true [] (y ∷ ys) e = cc
same_true (x ∷ xs) [] e = cc
same_true (x ∷ xs) (y ∷ ys) e =
    let p = and-true (eqb x y) (same xs ys) e in
    cc (eqb-true x y p.0, same_true xs ys p.1)

pub same_refl : (s : List ℕ) → same s s ≡ true
same_refl [] = refl
same_refl (x ∷ xs) = and_both (eqb x x) (same xs xs) (eq-eqb x x refl) (same_refl xs)

pub same_of_eq : (s t : List ℕ) → s ≡ t → same s t ≡ true
same_of_eq s t e = rw e (same_refl t)

-- what holds of each byte of a list
module _ (f : ℕ → Bool) where
  pub true_of_every : (bs : List ℕ) → every f bs ≡ true → (b : ℕ) → is_in b bs ≡ true → f b ≡ true
  true_of_every [] e b i = clash false i refl
  true_of_every (a ∷ bs) e b i =
      let p = and-true (f a) (every f bs) e in
      elim (or-true (eqb b a) (is_in b bs) i)
      [ inl q ↦ rw (eqb-true b a q) p.0 | inr q ↦ true_of_every bs p.1 b q ]

  pub every_true : (bs : List ℕ) → ((b : ℕ) → is_in b bs ≡ true → f b ≡ true) → every f bs ≡ true
  every_true [] h = refl
  every_true (a ∷ bs) h =
      and_both (f a) (every f bs) (h a (rw (eq-eqb a a refl)))
      (every_true bs λ b i. h b (rw i (or-true_right (eqb b a))))

-- a test that holds wherever another does
pub every_mono : (f g : ℕ → Bool) → ((b : ℕ) → f b ≡ true → g b ≡ true) → (s : List ℕ) → every f s ≡ true
    → every g s ≡ true
every_mono f g h [] e = refl
every_mono f g h (b ∷ s) e =
    let p = and-true (f b) (every f s) e in
    and_both (g b) (every g s) (h b p.0) (every_mono f g h s p.1)

-- what the code finds by `==`, by `contains`, and by `all`
pub contains_is : (b : ℕ) (s : List ℕ) → list_any (λ y. eqb y b) s ≡ is_in b s
contains_is b [] = refl
contains_is b (x ∷ xs) = rw (eqb_same x b b x sym sym, contains_is b xs)

pub all_is : (f : ℕ → Bool) (s : List ℕ) → list_all f s ≡ every f s
all_is f [] = refl
all_is f (b ∷ s) = rw (all_is f s)

pub equal_is : (s t : List ℕ) → pointwise nat_eq s t ≡ same s t
equal_is [] [] = refl
equal_is [] (y ∷ ys) = refl
equal_is (x ∷ xs) [] = refl
equal_is (x ∷ xs) (y ∷ ys) = rw (equal_is xs ys)
