-- Laws of the elements of a list under a function, and of a function's values on the numbers below n. Assumes nothing.
use mathlib.Core.Path.{◌≡◌, refl, sym, ◌∙◌, ap, ap₂}
use mathlib.Core.List.{List, [], ◌∷◌, map}
use Prim.Native.Nat.{ℕ, zero, suc, ◌≤◌, ◌<◌}
use native.Mathlib.Omega.{arith}
use lib.ListN.{length, get_or, take, length-map}
use lib.Seq.{length-take-le, get_or-take, ext_get_or}
use Rattle.prelude.specs.Bounded.{tabulate_from, tabulate}
use Rattle.prelude.specs.Lists.{Each}
use Rattle.prelude.proofs.Bounded.{length-tabulate, get_d_tabulate}

module _ {A B : Type 0} where
  pub get_d_map : (f : A → B) (d : A) (e : B) (xs : List A) (i : ℕ) → i < length xs → get_or (map f xs) i e
      ≡ f (get_or xs i d)
  get_d_map f d e [] i h = absurd (omega arith)
  get_d_map f d e (x ∷ xs) zero h = refl
  get_d_map f d e (x ∷ xs) (suc i) h = get_d_map f d e xs i (omega arith)

  pub each_map : (f : A → B) (P : B → Type 0) (d : A) (e : B) (xs : List A) → Each (λ x. P (f x)) xs d
      → Each P (map f xs) e
  each_map f P d e xs w = record {
    each = λ i h.
        let l : i < length xs = omega (arith, length-map xs f) in
        rw (get_d_map f d e xs i l) (w.each i l);
  }

  -- functions that agree on each element
  pub map_same : (f g : A → B) (d : A) (xs : List A) → Each (λ x. f x ≡ g x) xs d → map f xs ≡ map g xs
  map_same f g d [] w = refl
  map_same f g d (x ∷ xs) w =
      ap₂ (λ (y : B) (ys : List B). y ∷ ys) (w.each 0 (omega arith))
      (map_same f g d xs (record { each = λ i h. w.each (suc i) (omega arith) }))

-- the values of a function under another
module _ {A B : Type 0} (f : A → B) (g : ℕ → A) where
  map-tabulate_from : (i n : ℕ) → map f (tabulate_from i n g) ≡ tabulate_from i n (λ p. f (g p))
  map-tabulate_from i zero = refl
  map-tabulate_from i (suc n) = ap (λ (l : List B). f (g i) ∷ l) (map-tabulate_from (suc i) n)

  pub map-tabulate : (n : ℕ) → map f (tabulate n g) ≡ tabulate n (λ p. f (g p))
  map-tabulate n = map-tabulate_from 0 n

-- the first n of a list are what stands at the first n places
pub take-tabulate : {A : Type 0} (d : A) (n : ℕ) (xs : List A) → n ≤ length xs → take n xs
    ≡ tabulate n (λ i. get_or xs i d)
take-tabulate {A} d n xs h =
    let f : ℕ → A = λ i. get_or xs i d in
    let size = length-take-le n xs h in
    ext_get_or d (take n xs) (tabulate n f) (size ∙ sym (length-tabulate f n))
    (λ i l. get_or-take n xs i d (omega arith) ∙ sym (get_d_tabulate f n i d (omega arith)))

-- equal lists of values are of as many, and equal at each number
module _ {A : Type 0} (f g : ℕ → A) (n m : ℕ) (e : tabulate n f ≡ tabulate m g) where
  pub tabulate-count : n ≡ m
  tabulate-count = sym (length-tabulate f n) ∙ ap length e ∙ length-tabulate g m

  pub tabulate-value : (i : ℕ) → i < n → f i ≡ g i
  tabulate-value i h =
      let k = tabulate-count in
      sym (get_d_tabulate f n i (f i) h)
      ∙ ap (λ (l : List A). get_or l i (f i)) e
      ∙ get_d_tabulate g m i (f i) (omega arith)
