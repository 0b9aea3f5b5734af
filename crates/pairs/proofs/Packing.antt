-- Minutes from pairs of bytes, and pairs from minutes, one more at a time; a table of bytes has its size as one of
-- minutes has. Assumes nothing.
use mathlib.Core.Path.{◌≡◌, refl, sym, ◌∙◌, ap}
use mathlib.Core.Logic.{inl, inr}
use mathlib.Core.List.{List, [], ◌∷◌, ◌++◌, append_assoc}
use Prim.Native.Nat.{ℕ, suc, ◌+◌, ◌*◌, ◌/◌, ◌%◌, ◌≤◌, ◌<◌}
use native.Mathlib.Numerals.{add-one}
use native.Mathlib.Omega.{arith}
use lib.ListN.{length, get_or, get_or-eq_default, take, drop, set, length-append}
use lib.Seq.{drop-cons, take-suc, set_at, length-take-le}
use Rattle.prelude.specs.Bounded.{tabulate}
use Rattle.prelude.proofs.Bounded.{length-tabulate, get_d_tabulate, tabulate-more}
use Rattle.prelude.proofs.Tests.{lt_or_ge}
use Rattle.pairs.specs.Pairs.{pair_at, minutes_of, bytes_of, Short}

pub length-minutes_of : (b : List ℕ) → length (minutes_of b) ≡ length b / 2
length-minutes_of b = length-tabulate (pair_at b) (length b / 2)

-- the next cell behind a filled front is set
put_next : (p t : List ℕ) (i v : ℕ) → length p ≡ i → i < length t
    → set (p ++ drop i t) i v ≡ (p ++ v ∷ []) ++ drop (i + 1) t
put_next p t i v e h =
    ap (λ (l : List ℕ). set (p ++ l) i v) (drop-cons t i 0 h)
    ∙ set_at p (get_or t i 0) (drop (suc i) t) v i e
    ∙ rw (append_assoc, add-one)

-- one more minute
pub table_step : (b t : List ℕ) (i v : ℕ) → t ≡ tabulate i (pair_at b) → v ≡ pair_at b i
    → t ++ v ∷ [] ≡ tabulate (i + 1) (pair_at b)
table_step b t i v e q =
    let more : tabulate (i + 1) (pair_at b) ≡ tabulate i (pair_at b) ++ v ∷ [] =
    rw (q, add-one) (tabulate-more (pair_at b) i) in
    rw e (sym more)

-- minutes of bytes are short
pub minutes_of-short : (b : List ℕ) → ((i : ℕ) → get_or b i 0 < 256) → Short (minutes_of b)
minutes_of-short b few k =
    elim (lt_or_ge k (length b / 2)) [
      | inl l ↦ rw (get_d_tabulate (pair_at b) (length b / 2) k 0 l) (omega (arith, few (2 * k), few (2 * k + 1)))
      | inr l ↦
          let beyond : get_or (minutes_of b) k 0 ≡ 0 =
          get_or-eq_default (minutes_of b) 0 (omega (arith, length-minutes_of b)) in
          omega arith
    ]

pub length_bytes_of : (s : List ℕ) → length (bytes_of s) ≡ 2 * length s
length_bytes_of [] = refl
length_bytes_of (m ∷ s) = omega (arith, length_bytes_of s)

bytes_of_append : (s t : List ℕ) → bytes_of (s ++ t) ≡ bytes_of s ++ bytes_of t
bytes_of_append [] t = refl
bytes_of_append (m ∷ s) t = ap (λ (l : List ℕ). m % 256 ∷ m / 256 ∷ l) (bytes_of_append s t)

bytes_of_more : (t : List ℕ) (i : ℕ) → i < length t
    → bytes_of (take (i + 1) t) ≡ bytes_of (take i t) ++ get_or t i 0 % 256 ∷ get_or t i 0 / 256 ∷ []
bytes_of_more t i h = rw (add-one, take-suc t i 0) (bytes_of_append (take i t) (get_or t i 0 ∷ []))

pub pack_step : (t b₀ b : List ℕ) (i m : ℕ) → b ≡ bytes_of (take i t) ++ drop (2 * i) b₀ → i < length t
    → length t * 2 ≤ length b₀
    → m ≡ get_or t i 0
    → set (set b (2 * i) (m % 256)) (2 * i + 1) (m / 256) ≡ bytes_of (take (i + 1) t) ++ drop (2 * (i + 1)) b₀
pack_step t b₀ b i m e h r q =
    let p = bytes_of (take i t) in
    let p-length : length p ≡ 2 * i =
    length_bytes_of (take i t) ∙ ap (λ (k : ℕ). 2 * k) (length-take-le i t (omega arith)) in
    let low : set b (2 * i) (m % 256) ≡ (p ++ m % 256 ∷ []) ++ drop (2 * i + 1) b₀ =
    ap (λ (l : List ℕ). set l (2 * i) (m % 256)) e ∙ put_next p b₀ (2 * i) (m % 256) p-length (omega arith) in
    let low-length : length (p ++ m % 256 ∷ []) ≡ 2 * i + 1 = length-append p (m % 256 ∷ []) ∙ omega arith in
    let both : set (set b (2 * i) (m % 256)) (2 * i + 1) (m / 256)
    ≡ ((p ++ m % 256 ∷ []) ++ m / 256 ∷ []) ++ drop (2 * i + 1 + 1) b₀ =
    ap (λ (l : List ℕ). set l (2 * i + 1) (m / 256)) low
    ∙ put_next (p ++ m % 256 ∷ []) b₀ (2 * i + 1) (m / 256) low-length (omega arith) in
    let front : bytes_of (take (i + 1) t) ≡ (p ++ m % 256 ∷ []) ++ m / 256 ∷ [] =
    rw (q, append_assoc) (bytes_of_more t i h) in
    let place : 2 * i + 1 + 1 ≡ 2 * (i + 1) = omega arith in
    both ∙ rw (front, place)
