-- A list of the answers in the order of their numbers is what is gathered, where an answer tells its number: its
-- first is the next answer, since nothing before it answers, and the others are those behind it. Assumes nothing.
use mathlib.Core.Path.{◌≡◌, sym, ◌∙◌, ap}
use mathlib.Core.Logic.{inl, inr}
use mathlib.Core.Option.{Option, some}
use mathlib.Core.List.{List, [], ◌∷◌}
use Prim.Native.Nat.{ℕ, suc, ◌+◌, ◌-◌, ◌≤◌, ◌<◌}
use native.Mathlib.Omega.{arith}
use lib.ListN.{length, get_or}
use Rattle.prelude.specs.Gather.{gather_from}
use Rattle.prelude.specs.Lists.{In}
use Rattle.prelude.proofs.Tests.{eq_or_ne}
use Rattle.prelude.proofs.Parts.{in_cons}
use Rattle.prelude.proofs.Gather.{by_answer, Silent, gather_none, gather-next, Answer}

module _ {A : Type 0} (f : ℕ → Option A) (d : A) (key : A → ℕ) where
  -- xs are the answers at the n numbers from i on, in order
  pub record Listed (i n : ℕ) (xs : List A) : Type 0 where
    pub ordered : (p q : ℕ) → p < q → q < length xs → key (get_or xs p d) < key (get_or xs q d)
    pub answer : (p : ℕ) → p < length xs → Answer f i n (get_or xs p d)
    pub all : (x : A) → Answer f i n x → In x xs d

  module _ (keyed : (k : ℕ) (x : A) → f k ≡ some x → key x ≡ k) where
    module _ (i n : ℕ) (x : A) (xs : List A) (l : Listed i n (x ∷ xs)) where
      next : Answer f i n x
      next = l.answer 0 (omega arith)

      next-key : key x ≡ next.number
      next-key = keyed next.number x next.is

      least : (p : ℕ) → p < length (x ∷ xs) → key x ≤ key (get_or (x ∷ xs) p d)
      least p h = elim (eq_or_ne p 0)
          [ inl e ↦ rw e (omega arith) | inr e ↦ omega (arith, l.ordered 0 p (omega arith) h) ]

      silence : Silent f i next.number
      silence = record {
        silent = λ k h m. by_answer (f k) (λ e. e) (λ y e.
            let w = l.all y (record { number = k; from = h; below = omega (arith, next.below); is = e }) in
            let k-is = ap key w.is ∙ keyed k y e in
            absurd (omega (arith, least w.place w.place_lt, next-key)));
      }

      -- what stands in it and is not the first
      behind : {y : A} → In y (x ∷ xs) d → (x ≡ y → ⊥) → In y xs d
      behind w n = elim (in_cons w) [ inl e ↦ absurd (n e) | inr i ↦ i ]

      rest : (m : ℕ) → next.number + suc m ≡ i + n → Listed (suc next.number) m xs
      rest m e = record {
        ordered = λ p q h k. l.ordered (suc p) (suc q) (omega arith) (omega arith);
        answer = λ p h.
            let a = l.answer (suc p) (omega arith) in
            let here = keyed a.number (get_or xs p d) a.is in
            record {
              number = a.number;
              from = omega (arith, l.ordered 0 (suc p) (omega arith) (omega arith), next-key);
              below = omega (arith, a.below);
              is = a.is;
            };
        all = λ y a.
            let w = l.all y (record {
              number = a.number;
              from = omega (arith, a.from, next.from);
              below = omega (arith, a.below);
              is = a.is;
            }) in
            behind w (λ e.
            let here = keyed a.number y a.is in
            let same = ap key e in
            omega (arith, next-key, a.from));
      }

    pub gather_unique : (xs : List A) (i n : ℕ) → Listed i n xs → xs ≡ gather_from i n f
    gather_unique [] i n l =
        sym (gather_none f i n (record {
          silent = λ k h m. by_answer (f k) (λ e. e) (λ y e.
              let w = l.all y (record { number = k; from = h; below = m; is = e }) in
              absurd (omega (arith, w.place_lt)));
        }))
    gather_unique (x ∷ xs) i n l =
        let a = next i n x xs l in
        let m : ℕ = i + n - suc a.number in
        let e : a.number + suc m ≡ i + n = omega (arith, a.below) in
        ap (λ (l : List A). x ∷ l) (gather_unique xs (suc a.number) m (rest i n x xs l m e))
        ∙ sym (gather-next f i n a.number m x a.from e (silence i n x xs l) a.is)
