-- Laws of gathered answers: what is gathered from a number on, up to the next answer and behind it; what stands in
-- the list; and that it stands there in the order of the numbers. Assumes nothing.
use mathlib.Core.Path.{◌≡◌, refl, ap}
use mathlib.Core.Logic.{inl, inr}
use mathlib.Core.Option.{Option, none, some}
use mathlib.Core.List.{[], ◌∷◌, ◌++◌}
use Prim.Native.Nat.{ℕ, zero, suc, ◌+◌, ◌≤◌, ◌<◌}
use native.Mathlib.Omega.{arith}
use lib.ListN.{length, get_or}
use Rattle.prelude.specs.Gather.{ahead, gather_from, gather}
use Rattle.prelude.specs.Lists.{In}
use Rattle.prelude.proofs.Tests.{eq_or_ne}
use Rattle.prelude.proofs.Parts.{in_first, in_later}

-- an answer is none or some
pub by_answer {ℓ} : {A : Type 0} {B : Type ℓ} (o : Option A) → (o ≡ none → B) → ((x : A) → o ≡ some x → B) → B
by_answer none f g = f refl
by_answer (some x) f g = g x refl

module _ {A : Type 0} (f : ℕ → Option A) where
  -- f answers at none of the numbers from i on and before j
  pub record Silent (i j : ℕ) : Type 0 where
    pub silent : (k : ℕ) → i ≤ k → k < j → f k ≡ none

  -- nothing is left
  pub gather_none : (i n : ℕ) → Silent i (i + n) → gather_from i n f ≡ []
  gather_none i zero h = refl
  gather_none i (suc n) h =
      rw (h.silent i (omega arith) (omega arith))
      (gather_none (suc i) n (record { silent = λ k l m. h.silent k (omega arith) (omega arith) }))

  -- the next answer, at j, and what is gathered behind it
  pub gather-next : (i n j m : ℕ) (x : A) → i ≤ j → j + suc m ≡ i + n → Silent i j → f j ≡ some x
      → gather_from i n f ≡ x ∷ gather_from (suc j) m f
  gather-next i zero j m x h e s a = absurd (omega arith)
  gather-next i (suc n) j m x h e s a =
      elim (eq_or_ne i j) [
        | inl p ↦
            let same : n ≡ m = omega arith in
            rw (p, a, same)
        | inr p ↦
            rw (s.silent i (omega arith) (omega arith))
            (gather-next (suc i) n j m x (omega arith) (omega arith)
            (record { silent = λ k l m. s.silent k (omega arith) (omega arith) }) a)
      ]

  -- one number more is tried at the end
  gather_from-more : (i n j : ℕ) → j ≡ i + n → gather_from i (suc n) f ≡ gather_from i n f ++ ahead (f j) []
  gather_from-more i zero j e = ap (λ (k : ℕ). ahead (f k) []) (omega arith)
  gather_from-more i (suc n) j e = rw (gather_from-more (suc i) n j (omega arith)) (behind (f i))
    where
      behind : (o : Option A) → ahead o (gather_from (suc i) n f ++ ahead (f j) []) ≡ ahead o (gather_from (suc i) n f)
          ++ ahead (f j) []
      behind none = refl
      behind (some x) = refl

  pub gather-more : (n : ℕ) → gather (suc n) f ≡ gather n f ++ ahead (f n) []
  gather-more n = gather_from-more 0 n n (omega arith)

  pub length-gather : (i n : ℕ) → length (gather_from i n f) ≤ n
  length-gather i zero = omega arith
  length-gather i (suc n) =
      by_answer (f i)
      (λ e. rw e (omega (arith, length-gather (suc i) n)))
      (λ x e. rw e (omega (arith, length-gather (suc i) n)))

  -- x is the answer at one of the n numbers from i on
  pub record Answer (i n : ℕ) (x : A) : Type 0 where
    pub number : ℕ
    pub from : i ≤ number
    pub below : number < i + n
    pub is : f number ≡ some x

  abbrev later : (i n : ℕ) (x : A) → Answer (suc i) n x → Answer i (suc n) x
  later i n x a = record {
    number = a.number;
    from = omega (arith, a.from);
    below = omega (arith, a.below);
    is = a.is;
  }

  module _ (d : A) where
    -- what stands in the list is an answer
    pub gather-answer : (i n p : ℕ) → p < length (gather_from i n f) → Answer i n (get_or (gather_from i n f) p d)
    gather-answer i zero p h = absurd (omega arith)
    gather-answer i (suc n) p h =
        by_answer (f i)
        (λ e. rw e (later i n _ (gather-answer (suc i) n p (rw e at h))))
        (λ x e. rw e (here x e p (rw e at h) (λ q l. gather-answer (suc i) n q l)))
      where
        here : (x : A) → f i ≡ some x → (p : ℕ) → p < length (x ∷ gather_from (suc i) n f)
            → ((q : ℕ) → q < length (gather_from (suc i) n f) → Answer (suc i) n (get_or (gather_from (suc i) n f) q d))
            → Answer i (suc n) (get_or (x ∷ gather_from (suc i) n f) p d)
        here x e zero h rest = record { number = i; from = omega arith; below = omega arith; is = e }
        here x e (suc p) h rest = later i n _ (rest p (omega arith))

    -- and each answer stands in it
    pub in_gather : (i n : ℕ) (x : A) → Answer i n x → In x (gather_from i n f) d
    in_gather i zero x a = let h = a.from in let l = a.below in absurd (omega arith)
    in_gather i (suc n) x a = elim (eq_or_ne a.number i) [
      | inl p ↦ first (rw p at a.is)
      | inr p ↦ behind (f i) (in_gather (suc i) n x (record {
        number = a.number;
        from = omega (arith, a.from);
        below = omega (arith, a.below);
        is = a.is;
      }))
    ]
      where
        first : f i ≡ some x → In x (gather_from i (suc n) f) d
        first e = rw e in_first

        behind : (o : Option A) → In x (gather_from (suc i) n f) d → In x (ahead o (gather_from (suc i) n f)) d
        behind none w = w
        behind (some y) w = in_later w

    -- two answers in their order
    pub record InOrder (i n : ℕ) (x y : A) : Type 0 where
      pub first : Answer i n x
      pub second : Answer i n y
      pub order : first.number < second.number

    pub gather-ordered : (i n p q : ℕ) → p < q → q < length (gather_from i n f)
        → InOrder i n (get_or (gather_from i n f) p d) (get_or (gather_from i n f) q d)
    gather-ordered i zero p q h l = absurd (omega arith)
    gather-ordered i (suc n) p q h l =
        by_answer (f i)
        (λ e. rw e (on (gather-ordered (suc i) n p q h (rw e at l))))
        (λ x e. rw e (here x e p q h (rw e at l) (λ p q h l. gather-ordered (suc i) n p q h l)))
      where
        on : {x y : A} → InOrder (suc i) n x y → InOrder i (suc n) x y
        on {x} {y} w = record { first = later i n x w.first; second = later i n y w.second; order = w.order }

        here : (x : A) → f i ≡ some x → (p q : ℕ) → p < q → q < length (x ∷ gather_from (suc i) n f)
            → ((p q : ℕ) → p < q → q < length (gather_from (suc i) n f)
            → InOrder (suc i) n (get_or (gather_from (suc i) n f) p d) (get_or (gather_from (suc i) n f) q d))
            → InOrder i (suc n) (get_or (x ∷ gather_from (suc i) n f) p d) (get_or (x ∷ gather_from (suc i) n f) q d)
        here x e p zero h l rest = absurd (omega arith)
        here x e zero (suc q) h l rest =
            let b = gather-answer (suc i) n q (omega arith) in
            record {
              first = record { number = i; from = omega arith; below = omega arith; is = e };
              second = later i n _ b;
              order = omega (arith, b.from);
            }
        here x e (suc p) (suc q) h l rest = on (rest p q (omega arith) (omega arith))

module _ {A : Type 0} (f g : ℕ → Option A) where
  pub gather-same : (i n : ℕ) → ((k : ℕ) → i ≤ k → k < i + n → f k ≡ g k) → gather_from i n f ≡ gather_from i n g
  gather-same i zero h = refl
  gather-same i (suc n) h =
      rw (h i (omega arith) (omega arith), gather-same (suc i) n (λ k l m. h k (omega arith) (omega arith)))
