-- A label as two sums of weights: the letters are distinct, so that no weight is added twice. A sum of weights of at
-- most four signals has the truths that its letters give it: `mask_step` adds one weight, and is a computed test over
-- all such sums. Assumes nothing.
use mathlib.Core.Path.{◌≡◌, refl, sym, ◌∙◌, ap}
use mathlib.Core.Logic.{inl, inr}
use mathlib.Core.Bool.{Bool, true, false, ◌&&◌, ◌||◌, not, beq, and-false}
use mathlib.Core.Option.{Option, none, some}
use mathlib.Core.List.{List, [], ◌∷◌}
use Prim.Native.Nat.{ℕ, ◌+◌, ◌^◌, ◌≤◌, ◌<◌}
use native.Mathlib.Omega.{arith}
use native.Mathlib.Nat.{one-le-pow, pow-le-pow_right}
use borrow.Author.Tests.{ltb-true, eqb-true, eqb-false, not-true}
use lib.Dec.{eqb, ltb}
use lib.ListN.{get_or}
use Rattle.prelude.specs.Bounded.{all_below}
use Rattle.prelude.specs.Search.{when, answers}
use Rattle.prelude.specs.Bytes.{is_in, every, distinct}
use Rattle.prelude.proofs.Tests.{either, clash, and-true, or-true, or-false, or_neither, beq-true}
use Rattle.prelude.proofs.Search.{some_of_first_below, when-some, answered}
use Rattle.prelude.proofs.Bounded.{true_of_all_below}
use Rattle.network.specs.Limits as L
use Rattle.network.specs.Scenario.{truth}
use Rattle.names.specs.Names.{Literal, letters_of}
use Rattle.names.specs.Defined.{place_of, all_defined_lem, weight, weights}

-- one weight more, which the sum does not have yet
step_at : ℕ → ℕ → ℕ → Bool
step_at k m p =
    truth m p || (ltb (m + 2 ^ p) (2 ^ k)
    && all_below L.signals (λ q. beq (truth (m + 2 ^ p) q) (eqb q p || truth m q)))

steps_hold : all_below 5 (λ k. all_below (2 ^ k) (λ m. all_below k (step_at k m))) ≡ true
unfolding step_at
steps_hold = refl

pub record OneMore (k m p : ℕ) : Type 0 where
  pub below : m + 2 ^ p < 2 ^ k
  pub truths : (q : ℕ) → q < L.signals → truth (m + 2 ^ p) q ≡ eqb q p || truth m q

pub one_more : (k m p : ℕ) → k ≤ L.signals → m < 2 ^ k → p < k → truth m p ≡ false → OneMore k m p
unfolding step_at
one_more k m p kh mh ph e =
    let t = true_of_all_below (step_at k m) k
    (true_of_all_below (λ m. all_below k (step_at k m)) (2 ^ k)
    (true_of_all_below (λ k. all_below (2 ^ k) (λ m. all_below k (step_at k m))) 5 steps_hold k (omega arith)) m mh) p
    ph in
    let b = ltb (m + 2 ^ p) (2 ^ k) in
    let all = all_below L.signals (λ q. beq (truth (m + 2 ^ p) q) (eqb q p || truth m q)) in
    elim (or-true (truth m p) (b && all) t) [
      | inl y ↦ clash (truth m p) y e
      | inr y ↦
          let w = and-true b all y in
          record {
            below = ltb-true (m + 2 ^ p) (2 ^ k) w.0;
            truths = λ q h. beq-true (truth (m + 2 ^ p) q) (eqb q p || truth m q)
                (true_of_all_below (λ q. beq (truth (m + 2 ^ p) q) (eqb q p || truth m q)) L.signals w.1 q h);
          }
    ]

nothing-true : (p : ℕ) → p < L.signals → truth 0 p ≡ false
nothing-true p h = not-true (truth 0 p) (true_of_all_below (λ p. not (truth 0 p)) L.signals refl p h)

-- letters are defined where each is
pub all_defined-every : (k : ℕ) (letters bs : List ℕ) → all_defined_lem k letters bs
    ≡ every (λ b. answers (place_of k letters b)) bs
all_defined-every k letters [] = refl
all_defined-every k letters (b ∷ bs) = ap (λ (t : Bool). answers (place_of k letters b) && t)
    (all_defined-every k letters bs)

module _ (k : ℕ) (letters : List ℕ) where
  -- a letter stands where it was found
  pub record PlaceIs (b p : ℕ) : Type 0 where
    pub below : p < k
    pub letter : get_or letters p 0 ≡ b

  pub place_is : (b p : ℕ) → place_of k letters b ≡ some p → PlaceIs b p
  place_is b p e =
      let w = some_of_first_below (λ q. when (eqb (get_or letters q 0) b) q) k p e in
      let h = when-some (eqb (get_or letters w.index 0) b) w.index p w.answer in
      let i = h.1 in
      record { below = omega (arith, w.index_lt); letter = rw i at (eqb-true (get_or letters w.index 0) b h.0) }

  -- whether a literal stands for the signal p with this truth
  abbrev pub is_at : Bool → ℕ → Literal → Bool
  is_at v p l = elim (place_of k letters l.letter) [ none ↦ false | some q ↦ beq v l.value && eqb p q ]

  -- whether one of the literals does
  abbrev pub asks : Bool → ℕ → List Literal → Bool
  asks v p [] = false
  asks v p (l ∷ ls) = is_at v p l || asks v p ls

  -- the sum of weights is that of a scenario, and has the truths that its literals ask
  pub record SumIs (v : Bool) (ls : List Literal) : Type 0 where
    pub below : weights k letters v ls < 2 ^ k
    pub truths : (p : ℕ) → p < L.signals → truth (weights k letters v ls) p ≡ asks v p ls

  -- a letter that stands nowhere else is asked for nowhere else
  pub asks_none : (v : Bool) (b p : ℕ) (ls : List Literal) → get_or letters p 0 ≡ b → is_in b (letters_of ls) ≡ false
      → asks v p ls ≡ false
  asks_none v b p [] h e = refl
  asks_none v b p (l ∷ ls) h e =
      let w = or-false (eqb b l.letter) (is_in b (letters_of ls)) e in
      or_neither (is_at v p l) (asks v p ls) (here (place_of k letters l.letter) refl) (asks_none v b p ls h w.1)
    where
      here : (o : Option ℕ) → place_of k letters l.letter ≡ o
          → elim o [ none ↦ false | some q ↦ beq v l.value && eqb p q ] ≡ false
      here none q = refl
      here (some q) i =
          elim (either (eqb p q)) [
            | inl y ↦
                let same : p ≡ q = eqb-true p q y in
                absurd (eqb-false b l.letter (or-false (eqb b l.letter) (is_in b (letters_of ls)) e).0
                (sym h ∙ rw same (place_is l.letter q i).letter))
            | inr y ↦ rw y (and-false (beq v l.value))
          ]

  sum_cons : (v : Bool) (l : Literal) (ls : List Literal) (p : ℕ) → k ≤ L.signals
      → place_of k letters l.letter ≡ some p
      → is_in l.letter (letters_of ls) ≡ false → SumIs v ls → SumIs v (l ∷ ls)
  sum_cons v l ls p kh e n w =
      let at = place_is l.letter p e in
      let rest = weights k letters v ls in
      elim (either (beq v l.value)) [
        | inl y ↦
            let none_yet : truth rest p ≡ false = w.truths p (omega (arith, at.below))
            ∙ asks_none v l.letter p ls at.letter n in
            let more = one_more k rest p kh w.below at.below none_yet in
            let is : weights k letters v (l ∷ ls) ≡ rest + 2 ^ p = rw (y, e, weight) (omega arith) in
            record {
              below = rw is more.below;
              truths = λ q h. rw (is, more.truths q h, w.truths q h, e, is_at, y);
            }
        | inr y ↦
            let is : weights k letters v (l ∷ ls) ≡ rest = rw y (omega arith) in
            record { below = rw is w.below; truths = λ q h. rw (is, w.truths q h, e, is_at, y) }
      ]

  pub sum_is : (v : Bool) (ls : List Literal) → k ≤ L.signals → all_defined_lem k letters (letters_of ls) ≡ true
      → distinct (letters_of ls) ≡ true → SumIs v ls
  sum_is v [] kh d n = record { below = one-le-pow k 2 (omega arith); truths = λ p h. nothing-true p h }
  sum_is v (l ∷ ls) kh d n =
      let a = and-true (answers (place_of k letters l.letter)) (all_defined_lem k letters (letters_of ls)) d in
      let b = and-true (not (is_in l.letter (letters_of ls))) (distinct (letters_of ls)) n in
      let p = answered (place_of k letters l.letter) a.0 in
      sum_cons v l ls p.0 kh p.1 (not-true (is_in l.letter (letters_of ls)) b.0)
      (sum_is v ls kh a.1 b.1)

-- the sums of at most four signals fit a byte
pub scenarios-fit : (k : ℕ) → k ≤ L.signals → 2 ^ k ≤ 16
scenarios-fit k h = pow-le-pow_right {n = 2} (omega arith) {i = k} {j = L.signals} h
