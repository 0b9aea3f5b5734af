-- Laws of first known times: the table by doubling, and known times by a row. Assumes nothing.
use mathlib.Core.Path.{◌≡◌, refl, ◌∙◌, ap}
use mathlib.Core.Logic.{inl, inr}
use mathlib.Core.Bool.{true, false}
use mathlib.Core.List.{List}
use Prim.Native.Nat.{ℕ, zero, suc, ◌+◌, ◌-◌, ◌/◌, ◌%◌, ◌^◌, ◌≤◌, ◌<◌, min}
use native.Mathlib.Nat.{pow-le-pow_right}
use native.Mathlib.Numerals.{add-one}
use native.Mathlib.Omega.{arith}
use lib.Dec.{eqb}
use lib.ListN.{length, get_or, set, length-set}
use lib.Seq.{get_or-set_same, get_or-set_other}
use Rattle.prelude.proofs.Tests.{lt_or_ge, eq_or_ne}
use Rattle.prelude.proofs.Minima.{min_where_ext, min_where-fewer}
use Rattle.network.specs.Build.{observation}
use Rattle.network.specs.Scenario.{truth}
use Rattle.network.specs.WellFormed.{WellFormed}
use Rattle.network.specs.declared.Network.{Network}
use Rattle.rows.specs.Rows.{RowIn}
use Rattle.rows.specs.Known.{known_in, known_at, first_of, FirstKnown, Doubled}

-- the digits of d, and of d with proposition i added
top : (i d : ℕ) → i < 4 → d < 2 ^ i → (truth d i ≡ false) × (truth (2 ^ i + d) i ≡ true)
top i d l h = let e = digit i d l h in (rw e.0, rw e.1) where
  digit : (i d : ℕ) → i < 4 → d < 2 ^ i → (d / 2 ^ i % 2 ≡ 0) × ((2 ^ i + d) / 2 ^ i % 2 ≡ 1)
  digit zero d l h = omega arith
  digit (suc zero) d l h = omega arith
  digit (suc (suc zero)) d l h = omega arith
  digit (suc (suc (suc zero))) d l h = omega arith
  digit (suc (suc (suc (suc i)))) d l h = absurd (omega arith)

low : (i j d : ℕ) → i < 4 → j < i → truth (2 ^ i + d) j ≡ truth d j
low i j d l h = ap (λ (m : ℕ). eqb m 1) (digit i j d l h) where
  digit : (i j d : ℕ) → i < 4 → j < i → (2 ^ i + d) / 2 ^ j % 2 ≡ d / 2 ^ j % 2
  digit zero j d l h = absurd (omega arith)
  digit (suc zero) zero d l h = omega arith
  digit (suc zero) (suc j) d l h = absurd (omega arith)
  digit (suc (suc zero)) zero d l h = omega arith
  digit (suc (suc zero)) (suc zero) d l h = omega arith
  digit (suc (suc zero)) (suc (suc j)) d l h = absurd (omega arith)
  digit (suc (suc (suc zero))) zero d l h = omega arith
  digit (suc (suc (suc zero))) (suc zero) d l h = omega arith
  digit (suc (suc (suc zero))) (suc (suc zero)) d l h = omega arith
  digit (suc (suc (suc zero))) (suc (suc (suc j))) d l h = absurd (omega arith)
  digit (suc (suc (suc (suc i)))) j d l h = absurd (omega arith)

twice : (i : ℕ) → i < 4 → 2 ^ (i + 1) ≡ 2 ^ i + 2 ^ i
twice zero l = refl
twice (suc zero) l = refl
twice (suc (suc zero)) l = refl
twice (suc (suc (suc zero))) l = refl
twice (suc (suc (suc (suc i)))) l = absurd (omega arith)

-- one set more
pub doubled-next : {p v d : ℕ} {f₀ f : List ℕ} (x : ℕ) → Doubled p v f₀ f d → p ≤ 8 → d < p → x ≡ min (get_or f d 0) v
    → Doubled p v f₀ (set f (p + d) x) (d + 1)
doubled-next {p} {v} {d} {f₀} {f} x h b l e = record {
  sized = length-set f (p + d) x ∙ h.sized;
  within = omega arith;
  low = λ k c. get_or-set_other f (p + d) k x 0 (λ z. omega arith) ∙ h.low k c;
  high =
      λ k c.
      elim (eq_or_ne k d) [
        | inl q ↦ rw q (omega (arith, get_or-set_same f (p + d) x 0 (omega (arith, h.sized)), h.low d l))
        | inr q ↦ get_or-set_other f (p + d) (p + k) x 0 (λ z. q (omega arith)) ∙ h.high k (omega arith)
      ];
}

module _ (f : ℕ → ℕ) where
  -- the first i propositions are in d as they are in d with i added
  first_of_high : (i d : ℕ) → i < 4 → first_of i f (2 ^ i + d) ≡ first_of i f d
  first_of_high i d l = min_where_ext _ _ f f 32767 i (λ j h. low i j d l h) (λ j h. refl)

  pub first-start : (first : List ℕ) → length first ≡ 16 → get_or first 0 0 ≡ 32767 → FirstKnown 0 f first
  first-start first l e = record { sized = l; is = λ d b. let z : d ≡ 0 = omega arith in rw z e }

  -- one proposition more
  pub first_next : {i v : ℕ} {first first' : List ℕ} (p : ℕ) → i < 4 → FirstKnown i f first → p ≡ 2 ^ i → v ≡ f i
      → Doubled p v first first' p → FirstKnown (i + 1) f first'
  first_next {i} {v} {first} {first'} p l h q e g' =
      let g : Doubled (2 ^ i) v first first' (2 ^ i) = rw q at g' in
      record {
        sized = g.sized;
        is =
            λ d b. rw (add-one i) (elim (lt_or_ge d (2 ^ i)) [
              | inl m ↦ rw (top i d l m).0 (g.low d m ∙ h.is d m)
              | inr m ↦
                  let x = d - 2 ^ i in
                  let s : d ≡ 2 ^ i + x = omega arith in
                  let y : x < 2 ^ i = omega (arith, twice i l) in
                  rw (s, (top i x l y).1, first_of_high i x l) (omega (arith, g.high x y, h.is x y))
            ]);
      }

  -- a proposition that is in none of the sets asks nothing
  first_of_more : (k m d : ℕ) → k ≤ m → m ≤ 4 → d < 2 ^ k → first_of m f d ≡ first_of k f d
  first_of_more k m d h l b = min_where-fewer (truth d) f 32767 k m h (λ j a c.
      let up : 2 ^ k ≤ 2 ^ j = pow-le-pow_right (omega arith) a in
      (top j d (omega arith) (omega arith)).0)

-- a table for m propositions is one for the first k of them
pub first-fewer : (f g : ℕ → ℕ) (k m : ℕ) {first : List ℕ} → FirstKnown m f first → k ≤ m → m ≤ 4
    → ((p : ℕ) → p < k → f p ≡ g p) → FirstKnown k g first
first-fewer f g k m F h l e = record {
  sized = F.sized;
  is =
      λ d b.
      let up : 2 ^ k ≤ 2 ^ m = pow-le-pow_right (omega arith) h in
      F.is d (omega arith) ∙ first_of_more f k m d h l b ∙ min_where_ext (truth d) (truth d) f g 32767 k
      (λ p c. refl) e;
}

-- from when on p is known, by a row of its scenario
pub known_in_row : (Γ : Network) (σ : List ℕ) (s : ℕ) {row : List ℕ} → WellFormed Γ → RowIn Γ σ s row → (p : ℕ)
    → p < Γ.signals → known_at Γ row s p ≡ known_in Γ σ s p
known_in_row Γ σ s W R p l =
    let u = observation Γ p in
    let inside : u < Γ.events = W.observed p l in
    let place : u % 16 ≡ u = omega (arith, W.events) in
    rw (place, R.at u inside)
