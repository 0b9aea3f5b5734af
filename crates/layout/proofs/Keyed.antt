-- Entries by their keys: what each entry says holds at the places that have its key, and a place whose key no entry has
-- is blank. Here is one entry more, for a place whose key had none, as each line of a reaction and of a label is; and a
-- key is found or is no entry's. Assumes nothing.
use mathlib.Core.Path.{◌≡◌, sym, ◌∙◌}
use mathlib.Core.Logic.{◌⊎◌, inl, inr}
use mathlib.Core.Bool.{Bool, true}
use mathlib.Core.List.{List, [], ◌∷◌, ◌++◌, map, map-append}
use Prim.Native.Nat.{ℕ, suc, ◌<◌}
use native.Mathlib.Omega.{arith}
use lib.ListN.{length, get_or, length-map, get_or-map}
use Rattle.prelude.specs.Lists.{In}
use Rattle.prelude.proofs.Lists.{by_place}
use Rattle.prelude.proofs.Parts.{in_cons, in_before, in_last}
use Rattle.prelude.proofs.Tests.{either, clash}

-- of the entries ys, read as z behind their end, y is the one more; it is for place p
module _ {K V Y : Type 0} (key : Y → K) (val : Y → V) (z : Y) (ys : List Y) (y : Y) (p : ℕ)
    (new : In (key y) (map key ys) (key z) → ⊥) where
  abbrev keys : List Y → List K
  keys es = map key es

  -- place q has key f, and v stood there before and w stands there now
  module _ (q : ℕ) (f : K) {v w : V} (same : f ≡ key y → q ≡ p) (its : q ≡ p → f ≡ key y)
      (other : (q ≡ p → ⊥) → w ≡ v) where
    pub said_with : (q ≡ p → w ≡ val y)
        → ((i : ℕ) → i < length ys → f ≡ key (get_or ys i z) → v ≡ val (get_or ys i z))
        → (i : ℕ) → i < length (ys ++ y ∷ []) → f ≡ key (get_or (ys ++ y ∷ []) i z)
        → w ≡ val (get_or (ys ++ y ∷ []) i z)
    said_with here before =
        by_place z ys y (λ i e. f ≡ key e → w ≡ val e)
        (λ i m e.
        let listed : In f (keys ys) (key z) = record {
          place = i;
          place_lt = omega (arith, length-map ys key);
          is = get_or-map key ys i z ∙ sym e;
        } in
        other (λ s. new (rw (its s) at listed)) ∙ before i m e)
        (λ e. here (same e))

    pub unsaid_with : (d : V) → ((In f (keys ys) (key z) → ⊥) → v ≡ d)
        → (In f (keys (ys ++ y ∷ [])) (key z) → ⊥) → w ≡ d
    unsaid_with d before n =
        let out : In f (keys ys ++ key y ∷ []) (key z) → ⊥ = λ i. n (rw map-append i) in
        other (λ s. out (rw (its s) (in_last (key z) (keys ys) (key y))))
        ∙ before (λ i. out (in_before (key z) (keys ys) (key y ∷ []) i))

-- one of the entries has the key k, or none has
module _ {K Y : Type 0} (test : K → K → Bool) (sound : (a b : K) → test a b ≡ true → a ≡ b)
    (complete : (a b : K) → a ≡ b → test a b ≡ true) (key : Y → K) (z : Y) (e k : K) where
  pub record HasKey (ys : List Y) : Type 0 where
    pub place : ℕ
    pub place_lt : place < length ys
    pub is : k ≡ key (get_or ys place z)

  pub keyed_or_not : (ys : List Y) → HasKey ys ⊎ (In k (map key ys) e → ⊥)
  keyed_or_not [] = inr (λ i. omega (arith, i.place_lt))
  keyed_or_not (y ∷ ys) =
      elim (either (test k (key y))) [
        | inl p ↦ inl (record { place = 0; place_lt = omega arith; is = sound k (key y) p })
        | inr n ↦ elim (keyed_or_not ys) [
          | inl w ↦ inl (record { place = suc w.place; place_lt = omega (arith, w.place_lt); is = w.is })
          | inr none ↦ inr (λ i. elim (in_cons i) [
            | inl q ↦ clash (test k (key y)) (complete k (key y) (sym q)) n
            | inr later ↦ none later
          ])
        ]
      ]
