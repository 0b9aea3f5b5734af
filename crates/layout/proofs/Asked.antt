-- A letter stands in a label with its sign exactly where the label's sum for that sign has the weight of its signal.
-- Assumes nothing.
use mathlib.Core.Path.{◌≡◌, sym, ◌∙◌}
use mathlib.Core.Bool.{Bool, true, false}
use mathlib.Core.Option.{some}
use mathlib.Core.List.{List}
use Prim.Native.Nat.{ℕ, ◌≤◌, ◌<◌}
use native.Mathlib.Omega.{arith}
use lib.ListN.{length, get_or}
use Rattle.prelude.specs.Lists.{In}
use Rattle.network.specs.Limits as L
use Rattle.network.specs.Build.{letter}
use Rattle.network.specs.Scenario.{truth}
use Rattle.network.specs.WellFormed.{Lettered}
use Rattle.network.specs.declared.Network.{Network}
use Rattle.network.proofs.Labels.{truth-below}
use Rattle.names.specs.Names.{Literal}
use Rattle.names.specs.Defined.{place_of, weights, mask_of}
use Rattle.names.proofs.Labels.{place_is, asks, SumIs, sum_is}
use Rattle.names.proofs.Satisfies.{asks-in, asks-by}
use Rattle.layout.specs.Contents.{Contents, signal_letters, no_literal}
use Rattle.layout.specs.Keeps.{KeepsLabel}
use Rattle.layout.proofs.Stands.{Stands}
use Rattle.layout.proofs.LabelField.{letters-defined, letters_unlike}

literal-is : (a b : ℕ) (v w : Bool) → a ≡ b → v ≡ w
    → ◌≡◌ {A = Literal} (record { letter = a; value = v }) (record { letter = b; value = w })
literal-is a b v w p q = rw (p, q)

module _ (k : ℕ) (letters : List ℕ) where
  asks_in : (v : Bool) (p : ℕ) (ls : List Literal) → asks k letters v p ls ≡ true
      → In (record { letter = get_or letters p 0; value = v }) ls no_literal
  asks_in v p ls e =
      let w = asks-by k letters no_literal v p ls e in
      let a = sym (place_is k letters w.literal.letter p w.place).letter in
      record {
        place = w.member.place;
        place_lt = w.member.place_lt;
        is = w.member.is ∙ literal-is w.literal.letter (get_or letters p 0) w.literal.value v a w.value;
      }

module _ {sheet : List ℕ} {Γ : Network} {c : Contents} (s : Stands sheet Γ c)
    (few : length c.signals ≤ L.signals) (ls : List Literal) (m : KeepsLabel (signal_letters c.signals) ls) where
  abbrev sum : Bool → ℕ
  sum v = weights Γ.signals Γ.letters v ls

  sums : (v : Bool) → SumIs Γ.signals Γ.letters v ls
  sums v =
      sum_is Γ.signals Γ.letters v ls (omega (arith, few, s.holds.signals)) (letters-defined s ls m)
      (letters_unlike s ls m)

  pub mask-lettered : Lettered Γ (mask_of Γ.signals Γ.letters ls)
  mask-lettered = record { positive = (sums true).below; negative = (sums false).below }

  pub truth_in : (v : Bool) (p : ℕ) → truth (sum v) p ≡ true
      → (p < length c.signals) × In (record { letter = letter Γ p; value = v }) ls no_literal
  truth_in v p t =
      let h = truth-below (sum v) Γ.signals p (sums v).below t in
      let n = s.holds.signals in
      let asked = sym ((sums v).truths p (omega (arith, few))) ∙ t in
      (omega arith, asks_in Γ.signals Γ.letters v p ls asked)

  pub in_truth : (l : Literal) (p : ℕ) → In l ls no_literal → place_of Γ.signals Γ.letters l.letter ≡ some p
      → truth (sum l.value) p ≡ true
  in_truth l p i e =
      let h = (place_is Γ.signals Γ.letters l.letter p e).below in
      let n = s.holds.signals in
      (sums l.value).truths p (omega (arith, few)) ∙ asks-in Γ.signals Γ.letters no_literal l p ls i e
