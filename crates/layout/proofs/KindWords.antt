-- The word of a kind, and the letters of a label that are defined. Assumes nothing.
use mathlib.Core.Path.{◌≡◌, refl, sym, ◌∙◌}
use mathlib.Core.Logic.{inl, inr}
use mathlib.Core.Bool.{true, ◌||◌, not}
use mathlib.Core.Option.{none, get_or}
use mathlib.Core.List.{List}
use Prim.Native.Nat.{ℕ}
use borrow.Author.Tests.{not-true}
use Rattle.prelude.specs.Search.{answers}
use Rattle.prelude.specs.Checks.{first_failing_lem}
use Rattle.prelude.specs.Bytes.{ascii, same, every}
use Rattle.prelude.proofs.Bytes.{same_true}
use Rattle.prelude.proofs.Tests.{either, clash}
use Rattle.network.specs.declared.Kind.{Kind}
use Rattle.network.specs.declared.Kind.TheVariants.{Max, Min}
use Rattle.network.specs.declared.Network.{Network}
use Rattle.names.specs.Defined.{place_of, all_defined_lem}
use Rattle.names.proofs.Labels.{all_defined-every}
use Rattle.line.specs.Tests.{kind_of, is_retired, kind_tests}
use Rattle.prelude.specs.Lists.{In, Each}
use Rattle.layout.specs.Contents.{Contents, signal_letters}
use Rattle.layout.specs.Layout.{kind_text}
use Rattle.layout.specs.Contains.{Contains}
use Rattle.prelude.proofs.Lists.{each_mono, each_of_every, every_of_each}
use Rattle.text.specs.Lines.{plain}
use Rattle.layout.proofs.Finds.{letter_in, letter-answers}

-- a kind's word is read as that kind
pub kind-is : (k : Kind) → get_or (kind_of (kind_text k)) Max ≡ k
kind-is Max = refl
kind-is Min = refl

pub kind-passes : (k : Kind) → first_failing_lem (kind_tests (kind_text k)) ≡ none
unfolding kind_tests
kind-passes Max = refl
kind-passes Min = refl

-- and a field that is passed is a kind's word
pub kind-read : (f : List ℕ) → answers (kind_of f) || is_retired f ≡ true → not (is_retired f) ≡ true
    → (k : Kind) × (f ≡ kind_text k)
kind-read f e n =
    elim (either (same f (ascii "max"))) [
      | inl p ↦ (Max, same_true f (ascii "max") p)
      | inr p ↦ elim (either (same f (ascii "min"))) [
        | inl q ↦ (Min, same_true f (ascii "min") q)
        | inr q ↦ clash (is_retired f) (rw (p, kind_of, q) at e) (not-true (is_retired f) n)
      ]
    ]

pub plain-kind : (k : Kind) → every plain (kind_text k) ≡ true
plain-kind Max = refl
plain-kind Min = refl

-- letters are defined exactly where each is that of a signal
module _ {sheet : List ℕ} {Γ : Network} {c : Contents} (s : Contains sheet Γ c) (bs : List ℕ) where
  pub defined-read : all_defined_lem Γ.signals Γ.letters bs ≡ true
      → Each (λ b. In b (signal_letters c.signals) 0) bs 0
  defined-read e =
      each_mono (λ b h. letter_in s b h)
      (each_of_every (λ b. answers (place_of Γ.signals Γ.letters b)) bs
      (sym (all_defined-every Γ.signals Γ.letters bs) ∙ e))

  pub defined-passes : Each (λ b. In b (signal_letters c.signals) 0) bs 0
      → all_defined_lem Γ.signals Γ.letters bs ≡ true
  defined-passes e =
      all_defined-every Γ.signals Γ.letters bs
      ∙ every_of_each (λ b. answers (place_of Γ.signals Γ.letters b)) bs
      (each_mono (λ b h. letter-answers s b h) e)
