-- Laws of a label as it is written: signal by signal, what the label asks of each; and `-` exactly where nothing was
-- written. Assumes nothing.
use mathlib.Core.Path.{◌≡◌, refl, ◌∙◌, ap}
use mathlib.Core.Bool.{Bool, true, false, cond}
use mathlib.Core.List.{List, [], ◌∷◌, ◌++◌}
use Prim.Native.Nat.{ℕ, zero, suc}
use native.Mathlib.Omega.{arith}
use lib.ListN.{length, length-append}
use Rattle.std.proofs.Common.{Some, None}
use Rattle.prelude.specs.Bytes.{ascii}
use Rattle.prelude.specs.Gather.{ahead, gather_from}
use Rattle.page.specs.Joined.{join_from}
use Rattle.network.specs.Build.{letter}
use Rattle.network.specs.Scenario.{truth}
use Rattle.network.specs.declared.Label.{Label}
use Rattle.network.specs.declared.Network.{Network}
use Rattle.names.specs.Names.{Literal}
use Rattle.layout.specs.Layout.{sign_text, literals_text, label_text}
use Rattle.canonical.specs.Asked.{asked, asked_text}
use Rattle.canonical.specs.House.{literal_by, literal_at, literals_of}

-- the letters of a label have no text only where there are none
some-text : (l : Literal) (ls : List Literal) → length (literals_text (l ∷ ls)) ≡ 0 → ⊥
some-text l ls e = omega (arith, length-append (sign_text l.value) (l.letter ∷ literals_text ls))

label_text-none : (ls : List Literal) → length (literals_text ls) ≡ 0 → literals_text ls ++ ascii "-" ≡ label_text ls
label_text-none [] e = refl
label_text-none (l ∷ ls) e = absurd (some-text l ls e)

label_text-some : (ls : List Literal) → (length (literals_text ls) ≡ 0 → ⊥) → literals_text ls ≡ label_text ls
label_text-some [] h = absurd (h refl)
label_text-some (l ∷ ls) h = refl

-- one letter, before others
literal-first : (b : ℕ) (positive negative : Bool) (ls : List Literal)
    → literals_text (ahead (literal_by b positive negative) ls)
    ≡ literals_text (ahead (literal_by b positive negative) []) ++ literals_text ls
literal-first b true negative ls = refl
literal-first b false true ls = refl
literal-first b false false ls = refl

-- one letter, as the code writes it
literal-asked : (b : ℕ) (positive negative : Bool)
    → asked_text b (cond positive (Some true) (cond negative (Some false) None))
    ≡ literals_text (ahead (literal_by b positive negative) [])
literal-asked b true negative = refl
literal-asked b false true = refl
literal-asked b false false = refl

module _ (Γ : Network) (ℓ : Label) where
  -- what is written for signal p
  abbrev pub literal_text_at : ℕ → List ℕ
  literal_text_at p = literals_text (ahead (literal_at Γ ℓ p) [])

  pub asked-literal : (p : ℕ) → asked_text (letter Γ p) (asked ℓ p) ≡ literal_text_at p
  asked-literal p = literal-asked (letter Γ p) (truth ℓ.positive p) (truth ℓ.negative p)

  literals-join : (i n : ℕ) → literals_text (gather_from i n (literal_at Γ ℓ)) ≡ join_from i n literal_text_at
  literals-join i zero = refl
  literals-join i (suc n) =
      literal-first (letter Γ i) (truth ℓ.positive i) (truth ℓ.negative i) (gather_from (suc i) n (literal_at Γ ℓ))
      ∙ ap (λ (t : List ℕ). literal_text_at i ++ t) (literals-join (suc i) n)

  -- what is written for all signals: where it is nothing, the label is `-`, and else it is the label
  abbrev written : List ℕ
  written = join_from 0 Γ.signals literal_text_at

  all-written : literals_text (literals_of Γ ℓ) ≡ written
  all-written = literals-join 0 Γ.signals

  pub label-none : length written ≡ 0 → written ++ ascii "-" ≡ label_text (literals_of Γ ℓ)
  label-none e = rw (← all-written) (label_text-none (literals_of Γ ℓ) (rw (← all-written) at e))

  pub label-some : (length written ≡ 0 → ⊥) → written ≡ label_text (literals_of Γ ℓ)
  label-some h = rw (← all-written) (label_text-some (literals_of Γ ℓ) (rw (← all-written) at h))
