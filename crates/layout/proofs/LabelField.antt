-- The field of a label, of a rule or an event: it is passed exactly where its letters are those of signals, each once,
-- and its two sums are those of its letters. Assumes nothing.
use mathlib.Core.Path.{◌≡◌, ◌∙◌, ap}
use mathlib.Core.Bool.{true}
use mathlib.Core.List.{List}
use Prim.Native.Nat.{ℕ}
use lib.ListN.{length}
use Rattle.prelude.specs.Bytes.{every, distinct}
use Rattle.prelude.proofs.Lists.{distinct_of_test, test_of_distinct}
use Rattle.network.specs.declared.Network.{Network}
use Rattle.names.specs.Names.{is_letter_lem, Literal, label_of, letters_of}
use Rattle.names.specs.Defined.{all_defined_lem, mask_of}
use Rattle.layout.specs.Contents.{Contents, signal_letters}
use Rattle.layout.specs.Keeps.{KeepsLabel}
use Rattle.layout.specs.Layout.{label_text}
use Rattle.layout.proofs.Labels.{label_of_label_text}
use Rattle.layout.proofs.Finds.{mask_is}
use Rattle.layout.proofs.Kept.{letters-are}
use Rattle.layout.proofs.Stands.{Stands}
use Rattle.layout.proofs.KindWords.{defined-read, defined-passes}

module _ {sheet : List ℕ} {Γ : Network} {c : Contents} (s : Stands sheet Γ c) where
  pub label-keeps : (ls : List Literal) → all_defined_lem Γ.signals Γ.letters (letters_of ls) ≡ true
      → distinct (letters_of ls) ≡ true → KeepsLabel (signal_letters c.signals) ls
  label-keeps ls d n = record {
    known = defined-read s.holds (letters_of ls) d;
    once = distinct_of_test (letters_of ls) n;
  }

  module _ (ls : List Literal) (m : KeepsLabel (signal_letters c.signals) ls) where
    pub letters-defined : all_defined_lem Γ.signals Γ.letters (letters_of ls) ≡ true
    letters-defined = defined-passes s.holds (letters_of ls) m.known

    pub letters_unlike : distinct (letters_of ls) ≡ true
    letters_unlike = test_of_distinct (letters_of ls) m.once

    pub label-letters : every is_letter_lem (letters_of ls) ≡ true
    label-letters = letters-are s.signals (letters_of ls) m.known

    -- what is read of the label as it is written
    label_is : label_of (label_text ls) ≡ ls
    label_is = label_of_label_text ls label-letters

    pub label-defined : all_defined_lem Γ.signals Γ.letters (letters_of (label_of (label_text ls))) ≡ true
    label-defined =
        ap (λ (ks : List Literal). all_defined_lem Γ.signals Γ.letters (letters_of ks)) label_is ∙ letters-defined

    pub label_unlike : distinct (letters_of (label_of (label_text ls))) ≡ true
    label_unlike = ap (λ (ks : List Literal). distinct (letters_of ks)) label_is ∙ letters_unlike

    pub label-mask : mask_of Γ.signals Γ.letters (label_of (label_text ls))
        ≡ mask_of (length c.signals) (signal_letters c.signals) ls
    label-mask = ap (mask_of Γ.signals Γ.letters) label_is ∙ mask_is s.holds ls
