-- What is due by a text. Its mask is that of its records, or has the bit `misnamed` alone. The latter is also the mask
-- of one record whose byte is no letter, so that the law of lists, `due-said`, covers both: what is due by the mask is
-- what is due by the text (`due-said-text`). Then a text byte by byte, for the code's loop (`Saying`). Assumes
-- nothing.
use mathlib.Core.Path.{◌≡◌, refl, sym, ◌∙◌, ap}
use mathlib.Core.Logic.{◌↔◌, inl, inr}
use mathlib.Core.Bool.{Bool, true, false, not, cond}
use mathlib.Core.List.{List, [], ◌∷◌, map}
use Prim.Native.Nat.{ℕ, ◌+◌, ◌≤◌, ◌<◌}
use native.Mathlib.Numerals.{add-one}
use native.Mathlib.Omega.{arith}
use borrow.Author.Tests.{eq-eqb, ne_eqb}
use lib.Dec.{eqb}
use lib.ListN.{length, get_or, drop, drop_of_length-le}
use lib.Seq.{drop-cons}
use Rattle.prelude.proofs.Tests.{zero-is-one, either, clash}
use Rattle.network.specs.Build.{scenarios}
use Rattle.network.specs.declared.Network.{Network}
use Rattle.names.specs.Names.{Literal, is_letter_lem, literals}
use Rattle.dispatch.specs.Heard.{no_heard, WellNamed, Lettered}
use Rattle.dispatch.specs.History.{History}
use Rattle.dispatch.specs.Due.{due}
use Rattle.dispatch.specs.Said.{misnamed, with_bit, with_heard, said_from, due_on}
use Rattle.dispatch.specs.HeardText.{is_heard_lem, record_of, heard_in, WellWritten, due_text, said_text}
use Rattle.std.proofs.Common.{Result, Err}
use Rattle.dispatch.specs.declared.Unanswered.{Unanswered}
use Rattle.dispatch.specs.declared.Unanswered.TheVariants.{Misnamed, NeverHeard}
use Rattle.dispatch.proofs.Answers.{due-misnamed, due-never}
use Rattle.dispatch.proofs.Fold.{with_heard-other}
use Rattle.dispatch.proofs.Mask.{due-said}

-- the mask of a text of the form, and of any other
module _ (text : List ℕ) where
  pub said-heard : is_heard_lem text ≡ true → said_text text ≡ said_from 0 (heard_in text)
  unfolding said_text
  said-heard e = ap (λ (b : Bool). cond b (said_from 0 (heard_in text)) (with_bit 0 misnamed)) e

  pub said-other : is_heard_lem text ≡ false → said_text text ≡ with_bit 0 misnamed
  unfolding said_text
  said-other e = ap (λ (b : Bool). cond b (said_from 0 (heard_in text)) (with_bit 0 misnamed)) e

unlike : {A : Type 0} → ◌≡◌ {A = Result ℕ Unanswered} (Err Misnamed) (Err NeverHeard) → A
unlike q = zero-is-one cc

module _ (Γ : Network) (σ : List ℕ) (m : ℕ) (lettered : Lettered Γ) where
  -- one record with the byte 0: it is no signal's letter
  unnamed : WellNamed Γ (no_heard ∷ []) → ⊥
  unnamed w =
      let d = w.defined.each 0 (omega arith) in
      clash (is_letter_lem 0) (rw d.is at (lettered.lower d.signal d.below)) refl

  misnamed_alone : due_on Γ σ m (with_bit 0 misnamed) ≡ Err Misnamed
  misnamed_alone =
      ap (due_on Γ σ m) (sym (with_heard-other 0 no_heard refl)) ∙ due-said Γ σ m (no_heard ∷ []) lettered
      ∙ (due-misnamed Γ σ m lettered (no_heard ∷ [])).1 unnamed

  module _ (text : List ℕ) where
    pub due-heard : is_heard_lem text ≡ true → due_text Γ σ m text ≡ due Γ σ m (heard_in text)
    unfolding due_text
    due-heard e = ap (λ (b : Bool). cond b (due Γ σ m (heard_in text)) (Err Misnamed)) e

    due-other : is_heard_lem text ≡ false → due_text Γ σ m text ≡ Err Misnamed
    unfolding due_text
    due-other e = ap (λ (b : Bool). cond b (due Γ σ m (heard_in text)) (Err Misnamed)) e

    -- what is due by the mask of a text is what is due by the text
    pub due-said-text : due_on Γ σ m (said_text text) ≡ due_text Γ σ m text
    due-said-text =
        elim (either (is_heard_lem text)) [
          | inl e ↦
              ap (due_on Γ σ m) (said-heard text e) ∙ due-said Γ σ m (heard_in text) lettered ∙ sym (due-heard e)
          | inr e ↦ ap (due_on Γ σ m) (said-other text e) ∙ misnamed_alone ∙ sym (due-other e)
        ]

    -- it is of another form, or a letter is undefined or stands twice
    pub text-misnamed : (due_text Γ σ m text ≡ Err Misnamed) ↔ (WellWritten Γ text → ⊥)
    text-misnamed = (
      λ d w. (due-misnamed Γ σ m lettered (heard_in text)).0 (sym (due-heard w.formed) ∙ d) w.named,
      λ n.
          elim (either (is_heard_lem text)) [
            | inl e ↦
                due-heard e ∙ (due-misnamed Γ σ m lettered (heard_in text)).1
                (λ w. n (record { formed = e; named = w }))
            | inr e ↦ due-other e
          ],
    )

    -- no case has heard it
    pub text-never : (due_text Γ σ m text ≡ Err NeverHeard)
        ↔ (WellWritten Γ text × ((s : ℕ) → s < scenarios Γ → History Γ σ m (heard_in text) s → ⊥))
    text-never = (
      λ d.
          elim (either (is_heard_lem text)) [
            | inl e ↦
                let w = (due-never Γ σ m lettered (heard_in text)).0 (sym (due-heard e) ∙ d) in
                (record { formed = e; named = w.0 }, w.1)
            | inr e ↦ unlike (sym (due-other e) ∙ d)
          ],
      λ w. due-heard w.0.formed ∙ (due-never Γ σ m lettered (heard_in text)).1 (w.0.named, w.1),
    )

-- a loop over a label's literals has come to i, bang where the last byte was one, and the records of what is left make
-- of x the mask of all
pub record Saying (t : List ℕ) (x : ℕ) (bang : Bool) (i : ℕ) : Type 0 where
  pub within : i ≤ length t
  pub rest : said_from x (map record_of (literals bang (drop i t))) ≡ said_from 0 (map record_of (literals false t))

pub saying_start : (t : List ℕ) → Saying t 0 false 0
saying_start t = record { within = omega arith; rest = refl }

literals_bang : (bang : Bool) (b : ℕ) (s : List ℕ) → b ≡ 33 → literals bang (b ∷ s) ≡ literals (eqb b 33) s
literals_bang bang b s e = rw (eq-eqb b 33 e, literals)

literals-letter : (bang : Bool) (b : ℕ) (s : List ℕ) → (b ≡ 33 → ⊥)
    → literals bang (b ∷ s) ≡ record { letter = b; value = not bang } ∷ literals (eqb b 33) s
literals-letter bang b s n = rw (ne_eqb b 33 n, literals)

module _ {t : List ℕ} {x : ℕ} {bang : Bool} {i : ℕ} (here : Saying t x bang i) where
  left : i < length t → drop i t ≡ get_or t i 0 ∷ drop (i + 1) t
  left h = rw add-one (drop-cons t i 0 h)

  pub saying_bang : i < length t → get_or t i 0 ≡ 33 → Saying t x (eqb (get_or t i 0) 33) (i + 1)
  saying_bang h e = record {
    within = omega arith;
    rest = ap (λ (ls : List Literal). said_from x (map record_of ls))
        (sym (ap (literals bang) (left h) ∙ literals_bang bang (get_or t i 0) (drop (i + 1) t) e))
        ∙ here.rest;
  }

  pub saying_letter : i < length t → (get_or t i 0 ≡ 33 → ⊥)
      → Saying t (with_heard x (record { letter = get_or t i 0; truth = not bang })) (eqb (get_or t i 0) 33) (i + 1)
  saying_letter h n = record {
    within = omega arith;
    rest = ap (λ (ls : List Literal). said_from x (map record_of ls))
        (sym (ap (literals bang) (left h) ∙ literals-letter bang (get_or t i 0) (drop (i + 1) t) n))
        ∙ here.rest;
  }

  pub saying_end : length t ≤ i → x ≡ said_from 0 (map record_of (literals false t))
  saying_end h =
      ap (λ (s : List ℕ). said_from x (map record_of (literals bang s))) (sym (drop_of_length-le t h)) ∙ here.rest
