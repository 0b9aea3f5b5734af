-- What the programs print depends on no more than the first 4,097 bytes of what they read: a longer sheet is refused
-- with 1 and a longer listing with 18, whatever follows. Assumes nothing.
use mathlib.Core.Path.{◌≡◌, refl, sym, ◌∙◌, ap}
use mathlib.Core.Logic.{inl, inr}
use mathlib.Core.List.{List}
use Prim.Native.Nat.{ℕ, suc, ◌<◌}
use native.Mathlib.Omega.{arith}
use lib.ListN.{length, take}
use Rattle.std.specs.Prelude.{Result, Ok, Err}
use Rattle.std.proofs.Common.{take_all, length-take-le}
use Rattle.prelude.proofs.Tests.{lt_or_ge}
use Rattle.refusal.specs.Refusal.{refusal}
use Rattle.refusal.specs.declared.Cause.TheVariants.{TooLong, OtherForm}
use Rattle.refusal.specs.declared.Refusal.{Refusal}
use Rattle.network.specs.declared.Network.{Network}
use Rattle.sheet.specs.Reading.{longest, read}
use Rattle.sheet.specs.Fault.{Fault}
use Rattle.sheet.proofs.WellFormed.{accepts}
use Rattle.sheet.proofs.Fault.{refused_iff}
use Rattle.conversion.proofs.Length.{length-read_as_max}
use Rattle.calls.specs.Values.{turned_away}
use Rattle.calls.specs.Table.{refused_text, table_text, form_text, converted_text, heaviest_text, judge_text}
use Rattle.calls.proofs.Printing.{printing}

-- what is read of a text that may be longer
abbrev pub first : List ℕ → List ℕ
first bytes = take (suc longest) bytes

-- where all longer texts are told alike, their first bytes are told so too
told_by_first : (told : List ℕ → List ℕ) (alike : List ℕ)
    → ((s : List ℕ) → longest < length s → told s ≡ alike) → (s : List ℕ) → told (first s) ≡ told s
told_by_first told alike longer s =
    elim (lt_or_ge longest (length s)) [
      | inl h ↦ longer (first s) (omega (arith, length-take-le (suc longest) s h)) ∙ sym (longer s h)
      | inr h ↦ ap told (take_all (suc longest) s (omega arith))
    ]

abbrev too_long : Refusal
too_long = refusal TooLong 0

abbrev refused : List ℕ
refused = refused_text (turned_away 0 too_long)

fault : (s : List ℕ) → longest < length s → Fault s too_long
fault s h = inl (h, refl)

pub table_first : (s : List ℕ) → table_text (first s) ≡ table_text s
table_first = told_by_first table_text refused (λ s h. (printing.table s).refused too_long (fault s h))

pub form_first : (s : List ℕ) → form_text (first s) ≡ form_text s
form_first = told_by_first form_text refused (λ s h. (printing.house s).refused too_long (fault s h))

pub converted_first : (s : List ℕ) → converted_text (first s) ≡ converted_text s
converted_first =
    told_by_first converted_text refused
    (λ s h. (printing.convert s).refused too_long (inl (omega (arith, length-read_as_max s), refl)))

pub heaviest_first : (s : List ℕ) → heaviest_text (first s) ≡ heaviest_text s
heaviest_first = told_by_first heaviest_text refused (λ s h. (printing.ring s).refused too_long (inl (h, refl)))

-- of a listing: the sheet's own refusal comes first, and 18 with line 1 before anything else
listing_first : (s p : List ℕ) → judge_text s (first p) ≡ judge_text s p
listing_first s p = by_reading (read s) refl
  where
    by_reading : (g : Result Network Refusal) → read s ≡ g → judge_text s (first p) ≡ judge_text s p
    by_reading (Err r) e =
        let f = (refused_iff s r).0 e in
        (printing.judge s (first p)).refused r f ∙ sym ((printing.judge s p).refused r f)
    by_reading (Ok Γ) e =
        let a = accepts s Γ e in
        told_by_first (judge_text s) (refused_text (turned_away 0 (refusal OtherForm 1)))
        (λ q h. (printing.judge s q).misfit Γ 1 (record { accepted = a.0; network = a.1 }) (inl (h, refl))) p

pub judge_first : (s p : List ℕ) → judge_text (first s) (first p) ≡ judge_text s p
judge_first s p =
    told_by_first (λ x. judge_text x (first p)) refused
    (λ x h. (printing.judge x (first p)).refused too_long (fault x h)) s
    ∙ listing_first s p
