-- The words of `judge`: each verdict as it is printed, by computation, and that only a pass is printed as `pass`.
-- Assumes nothing.
use mathlib.Core.Path.{◌≡◌, refl, sym, ◌∙◌, ap}
use mathlib.Core.Bool.{Bool, true, ◌&&◌}
use mathlib.Core.List.{List, [], ◌∷◌, ◌++◌, append_assoc}
use Prim.Native.Nat.{ℕ, ◌<◌, ◌^◌}
use Prim.Native.String.{String}
use native.Mathlib.Omega.{arith}
use borrow.Author.Tests.{ne_eqb}
use lib.ListN.{get_or}
use Rattle.std.specs.Prelude.{Ok, Err}
use Rattle.prelude.specs.Bytes.{ascii, same}
use Rattle.text.specs.Lines.{line_feed}
use Rattle.text.specs.Decimal.{decimal}
use Rattle.text.proofs.Displayed.{displayed}
use Rattle.refusal.specs.Refusal.{number_of, refusal}
use Rattle.refusal.specs.Printed as R
use Rattle.refusal.specs.declared.Refusal.{Refusal}
use Rattle.refusal.specs.declared.Cause.{Cause}
use Rattle.refusal.proofs.Numbered.{numbered}
use Rattle.refusal.specs.declared.Cause.TheVariants.{Undefined, OtherForm, NoMinute}
use Rattle.checker.specs.declared.Breach.TheVariants.{Late, Rule, Unheard}
use Rattle.checker.specs.declared.Verdict.{Verdict}
use Rattle.checker.specs.declared.Verdict.TheVariants.{Pass, Breach as Breached}
use Rattle.checker.specs.Printed as P
use Rattle.calls.specs.Values.{OrRefusal, Values, turned_away}
use Rattle.calls.specs.Bench.{refused, passed, verdict_values, judgement_values}
use Rattle.calls.specs.Table.{refused_text, verdict_text}

-- what is answered, and the line that is printed for it
abbrev prints : OrRefusal Verdict → String → Bool
prints j words = same (verdict_text (judgement_values j)) (ascii words ++ line_feed ∷ [])

pub words-agree
    : prints (Ok Pass) "pass"
    && (prints (Ok (Breached (Late 0 15))) "late 0 15"
    && (prints (Ok (Breached (Rule 2 63))) "rule 2 63"
    && (prints (Ok (Breached (Unheard 1 3 0))) "unheard 1 3 0"
    && (prints (Err (refusal Undefined 12)) "refused 8 line 12"
    && (prints (Err (refusal OtherForm 1)) "refused 18 line 1"
    && prints (Err (refusal NoMinute 17)) "refused 19 line 17"))))) ≡ true
words-agree = refl

few : (c : Cause) → number_of c < 2 ^ 64
few c = grind arith

-- what it writes of a refusal, and of a verdict, is the line that is printed for it, but for the line's end
pub displayed-refusal : (r : Refusal) → r.line < 2 ^ 64
    → refused_text (turned_away 0 r) ≡ R.refused_text r ++ line_feed ∷ []
displayed-refusal r small =
    rw (displayed (number_of r.cause) (few r.cause), displayed r.line small)
    (joined (ascii "refused ") (decimal (number_of r.cause)) (ascii " line ") (decimal r.line) (line_feed ∷ []))
  where
    joined : (a n b l e : List ℕ) → a ++ n ++ b ++ l ++ e ≡ (a ++ n ++ b ++ l) ++ e
    joined a n b l e = simp append_assoc

-- the numbers of a verdict fit 64 bits: in the code they are bytes
abbrev pub Fits : Verdict → Type 0
Fits Pass = Unit
Fits (Breached (Late s u)) = (s < 2 ^ 64) × (u < 2 ^ 64)
Fits (Breached (Rule s c)) = (s < 2 ^ 64) × (c < 2 ^ 64)
Fits (Breached (Unheard s r u)) = (s < 2 ^ 64) × (r < 2 ^ 64) × (u < 2 ^ 64)

pub displayed-line : (v : Verdict) → Fits v → verdict_text (verdict_values v) ≡ P.verdict_text v ++ line_feed ∷ []
displayed-line Pass f = refl
displayed-line (Breached (Late s u)) f = rw (displayed s f.0, displayed u f.1) refl
displayed-line (Breached (Rule s c)) f = rw (displayed s f.0, displayed c f.1) refl
displayed-line (Breached (Unheard s r u)) f = rw (displayed s f.0, displayed r f.1, displayed u f.2) refl

-- the first byte tells them apart
abbrev pub pass_text : List ℕ
pass_text = ascii "pass" ++ line_feed ∷ []

first_byte : {s t : List ℕ} → s ≡ t → get_or s 0 0 ≡ get_or t 0 0
first_byte e = ap (λ (x : List ℕ). get_or x 0 0) e

pub refused-not-pass : (v : Values ℕ) → refused_text v ≡ pass_text → ⊥
refused-not-pass v e = let z : ◌≡◌ {A = ℕ} 114 112 = first_byte e in omega arith

pub pass-word : (v : Verdict) → verdict_text (verdict_values v) ≡ pass_text → v ≡ Pass
pass-word Pass e = refl
pass-word (Breached (Late s u)) e = let z : ◌≡◌ {A = ℕ} 108 112 = first_byte e in absurd (omega arith)
pass-word (Breached (Rule s c)) e = let z : ◌≡◌ {A = ℕ} 114 112 = first_byte e in absurd (omega arith)
pass-word (Breached (Unheard s r u)) e = let z : ◌≡◌ {A = ℕ} 117 112 = first_byte e in absurd (omega arith)

pub pass_values : (j : OrRefusal Verdict) → verdict_text (judgement_values j) ≡ pass_text → judgement_values j ≡ passed
pass_values (Ok v) e = ap verdict_values (pass-word v e)
pass_values (Err r) e =
    absurd (refused-not-pass (turned_away 0 r) (sym (refused_words r) ∙ e))
  where
    refused_words : (r : Refusal) → verdict_text (refused r) ≡ refused_text (turned_away 0 r)
    refused_words r = rw (verdict_text, ne_eqb (number_of r.cause) 0 (numbered r.cause))
