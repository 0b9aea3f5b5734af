-- Laws of the count of `fix` rows: of lines one behind the other; and where there are none, no line is one. Assumes
-- nothing.
use mathlib.Core.Path.{◌≡◌, refl, ◌∙◌, ap, ap₂}
use mathlib.Core.Logic.{inl, inr}
use mathlib.Core.Bool.{Bool, false, cond}
use mathlib.Core.List.{List, [], ◌∷◌, ◌++◌, map}
use Prim.Native.Nat.{ℕ, suc, ◌+◌}
use native.Mathlib.Omega.{arith}
use Rattle.std.proofs.lemmas.List.Sums.{sum_by-append, sum_by-cons}
use Rattle.prelude.specs.Lists.{Each}
use Rattle.prelude.proofs.Tests.{either}
use Rattle.conversion.specs.Rows.{is_fix_lem, fixes_in}

pub fixes_in-append : (ls ms : List (List ℕ)) → fixes_in (ls ++ ms) ≡ fixes_in ls + fixes_in ms
fixes_in-append ls ms = sum_by-append (λ l. cond (is_fix_lem l) 1 0) ls ms

pub fixes_in-cons : {b : Bool} (l : List ℕ) (ls : List (List ℕ)) → is_fix_lem l ≡ b
    → fixes_in (l ∷ ls) ≡ cond b 1 0 + fixes_in ls
fixes_in-cons l ls e =
    sum_by-cons (λ l. cond (is_fix_lem l) 1 0) l ls ∙ ap (λ (b : Bool). cond b 1 0 + fixes_in ls) e

-- neither the first line is one, nor is one behind it
pub none_cons : (l : List ℕ) (ls : List (List ℕ)) → fixes_in (l ∷ ls) ≡ 0 → (is_fix_lem l ≡ false) × (fixes_in ls ≡ 0)
none_cons l ls e =
    elim (either (is_fix_lem l)) [
      | inl q ↦ absurd (omega (arith, fixes_in-cons l ls q, e))
      | inr q ↦ (q, omega (arith, fixes_in-cons l ls q, e))
    ]

pub none_each : (ls : List (List ℕ)) → Each (λ l. is_fix_lem l ≡ false) ls [] → fixes_in ls ≡ 0
none_each [] e = refl
none_each (l ∷ ls) e =
    let rest = none_each ls (record { each = λ i h. e.each (suc i) (omega arith) }) in
    omega (arith, fixes_in-cons l ls (e.each 0 (omega arith)), rest)

-- what leaves other lines as they are leaves them all
pub lines-stay : (f : List ℕ → List ℕ) → ((l : List ℕ) → is_fix_lem l ≡ false → f l ≡ l) → (ls : List (List ℕ))
    → fixes_in ls ≡ 0 → map f ls ≡ ls
lines-stay f stays [] e = refl
lines-stay f stays (l ∷ ls) e =
    let p = none_cons l ls e in
    ap₂ (λ (x : List ℕ) (xs : List (List ℕ)). x ∷ xs) (stays l p.0) (lines-stay f stays ls p.1)
