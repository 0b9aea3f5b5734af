-- Fields by their number: they are plain where each is, and a line is its first field and the others. Assumes nothing.
use mathlib.Core.Path.{◌≡◌, refl, ap}
use mathlib.Core.Bool.{true}
use mathlib.Core.List.{List, [], ◌∷◌}
use Prim.Native.Nat.{ℕ, zero, suc, ◌+◌, ◌≤◌, ◌<◌}
use native.Mathlib.Omega.{arith}
use lib.ListN.{length}
use Rattle.prelude.specs.Bytes.{every}
use Rattle.prelude.specs.Bounded.{tabulate_from, tabulate}
use Rattle.prelude.proofs.Lists.{all_of}
use Rattle.text.specs.Lines.{plain, line, field}
use Rattle.text.proofs.Written.{Plain, line_of}

plain-tabulate_from : (g : ℕ → List ℕ) (i n : ℕ) → ((j : ℕ) → i ≤ j → j < i + n → every plain (g j) ≡ true)
    → Plain (tabulate_from i n g)
plain-tabulate_from g i zero h = tt
plain-tabulate_from g i (suc n) h =
    (h i (omega arith) (omega arith), plain-tabulate_from g (suc i) n (λ j a b. h j (omega arith) (omega arith)))

pub plain-tabulate : (g : ℕ → List ℕ) (n : ℕ) → ((j : ℕ) → j < n → every plain (g j) ≡ true) → Plain (tabulate n g)
plain-tabulate g n h = plain-tabulate_from g 0 n (λ j a b. h j (omega arith))

pub plain-field : (k : ℕ) (fs : List (List ℕ)) → Plain fs → every plain (field k fs) ≡ true
plain-field k [] p = refl
plain-field zero (f ∷ fs) p = p.0
plain-field (suc k) (f ∷ fs) p = plain-field k fs p.1

-- the first field and the others
pub first_rest : (fs : List (List ℕ)) (n : ℕ) → length fs ≡ n + 1
    → line_of fs ≡ line (field 0 fs) (tabulate n (λ k. field (suc k) fs))
first_rest [] n e = absurd (omega arith)
first_rest (f ∷ gs) n e =
    let size : length gs ≡ n = omega arith in
    ap (λ (hs : List (List ℕ)). line f hs) (all_of [] n gs size)
