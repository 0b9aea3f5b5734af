-- The four parts of a ring's text make it up: it has no signals, and no sections behind the rules. Assumes nothing.
use mathlib.Core.Path.{◌≡◌, sym, ◌∙◌}
use mathlib.Core.List.{List, [], ◌∷◌, ◌++◌, map, append-nil}
use Prim.Native.Nat.{ℕ, ◌-◌}
use native.Mathlib.Omega.{arith}
use Rattle.prelude.specs.Bounded.{tabulate}
use Rattle.prelude.specs.Bytes.{ascii}
use Rattle.text.specs.Lines.{line}
use Rattle.text.specs.Decimal.{decimal}
use Rattle.page.specs.Pushed.{Pushed}
use Rattle.page.proofs.Pushed.{pushed_both, pushed_as}
use Rattle.layout.specs.Layout.{section, rule_line}
use Rattle.layout.specs.Most.{most_count}
use Rattle.heaviest.specs.RingText.{letter_name, ring_row, ring_text}
use Rattle.heaviest.specs.Most.{most_names, most_rows, most_text}

-- two sections that are absent
none_behind : (t : List ℕ) → t ≡ t ++ [] ++ []
none_behind t = sym (append-nil (t ++ []) ∙ append-nil t)

pub ring_pushed : (n h : ℕ) {b₀ b₁ b₂ b₃ b₄ : List ℕ}
    → Pushed (most_count 7) b₀ (line (ascii "horizon") (decimal h ∷ [])) b₁
    → Pushed most_names b₁ (section "events" (map (λ n. line n []) (tabulate n letter_name))) b₂
    → Pushed (most_count 7) b₂ (line (ascii "signals") (decimal 0 ∷ [])) b₃
    → Pushed most_rows b₃ (section "rules" (map rule_line (tabulate (n - 1) (ring_row (n - 1))))) b₄
    → Pushed most_text b₀ (ring_text n h) b₄
unfolding ring_text
ring_pushed n h horizon events signals rules =
    pushed_as (none_behind _) (pushed_both (pushed_both (pushed_both horizon events) signals) rules) (omega arith)
