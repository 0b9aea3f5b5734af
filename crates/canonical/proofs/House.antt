-- The six parts of the form make it up. Assumes nothing.
use mathlib.Core.List.{List, [], ◌∷◌, map}
use Prim.Native.Nat.{ℕ}
use native.Mathlib.Omega.{arith}
use lib.ListN.{length}
use Rattle.prelude.specs.Bytes.{ascii}
use Rattle.text.specs.Lines.{line}
use Rattle.text.specs.Decimal.{decimal}
use Rattle.page.specs.Pushed.{Pushed}
use Rattle.page.proofs.Pushed.{pushed_then, pushed_both}
use Rattle.network.specs.declared.Network.{Network}
use Rattle.layout.specs.Layout.{section, signal_line, rule_line, reactions_text, cases_text}
use Rattle.tighten.specs.Tightest.{remaining_of}
use Rattle.canonical.specs.Listed.{slow_of, labelled_of, section_of, before_labels}
use Rattle.canonical.specs.House.{names_of, signals_of, as_rule, as_case, house_text}
use Rattle.layout.specs.Most.{most_count, most_events, most_signals, most_rules, most_reactions, most_cases}
use Rattle.layout.specs.Most.{most_form}

pub form_pushed : (sheet : List ℕ) (Γ : Network) {b₀ b₁ b₂ b₃ b₄ b₅ b₆ : List ℕ}
    → Pushed (most_count 7) b₀ (line (ascii "horizon") (decimal Γ.horizon ∷ [])) b₁
    → Pushed most_events b₁ (section "events" (map (λ n. line n []) (names_of sheet Γ))) b₂
    → Pushed most_signals b₂ (section "signals" (map signal_line (signals_of sheet Γ))) b₃
    → Pushed most_rules b₃ (section "rules" (map rule_line (map (as_rule sheet Γ) (remaining_of Γ)))) b₄
    → Pushed most_reactions b₄ (reactions_text (before_labels (length (labelled_of Γ)) (slow_of Γ))) b₅
    → Pushed most_cases b₅ (cases_text (section_of (map (as_case sheet Γ) (labelled_of Γ)))) b₆
    → Pushed most_form b₀ (house_text sheet Γ) b₆
unfolding house_text
form_pushed sheet Γ horizon events signals rules reactions labels =
    pushed_then (pushed_both (pushed_both (pushed_both (pushed_both horizon events) signals) rules) reactions) labels
    (omega arith)
