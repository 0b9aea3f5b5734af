-- The text of contents by its lines, whatever kinds its rules have: those in front of the heading of the rules, the
-- heading, the rules, and what stands behind them. Assumes nothing.
use mathlib.Core.Path.{◌≡◌, refl, sym, ◌∙◌, ap, ap₂}
use mathlib.Core.Option.{Option, none, some}
use mathlib.Core.List.{List, [], ◌∷◌, ◌++◌, append_assoc, map}
use Prim.Native.Nat.{ℕ, ◌+◌}
use Prim.Native.String.{String}
use native.Mathlib.Omega.{arith}
use lib.ListN.{length, length-append, length-map}
use Rattle.prelude.specs.Bytes.{ascii}
use Rattle.text.specs.Decimal.{decimal}
use Rattle.text.specs.Lines.{line}
use Rattle.layout.specs.Contents.{Reaction, Case, ContentsOf}
use Rattle.layout.specs.Layout.{lines, section, signal_line, rule_line_by, reaction_line, reactions_text}
use Rattle.layout.specs.Layout.{case_line, cases_text, text_by}
use Rattle.conversion.specs.Converted.{heading}

pub lines-append : (ls ms : List (List ℕ)) → lines (ls ++ ms) ≡ lines ls ++ lines ms
lines-append [] ms = refl
lines-append (l ∷ ls) ms = ap (λ (s : List ℕ). l ++ s) (lines-append ls ms) ∙ sym (append_assoc l (lines ls) (lines ms))

-- the lines of a section
abbrev pub headed : String → List (List ℕ) → List (List ℕ)
headed word ls = line (ascii word) (decimal (length ls) ∷ []) ∷ ls

abbrev pub reaction_lines : Option (List Reaction) → List (List ℕ)
reaction_lines none = []
reaction_lines (some ys) = headed "reactions" (map reaction_line ys)

abbrev pub case_lines : Option (List Case) → List (List ℕ)
case_lines none = []
case_lines (some ks) = headed "cases" (map case_line ks)

reactions-lines : (o : Option (List Reaction)) → lines (reaction_lines o) ≡ reactions_text o
reactions-lines none = refl
reactions-lines (some ys) = refl

cases-lines : (o : Option (List Case)) → lines (case_lines o) ≡ cases_text o
cases-lines none = refl
cases-lines (some ks) = refl

module _ {K : Type 0} (c : ContentsOf K) where
  -- in front of the rules, and behind them
  abbrev pub front : List (List ℕ)
  front =
      line (ascii "horizon") (decimal c.horizon ∷ [])
      ∷ (headed "events" (map (λ n. line n []) c.names) ++ headed "signals" (map signal_line c.signals))

  abbrev pub rear : List (List ℕ)
  rear = reaction_lines c.reactions ++ case_lines c.cases

  pub length_front : length front ≡ 3 + length c.names + length c.signals
  length_front =
      omega (
        arith,
        length-append (headed "events" (map (λ n. line n []) c.names))
            (headed "signals" (map signal_line c.signals)),
        length-map c.names (λ n. line n []),
        length-map c.signals signal_line,
      )

-- lines in front of the rules, the line of their count, their lines, and those behind them
abbrev pub joined : List (List ℕ) → ℕ → List (List ℕ) → List (List ℕ) → List ℕ
joined f n r b = lines f ++ heading n ++ lines r ++ lines b

pub lines-joined : (f : List (List ℕ)) (n : ℕ) (r b : List (List ℕ))
    → lines (f ++ heading n ∷ (r ++ b)) ≡ joined f n r b
lines-joined f n r b =
    lines-append f (heading n ∷ (r ++ b))
    ∙ ap (λ (t : List ℕ). lines f ++ (heading n ++ t)) (lines-append r b)
    ∙ sym (append_assoc (lines f) (heading n) (lines r ++ lines b))
    ∙ sym (append_assoc (lines f ++ heading n) (lines r) (lines b))

pub text-joined : {K : Type 0} (word : K → List ℕ) (c : ContentsOf K)
    → text_by word c ≡ joined (front c) (length c.rules) (map (rule_line_by word) c.rules) (rear c)
text-joined word c =
    let h = line (ascii "horizon") (decimal c.horizon ∷ []) in
    let es = headed "events" (map (λ n. line n []) c.names) in
    let ss = headed "signals" (map signal_line c.signals) in
    let rules = map (rule_line_by word) c.rules in
    let before : h ++ lines es ++ lines ss ≡ lines (front c) =
    append_assoc h (lines es) (lines ss) ∙ sym (ap (λ (t : List ℕ). h ++ t) (lines-append es ss)) in
    let after : lines (rear c) ≡ reactions_text c.reactions ++ cases_text c.cases =
    lines-append (reaction_lines c.reactions) (case_lines c.cases)
    ∙ rw (reactions-lines c.reactions, cases-lines c.cases) in
    append_assoc (h ++ lines es ++ lines ss ++ section "rules" rules) (reactions_text c.reactions) (cases_text c.cases)
    ∙ ap₂ (λ (x y : List ℕ). x ++ section "rules" rules ++ y) before (sym after)
    ∙ ap (λ (t : List ℕ). t ++ lines (rear c))
    (sym (append_assoc (lines (front c)) (heading (length rules)) (lines rules)))
    ∙ ap (λ (n : ℕ). joined (front c) n rules (rear c)) (length-map c.rules (rule_line_by word))
