-- A former sheet with a `fix` row, which today's reader is given as it stands, is refused with 22 and the line of its
-- first `fix` row (`first-fix-refused`). Assumes nothing.
use mathlib.Core.Path.{◌≡◌, refl, sym, ◌∙◌, ap}
use mathlib.Core.Bool.{true}
use mathlib.Core.List.{List, [], ◌++◌, append_assoc}
use Prim.Native.Nat.{ℕ, suc, ◌+◌, ◌≤◌, zero-le}
use native.Mathlib.Omega.{arith}
use lib.ListN.{length, get_or, length-map}
use Rattle.std.specs.Prelude.{Err}
use Rattle.prelude.proofs.Tests.{zero-is-one, clash}
use Rattle.text.specs.Lines.{after_line}
use Rattle.text.proofs.Numbers.{magnitude-decimal}
use Rattle.refusal.specs.Refusal.{refusal}
use Rattle.refusal.specs.declared.Cause.TheVariants as C
use Rattle.network.specs.Limits as L
use Rattle.network.specs.declared.Network.{Network}
use Rattle.line.specs.Tests.{second_number}
use Rattle.line.specs.Sections.{heading_of_lem}
use Rattle.line.specs.declared.Section.TheVariants.{Rules, Reactions, Cases}
use Rattle.sheet.specs.Fault.{Fault}
use Rattle.sheet.specs.Reading.{Progress, and_then, answered, longest, read, read_end}
use Rattle.sheet.specs.Reading.{read_entries_lem, read_section_lem, read_optional_lem}
use Rattle.sheet.proofs.Fault.{refused_iff}
use Rattle.sheet.proofs.Whole.{to_signals, to_rules, in_length}
use Rattle.layout.specs.Contents.{Contents}
use Rattle.layout.specs.Layout.{lines}
use Rattle.layout.proofs.CountLine.{count-line-reads}
use Rattle.layout.proofs.Text.{on}
use Rattle.conversion.specs.Rows.{is_fix_lem, fixes}
use Rattle.conversion.specs.FormerSheet.{FormerKind, Today, Fix, kind_at, FirstFix}
use Rattle.conversion.specs.FormerRules.{heading_line}
use Rattle.conversion.specs.Converted.{heading}
use Rattle.conversion.proofs.FormerRow.{former_row, is_fix_kind}
use Rattle.conversion.proofs.BeforeRules.{number_at, front_read}
use Rattle.conversion.proofs.Lines.{lines_lines_of}
use Rattle.conversion.proofs.Given.{Given, now, kept, rows, rows_are, lines-are, fixes-are, length-rows, row-kind}
use Rattle.conversion.proofs.Sections.{front, rear, lines-joined}
use Rattle.conversion.proofs.RowsStop.{Stops, rows-stop}

module _ {sheet : List ℕ} {Γ : Network} (g : Given sheet Γ) (some : fixes sheet ≡ 0 → ⊥) where
  abbrev c : Contents
  c = now g

  abbrev its : List (List ℕ)
  its = rows g

  abbrev count : ℕ
  count = length c.rules

  -- what stands behind the heading of the rules
  abbrev left : List ℕ
  left = lines its ++ lines (rear c)

  text : sheet ≡ lines (front c) ++ (heading count ++ left)
  text =
      sym (lines_lines_of sheet) ∙ ap lines (lines-are g) ∙ lines-joined (front c) count its (rear c)
      ∙ append_assoc (lines (front c) ++ heading count) (lines its) (lines (rear c))
      ∙ append_assoc (lines (front c)) (heading count) left

  -- the rows behind the heading, whose numbers count from 1
  rules_stop : Stops its (to_rules sheet) (suc (suc (heading_line Γ)))
  rules_stop =
      let f = front_read sheet c (kept g) (heading count ++ left) text in
      let Δ = f.network in
      let entries = λ (fs : List (List ℕ)).
      read_entries_lem sheet Rules (second_number fs) Δ (after_line sheet f.at) (suc f.number) in
      let r = count-line-reads sheet (heading_of_lem Δ.events Rules) f.at f.number entries refl count left zero-le
      (kept g).few_rules f.behind in
      let line : suc f.number ≡ suc (suc (heading_line Γ)) =
      omega (
        arith,
        number_at sheet Δ f.at f.number f.goes,
        f.held.holds.events,
        f.held.holds.signals,
        f.held.holds.rules,
        g.holds.events,
        g.holds.signals,
      ) in
      let few : 0 + count ≤ L.rules = omega (arith, (kept g).few_rules) in
      let stop = rows-stop sheet c.horizon c.names c.signals its c.rules [] Δ (after_line sheet f.at) (suc f.number)
      (lines (rear c)) (rows_are g) (λ e. some (fixes-are g ∙ e)) f.held (kept g).rules few r.0 in
      let p = read_entries_lem sheet Rules count Δ (after_line sheet f.at) (suc f.number) in
      let goes : to_rules sheet ≡ p =
      on (to_signals sheet) (read_section_lem sheet Rules) Δ f.at f.number p f.goes
      (r.1 p (rw (magnitude-decimal count))) in
      rw (goes, ← line) stop

  refused : length sheet ≤ longest
      → read sheet ≡ Err (refusal C.RetiredKind (suc (suc (heading_line Γ) + rules_stop.c)))
  refused short =
      let same : suc (suc (heading_line Γ)) + rules_stop.c ≡ suc (suc (heading_line Γ) + rules_stop.c) = omega arith in
      let behind = λ (p : Progress).
      and_then (and_then (and_then p (read_optional_lem sheet Reactions)) (read_optional_lem sheet Cases))
      (read_end sheet) in
      ap answered (in_length sheet short ∙ ap behind rules_stop.stops)
      ∙ ap (λ (n : ℕ). Err (refusal C.RetiredKind n)) same

  -- the rule of that row
  first_fix : FirstFix g.contents rules_stop.c
  first_fix =
      let s = rules_stop in
      let kind : (d : ℕ) → d ≤ s.c → is_fix_lem (get_or its d []) ≡ is_fix_kind (kind_at g.contents d) =
      λ d h. row-kind g d (omega (arith, s.inside, length-rows g)) in
      record {
        inside = omega (arith, s.inside, length-map g.contents.rules former_row);
        fix = is_fix (kind_at g.contents s.c) (sym (kind s.c (omega arith)) ∙ s.fix);
        none_above = λ d h e.
            clash (is_fix_lem (get_or its d [])) (kind d (omega arith) ∙ ap is_fix_kind e) (s.none_above d h);
      }
    where
      is_fix : (k : FormerKind) → is_fix_kind k ≡ true → k ≡ Fix
      is_fix (Today k) e = zero-is-one cc
      is_fix Fix e = refl

  pub first-fix-refused : length sheet ≤ longest
      → (i : ℕ) × FirstFix g.contents i × Fault sheet (refusal C.RetiredKind (suc (suc (heading_line Γ) + i)))
  first-fix-refused short = (
    rules_stop.c,
    first_fix,
    (refused_iff sheet (refusal C.RetiredKind (suc (suc (heading_line Γ) + rules_stop.c)))).0 (refused short),
  )
