-- The reading of rows that are lines of rules once `fix` is read as `max` stops at the first `fix` row, with 22
-- (`rows-stop`): those above pass as the rules' lines that they are, and at the row the test with 22 is the first to
-- fail. Assumes nothing.
use mathlib.Core.Path.{◌≡◌, refl, sym, ◌∙◌, ap}
use mathlib.Core.Logic.{inl, inr}
use mathlib.Core.Bool.{true, false}
use mathlib.Core.List.{List, [], ◌∷◌, ◌++◌, map}
use Prim.Native.Nat.{ℕ, zero, suc, ◌+◌, ◌≤◌, ◌<◌}
use native.Mathlib.Nat.{add-zero}
use native.Mathlib.Omega.{arith}
use lib.ListN.{length, get_or, drop, length-append}
use lib.Seq.{append_snoc}
use Rattle.prelude.proofs.Checks.{some_fails}
use Rattle.prelude.proofs.Tests.{either}
use Rattle.text.specs.Lines.{line_feed, line_at, after_line, up_to, fields}
use Rattle.text.proofs.Written.{is_read}
use Rattle.refusal.specs.Refusal.{refusal}
use Rattle.refusal.specs.declared.Cause.TheVariants as C
use Rattle.network.specs.Limits as L
use Rattle.network.specs.declared.Network.{Network}
use Rattle.line.specs.Tests.{rule_tests, line_tests}
use Rattle.line.specs.Sections.{with_line}
use Rattle.line.specs.declared.Section.TheVariants.{Rules}
use Rattle.sheet.specs.Reading.{Progress, Stop, read_line, read_entries_lem}
use Rattle.sheet.proofs.ReadLine.{read_line-stop}
use Rattle.layout.specs.Contents.{Signal, Rule}
use Rattle.layout.specs.Layout.{lines, kind_text, rule_fields, rule_line}
use Rattle.layout.proofs.Entries.{parts, read_line-passes}
use Rattle.layout.proofs.Extends.{contents}
use Rattle.layout.proofs.Kept.{KeptRules}
use Rattle.layout.proofs.RuleLine.{rule-passes}
use Rattle.layout.proofs.Rules.{rules-understood}
use Rattle.layout.proofs.Stands.{Stands}
use Rattle.conversion.specs.Rows.{are_fix, is_fix_lem, fixes_in}
use Rattle.conversion.specs.FormerRules.{as_max}
use Rattle.conversion.proofs.AsMax.{as_max-other}
use Rattle.conversion.proofs.Lines.{IsLine}
use Rattle.conversion.proofs.Retired.{retired_iff}
use Rattle.conversion.proofs.Written.{fields-line, row_line}

-- reading these rows, from line k on, stops at the first `fix` row
pub record Stops (ls : List (List ℕ)) (p : Progress) (k : ℕ) : Type 0 where
  pub c : ℕ
  pub inside : c < length ls
  pub fix : is_fix_lem (get_or ls c []) ≡ true
  pub none_above : (d : ℕ) → d < c → is_fix_lem (get_or ls d []) ≡ false
  pub stops : p ≡ Stop (refusal C.RetiredKind (k + c))

-- above them stands one more row
below : (l : List ℕ) (ls : List (List ℕ)) (p : Progress) (k : ℕ) → is_fix_lem l ≡ false → Stops ls p (suc k)
    → Stops (l ∷ ls) p k
below l ls p k e s =
    let same : suc k + s.c ≡ k + suc s.c = omega arith in
    record {
      c = suc s.c;
      inside = omega (arith, s.inside);
      fix = s.fix;
      none_above = above;
      stops = s.stops ∙ ap (λ (n : ℕ). Stop (refusal C.RetiredKind n)) same;
    }
  where
    above : (d : ℕ) → d < suc s.c → is_fix_lem (get_or (l ∷ ls) d []) ≡ false
    above zero h = e
    above (suc d) h = s.none_above d (omega arith)

-- a `fix` row, whatever is defined so far: it has its line feed and five fields, and the next test is that with 22
module _ (sheet : List ℕ) (Γ : Network) (at k : ℕ) (l rest : List ℕ) (w : IsLine l) (text : drop at sheet ≡ l ++ rest)
    (next : List (List ℕ) → Progress) where
  fix_stops : is_fix_lem l ≡ true → read_line sheet at k (rule_tests sheet Γ) next ≡ Stop (refusal C.RetiredKind k)
  unfolding is_fix_lem
  fix_stops q =
      let here = text ∙ ap (λ (x : List ℕ). x ++ rest) w.is in
      let r = is_read sheet at w.one w.others rest w.plain_bytes here in
      let fs = fields (line_at sheet at) in
      let same : fields (up_to line_feed l) ≡ fs =
      ap (λ (x : List ℕ). fields (up_to line_feed x)) w.is ∙ fields-line w.one w.others w.plain_bytes
      ∙ sym r.fields_are in
      let fails = (retired_iff sheet Γ fs).1 (ap are_fix (sym same) ∙ q) in
      read_line-stop sheet at k (rule_tests sheet Γ) next C.RetiredKind
      (some_fails (line_tests (drop at sheet) (rule_tests sheet Γ)) C.RetiredKind (inr (r.ends, fails)))

module _ (sheet : List ℕ) (h : ℕ) (ns : List (List ℕ)) (xs : List Signal) where
  pub rows-stop : (ls : List (List ℕ)) (ys zs : List Rule) (Γ : Network) (at k : ℕ) (rest : List ℕ)
      → map as_max ls ≡ map rule_line ys → (fixes_in ls ≡ 0 → ⊥) → Stands sheet Γ (contents h ns xs zs)
      → KeptRules ns xs (zs ++ ys) → length zs + length ys ≤ L.rules → drop at sheet ≡ lines ls ++ rest
      → Stops ls (read_entries_lem sheet Rules (length ys) Γ at k) k
  rows-stop [] ys zs Γ at k rest e some s kept few t = absurd (some refl)
  rows-stop (l ∷ ls) [] zs Γ at k rest e some s kept few t = absurd (omega (arith, ap length e))
  rows-stop (l ∷ ls) (y ∷ ys) zs Γ at k rest e some s kept few t =
      let w = rules-understood sheet h ns xs in
      let m = w.may zs ys y kept in
      let more = length ys in
      let plain = w.plain {m = more} s y m in
      let is : as_max l ≡ rule_line y = ap (λ (x : List (List ℕ)). get_or x 0 []) e in
      let text = parts (drop at sheet) l (lines ls) rest t in
      let next = λ (fs : List (List ℕ)).
      read_entries_lem sheet Rules more (with_line sheet Rules Γ at fs) (after_line sheet at) (suc k) in
      elim (either (is_fix_lem l)) [
        | inl q ↦ record {
          c = 0;
          inside = omega arith;
          fix = q;
          none_above = λ d j. absurd (omega arith);
          stops =
              fix_stops sheet Γ at k l (lines ls ++ rest) (row_line l y plain is) text next q
              ∙ ap (λ (n : ℕ). Stop (refusal C.RetiredKind n)) (sym (add-zero k));
        }
        | inr q ↦
            let l-is : l ≡ rule_line y = sym (as_max-other l q) ∙ is in
            let here = text ∙ ap (λ (x : List ℕ). x ++ (lines ls ++ rest)) l-is in
            let r = is_read sheet at (kind_text y.kind) (rule_fields y) (lines ls ++ rest) plain here in
            let held = w.adds Γ.events more s y m (omega arith) at (lines ls ++ rest) here in
            let few-left : length (zs ++ y ∷ []) + length ys ≤ L.rules = omega (arith, length-append zs (y ∷ [])) in
            let fs = kind_text y.kind ∷ rule_fields y in
            let rows-left : fixes_in ls ≡ 0 → ⊥ = rw q at some in
            let behind =
            rows-stop ls ys (zs ++ y ∷ []) (with_line sheet Rules Γ at fs) (after_line sheet at) (suc k) rest
            (ap (drop 1) e) rows-left held (rw append_snoc kept) few-left r.behind in
            let goes = read_line-passes sheet at k (rule_tests sheet Γ) next fs (lines ls ++ rest) (next fs) r
            (rule-passes s y m) refl in
            rw goes (below l ls (next fs) k q behind)
      ]
