-- The line of a section with its count, as it is read and as it is written. Assumes nothing.
use mathlib.Core.Path.{◌≡◌, sym, ◌∙◌, ap, ap₂}
use mathlib.Core.Bool.{true}
use mathlib.Core.Option.{none}
use mathlib.Core.List.{List, [], ◌∷◌, ◌++◌}
use Prim.Native.Nat.{ℕ, ◌≤◌}
use borrow.Author.Tests.{eqb-true}
use lib.Dec.{eqb}
use lib.ListN.{length, drop}
use Rattle.prelude.specs.Checks.{first_failing_lem}
use Rattle.prelude.proofs.Checks.{◌&◌, hold, none_fails}
use Rattle.prelude.specs.Bytes.{ascii, same, every}
use Rattle.prelude.proofs.Bytes.{same_true, same_refl}
use Rattle.prelude.proofs.Tests.{and-true}
use Rattle.text.specs.Lines.{field, line_at, after_line, fields, line, plain}
use Rattle.text.specs.Decimal.{decimal}
use Rattle.network.specs.declared.Network.{Network}
use Rattle.line.specs.Tests.{section_tests, second_number}
use Rattle.line.specs.Sections.{Heading, heading_tests}
use Rattle.sheet.specs.Reading.{Progress, Go, read_line}
use Rattle.sheet.proofs.ReadLine.{went}
use Rattle.prelude.proofs.Lists.{all_of}
use Rattle.text.proofs.Written.{line_of, is_read, line_read}
use Rattle.text.proofs.Numbers.{is_number_decimal, in_range-decimal, plain-decimal}
use Rattle.text.proofs.Numbers.{decimal-magnitude}
use Rattle.layout.proofs.Entries.{read_line-passes}

-- a count, behind its word
module _ (h : Heading) where
  count-read : (fs : List (List ℕ)) → first_failing_lem (heading_tests h fs) ≡ none
      → (fs ≡ ascii h.word ∷ decimal (second_number fs) ∷ []) × (h.least ≤ second_number fs)
      × (second_number fs ≤ h.most)
  unfolding section_tests
  count-read fs e =
      let word = ascii h.word in
      let t = hold (heading_tests h fs) e in
      let p = and-true (eqb (length fs) 2) (same (field 0 fs) word) t.0 in
      let d = decimal-magnitude h.least h.most (field 1 fs) t.1.0 t.1.1.0 in (
        all_of [] 2 fs (eqb-true (length fs) 2 p.0)
            ∙ ap₂ (λ (f g : List ℕ). f ∷ g ∷ []) (same_true (field 0 fs) word p.1) (sym d.0),
        d.1,
        d.2,
      )

  count-passes : (n : ℕ) → h.least ≤ n → n ≤ h.most
      → first_failing_lem (heading_tests h (ascii h.word ∷ decimal n ∷ [])) ≡ none
  unfolding section_tests
  count-passes n l m =
      none_fails (heading_tests h (ascii h.word ∷ decimal n ∷ []))
      (same_refl (ascii h.word) & is_number_decimal n & in_range-decimal n h.least h.most l m & tt)

-- the line of a count, with what follows it
module _ (sheet : List ℕ) (h : Heading) (at k : ℕ) (next : List (List ℕ) → Progress) where
  pub record CountRead (Δ : Network) (end number : ℕ) : Type 0 where
    pub fs : List (List ℕ)
    pub low : h.least ≤ second_number fs
    pub high : second_number fs ≤ h.most
    pub text : drop at sheet ≡ line (ascii h.word) (decimal (second_number fs) ∷ [])
        ++ drop (after_line sheet at) sheet
    pub then : next fs ≡ Go Δ end number

  pub count-line-read : (Δ : Network) (end number : ℕ) → read_line sheet at k (heading_tests h) next ≡ Go Δ end number
      → CountRead Δ end number
  count-line-read Δ end number g =
      let p = went sheet at k (heading_tests h) next Δ end number g in
      let c = count-read h (fields (line_at sheet at)) p.passed.accepted in
      record {
        fs = fields (line_at sheet at);
        low = c.1;
        high = c.2;
        text = line_read sheet at p.passed.ends
            ∙ ap (λ (fs : List (List ℕ)). line_of fs ++ drop (after_line sheet at) sheet) c.0;
        then = p.then;
      }

  pub count-line-reads : every plain (ascii h.word) ≡ true → (n : ℕ) (rest : List ℕ) → h.least ≤ n → n ≤ h.most
      → drop at sheet ≡ line (ascii h.word) (decimal n ∷ []) ++ rest
      → (drop (after_line sheet at) sheet ≡ rest)
      × ((p : Progress) → next (ascii h.word ∷ decimal n ∷ []) ≡ p → read_line sheet at k (heading_tests h) next ≡ p)
  count-line-reads w n rest l m t =
      let fs = ascii h.word ∷ decimal n ∷ [] in
      let r = is_read sheet at (ascii h.word) (decimal n ∷ []) rest (w & plain-decimal n & tt) t in
      (r.behind, λ p e. read_line-passes sheet at k (heading_tests h) next fs rest p r (count-passes h n l m) e)
