-- A section: its line with the count, and then so many lines. Assumes nothing.
use mathlib.Core.Path.{◌≡◌, ◌∙◌}
use mathlib.Core.Bool.{true}
use mathlib.Core.List.{List, [], ◌∷◌, ◌++◌, map}
use Prim.Native.Nat.{ℕ, suc, ◌≤◌}
use native.Mathlib.Omega.{arith}
use lib.ListN.{length, drop, length-map}
use Rattle.prelude.specs.Bytes.{ascii, every}
use Rattle.text.specs.Lines.{after_line, line, plain}
use Rattle.text.specs.Number.{magnitude}
use Rattle.text.specs.Decimal.{decimal}
use Rattle.network.specs.declared.Network.{Network}
use Rattle.line.specs.Tests.{second_number}
use Rattle.line.specs.Sections.{Heading, heading_of_lem}
use Rattle.line.specs.declared.Section.{Section}
use Rattle.sheet.specs.Reading.{Progress, Go, read_entries_lem, read_section_lem}
use Rattle.layout.specs.Layout.{lines, section}
use Rattle.text.proofs.Numbers.{magnitude-decimal}
use Rattle.layout.proofs.Entries.{Understood, entries-read, Reads, entries-reads, joins, parts}
use Rattle.layout.proofs.CountLine.{count-line-read, count-line-reads}

-- the section that was read is that of some items, and the network holds them
pub record SectionRead (sheet : List ℕ) {X : Type 0} (Held : Network → List X → Type 0) (h : Heading)
    (text : X → List ℕ)
    (at : ℕ) (Γ : Network) (end : ℕ) : Type 0 where
  pub items : List X
  pub low : h.least ≤ length items
  pub high : length items ≤ h.most
  pub written : drop at sheet ≡ section h.word (map text items) ++ drop end sheet
  pub held : Held Γ items

module _ {sheet : List ℕ} {s : Section} {X : Type 0} {first : X → List ℕ} {others : X → List (List ℕ)}
    {Held : ℕ → Network → List X → Type 0} {Kept : List X → Type 0} {May : ℕ → List X → X → Type 0}
    (w : Understood sheet s first others Held Kept May) (Γ : Network) (at k : ℕ)
    (start : (m : ℕ) → Held m Γ []) where
  abbrev text : X → List ℕ
  text x = line (first x) (others x)

  abbrev head : Heading
  head = heading_of_lem Γ.events s

  abbrev entries : List (List ℕ) → Progress
  entries fs = read_entries_lem sheet s (second_number fs) Γ (after_line sheet at) (suc k)

  pub section-read : (Δ : Network) (end number : ℕ) → read_section_lem sheet s Γ at k ≡ Go Δ end number
      → SectionRead sheet (Held 0) head text at Δ end
  section-read Δ end number g =
      let c = count-line-read sheet head at k entries Δ end number g in
      let m = second_number c.fs in
      let r = entries-read w Γ.events m Γ [] (after_line sheet at) (suc k) (start m) (omega (arith, c.high)) Δ end
      number c.then in
      let n : m ≡ length (map text r.items) = omega (arith, r.count, length-map r.items text) in
      record {
        items = r.items;
        low = omega (arith, c.low, r.count);
        high = omega (arith, c.high, r.count);
        written =
            joins (drop at sheet) (line (ascii head.word) (decimal (length (map text r.items)) ∷ []))
            (drop (after_line sheet at) sheet)
            (lines (map text r.items)) (drop end sheet)
            (rw n at c.text)
            r.written;
        held = r.held;
      }

  -- where the section of ys stands, it is read
  pub section-reads : every plain (ascii head.word) ≡ true → (ys : List X) (rest : List ℕ) → Kept ys
      → head.least ≤ length ys → length ys ≤ head.most
      → drop at sheet ≡ section head.word (map text ys) ++ rest
      → Reads sheet (Held 0) (read_section_lem sheet s Γ at k) ys rest
  section-reads p ys rest kept low high t =
      let n = length (map text ys) in
      let e : n ≡ length ys = length-map ys text in
      let body = lines (map text ys) in
      let l = parts (drop at sheet) (line (ascii head.word) (decimal n ∷ [])) body rest t in
      let c = count-line-reads sheet head at k entries p n (body ++ rest) (omega arith) (omega arith) l in
      let r = entries-reads w Γ.events ys Γ [] (after_line sheet at) (suc k) rest (start (length ys)) kept
      (omega arith) c.0 in
      let count : magnitude (decimal n) ≡ length ys = magnitude-decimal n ∙ e in
      record {
        network = r.network;
        at = r.at;
        number = r.number;
        goes = c.1 (Go r.network r.at r.number) (rw count r.goes);
        held = r.held;
        behind = r.behind;
      }
