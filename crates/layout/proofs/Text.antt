-- The parts of a sheet's text, and the steps of the reading, one behind the other. Assumes nothing.
use mathlib.Core.Path.{◌≡◌, ◌∙◌, ap}
use mathlib.Core.Logic.{inl, inr}
use mathlib.Core.List.{List, [], ◌∷◌, ◌++◌, append-nil, append_assoc, map}
use Prim.Native.Nat.{ℕ, ◌≤◌}
use native.Mathlib.Omega.{arith}
use borrow.Author.Tests.{ltb-false, le-ltb}
use lib.Dec.{ltb}
use lib.ListN.{length, drop, length-drop, drop_of_length-le}
use Rattle.prelude.specs.Bytes.{ascii}
use Rattle.prelude.proofs.Tests.{either}
use Rattle.text.specs.Lines.{line}
use Rattle.text.specs.Decimal.{decimal}
use Rattle.refusal.specs.Refusal.{refusal}
use Rattle.refusal.specs.declared.Cause.TheVariants.{TrailingBytes}
use Rattle.network.specs.declared.Network.{Network}
use Rattle.sheet.specs.Reading.{Progress, Go, and_then, read_end}
use Rattle.sheet.proofs.ReadLine.{stop-not-go}
use Rattle.layout.specs.Contents.{Signal, Rule}
use Rattle.layout.specs.Layout.{section, signal_line, rule_line}
use Rattle.layout.proofs.Entries.{Reads, joins}

abbrev pub horizon_text : ℕ → List ℕ
horizon_text h = line (ascii "horizon") (decimal h ∷ [])

abbrev pub events_text : List (List ℕ) → List ℕ
events_text ns = section "events" (map (λ n. line n []) ns)

abbrev pub signals_text : List Signal → List ℕ
signals_text xs = section "signals" (map signal_line xs)

abbrev pub rules_text : List Rule → List ℕ
rules_text rs = section "rules" (map rule_line rs)

module _ (sheet : List ℕ) where
  -- six texts in a row, and nothing behind
  pub in_a_row : (h e s r y z : List ℕ) (a b c d i j : ℕ) → drop 0 sheet ≡ h ++ drop a sheet
      → drop a sheet ≡ e ++ drop b sheet → drop b sheet ≡ s ++ drop c sheet → drop c sheet ≡ r ++ drop d sheet
      → drop d sheet ≡ y ++ drop i sheet → drop i sheet ≡ z ++ drop j sheet → drop j sheet ≡ []
      → sheet ≡ h ++ e ++ s ++ r ++ y ++ z
  in_a_row h e s r y z a b c d i j p q t u v w l =
      let one = joins sheet h (drop a sheet) e (drop b sheet) p q in
      let two = joins sheet (h ++ e) (drop b sheet) s (drop c sheet) one t in
      let three = joins sheet (h ++ e ++ s) (drop c sheet) r (drop d sheet) two u in
      let four = joins sheet (h ++ e ++ s ++ r) (drop d sheet) y (drop i sheet) three v in
      let five = joins sheet (h ++ e ++ s ++ r ++ y) (drop i sheet) z (drop j sheet) four w in
      five ∙ ap (λ (x : List ℕ). h ++ e ++ s ++ r ++ y ++ z ++ x) l ∙ append-nil (h ++ e ++ s ++ r ++ y ++ z)

  pub apart : (h e s r y z : List ℕ) → sheet ≡ h ++ e ++ s ++ r ++ y ++ z
      → drop 0 sheet ≡ h ++ (e ++ (s ++ (r ++ (y ++ (z ++ [])))))
  apart h e s r y z p =
      p ∙ rw (
        append-nil z,
        append_assoc (h ++ e ++ s ++ r) y z,
        append_assoc (h ++ e ++ s) r (y ++ z),
        append_assoc (h ++ e) s (r ++ (y ++ z)),
        append_assoc h e (s ++ (r ++ (y ++ z))),
      )

  -- the reading ends where nothing is left
  module _ (Γ : Network) (at k : ℕ) where
    pub end_read : (Δ : Network) (end number : ℕ) → read_end sheet Γ at k ≡ Go Δ end number → drop at sheet ≡ []
    end_read Δ end number g =
        elim (either (ltb at (length sheet))) [
          | inl e ↦ stop-not-go (refusal TrailingBytes k) Δ end number (rw e at g)
          | inr e ↦ drop_of_length-le sheet (ltb-false at (length sheet) e)
        ]

    pub end_reads : drop at sheet ≡ [] → read_end sheet Γ at k ≡ Go Γ at k
    end_reads e =
        let h : length sheet ≤ at = omega (arith, ap length e, length-drop at sheet) in
        rw (le-ltb at (length sheet) h)

-- a step behind another
pub on : (p : Progress) (next : Network → ℕ → ℕ → Progress) (Γ : Network) (at k : ℕ) (q : Progress) → p ≡ Go Γ at k
    → next Γ at k ≡ q → and_then p next ≡ q
on p next Γ at k q e f = ap (λ (r : Progress). and_then r next) e ∙ f

pub and_then_reads : (sheet : List ℕ) {X Y : Type 0} {Held : Network → X → Type 0} {Held' : Network → Y → Type 0}
    {x : X} {y : Y} {rest rest' : List ℕ} (p : Progress) (next : Network → ℕ → ℕ → Progress)
    (r : Reads sheet Held p x rest)
    → Reads sheet Held' (next r.network r.at r.number) y rest' → Reads sheet Held' (and_then p next) y rest'
and_then_reads sheet p next r t = record {
  network = t.network;
  at = t.at;
  number = t.number;
  goes = on p next r.network r.at r.number (Go t.network t.at t.number) r.goes t.goes;
  held = t.held;
  behind = t.behind;
}
