-- What a program prints by what a call did: a call that wrote goes on with what it wrote, and a refusal is printed.
-- Assumes nothing.
use mathlib.Core.Path.{◌≡◌, refl, ◌∙◌, ap}
use mathlib.Core.Bool.{Bool, true, false}
use mathlib.Core.List.{List}
use Prim.Native.Nat.{ℕ}
use borrow.Author.Tests.{ne_eqb}
use lib.Dec.{eqb}
use lib.ListN.{length, take, drop}
use lib.Seq.{take_at}
use Rattle.std.specs.Prelude.{Err}
use Rattle.refusal.specs.Refusal.{number_of}
use Rattle.refusal.specs.declared.Refusal.{Refusal}
use Rattle.refusal.proofs.Numbered.{numbered}
use Rattle.calls.specs.Values.{OrRefusal, Values, turned_away}
use Rattle.calls.specs.Call.{Left}
use Rattle.calls.specs.Table.{refused_text, or_refused}
use Rattle.calls.specs.Answers.{WroteText}

-- a call that wrote, and one that refused
pub wrote_on : (l : Left (OrRefusal ℕ)) (text m : List ℕ) (next : List ℕ → List ℕ) → WroteText text m l
    → or_refused l next ≡ next text
wrote_on l text m next w =
    ap (λ (v : Values ℕ). elim (eqb v.number 0) as (λ _. List ℕ) [
      | true ↦ next (take v.value l.memory)
      | false ↦ refused_text v
    ]) w.answer
    ∙ ap (λ (k : List ℕ). next (take (length text) k)) w.memory
    ∙ ap next (take_at text (drop (length text) m) (length text) refl)

pub refused-on : (l : Left (OrRefusal ℕ)) (r : Refusal) (next : List ℕ → List ℕ) → l.answer ≡ Err r
    → or_refused l next ≡ refused_text (turned_away 0 r)
refused-on l r next e =
    ap (λ (w : OrRefusal ℕ). or_refused (record { answer = w; memory = l.memory }) next) e
    ∙ ap (λ (b : Bool). elim b as (λ _. List ℕ) [
      | true ↦ next (take 0 l.memory)
      | false ↦ refused_text (turned_away 0 r)
    ])
    (ne_eqb (number_of r.cause) 0 (numbered r.cause))
