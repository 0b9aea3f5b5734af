-- What holds of the call that writes the heaviest sheet for a line: the line is refused with its fault, or asks for a
-- sheet, which is written where there is room. Assumes nothing.
use mathlib.Core.Path.{◌≡◌, refl, sym, ap}
use mathlib.Core.Logic.{◌⊎◌, inl, inr}
use mathlib.Core.Bool.{true}
use mathlib.Core.List.{List}
use Prim.Native.Nat.{ℕ, zero, suc, ◌≤◌, ◌<◌}
use native.Mathlib.Omega.{arith}
use borrow.Author.Tests.{le-leb, lt-leb}
use lib.ListN.{length}
use Rattle.std.specs.Prelude.{Result, Ok, Err}
use Rattle.prelude.proofs.Checks.{fails-not-hold}
use Rattle.prelude.proofs.Tests.{lt_or_ge}
use Rattle.refusal.specs.declared.Cause.TheVariants.{BufferTooShort}
use Rattle.refusal.specs.declared.Refusal.{Refusal}
use Rattle.network.specs.Build.{empty}
use Rattle.network.specs.declared.Network.{Network}
use Rattle.line.specs.TwoCounts.{two_counts_tests}
use Rattle.sheet.specs.Fault.{FirstFaultBy}
use Rattle.sheet.proofs.Order.{is_of_line, are_of_line, first_fails_number}
use Rattle.sheet.proofs.Fault.{of_line}
use Rattle.heaviest.specs.Asks.{Asks}
use Rattle.heaviest.specs.RingText.{ring_text}
use Rattle.heaviest.specs.Reading.{reading}
use Rattle.heaviest.specs.Fault.{tests, Fault}
use Rattle.heaviest.proofs.Heaviest.{ring_heaviest}
use Rattle.heaviest.proofs.Length.{length-ring}
use Rattle.heaviest.proofs.Exactly.{read_iff, refused_iff}
use Rattle.calls.specs.Values.{OrRefusal, number_values}
use Rattle.calls.specs.Call.{without_line_lem, Left}
use Rattle.calls.specs.Lent.{Lent, in_place_lem}
use Rattle.calls.specs.Calls.{writing, refusing, ringing}
use Rattle.calls.specs.Answers.{WroteText}
use Rattle.calls.specs.Ringing.{AsksAs, rings, AnswersRing, WritesHeaviest, Ringing}
use Rattle.calls.proofs.Settled.{Settles}
use Rattle.calls.proofs.Matched.{unlined}
use Rattle.calls.proofs.Answers.{Placed, answers_read}
use Rattle.calls.proofs.Writing.{wrote}

-- where a fault stands
numbers_are : (line : List ℕ) (k : ℕ) → are_of_line (tests line k) ≡ true
unfolding two_counts_tests
numbers_are line zero = refl
numbers_are line (suc k) = refl

-- no line is tested but the first and the next
line-near : (line : List ℕ) (r : Refusal) (f : FirstFaultBy (tests line) r) → f.above ≤ 1
line-near line r f = by_place f.above refl
  where
    by_place : (k : ℕ) → f.above ≡ k → f.above ≤ 1
    by_place zero e = omega arith
    by_place (suc zero) e = omega arith
    by_place (suc (suc k)) e = fails-not-hold (tests line 1) r.cause (rw e at f.fault) (f.pass 1 (omega arith))

pub fault-placed : (line : List ℕ) (r : Refusal) → Fault line r → Placed r
fault-placed line r (inl f) = inl f.1
fault-placed line r (inr f) =
    let range =
    of_line _
    (first_fails_number is_of_line (tests line f.1.above) r.cause (numbers_are line f.1.above) f.1.fault) in
    inr (record {
      above = range.0;
      of_sheet = range.1;
      some = omega (arith, f.1.line);
      near = omega (arith, f.1.line, line-near line r f.1);
    })

-- a line has a fault, or asks for a sheet
read_so : (line : List ℕ) (g : Result (ℕ × ℕ) Refusal) → reading line ≡ g
    → ((r : Refusal) × Fault line r) ⊎ ((Γ : Network) × AsksAs line Γ)
read_so line (Ok p) e = inr (record (empty p.1) { events = p.0 }, (read_iff line p.0 p.1).0 e)
read_so line (Err r) e = inl (r, (refused_iff line r).0 e)

module _ (line m : List ℕ) where
  abbrev l : Lent
  l = in_place_lem m

  abbrev left : Left (OrRefusal ℕ)
  left = ringing line m

  pub ring-refused : (r : Refusal) → reading line ≡ Err r → refusing l r ≡ left
  ring-refused r e = rw e refl

  module _ (n h : ℕ) (e : reading line ≡ Ok (n, h)) where
    pub ring-short : length m < length (ring_text n h) → refusing l (without_line_lem BufferTooShort) ≡ left
    ring-short s = rw (e, lt-leb (length (ring_text n h)) (length m) s) refl

    pub ring-wrote : length (ring_text n h) ≤ length m → writing l (ring_text n h) ≡ left
    ring-wrote s = rw (e, le-leb (length (ring_text n h)) (length m) s) refl

  settles : (Γ : Network) → AsksAs line Γ → Settles 0 (rings (length m)) Γ (number_values left.answer)
  settles Γ a =
      let e = (read_iff line Γ.events Γ.horizon).1 a in
      elim (lt_or_ge (length m) (length (ring_text Γ.events Γ.horizon))) [
        | inl s ↦
            inl (
              s,
              rw (← ring-short Γ.events Γ.horizon e s) (record {
                number = refl;
                line = (unlined {c = BufferTooShort} refl refl).line;
                near = omega arith;
                empty = refl;
              }),
            )
        | inr s ↦ inr (λ t. omega arith, rw (← ring-wrote Γ.events Γ.horizon e s) (refl, refl))
      ]

  -- a refusal leaves the memory
  keeps : (g : Result (ℕ × ℕ) Refusal) → reading line ≡ g → ((number_values left.answer).number ≡ 0 → ⊥)
      → left.memory ≡ m
  keeps (Err r) e n = rw (← ring-refused r e) refl
  keeps (Ok p) e n =
      elim (lt_or_ge (length m) (length (ring_text p.0 p.1))) [
        | inl s ↦ rw (← ring-short p.0 p.1 e s) refl
        | inr s ↦ absurd (n (rw (← ring-wrote p.0 p.1 e s) refl))
      ]

  pub ring-answers : AnswersRing line m (number_values left.answer) left.memory
  ring-answers = record {
    answers =
        answers_read 0 (rings (length m)) (number_values left.answer) refl (Fault line) (AsksAs line)
        (fault-placed line)
        (λ r f.
        sym (ap (λ (x : Left (OrRefusal ℕ)). number_values x.answer) (ring-refused r ((refused_iff line r).1 f))))
        settles (read_so line (reading line) refl);
    keeps = keeps (reading line) refl;
  }

  pub ringing_small : (number_values left.answer).value < 65536
  ringing_small = by_reading (reading line) refl
    where
      by_reading : (g : Result (ℕ × ℕ) Refusal) → reading line ≡ g → (number_values left.answer).value < 65536
      by_reading (Err r) e = rw (← ring-refused r e) (omega arith)
      by_reading (Ok p) e =
          let a = (read_iff line p.0 p.1).0 e in
          elim (lt_or_ge (length m) (length (ring_text p.0 p.1))) [
            | inl s ↦ rw (← ring-short p.0 p.1 e s) (omega arith)
            | inr s ↦
                rw (← ring-wrote p.0 p.1 e s) (omega (arith, length-ring p.0 p.1 a.some a.few a.horizon))
          ]

  pub ring-text-wrote : (n h : ℕ) → Asks line n h → length (ring_text n h) ≤ length m
      → WroteText (ring_text n h) m left
  ring-text-wrote n h a room = wrote (ring_text n h) m (ring-wrote n h ((read_iff line n h).1 a) room)

  pub ring-writes : WritesHeaviest line l (number_values left.answer) left.memory
  ring-writes n h a = (ring_text n h, ring_heaviest n h a.some a.few a.horizon, ring-text-wrote n h a)

pub ringings : Ringing
ringings = record {
  reads = read_iff;
  faults = refused_iff;
  answers = ring-answers;
  writes = ring-writes;
  heaviest = ring_heaviest;
}
