-- From how a call answers a refused and an accepted sheet to the numbers and lines that it can answer. Assumes nothing.
use mathlib.Core.Path.{◌≡◌, refl, ap}
use mathlib.Core.Logic.{◌⊎◌, inl, inr, ◌↔◌}
use mathlib.Core.Bool.{true, false}
use mathlib.Core.List.{List}
use Prim.Native.Nat.{ℕ, suc, ◌≤◌}
use native.Mathlib.Omega.{arith}
use borrow.Author.Tests.{le-leb, lt-leb}
use Rattle.std.specs.Prelude.{Result, Ok, Err}
use Rattle.prelude.proofs.Tests.{clash}
use Rattle.refusal.specs.Refusal.{refusal}
use Rattle.refusal.specs.Refusal.{number_of as number_of_lem}
use Rattle.refusal.specs.declared.Cause.TheVariants.{TooLong}
use Rattle.refusal.specs.declared.Refusal.{Refusal}
use Rattle.network.specs.declared.Network.{Network}
use Rattle.sheet.specs.Reading.{longest, read, network_of, Accepts}
use Rattle.sheet.specs.Fault.{Fault}
use Rattle.sheet.proofs.WellFormed.{accepts}
use Rattle.sheet.proofs.Fault.{refused_iff, first-fault-range, first-fault-near}
use Rattle.calls.specs.Values.{Values, turned_away}
use Rattle.calls.specs.Answers.{names_line, OfSheet, Reads, Own, OneOf, AnswersBy, Answers}
use Rattle.calls.proofs.Settled.{number_of, are_own, Settles, settled_one, settled_line, settled_near}
use Rattle.calls.proofs.Settled.{settled_empty, settled_exactly}

-- the refusals of a sheet's lines have lines
of_sheet : (n : ℕ) → 2 ≤ n → OfSheet n → names_line n ≡ true
of_sheet n l (inl h) = rw (le-leb 2 n l, le-leb n 10 h)
of_sheet n l (inr h) =
    rw (le-leb 2 n l, lt-leb n 10 (omega (arith, h.0)), le-leb 18 n (omega (arith, h.0)), le-leb n 22 h.1)

-- a fault is 1 with no line, or has one of the numbers of a line, and a line
pub record Lined (r : Refusal) : Type 0 where
  pub above : 2 ≤ number_of_lem r.cause
  pub of_sheet : OfSheet (number_of_lem r.cause)
  pub some : 1 ≤ r.line
  pub near : r.line ≤ suc longest

abbrev pub Placed : Refusal → Type 0
Placed r = (r ≡ refusal TooLong 0) ⊎ Lined r

-- of whatever is read, and whatever its faults are
module _ {A : Type 0} (nothing : A) (own : List Own) (v : Values A) (above : are_own own ≡ true)
    (Faulty : Refusal → Type 0) (ReadAs : Network → Type 0) (placed : (r : Refusal) → Faulty r → Placed r)
    (refused : (r : Refusal) → Faulty r → v ≡ turned_away nothing r)
    (accepted : (Γ : Network) → ReadAs Γ → Settles nothing own Γ v) where
  -- what does not depend on the cause: numbers, lines, and that a refusal is empty
  record Told : Type 0 where
    number : OfSheet v.number ⊎ OneOf own v.number
    line : (1 ≤ v.line) ↔ (names_line v.number ≡ true)
    near : v.line ≤ suc longest
    empty : (v.number ≡ 0 → ⊥) → v.value ≡ nothing

  by-fault : (r : Refusal) → v ≡ turned_away nothing r → Placed r → Told
  by-fault r e (inl f) =
      let n : v.number ≡ 1 = rw f at (ap number_of e) in
      let l : v.line ≡ 0 = rw f at (ap (λ (w : Values A). w.line) e) in
      record {
        number = inl (inl (omega arith));
        line = rw (n, l) (λ h. absurd (omega arith), λ h. clash false h refl);
        near = omega arith;
        empty = λ m. ap (λ (w : Values A). w.value) e;
      }
  by-fault r e (inr f) =
      let n = ap number_of e in
      let l = ap (λ (w : Values A). w.line) e in
      let own-number : OfSheet v.number = rw n f.of_sheet in
      record {
        number = inl own-number;
        line = (λ h. of_sheet v.number (omega (arith, f.above, n)) own-number, λ h. omega (arith, l, f.some));
        near = omega (arith, l, f.near);
        empty = λ m. ap (λ (w : Values A). w.value) e;
      }

  by_own : (Γ : Network) → Settles nothing own Γ v → Told
  by_own Γ s = record {
    number = elim (settled_one nothing own Γ v s) [ inl n ↦ inl (inl (omega arith)) | inr m ↦ inr m ];
    line = settled_line nothing own Γ v s;
    near = settled_near nothing own Γ v s;
    empty = settled_empty nothing own Γ v s;
  }

  told : ((r : Refusal) × Faulty r) ⊎ ((Γ : Network) × ReadAs Γ) → Told
  told (inl f) = by-fault f.0 (refused f.0 f.1) (placed f.0 f.1)
  told (inr a) = by_own a.0 (accepted a.0 a.1)

  -- what is read has a fault, or is read as a network
  pub answers_read : ((r : Refusal) × Faulty r) ⊎ ((Γ : Network) × ReadAs Γ)
      → AnswersBy Faulty ReadAs own nothing v
  answers_read read_so =
      let t = told read_so in
      record {
        numbers = t.number;
        lines = t.line;
        near = t.near;
        at_fault = refused;
        exactly = λ Γ reads. settled_exactly nothing own Γ v above (accepted Γ reads);
        refusal_empty = t.empty;
      }

-- of a sheet
module _ {A : Type 0} (nothing : A) (sheet : List ℕ) (own : List Own) (v : Values A) (above : are_own own ≡ true)
    (refused : (r : Refusal) → read sheet ≡ Err r → v ≡ turned_away nothing r)
    (accepted : Accepts sheet → Settles nothing own (network_of sheet) v) where
  placed : (r : Refusal) → Fault sheet r → Placed r
  placed r (inl f) = inl f.1
  placed r (inr f) =
      let range = first-fault-range sheet r f.1 in
      let line = f.1.line in
      inr (record {
        above = range.0;
        of_sheet = range.1;
        some = omega arith;
        near = omega (arith, f.0, first-fault-near sheet r f.1);
      })

  read_so : (g : Result Network Refusal) → read sheet ≡ g
      → ((r : Refusal) × Fault sheet r) ⊎ ((Γ : Network) × Reads sheet Γ)
  read_so (Ok Γ) e = let a = accepts sheet Γ e in inr (Γ, record { accepted = a.0; network = a.1 })
  read_so (Err r) e = inl (r, (refused_iff sheet r).0 e)

  pub answers_by : Answers sheet own nothing v
  answers_by =
      answers_read nothing own v above (Fault sheet) (Reads sheet) placed
      (λ r f. refused r ((refused_iff sheet r).1 f))
      (λ Γ reads. rw (← reads.network) (accepted reads.accepted))
      (read_so (read sheet) refl)
