-- What holds of reading a listing back, from the laws of the reader and of the listing. Assumes nothing.
use mathlib.Core.Path.{◌≡◌, refl, sym, ◌∙◌, ap, subst}
use mathlib.Core.Logic.{inl, inr, ◌↔◌}
use mathlib.Core.Option.{none, some}
use mathlib.Core.List.{List}
use Prim.Native.Nat.{ℕ, ◌≤◌}
use native.Mathlib.Omega.{arith}
use borrow.Author.Tests.{leb-true}
use Rattle.prelude.proofs.Search.{some_or_none}
use Rattle.refusal.specs.Refusal.{refusal}
use Rattle.refusal.specs.declared.Cause.{Cause}
use Rattle.refusal.specs.declared.Cause.TheVariants.{OtherForm, NoMinute}
use Rattle.refusal.specs.declared.Refusal.{Refusal}
use Rattle.refusal.proofs.Numbered.{numbered}
use Rattle.network.specs.Build.{cells}
use Rattle.network.specs.declared.Network.{Network}
use Rattle.sheet.specs.Reading.{network_of, Accepts}
use Rattle.listing.specs.Listing.{header, listing}
use Rattle.readback.proofs.Misfits.{misfit_iff}
use Rattle.readback.proofs.Formed.{formed_iff}
use Rattle.readback.proofs.Unreads.{unread_iff, minutes_iff}
use Rattle.calls.specs.Values.{OrRefusal, Values, turned_away, number_values}
use Rattle.calls.specs.Call.{Left}
use Rattle.calls.specs.Lent.{Lent}
use Rattle.calls.specs.Calls.{writing, refusing}
use Rattle.calls.specs.Recover.{misfit_in, unread_in, recovered_in, recovering_tests, recovering_into}
use Rattle.calls.specs.Answers.{Reads, Answers, WroteInto}
use Rattle.calls.specs.Numbers.{recovers}
use Rattle.calls.specs.ReadingBack.{Printable, Printed, ReadsBackBy, ReadingBack}
use Rattle.calls.proofs.Call.{Ends, faulty, failed, worked, ends}
use Rattle.calls.proofs.Settled.{number_of}
use Rattle.calls.proofs.Writing.{wrote_into}
use Rattle.calls.proofs.Recovering.{holds-none, recoverer-writes, refuses_misfit, refuses_unread, recovers-table}
use Rattle.calls.proofs.Recovered.{recovered, recovers_into, found-table, printed_back, listed_back}

abbrev left_values : Left (OrRefusal ℕ) → Values ℕ
left_values l = number_values l.answer

module _ (sheet : List ℕ) (a : Accepts sheet) (bytes : List ℕ) (m : Lent) where
  abbrev net : Network
  net = network_of sheet

  abbrev found : List ℕ
  found = recovered_in sheet bytes net

  abbrev left : Left (OrRefusal ℕ)
  left = recovering_into sheet bytes m

  abbrev answer : Values ℕ
  answer = number_values left.answer

  abbrev work : Network → Left (OrRefusal ℕ)
  work Γ = writing m (recovered_in sheet bytes Γ)

  -- no refusal: nothing is at fault, and there is room
  record Whole : Type 0 where
    formed : misfit_in sheet bytes net ≡ none
    faultless : unread_in sheet bytes net ≡ none
    room : cells net ≤ m.room

  refusal-numbered : (r : Refusal) → refusing m r ≡ left → answer.number ≡ 0 → ⊥
  refusal-numbered r e z = numbered r.cause (ap (λ (l : Left (OrRefusal ℕ)). (left_values l).number) e ∙ z)

  whole : answer.number ≡ 0 → Whole
  whole z = by_end (ends (refusing m) sheet (recovering_tests sheet bytes m) work)
    where
      by_end : Ends (refusing m) sheet (recovering_tests sheet bytes m) work → Whole
      by_end (faulty r p e) = absurd (refusal-numbered r e z)
      by_end (failed p r f e) = absurd (refusal-numbered r e z)
      by_end (worked p h e) = record {
        formed = holds-none OtherForm (misfit_in sheet bytes net) h.0;
        faultless = holds-none NoMinute (unread_in sheet bytes net) h.1.0;
        room = leb-true (cells net) m.room h.1.1.0;
      }

  abbrev Wrote : List ℕ → Type 0
  Wrote σ = WroteInto σ m answer left.memory

  wrote_found : (w : Whole) → Wrote found
  wrote_found w = wrote_into m found (sym (recovers-table sheet bytes m a w.formed w.faultless w.room))

  accepted_printed : cells net ≤ m.room → (answer.number ≡ 0) ↔ Printed sheet net bytes
  accepted_printed room = (
    λ z.
        let w = whole z in
        record {
          table = found;
          printable = found-table sheet a bytes w.formed w.faultless;
          is = sym (printed_back sheet a bytes w.formed w.faultless);
        },
    λ p.
        rw p.is
        (ap (λ (l : Left (OrRefusal ℕ)). (left_values l).number) (recovers_into sheet a p.table p.printable m room)),
  )

  -- 18 and 19 with their lines: the number says that there is such a line, and it is this one
  numbers_of : Answers sheet (recovers sheet bytes m.room) 0 (answer)
  numbers_of = (recoverer-writes sheet bytes m).answers

  reads : Reads sheet net
  reads = record { accepted = a; network = refl }

  abbrev turned : Refusal → Values ℕ
  turned r = turned_away 0 r

  misfit_so : (l : ℕ) → misfit_in sheet bytes net ≡ some l → answer ≡ turned (refusal OtherForm l)
  misfit_so l e = ap left_values (refuses_misfit sheet bytes m a l e)

  unread_so : (l : ℕ) → misfit_in sheet bytes net ≡ none → unread_in sheet bytes net ≡ some l
      → answer ≡ turned (refusal NoMinute l)
  unread_so l e q = ap left_values (refuses_unread sheet bytes m a e l q)

  line-is : (c : Cause) (l k : ℕ) → turned (refusal c l) ≡ turned (refusal c k) → l ≡ k
  line-is c l k e = ap (λ (v : Values ℕ). v.line) e

  misfit_of : (l : ℕ) → answer ≡ turned (refusal OtherForm l) → misfit_in sheet bytes net ≡ some l
  misfit_of l q =
      elim (some_or_none (misfit_in sheet bytes net)) [
        | inl w ↦ w.1 ∙ ap some (line-is OtherForm w.0 l (sym (misfit_so w.0 w.1) ∙ q))
        | inr e ↦
            absurd ((numbers_of.exactly net reads).0.0 (ap number_of q)
            ((formed_iff (header sheet net) net.signals net.events bytes).0 e))
      ]

  unread_of : (l : ℕ) → answer ≡ turned (refusal NoMinute l)
      → (misfit_in sheet bytes net ≡ none) × (unread_in sheet bytes net ≡ some l)
  unread_of l q =
      elim (some_or_none (misfit_in sheet bytes net)) [
        | inl w ↦ absurd (other-number (ap number_of (sym (misfit_so w.0 w.1) ∙ q)))
        | inr e ↦ (e, at_fault e)
      ]
    where
      other-number : ◌≡◌ {A = ℕ} 18 19 → ⊥
      other-number z = omega arith

      at_fault : misfit_in sheet bytes net ≡ none → unread_in sheet bytes net ≡ some l
      at_fault e =
          let formed = (formed_iff (header sheet net) net.signals net.events bytes).0 e in
          elim (some_or_none (unread_in sheet bytes net)) [
            | inl w ↦ w.1 ∙ ap some (line-is NoMinute w.0 l (sym (unread_so w.0 e w.1) ∙ q))
            | inr f ↦
                let n = ((numbers_of.exactly net reads).1 (λ other. other formed)).0.0 (ap number_of q) in
                absurd (n.1 ((minutes_iff (header sheet net) net.signals net.events bytes n.0).0 f))
          ]

  -- a table that was printed is the one that is found
  found_printed : (σ : List ℕ) → Printable net σ → cells net ≤ m.room → bytes ≡ listing sheet net σ → Wrote σ
  found_printed σ t room e =
      wrote_into m σ (sym (subst (λ (x : List ℕ). recovering_into sheet x m ≡ writing m σ) (sym e)
      (recovers_into sheet a σ t m room)))

  reads_back : ReadsBackBy sheet bytes m answer left.memory net
  reads_back = record {
    prints_back = λ z.
        let w = whole z in (
          found,
          found-table sheet a bytes w.formed w.faultless,
          wrote_found w,
          listed_back sheet a bytes w.formed w.faultless,
        );
    accepted = accepted_printed;
    recovers = found_printed;
    misfit = λ l.
        let iff = misfit_iff (header sheet net) net.signals net.events bytes l in
        (λ q. iff.0 (misfit_of l q), λ x. misfit_so l (iff.1 x));
    unread = λ l.
        let iff = unread_iff (header sheet net) net.signals net.events bytes l in
        (λ q. iff.0 (unread_of l q), λ y. let p = iff.1 y in unread_so l p.0 p.1);
  }

pub reading_back : ReadingBack
reading_back = record {
  reads_back = λ sheet bytes m Γ r. rw (← r.network) (reads_back sheet r.accepted bytes m);
  one_table = λ sheet σ τ Γ r. rw (← r.network)
      (λ s t e.
      let Δ = network_of sheet in
      sym (recovered sheet r.accepted σ s).table ∙ ap (λ (x : List ℕ). recovered_in sheet x Δ) e
      ∙ (recovered sheet r.accepted τ t).table);
}
