-- The call that reads a listing back, in the papers' numbers, and how it ends: with 18 and with 19 by the line, or with
-- the table. Assumes nothing.
use mathlib.Core.Path.{◌≡◌, refl, sym}
use mathlib.Core.Logic.{inl, inr, ◌↔◌}
use mathlib.Core.Bool.{true, false}
use mathlib.Core.Option.{Option, none, some}
use mathlib.Core.List.{List}
use Prim.Native.Nat.{ℕ, suc, ◌≤◌}
use native.Mathlib.Omega.{arith}
use borrow.Author.Tests.{leb-false, le-leb, lt-leb}
use Rattle.prelude.proofs.Tests.{clash}
use Rattle.prelude.proofs.Search.{some-not-none}
use Rattle.refusal.specs.Refusal.{number_of, refusal}
use Rattle.refusal.specs.declared.Cause.{Cause}
use Rattle.refusal.specs.declared.Cause.TheVariants.{OtherForm, NoMinute}
use Rattle.network.specs.Build.{cells}
use Rattle.network.specs.WellFormed.{WellFormed}
use Rattle.network.specs.declared.Network.{Network}
use Rattle.sheet.specs.Reading.{longest, network_of, Accepts}
use Rattle.sheet.proofs.WellFormed.{accepted_well_formed}
use Rattle.listing.specs.Listing.{header}
use Rattle.listing.proofs.Truths.{few-scenarios}
use Rattle.readback.specs.Form.{Misfit}
use Rattle.readback.proofs.Formed.{formed_iff}
use Rattle.readback.proofs.Misfits.{misfit_iff}
use Rattle.readback.proofs.Unreads.{unread_iff, minutes_iff}
use Rattle.calls.specs.Values.{OrRefusal}
use Rattle.calls.specs.Call.{Left}
use Rattle.calls.specs.Lent.{Lent}
use Rattle.calls.specs.Calls.{writing, refusing}
use Rattle.calls.specs.Recover.{faultless, misfit_in, unread_in, recovered_in, recovering_tests, recovering_into}
use Rattle.calls.specs.Answers.{names_line, Writes}
use Rattle.calls.specs.Numbers.{other_form, no_minute, recovers}
use Rattle.calls.proofs.Call.{call_fails, call_works}
use Rattle.calls.proofs.Matched.{Refuses, unlined, writes_call}

-- a test of lines holds where no line is at fault, and otherwise refuses with the line
module _ (c : Cause) where
  pub none-holds : (o : Option ℕ) → o ≡ none → (faultless o c).0 ≡ true
  none-holds o e = rw e

  pub holds-none : (o : Option ℕ) → (faultless o c).0 ≡ true → o ≡ none
  holds-none none e = refl
  holds-none (some l) e = clash false e refl

  none_fails : (o : Option ℕ) → (faultless o c).0 ≡ false → o ≡ none → ⊥
  none_fails none e n = clash true refl e
  none_fails (some l) e n = some-not-none l n

  fails_some : (o : Option ℕ) → (o ≡ none → ⊥) → (faultless o c).0 ≡ false
  fails_some none n = absurd (n refl)
  fails_some (some l) n = refl

  lined : (o : Option ℕ) (n : ℕ) → number_of c ≡ n → names_line n ≡ true
      → ((l : ℕ) → o ≡ some l → (1 ≤ l) × (l ≤ suc longest)) → (faultless o c).0 ≡ false → Refuses (faultless o c).1 n
  lined none n e h near f = clash true refl f
  lined (some l) n e h near f = record { number = e; line = (λ _. h, λ _. (near l refl).0); near = (near l refl).1 }

module _ (sheet bytes : List ℕ) where
  abbrev net : Network
  net = network_of sheet

  abbrev head : List ℕ
  head = header sheet net

  module _ (a : Accepts sheet) where
    wf : WellFormed net
    wf = (accepted_well_formed sheet a).0

    -- a line is no further than one behind the listing's last
    misfit-near : (l : ℕ) → misfit_in sheet bytes net ≡ some l → (1 ≤ l) × (l ≤ suc longest)
    misfit-near l e = by-fault ((misfit_iff head net.signals net.events bytes l).0 e)
      where
        by-fault : Misfit head net.signals net.events bytes l → (1 ≤ l) × (l ≤ suc longest)
        by-fault (inl p) = (omega (arith, p.1), omega (arith, p.1))
        by-fault (inr p) =
            let x = p.1 in
            let few = few-scenarios net.signals wf.signals in
            (omega (arith, x.is_line), omega (arith, x.is_line, x.within))

    unread-near : misfit_in sheet bytes net ≡ none → (l : ℕ) → unread_in sheet bytes net ≡ some l
        → (1 ≤ l) × (l ≤ suc longest)
    unread-near e l q =
        let y = (unread_iff head net.signals net.events bytes l).0 (e, q) in
        let few = few-scenarios net.signals wf.signals in
        (omega (arith, y.is_line), omega (arith, y.is_line, y.within))

  misfit_fails : ((faultless (misfit_in sheet bytes net) OtherForm).0 ≡ false) ↔ other_form sheet bytes net
  misfit_fails =
      let formed = formed_iff head net.signals net.events bytes in (
        λ f x. none_fails OtherForm (misfit_in sheet bytes net) f (formed.1 x),
        λ n. fails_some OtherForm (misfit_in sheet bytes net) (λ e. n (formed.0 e)),
      )

  unread_fails : misfit_in sheet bytes net ≡ none
      → ((faultless (unread_in sheet bytes net) NoMinute).0 ≡ false) ↔ no_minute sheet bytes net
  unread_fails e =
      let formed = formed_iff head net.signals net.events bytes in
      let all = minutes_iff head net.signals net.events bytes in (
        λ f. (
          formed.0 e,
          λ m. none_fails NoMinute (unread_in sheet bytes net) f ((all (formed.0 e)).1 m),
        ),
        λ p. fails_some NoMinute (unread_in sheet bytes net) (λ q. p.1 ((all p.0).0 q)),
      )

  module _ (m : Lent) where
    abbrev work : Network → Left (OrRefusal ℕ)
    work Γ = writing m (recovered_in sheet bytes Γ)

    pub recoverer-writes
        : Writes sheet (recovers sheet bytes m.room) (recovering_into sheet bytes m) m.before
    recoverer-writes =
        writes_call m sheet
        (recovering_tests sheet bytes m) work (recovers sheet bytes m.room) refl
        (λ a. (
          lined OtherForm (misfit_in sheet bytes net) 18 refl refl (misfit-near a),
          misfit_fails,
          λ h.
              let e = holds-none OtherForm (misfit_in sheet bytes net) h in (
                lined NoMinute (unread_in sheet bytes net) 19 refl refl (unread-near a e),
                unread_fails e,
                λ _. (
                  λ _. unlined refl refl,
                  (leb-false (cells net) m.room, lt-leb (cells net) m.room),
                  λ _. tt,
                ),
              ),
        ))
        (λ Γ. (refl, refl))

    -- how it ends, by the lines at fault
    module _ (a : Accepts sheet) where
      pub refuses_misfit : (l : ℕ) → misfit_in sheet bytes net ≡ some l
          → recovering_into sheet bytes m ≡ refusing m (refusal OtherForm l)
      refuses_misfit l e =
          sym (call_fails (refusing m) sheet (recovering_tests sheet bytes m) work (network_of sheet) a
          (refusal OtherForm l) (rw e (inl (refl, refl))))

      module _ (e : misfit_in sheet bytes net ≡ none) where
        pub refuses_unread : (l : ℕ) → unread_in sheet bytes net ≡ some l
            → recovering_into sheet bytes m ≡ refusing m (refusal NoMinute l)
        refuses_unread l q =
            sym (call_fails (refusing m) sheet (recovering_tests sheet bytes m) work (network_of sheet) a
            (refusal NoMinute l) (inr (none-holds OtherForm _ e, rw q (inl (refl, refl)))))

        pub recovers-table : unread_in sheet bytes net ≡ none → cells net ≤ m.room
            → recovering_into sheet bytes m ≡ writing m (recovered_in sheet bytes net)
        recovers-table q room =
            sym (call_works (refusing m) sheet (recovering_tests sheet bytes m) work (network_of sheet) a
            (none-holds OtherForm _ e, (none-holds NoMinute _ q, (le-leb (cells net) m.room room, tt))))
