-- What the call that reads a listing back leaves in the lent table, by what the reader did. Assumes nothing.
use mathlib.Core.Path.{◌≡◌, refl, sym, ap}
use mathlib.Core.Logic.{inl, inr}
use mathlib.Core.Option.{none}
use mathlib.Core.List.{List}
use Prim.Native.Nat.{ℕ}
use borrow.Author.Tests.{lt-leb}
use lib.ListN.{length}
use Rattle.std.specs.Prelude.{Result, Ok, Err}
use Rattle.refusal.specs.declared.Cause.TheVariants.{OtherForm, NoMinute}
use Rattle.refusal.specs.declared.Refusal.{Refusal}
use Rattle.network.specs.Build.{cells}
use Rattle.network.specs.declared.Network.{Network}
use Rattle.sheet.specs.Reading.{read, network_of, Accepts}
use Rattle.sheet.proofs.WellFormed.{accepts}
use Rattle.listing.specs.Listing.{header}
use Rattle.readback.specs.Answers.{TimesRead, no_minute, short, full, ReadIs, other-form, formed}
use Rattle.readback.specs.declared.Unread.{Unread}
use Rattle.readback.proofs.RoundTrip.{length-recovered}
use Rattle.calls.specs.Values.{OrRefusal}
use Rattle.calls.specs.Call.{Left, Leaves}
use Rattle.calls.specs.Lent.{in_place_lem}
use Rattle.calls.specs.Calls.{writing, refusing}
use Rattle.calls.specs.Recover.{misfit_in, recovered_in, recovering_tests, recovering}
use Rattle.calls.proofs.Call.{call-refused, call_fails}
use Rattle.calls.proofs.Recovering.{none-holds, refuses_misfit, refuses_unread, recovers-table}
use Rattle.opening.specs.Prologue.{of_unread}
use Rattle.opening.proofs.Leaves.{leaves_as, kept, refused_by}

module _ (sheet bytes m : List ℕ) where
  abbrev work : Network → Left (OrRefusal ℕ)
  work Γ = writing (in_place_lem m) (recovered_in sheet bytes Γ)

  pub back-refused : (r : Refusal) → read sheet ≡ Err r → Leaves (recovering sheet bytes m) (Err r) m
  back-refused r p =
      kept m r (call-refused (refusing (in_place_lem m)) sheet (recovering_tests sheet bytes (in_place_lem m)) work r p)

  module _ (a : Accepts sheet) where
    abbrev net : Network
    net = network_of sheet

    abbrev Back : List ℕ → Result ℕ Unread → Type 0
    Back x r = Leaves (recovering sheet bytes m) (refused_by of_unread r) x

    by-times : misfit_in sheet bytes net ≡ none → (x : List ℕ) (r : Result ℕ Unread)
        → TimesRead bytes (length (header sheet net)) net.signals net.events m x r → Back x r
    by-times e x r (no_minute l q) = kept m _ (sym (refuses_unread sheet bytes (in_place_lem m) a e l q))
    by-times e x r (short q h) =
        kept m _
        (call_fails (refusing (in_place_lem m)) sheet (recovering_tests sheet bytes (in_place_lem m)) work net a _
        (inr (none-holds OtherForm _ e, inr (none-holds NoMinute _ q, inl (lt-leb (cells net) (length m) h, refl)))))
    by-times e x r (full q h) =
        let size = length-recovered (header sheet net) net.signals net.events bytes in
        leaves_as (sym (recovers-table sheet bytes (in_place_lem m) a e q h))
        (record { answer = ap (λ (n : ℕ). Ok n) (sym size); memory = rw size })

    by_read : (x : List ℕ) (r : Result ℕ Unread) → ReadIs (header sheet net) net.signals net.events bytes m x r
        → Back x r
    by_read x r (other-form l e) = kept m _ (sym (refuses_misfit sheet bytes (in_place_lem m) a l e))
    by_read x r (formed y s e t) = by-times e y s t

  pub back_read : (Γ : Network) → read sheet ≡ Ok Γ → (x : List ℕ) (r : Result ℕ Unread)
      → ReadIs (header sheet Γ) Γ.signals Γ.events bytes m x r
      → Leaves (recovering sheet bytes m) (refused_by of_unread r) x
  back_read Γ e x r is =
      let a = accepts sheet Γ e in
      by_read a.0 x r (rw (← a.1) at is)
