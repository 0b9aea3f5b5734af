-- Both round trips, of the calls: a table that is listed is recovered (`recovers_into`), and a listing with nothing at
-- fault is the listing of the table that it holds (`printed_back`). Assumes nothing.
use mathlib.Core.Path.{◌≡◌, ◌∙◌, ap, subst}
use mathlib.Core.Option.{none}
use mathlib.Core.List.{List}
use Prim.Native.Nat.{ℕ, ◌*◌, ◌+◌, ◌≤◌}
use native.Mathlib.Omega.{arith}
use lib.ListN.{length}
use Rattle.network.specs.Build.{cells}
use Rattle.network.specs.declared.Network.{Network}
use Rattle.sheet.specs.Reading.{network_of, Accepts}
use Rattle.sheet.proofs.WellFormed.{accepted_well_formed}
use Rattle.listing.specs.Listing.{header, listing}
use Rattle.listing.proofs.Short.{listing-short}
use Rattle.readback.proofs.RoundTrip as T
use Rattle.calls.specs.Lent.{Lent, as_minutes}
use Rattle.calls.specs.Calls.{writing, listed}
use Rattle.calls.specs.Recover.{misfit_in, unread_in, recovered_in, recovering_into}
use Rattle.calls.specs.Answers.{WroteText}
use Rattle.calls.specs.Numbers.{minutes}
use Rattle.calls.specs.ReadingBack.{Printable}
use Rattle.calls.proofs.Handed.{minutes_rightly}
use Rattle.calls.proofs.Writing.{listing-wrote}
use Rattle.calls.proofs.Recovering.{recovers-table}

-- a listing of a table: nothing is at fault, and the table is recovered
module _ (sheet : List ℕ) (a : Accepts sheet) where
  abbrev net : Network
  net = network_of sheet

  pub record Recovered (σ : List ℕ) : Type 0 where
    pub formed : misfit_in sheet (listing sheet net σ) net ≡ none
    pub faultless : unread_in sheet (listing sheet net σ) net ≡ none
    pub table : recovered_in sheet (listing sheet net σ) net ≡ σ

  pub recovered : (σ : List ℕ) → Printable net σ → Recovered σ
  unfolding listing
  recovered σ t =
      let w = accepted_well_formed sheet a in
      let few = listing-short sheet net σ w.0 w.1 (λ s u _ _. t.short (s * net.events + u)) in
      let head = header sheet net in
      record {
        formed = T.printed_fits head net.signals net.events σ t.short (omega (arith, few));
        faultless = T.printed_minutes head net.signals net.events σ t.short (omega (arith, few));
        table = T.recovers head net.signals net.events σ t.short (omega (arith, few)) t.sized;
      }

  pub recovers_into : (σ : List ℕ) → Printable net σ → (m : Lent) → cells net ≤ m.room
      → recovering_into sheet (listing sheet net σ) m ≡ writing m σ
  recovers_into σ t m room =
      let r = recovered σ t in
      recovers-table sheet (listing sheet net σ) m a r.formed r.faultless room ∙ ap (writing m) r.table

  module _ (bytes : List ℕ) where
    -- nothing at fault: the bytes are the listing of the table that they hold
    abbrev found : List ℕ
    found = recovered_in sheet bytes net

    module _ (e : misfit_in sheet bytes net ≡ none) (q : unread_in sheet bytes net ≡ none) where
      pub found-table : Printable net found
      found-table = record {
        sized = T.length-recovered (header sheet net) net.signals net.events bytes;
        short = T.recovered-short (header sheet net) net.signals net.events bytes q;
      }

      pub printed_back : listing sheet net found ≡ bytes
      unfolding listing
      printed_back = T.prints_back (header sheet net) net.signals net.events bytes q e

      pub listed_back : (out : List ℕ) → length bytes ≤ length out → WroteText bytes out (listed sheet found out)
      listed_back out room =
          subst (λ (text : List ℕ). WroteText text out (listed sheet found out)) printed_back
          (listing-wrote sheet (as_minutes found) (minutes found) out a (minutes_rightly found net) found-table.sized
          (rw printed_back room))
