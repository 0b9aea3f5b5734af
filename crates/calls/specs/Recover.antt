-- What the call that reads a listing back answers and leaves in the lent table (02, point 4): 18 "is tried over the
-- whole listing first", then 19, both with the listing's line, then 12.
use Rattle.std.specs.Prelude.{Bool, true, false, List, [], ◌∷◌, ℕ}
use Rattle.std.proofs.Math.Option.{Option, none, some}
use Rattle.refusal.specs.Refusal.{refusal}
use Rattle.refusal.specs.declared.Cause.{Cause}
use Rattle.refusal.specs.declared.Cause.TheVariants.{OtherForm, NoMinute}
use Rattle.refusal.specs.declared.Refusal.{Refusal}
use Rattle.network.specs.Build.{cells}
use Rattle.network.specs.declared.Network.{Network}
use Rattle.listing.specs.Listing.{header}
use Rattle.readback.specs.Rows.{misfit, unread, recovered}
use Rattle.calls.specs.Values.{OrRefusal}
use Rattle.calls.specs.Call.{without_line_lem, Tests, call, Left}
use Rattle.calls.specs.Lent.{Lent, in_place_lem}
use Rattle.calls.specs.Calls.{enough, writing, refusing}

-- a test that holds where no line is at fault; otherwise the refusal has the line
abbrev pub faultless : Option ℕ → Cause → Bool × Refusal
faultless none c = (true, without_line_lem c)
faultless (some l) c = (false, refusal c l)

-- the tests of a listing: the sheet has this header, k signals and n events, and there is room for its table or not
abbrev pub recovery_tests : List ℕ → ℕ → ℕ → List ℕ → Bool × Refusal → Tests
recovery_tests head k n printed room =
    faultless (misfit head k n printed) OtherForm ∷ faultless (unread head k n printed) NoMinute ∷ room ∷ []

module _ (sheet printed : List ℕ) where
  -- the first line that is not this sheet's, the first with a text that is no minute, and the table
  abbrev pub misfit_in : Network → Option ℕ
  misfit_in Γ = misfit (header sheet Γ) Γ.signals Γ.events printed

  abbrev pub unread_in : Network → Option ℕ
  unread_in Γ = unread (header sheet Γ) Γ.signals Γ.events printed

  abbrev pub recovered_in : Network → List ℕ
  recovered_in Γ = recovered (header sheet Γ) Γ.signals Γ.events printed

  abbrev pub recovering_tests : Lent → Network → Tests
  recovering_tests m Γ = recovery_tests (header sheet Γ) Γ.signals Γ.events printed (enough m (cells Γ))

  abbrev pub recovering_into : Lent → Left (OrRefusal ℕ)
  recovering_into m = call (refusing m) sheet (recovering_tests m) (λ Γ. writing m (recovered_in Γ))

  abbrev pub recovering : List ℕ → Left (OrRefusal ℕ)
  recovering m = recovering_into (in_place_lem m)
