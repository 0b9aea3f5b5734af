-- What the call that lists a table writes: the listing of any table of the sheet's size, where there is room for it.
use Rattle.std.specs.Prelude.{List, ℕ, ◌≤◌, length}
use Rattle.network.specs.declared.Network.{Network}
use Rattle.listing.specs.Listing.{listing}
use Rattle.calls.specs.Values.{Values}
use Rattle.calls.specs.Lent.{Lent}
use Rattle.calls.specs.Answers.{Reads, WroteInto}

abbrev pub WritesListing : List ℕ → (Network → Type 0) → List ℕ → Lent → Values ℕ → List ℕ → Type 0
WritesListing sheet right σ m v after =
    (Γ : Network) → Reads sheet Γ → right Γ → length (listing sheet Γ σ) ≤ m.room
    → WroteInto (listing sheet Γ σ) m v after
