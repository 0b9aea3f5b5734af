-- What holds of the call that reads a listing back (02, points 4 and 6), for every sheet, listing and lent table. Where
-- it refuses stands in `Numbers`; here is with which line.
use Rattle.std.specs.Prelude.{◌≡◌, ◌↔◌, List, ℕ, ◌≤◌, length}
use Rattle.pairs.specs.Pairs.{Short}
use Rattle.refusal.specs.Refusal.{refusal}
use Rattle.refusal.specs.declared.Cause.TheVariants.{OtherForm, NoMinute}
use Rattle.network.specs.Build.{cells}
use Rattle.network.specs.declared.Network.{Network}
use Rattle.listing.specs.Listing.{header, listing}
use Rattle.readback.specs.Form.{Misfit, Unread}
use Rattle.calls.specs.Values.{Values, turned_away, number_values}
use Rattle.calls.specs.Lent.{Lent}
use Rattle.calls.specs.Calls.{listed}
use Rattle.calls.specs.Recover.{recovering_into}
use Rattle.calls.specs.Answers.{Reads, WroteInto, WroteText}

-- a table "of the right length", whose minutes "run to 65,535 as the writer allows"; that number is printed `-`
pub record Printable (Γ : Network) (σ : List ℕ) : Type 0 where
  pub sized : length σ ≡ cells Γ
  pub short : Short σ

-- this is the listing of a table
pub record Printed (sheet : List ℕ) (Γ : Network) (printed : List ℕ) : Type 0 where
  pub table : List ℕ
  pub printable : Printable Γ table
  pub is : printed ≡ listing sheet Γ table

-- the memory is lent as minutes, or for C as bytes; the call has answered v, and left this in the memory
module _ (sheet printed : List ℕ) (m : Lent) (v : Values ℕ) (after : List ℕ) where
  -- of an accepted sheet, whose network is Γ
  pub record ReadsBackBy (Γ : Network) : Type 0 where
    -- "a listing that is accepted prints back to its own bytes": a table was written, and everything behind it is
    -- unaltered; the call that lists this table writes these bytes
    pub prints_back : v.number ≡ 0
        → (σ : List ℕ) × Printable Γ σ × WroteInto σ m v after
        × ((out : List ℕ) → length printed ≤ length out → WroteText printed out (listed sheet σ out))
    -- so a listing is accepted exactly where it is the listing of a table
    pub accepted : cells Γ ≤ m.room → (v.number ≡ 0) ↔ Printed sheet Γ printed
    -- "Any table of the right length that was printed is recovered number for number", and everything behind it is
    -- unaltered
    pub recovers : (σ : List ℕ) → Printable Γ σ → cells Γ ≤ m.room → printed ≡ listing sheet Γ σ → WroteInto σ m v after
    -- 18 "with the first listing line at fault", and 19
    pub misfit : (l : ℕ)
        → (v ≡ turned_away 0 (refusal OtherForm l)) ↔ Misfit (header sheet Γ) Γ.signals Γ.events printed l
    pub unread : (l : ℕ)
        → (v ≡ turned_away 0 (refusal NoMinute l)) ↔ Unread (header sheet Γ) Γ.signals Γ.events printed l

  abbrev pub ReadsBack : Type 0
  ReadsBack = (Γ : Network) → Reads sheet Γ → ReadsBackBy Γ

pub record ReadingBack : Type 0 where
  pub reads_back : (sheet printed : List ℕ) (m : Lent)
      → let l = recovering_into sheet printed m in ReadsBack sheet printed m (number_values l.answer) l.memory
  -- so a listing is that of one table only
  pub one_table : (sheet σ τ : List ℕ) (Γ : Network) → Reads sheet Γ → Printable Γ σ → Printable Γ τ
      → listing sheet Γ σ ≡ listing sheet Γ τ → σ ≡ τ
