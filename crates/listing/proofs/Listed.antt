-- The two parts of the listing make it up. Assumes nothing.
use mathlib.Core.List.{List}
use Prim.Native.Nat.{ℕ}
use native.Mathlib.Omega.{arith}
use Rattle.network.specs.declared.Network.{Network}
use Rattle.listing.specs.Listing.{header, listing}
use Rattle.listing.specs.Line.{lines_of}
use Rattle.listing.specs.Most.{most_header, most_lines, most_listing}
use Rattle.page.specs.Pushed.{Pushed}
use Rattle.page.proofs.Pushed.{pushed_then}

pub listing_pushed : (sheet : List ℕ) (Γ : Network) (σ : List ℕ) {b m a : List ℕ}
    → Pushed most_header b (header sheet Γ) m → Pushed most_lines m (lines_of Γ σ) a
    → Pushed most_listing b (listing sheet Γ σ) a
unfolding listing
listing_pushed sheet Γ σ f g = pushed_then f g (omega arith)
