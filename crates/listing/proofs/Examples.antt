-- Listings at the edges: one table, which one theorem covers by computation. Assumes nothing.
use mathlib.Core.Path.{◌≡◌, refl}
use mathlib.Core.Bool.{Bool, true, ◌&&◌}
use mathlib.Core.List.{List, [], ◌∷◌, ◌++◌}
use Prim.Native.Nat.{ℕ, zero, suc, ◌+◌}
use Prim.Native.Char.{code}
use Prim.Native.String.{String}
use lib.ListN.{length}
use Rattle.prelude.specs.Bytes.{ascii, same}
use Rattle.text.specs.Lines.{line_feed}
use Rattle.network.specs.Build.{empty, with_event, with_signal}
use Rattle.network.specs.declared.Network.{Network}
use Rattle.listing.specs.Listing.{listing}

-- lines of text, each with its line feed
abbrev lines : List String → List ℕ
lines [] = []
lines (l ∷ ls) = ascii l ++ line_feed ∷ lines ls

-- the events that these lines name, the first of which begins at the given place; then k signals
abbrev named : Network → ℕ → List String → Network
named Γ at [] = Γ
named Γ at (l ∷ ls) = named (with_event Γ at (length (ascii l))) (at + (length (ascii l) + 1)) ls

abbrev signalled : ℕ → Network → Network
signalled zero Γ = Γ
signalled (suc k) Γ = with_signal (signalled k Γ) (code "a" + k) 0

-- the names of the events, the count of signals and the times; the lines of the listing
record Example : Type 0 where
  names : List String
  signals : ℕ
  times : List ℕ
  prints : List String

abbrev example : List String → ℕ → List ℕ → List String → Example
example ns k σ ls = record { names = ns; signals = k; times = σ; prints = ls }

abbrev examples : List Example
examples =
    -- one event and no signal
    example ("start" ∷ []) 0 (0 ∷ []) ("case,start" ∷ "-,0" ∷ [])
    -- names of 1 byte and of 8; one digit and two
    ∷ example ("s" ∷ "overhaul" ∷ []) 0 (9 ∷ 10 ∷ []) ("case,s,overhaul" ∷ "-,9,10" ∷ [])
    -- one signal; the largest time that a table holds, and no time in order
    ∷ example ("start" ∷ "call" ∷ "d2" ∷ []) 1 (0 ∷ 65534 ∷ 99 ∷ 10080 ∷ 1000 ∷ 100 ∷ [])
    ("case,start,call,d2" ∷ "F,0,65534,99" ∷ "T,10080,1000,100" ∷ [])
    -- 65,535 is a dash, in any cell
    ∷ example ("start" ∷ "call" ∷ []) 1 (65535 ∷ 65535 ∷ 0 ∷ 65535 ∷ [])
    ("case,start,call" ∷ "F,-,-" ∷ "T,0,-" ∷ [])
    -- two signals: the first has weight 1
    ∷ example ("start" ∷ []) 2 (0 ∷ 1 ∷ 2 ∷ 3 ∷ []) ("case,start" ∷ "FF,0" ∷ "TF,1" ∷ "FT,2" ∷ "TT,3" ∷ [])
    ∷ []

abbrev agrees : Example → Bool
agrees e =
    same
    (listing (lines e.names) (signalled e.signals (named (empty 60) 0 e.names)) e.times)
    (lines e.prints)

abbrev all_agree : List Example → Bool
all_agree [] = true
all_agree (e ∷ es) = agrees e && all_agree es

pub examples_agree : all_agree examples ≡ true
unfolding listing
examples_agree = refl
