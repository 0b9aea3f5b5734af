-- Each turn finds what the next key has, or that no key is left (`Next`). The invariant: those collected and the
-- tightest of the keys from the floor on are all that remain (`Collected`). The measure is the room that is left.
-- Assumes nothing.
use mathlib.Core.Path.{◌≡◌}
use mathlib.Core.List.{map}
use Prim.Native.Nat.{◌-◌}
use lib.ListN.{length}
use Rattle.counted.specs.Values.{values}
use Rattle.tighten.specs.Upper.{uppers_of}
use Rattle.tighten.specs.Encoding.{encoded}
use Rattle.tighten.proofs.Collected.{Collected}
use Rattle.tighten.proofs.remaining.Given as goal

abbrev pub invariant-loop-least : goal.invariant-loop-least
invariant-loop-least l =
    let xs = uppers_of l.formed.network in
    (values l.encodings ≡ map encoded xs) × Collected xs (values l.remaining) l.floor

abbrev pub decreases-loop-least : goal.decreases-loop-least
decreases-loop-least l = length (uppers_of l.formed.network) - length (values l.remaining)
