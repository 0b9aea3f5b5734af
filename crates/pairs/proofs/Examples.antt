-- Tables as bytes at the edges, in one table that one theorem covers by computation. Assumes nothing.
use mathlib.Core.Path.{◌≡◌, refl}
use mathlib.Core.Bool.{true, ◌&&◌}
use mathlib.Core.List.{[], ◌∷◌}
use Rattle.prelude.specs.Bytes.{same}
use Rattle.pairs.specs.Pairs.{minutes_of, bytes_of}

pub low-byte-first :
    same (minutes_of (5 ∷ 0 ∷ 255 ∷ 255 ∷ 1 ∷ 2 ∷ [])) (5 ∷ 65535 ∷ 513 ∷ [])
    && (same (minutes_of (5 ∷ 0 ∷ 7 ∷ [])) (5 ∷ [])
    && (same (minutes_of []) []
    && same (bytes_of (5 ∷ 65535 ∷ 513 ∷ [])) (5 ∷ 0 ∷ 255 ∷ 255 ∷ 1 ∷ 2 ∷ []))) ≡ true
low-byte-first = refl
