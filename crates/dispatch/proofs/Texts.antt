-- What texts say at the edges, in tables that are covered by computation: their records, or nothing where they are of
-- another form; and their masks. Assumes nothing.
use mathlib.Core.Path.{◌≡◌, refl}
use mathlib.Core.Bool.{true, false, cond}
use mathlib.Core.Option.{Option, none, some}
use mathlib.Core.List.{List, [], ◌∷◌, map}
use Prim.Native.Nat.{ℕ, ◌+◌, ◌^◌}
use Prim.Native.String.{String}
use Rattle.prelude.specs.Bytes.{ascii}
use Rattle.dispatch.specs.Said.{misnamed, with_heard}
use Rattle.dispatch.specs.HeardText.{is_heard_lem, heard_in, said_text}
use Rattle.dispatch.specs.declared.Heard.{Heard}
use Rattle.dispatch.proofs.Examples.{p, q}

abbrev reading : String → Option (List Heard)
reading s = cond (is_heard_lem (ascii s)) (some (heard_in (ascii s))) none

abbrev texts : List (String × Option (List Heard))
texts =
    ("", some [])
    ∷ ("-", some [])
    ∷ ("p", some (p true ∷ []))
    ∷ ("!p", some (p false ∷ []))
    ∷ ("p!q", some (p true ∷ q false ∷ []))
    ∷ ("!qp", some (q false ∷ p true ∷ []))
    -- a letter that stands twice is refused by its name, and not by the form
    ∷ ("pp", some (p true ∷ p true ∷ []))
    ∷ ("p!p", some (p true ∷ p false ∷ []))
    -- a bang without a letter, or two
    ∷ ("!", none)
    ∷ ("p!", none)
    ∷ ("!!p", none)
    -- a dash that does not stand alone
    ∷ ("-p", none)
    ∷ ("p-", none)
    ∷ ("!-", none)
    ∷ ("--", none)
    -- what is no letter
    ∷ ("P", none)
    ∷ (" ", none)
    ∷ ("p q", none)
    ∷ ("p,q", none)
    ∷ []

pub texts-read : map (λ x. reading x.0) texts ≡ map (λ x. x.1) texts
texts-read = refl

-- p has the bits 15 and 47, and q 16 and 48
abbrev masks : List (String × ℕ)
masks =
    ("", 0)
    ∷ ("-", 0)
    ∷ ("p!q", 2 ^ 15 + 2 ^ 48)
    ∷ ("!qp", 2 ^ 15 + 2 ^ 48)
    ∷ ("!pq", 2 ^ 47 + 2 ^ 16)
    ∷ ("pp", 2 ^ 15 + 2 ^ misnamed)
    ∷ ("p!p", 2 ^ 15 + 2 ^ misnamed)
    ∷ ("!", 2 ^ misnamed)
    ∷ ("-p", 2 ^ misnamed)
    ∷ []

pub masks_made : map (λ x. said_text (ascii x.0)) masks ≡ map (λ x. x.1) masks
unfolding with_heard said_text
masks_made = refl
