-- A label has each part of another, told of the network by sums of weights, exactly where it has each of its letters,
-- told of the contents. Assumes nothing.
use mathlib.Core.Path.{◌≡◌}
use mathlib.Core.Bool.{Bool, true, false}
use mathlib.Core.Option.{some}
use mathlib.Core.List.{List}
use Prim.Native.Nat.{ℕ, ◌≤◌, ◌<◌}
use native.Mathlib.Omega.{arith}
use lib.ListN.{length, get_or, length-map, get_or-map}
use Rattle.prelude.specs.Lists.{In, Each}
use Rattle.prelude.proofs.Lists.{in_place, each_in}
use Rattle.network.specs.Limits as L
use Rattle.network.specs.Build.{letter}
use Rattle.network.specs.Scenario.{truth}
use Rattle.network.specs.Complete as N
use Rattle.network.specs.declared.Label.{Label}
use Rattle.network.specs.declared.Network.{Network}
use Rattle.names.specs.Names.{Literal}
use Rattle.names.specs.Defined.{place_of, weights, mask_of}
use Rattle.layout.specs.Contents.{Contents, signal_letters, no_literal}
use Rattle.layout.specs.Keeps.{KeepsLabel}
use Rattle.layout.proofs.Finds.{letter-found, letter-place, place_at}
use Rattle.layout.proofs.Stands.{Stands}
use Rattle.layout.proofs.Asked.{truth_in, in_truth}

module _ {sheet : List ℕ} {Γ : Network} {c : Contents} (s : Stands sheet Γ c)
    (few : length c.signals ≤ L.signals) where
  abbrev pub mask : List Literal → Label
  mask ls = mask_of Γ.signals Γ.letters ls

  abbrev pub sum : Bool → List Literal → ℕ
  sum v ls = weights Γ.signals Γ.letters v ls

  abbrev pub Keeping : List Literal → Type 0
  Keeping ls = KeepsLabel (signal_letters c.signals) ls

  -- a letter's signal
  pub place_of_lem : (p : ℕ) → p < length c.signals → place_of Γ.signals Γ.letters (letter Γ p) ≡ some p
  place_of_lem = place_at s.holds s.signals.letters_once

  -- the label of a line is included where each of its letters is
  pub includes_of : (ls ks : List Literal) → Keeping ls → Keeping ks → Each (λ m. In m ls no_literal) ks no_literal
      → N.Includes (mask ls) (mask ks)
  includes_of ls ks a b e = record { positive = by_sign true; negative = by_sign false }
    where
      by_sign : (v : Bool) (q : ℕ) → truth (sum v ks) q ≡ true → truth (sum v ls) q ≡ true
      by_sign v q t =
          let w = truth_in s few ks b v q t in
          in_truth s few ls a (record { letter = letter Γ q; value = v }) q
          (each_in (λ m. In m ls no_literal) e w.1) (place_of_lem q w.0)

  pub of_includes : (ls ks : List Literal) → Keeping ls → Keeping ks → N.Includes (mask ls) (mask ks)
      → Each (λ m. In m ls no_literal) ks no_literal
  of_includes ls ks a b w = record { each = λ j h. one (get_or ks j no_literal) (in_place ks j h) (letter_in j h) }
    where
      letter_in : (j : ℕ) → j < length ks → In (get_or ks j no_literal).letter (signal_letters c.signals) 0
      letter_in j h =
          rw (get_or-map (λ (l : Literal). l.letter) ks j no_literal) at
          (b.known.each j (omega (arith, length-map ks (λ (l : Literal). l.letter))))

      by_sign : (v : Bool) (q : ℕ) → truth (sum v ks) q ≡ true → truth (sum v ls) q ≡ true
      by_sign true = w.positive
      by_sign false = w.negative

      one : (m : Literal) → In m ks no_literal → In m.letter (signal_letters c.signals) 0 → In m ls no_literal
      one m i d =
          let p = letter-found s.holds m.letter d in
          let t = by_sign m.value p.0 (in_truth s few ks b m p.0 i p.1) in
          rw (letter-place s.holds m.letter p.0 p.1).1 at (truth_in s few ls a m.value p.0 t).1
