-- The next upper bound: among regular ones whose numbers are listed, the least number from a key on is that of the
-- tightest of the first key from there on that one has; where there is no such number, none has a key from there on.
-- Assumes nothing.
use mathlib.Core.Path.{◌≡◌, refl, sym, ◌∙◌, ap}
use mathlib.Core.Option.{some}
use mathlib.Core.List.{List, map}
use Prim.Native.Nat.{ℕ, ◌*◌, ◌/◌, ◌≤◌, ◌<◌}
use native.Mathlib.Omega.{arith}
use lib.ListN.{length, get_or, length-map}
use Rattle.prelude.specs.Lists.{In, Each}
use Rattle.prelude.proofs.Mapped.{get_d_map}
use Rattle.prelude.proofs.Lists.{in_place, each_in}
use Rattle.prelude.proofs.Gather.{Silent}
use Rattle.network.specs.Build.{no_constraint}
use Rattle.network.specs.declared.Constraint.{Constraint}
use Rattle.network.proofs.Signed.{le_biased}
use Rattle.tighten.specs.Tightest.{rank, tightest}
use Rattle.tighten.specs.Encoding.{per_key, encoded, decoded, top}
use Rattle.tighten.proofs.Least.{LeastFrom, AllBelow}
use Rattle.tighten.proofs.Regular.{Regular, encoded_lt, rank-encoded, decoded-encoded}
use Rattle.tighten.proofs.Tight.{TightestAt, none-tightest, tightest_unique}

module _ {xs : List Constraint} (regular : Each Regular xs no_constraint) where
  -- the numbers, and that of one that is among them
  abbrev pub numbers : List ℕ
  numbers = map encoded xs

  number_is : {y : Constraint} (w : In y xs no_constraint) → get_or numbers w.place 0 ≡ encoded y
  number_is w = get_d_map encoded no_constraint 0 xs w.place w.place_lt ∙ ap encoded w.is

  listed : {y : Constraint} (w : In y xs no_constraint) → w.place < length numbers
  listed w = omega (arith, w.place_lt, length-map xs encoded)

  pub none_left : (key : ℕ) → AllBelow numbers (key * per_key) → (n : ℕ) → Silent (tightest xs) key n
  none_left key f n = record {
    silent = λ k h l. none-tightest xs k (λ y w p. omega (arith, f w.place (listed w), number_is w, p));
  }

  module _ (key v : ℕ) (f : LeastFrom numbers (key * per_key) v) where
    -- none with a key from there on has a lesser number
    least-upper : (y : Constraint) → In y xs no_constraint → key ≤ rank y → v ≤ encoded y
    least-upper y w h =
        omega (arith, number_is w, f.least w.place (listed w) (omega (arith, number_is w)))

    -- the one with the least number
    next : Constraint
    next = get_or xs f.place no_constraint

    stands : In next xs no_constraint
    unfolding next
    stands = in_place xs f.place (omega (arith, f.place_lt, length-map xs encoded))

    next_regular : Regular next
    next_regular = each_in Regular regular stands

    is-least : encoded next ≡ v
    unfolding next
    is-least =
        sym (get_d_map encoded no_constraint 0 xs f.place (omega (arith, f.place_lt, length-map xs encoded))) ∙ f.is

    next-is : decoded v ≡ next
    next-is = ap decoded (sym is-least) ∙ decoded-encoded next_regular

    rank_is : rank next ≡ v / per_key
    rank_is = sym (rank-encoded next_regular) ∙ ap (λ (v : ℕ). v / per_key) is-least

    pub least_lt : v < top
    least_lt = omega (arith, is-least, encoded_lt next_regular)

    -- its key is the first from there on that one has
    pub least-from : key ≤ v / per_key
    least-from = omega (arith, f.from)

    pub none_before : Silent (tightest xs) key (v / per_key)
    none_before = record {
      silent =
          λ k h l.
          none-tightest xs k
          (λ y w p. omega (arith, least-upper y w (omega (arith, p)), rank-encoded (each_in Regular regular w)));
    }

    -- and it is the tightest of the key
    next-tightest : TightestAt xs (rank next) next
    next-tightest = record {
      stands = stands;
      key = refl;
      least = λ y w p.
          let q = each_in Regular regular w in
          le_biased next.bound y.bound next_regular.encodable.bound q.encodable.bound
          (omega (arith, least-upper y w (omega (arith, p, rank_is, least-from)), is-least, p));
    }

    pub next-upper : tightest xs (v / per_key) ≡ some (decoded v)
    next-upper = rw (next-is, ← rank_is) (tightest_unique regular next-tightest)
