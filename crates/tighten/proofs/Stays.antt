-- What remains of regular upper bounds, whatever list it is: no two have one key, each is the tightest of its key, and
-- the tightest of each key is among them. What remains of it is it itself. Assumes nothing.
use mathlib.Core.Path.{◌≡◌, refl, sym, ◌∙◌, ap}
use mathlib.Core.Logic.{inl, inr}
use mathlib.Core.List.{List}
use Prim.Native.Nat.{ℕ, ◌<◌}
use native.Mathlib.Omega.{arith}
use lib.Signed.{≤ℤ_refl}
use lib.ListN.{length, get_or}
use Rattle.prelude.specs.Lists.{In, Each}
use Rattle.prelude.proofs.Tests.{lt_or_ge}
use Rattle.prelude.proofs.Lists.{in_place, each_in}
use Rattle.network.specs.Build.{no_constraint}
use Rattle.network.specs.declared.Constraint.{Constraint}
use Rattle.tighten.specs.Remaining.{Stays, Remaining}
use Rattle.tighten.specs.Tightest.{rank}
use Rattle.tighten.proofs.Order.{≤ℤ-antisym}
use Rattle.tighten.proofs.Regular.{Regular, upper_unique}
use Rattle.tighten.proofs.Tight.{TightestAt}
use Rattle.tighten.proofs.Keys.{rank_of_key, rank_of_before}

-- one stays where it stands
pub stays_self : {rs : List Constraint} {r : Constraint} → In r rs no_constraint → Stays rs r
stays_self {r = r} i = record { upper = r; stands = i; key = refl; limit = ≤ℤ_refl r.bound }

pub remaining_itself : {xs rs : List Constraint} → Remaining xs rs → Remaining rs rs
remaining_itself {rs = rs} m = record {
  ordered = m.ordered;
  each = record { each = λ p h. in_place rs p h };
  least = record { each = λ p h. stays_self (in_place rs p h) };
}

-- what remains is of them
pub among : {xs rs : List Constraint} {r : Constraint} → Remaining xs rs → In r rs no_constraint → In r xs no_constraint
among {xs = xs} m i = each_in (λ r. In r xs no_constraint) m.each i

module _ {xs rs : List Constraint} (regular : Each Regular xs no_constraint) (m : Remaining xs rs) where
  pub remains_ordered : (p q : ℕ) → p < q → q < length rs
      → rank (get_or rs p no_constraint) < rank (get_or rs q no_constraint)
  remains_ordered p q h l =
      rank_of_before
      (each_in Regular regular (among m (in_place rs p (omega arith))))
      (each_in Regular regular (among m (in_place rs q l)))
      (m.ordered p q h l)

  -- no two of them have one key
  remains_once : {r q : Constraint} → In r rs no_constraint → In q rs no_constraint → rank r ≡ rank q → r ≡ q
  remains_once i j e =
      let e-i = ap rank i.is in
      let e-j = ap rank j.is in
      elim (lt_or_ge i.place j.place) [
        | inl h ↦ absurd (omega (arith, remains_ordered i.place j.place h j.place_lt))
        | inr h ↦
            elim (lt_or_ge j.place i.place) [
              | inl l ↦ absurd (omega (arith, remains_ordered j.place i.place l i.place_lt))
              | inr l ↦
                  let p : i.place ≡ j.place = omega arith in
                  sym i.is ∙ ap (λ (k : ℕ). get_or rs k no_constraint) p ∙ j.is
            ]
      ]

  -- each is the tightest of its key
  pub remains_tightest : {r : Constraint} → In r rs no_constraint → TightestAt xs (rank r) r
  remains_tightest {r} i = record {
    stands = among m i;
    key = refl;
    least = λ y j e.
        let s = each_in (Stays rs) m.least j in
        let same = remains_once s.stands i (rank_of_key s.upper y s.key ∙ e) in
        rw same at s.limit;
  }

  -- the tightest of each key is among them
  pub tightest_remains : {k : ℕ} {x : Constraint} → TightestAt xs k x → In x rs no_constraint
  tightest_remains {x = x} t =
      let s = each_in (Stays rs) m.least t.stands in
      let of-key = rank_of_key s.upper x s.key in
      let inside = among m s.stands in
      let same =
      upper_unique (each_in Regular regular inside) (each_in Regular regular t.stands) of-key
      (≤ℤ-antisym s.upper.bound x.bound s.limit (t.least s.upper inside (of-key ∙ t.key))) in
      rw same at s.stands
