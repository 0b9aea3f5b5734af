-- The upper bounds that remain are those that are computed, and no others: of each key that there is, in the order of
-- the keys, the tightest. What remains of them is they themselves. The count of keys stands in these laws as n, so
-- that nothing counts so far. Assumes nothing.
use mathlib.Core.Path.{◌≡◌, refl, sym}
use mathlib.Core.List.{List}
use Prim.Native.Nat.{ℕ, ◌<◌}
use native.Mathlib.Omega.{arith}
use lib.ListN.{get_or}
use Rattle.prelude.specs.Gather.{gather}
use Rattle.prelude.specs.Lists.{In, Each}
use Rattle.prelude.proofs.Lists.{in_place, each_in, each_mono}
use Rattle.prelude.proofs.Gather.{by_answer, Answer, gather-answer, in_gather, gather-ordered}
use Rattle.prelude.proofs.Listed.{gather_unique}
use Rattle.network.specs.Build.{no_constraint}
use Rattle.network.specs.WellFormed.{Proper, WellFormed}
use Rattle.network.specs.declared.Constraint.{Constraint}
use Rattle.network.specs.declared.Network.{Network}
use Rattle.tighten.specs.Remaining.{Stays, Remaining}
use Rattle.tighten.specs.Tightest.{rank, ranks, tightest, remaining, remaining_of}
use Rattle.tighten.proofs.Regular.{Regular, rank_lt, uppers-proper, uppers_regular}
use Rattle.tighten.proofs.Tight.{TightestAt, tightest-is, tightest-none, tightest_unique}
use Rattle.tighten.proofs.Keys.{key_of_rank, before_of_rank}
use Rattle.tighten.proofs.Stays.{remaining_itself, among, remains_ordered, remains_tightest, tightest_remains}

module _ {xs : List Constraint} (regular : Each Regular xs no_constraint) where
  -- the keys are less than n
  module _ (n : ℕ) (few : Each (λ x. rank x < n) xs no_constraint) where
    abbrev gathered : List Constraint
    gathered = gather n (tightest xs)

    -- an answer is the tightest of its key
    answer-tightest : {x : Constraint} (a : Answer (tightest xs) 0 n x) → TightestAt xs a.number x
    answer-tightest a = tightest-is xs a.number a.is

    gathered_stays : (x : Constraint) → In x xs no_constraint → Stays gathered x
    gathered_stays x i =
        by_answer (tightest xs (rank x))
        (λ e. absurd (tightest-none xs (rank x) e x i refl))
        (λ r e.
        let t = tightest-is xs (rank x) e in
        record {
          upper = r;
          stands = in_gather (tightest xs) no_constraint 0 n r (record {
            number = rank x;
            from = omega arith;
            below = omega (arith, each_in (λ x. rank x < n) few i);
            is = e;
          });
          key = key_of_rank (each_in Regular regular t.stands) (each_in Regular regular i) t.key;
          limit = t.least x i refl;
        })

    gathered_is : Remaining xs gathered
    gathered_is = record {
      ordered = λ p q h l.
          let w = gather-ordered (tightest xs) no_constraint 0 n p q h l in
          let a = answer-tightest w.first in
          let b = answer-tightest w.second in
          before_of_rank (each_in Regular regular a.stands) (each_in Regular regular b.stands)
          (omega (arith, a.key, b.key, w.order));
      each = record { each = λ p h. (answer-tightest (gather-answer (tightest xs) no_constraint 0 n p h)).stands };
      least = record { each = λ p h. gathered_stays (get_or xs p no_constraint) (in_place xs p h) };
    }

    gathered_unique : (rs : List Constraint) → Remaining xs rs → rs ≡ gathered
    gathered_unique rs m =
        gather_unique (tightest xs) no_constraint rank (λ k x e. (tightest-is xs k e).key) rs 0 n (record {
          ordered = remains_ordered regular m;
          answer = λ p h.
              let i = in_place rs p h in
              record {
                number = rank (get_or rs p no_constraint);
                from = omega arith;
                below = omega (arith, each_in (λ x. rank x < n) few (among m i));
                is = tightest_unique regular (remains_tightest regular m i);
              };
          all = λ x a. tightest_remains regular m (answer-tightest a);
        })

  few-ranks : Each (λ x. rank x < ranks) xs no_constraint
  few-ranks = each_mono (λ x h. rank_lt h) regular

  pub remaining-is : Remaining xs (remaining xs)
  unfolding remaining
  remaining-is = gathered_is ranks few-ranks

  pub remaining_unique : {rs : List Constraint} → Remaining xs rs → rs ≡ remaining xs
  unfolding remaining
  remaining_unique {rs} m = gathered_unique ranks few-ranks rs m

  -- what holds of each holds of each that remains
  pub remaining-each : {P : Constraint → Type 0} → Each P xs no_constraint → Each P (remaining xs) no_constraint
  remaining-each {P} e = each_mono (λ r i. each_in P e i) remaining-is.each

  pub remaining_regular : Each Regular (remaining xs) no_constraint
  remaining_regular = remaining-each regular

pub remaining-again : {xs : List Constraint} → Each Regular xs no_constraint → remaining (remaining xs) ≡ remaining xs
remaining-again h = sym (remaining_unique (remaining_regular h) (remaining_itself (remaining-is h)))

pub remaining-proper : (Γ : Network) → WellFormed Γ → Each (Proper Γ) (remaining_of Γ) no_constraint
remaining-proper Γ w = remaining-each (uppers_regular Γ w) (uppers-proper Γ w)
