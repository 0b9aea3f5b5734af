-- The upper bounds that remain, collected one after the other: those collected and the tightest of the keys from the
-- next one on are all that remain. While one is left, fewer are collected than there were, so that there is room for
-- it. Assumes nothing.
use mathlib.Core.Path.{◌≡◌, refl, sym, ◌∙◌, ap}
use mathlib.Core.List.{List, [], ◌∷◌, ◌++◌, append-nil, map}
use Prim.Native.Nat.{ℕ, suc, ◌+◌, ◌*◌, ◌-◌, ◌/◌, ◌<◌}
use native.Mathlib.Omega.{arith}
use lib.ListN.{length, length-append}
use lib.Seq.{append_snoc}
use Rattle.std.proofs.Common.{Some, None}
use Rattle.prelude.specs.Gather.{gather_from}
use Rattle.prelude.specs.Lists.{Each}
use Rattle.prelude.proofs.Gather.{gather_none, gather-next}
use Rattle.network.specs.Build.{no_constraint}
use Rattle.network.specs.declared.Constraint.{Constraint}
use Rattle.tighten.specs.Tightest.{ranks, tightest, remaining}
use Rattle.tighten.specs.Encoding.{per_key, encoded, decoded, least_of, floor_after_lem, top}
use Rattle.tighten.proofs.Least.{LeastFrom, least_none, least_some}
use Rattle.tighten.proofs.Regular.{Regular}
use Rattle.tighten.proofs.Few.{remaining-few}
use Rattle.tighten.proofs.Next.{none_left, least_lt, least-from, none_before, next-upper}

-- those of the keys below `key` are collected, and `left` keys are to be tried
pub record Collected (xs done : List Constraint) (floor : ℕ) : Type 0 where
  pub key : ℕ
  pub left : ℕ
  pub keys : key + left ≡ ranks
  pub floor_is : floor ≡ key * per_key
  pub rest : remaining xs ≡ done ++ gather_from key left (tightest xs)

pub collected_none : (xs : List Constraint) → Collected xs [] 0
unfolding remaining
collected_none xs = record {
  key = 0;
  left = ranks;
  keys = refl;
  floor_is = refl;
  rest = refl;
}

module _ {xs done : List Constraint} {floor : ℕ} (regular : Each Regular xs no_constraint)
    (f : Collected xs done floor) where
  -- no number is left: all of them are collected
  pub collected_all : None ≡ least_of (map encoded xs) floor → done ≡ remaining xs
  collected_all e =
      let below = least_none floor (map encoded xs) (sym e) in
      let silent = none_left regular f.key (rw f.floor_is at below) (f.key + f.left) in
      sym
      (f.rest
      ∙ ap (λ (l : List Constraint). done ++ l) (gather_none (tightest xs) f.key f.left silent)
      ∙ append-nil done)

  module _ {v : ℕ} (e : Some v ≡ least_of (map encoded xs) floor) where
    at : LeastFrom (map encoded xs) (f.key * per_key) v
    at = rw f.floor_is at (least_some floor (map encoded xs) v (sym e))

    pub collected_lt : v < top
    collected_lt = least_lt regular f.key v at

    -- what it stands for is the next, and these are behind it
    abbrev others : List Constraint
    others = gather_from (suc (v / per_key)) (ranks - suc (v / per_key)) (tightest xs)

    collected_next : remaining xs ≡ done ++ decoded v ∷ others
    collected_next =
        f.rest
        ∙ ap (λ (l : List Constraint). done ++ l)
        (gather-next (tightest xs) f.key f.left (v / per_key) (ranks - suc (v / per_key)) (decoded v)
        (least-from regular f.key v at)
        (omega (arith, collected_lt, f.keys))
        (none_before regular f.key v at)
        (next-upper regular f.key v at))

    -- it is one of those that remain, and these are no more than there were
    pub collected_few : length done < length xs
    collected_few =
        omega (
          arith,
          length-append done (decoded v ∷ others),
          ap (λ (l : List Constraint). length l) collected_next,
          remaining-few xs,
        )

    -- one more
    pub collected_more : Collected xs (done ++ decoded v ∷ []) (floor_after_lem v)
    collected_more = record {
      key = suc (v / per_key);
      left = ranks - suc (v / per_key);
      keys = omega (arith, collected_lt);
      floor_is = omega arith;
      rest = rw append_snoc collected_next;
    }
