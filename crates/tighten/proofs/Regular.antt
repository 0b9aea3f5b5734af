-- Upper bounds that have a number: the number tells them, its order among those of one key is that of the limits, and
-- the upper bounds of every network that was read are such. The parts of a key are digits in base 16, and a biased
-- limit is a digit in base 32,768. Assumes nothing.
use mathlib.Core.Path.{◌≡◌, refl, sym, ◌∙◌, ap}
use Prim.Native.Nat.{◌/◌, ◌%◌, ◌≤◌, ◌<◌}
use native.Mathlib.Omega.{arith}
use lib.Pow.{pow_mono}
use Rattle.prelude.specs.Lists.{Each}
use Rattle.network.specs.Build.{no_constraint, constraint}
use Rattle.network.specs.WellFormed.{Proper, WellFormed}
use Rattle.network.specs.Biased.{biased, unbiased}
use Rattle.network.proofs.Signed.{neg_limit, biased-few, unbiased-biased}
use Rattle.network.specs.declared.Kind.TheVariants.{Max}
use Rattle.network.specs.declared.Constraint.{Constraint}
use Rattle.network.specs.declared.Network.{Network}
use Rattle.tighten.specs.Upper.{upper_of, uppers_of}
use Rattle.tighten.specs.Tightest.{rank, ranks}
use Rattle.tighten.specs.Encoding.{per_key, encoded, decoded, Encodable, top}
use Rattle.tighten.proofs.Rules.{upper_of_either, uppers_of-each}

pub record Regular (r : Constraint) : Type 0 where
  pub kind : r.kind ≡ Max
  pub encodable : Encodable r.from r.to r.bound r.label

-- constraints that are equal part by part are equal
same-upper : {x y : Constraint} → x.kind ≡ y.kind → x.from ≡ y.from → x.to ≡ y.to → x.bound ≡ y.bound
    → x.label.positive ≡ y.label.positive → x.label.negative ≡ y.label.negative → x ≡ y
same-upper k f t b p n = λ i. record {
  kind = k i;
  from = f i;
  to = t i;
  bound = b i;
  label = record { positive = p i; negative = n i };
}

module _ {r : Constraint} (h : Regular r) where
  few : biased r.bound ≤ 20160
  few = biased-few r.bound h.encodable.bound

  pub rank_lt : rank r < ranks
  rank_lt = let d = h.encodable in omega (arith, d.from_few, d.to_few, d.positive_few, d.negative_few)

  pub encoded_lt : encoded r < top
  encoded_lt = omega (arith, rank_lt, few)

  pub rank-encoded : encoded r / per_key ≡ rank r
  rank-encoded = omega (arith, few)

  from_is : encoded r / 134217728 ≡ r.from
  from_is = let d = h.encodable in omega (arith, few, d.to_few, d.positive_few, d.negative_few)

  to_is : encoded r / 8388608 % 16 ≡ r.to
  to_is = let d = h.encodable in omega (arith, few, d.to_few, d.positive_few, d.negative_few)

  positive-is : encoded r / 524288 % 16 ≡ r.label.positive
  positive-is = let d = h.encodable in omega (arith, few, d.positive_few, d.negative_few)

  negative-is : encoded r / per_key % 16 ≡ r.label.negative
  negative-is = let d = h.encodable in omega (arith, few, d.negative_few)

  bound-is : unbiased (encoded r % per_key) ≡ r.bound
  bound-is =
      let e : encoded r % per_key ≡ biased r.bound = omega (arith, few) in
      ap unbiased e ∙ unbiased-biased r.bound h.encodable.bound

  pub decoded-encoded : decoded (encoded r) ≡ r
  decoded-encoded = same-upper (sym h.kind) from_is to_is bound-is positive-is negative-is

-- an upper bound is told by its key and its limit
pub upper_unique : {x y : Constraint} → Regular x → Regular y → rank x ≡ rank y → x.bound ≡ y.bound → x ≡ y
upper_unique {x} {y} h l k b =
    let e : encoded x ≡ encoded y = omega (arith, k, ap biased b) in
    sym (decoded-encoded h) ∙ ap decoded e ∙ decoded-encoded l

-- those of a network that was read
module _ (Γ : Network) (w : WellFormed Γ) where
  module _ (c : Constraint) (h : Proper Γ c) where
    upper-proper : Proper Γ (upper_of c)
    upper-proper =
        upper_of_either (Proper Γ) c
        (record { from = h.from; to = h.to; bound = h.bound; label = h.label })
        (record { from = h.to; to = h.from; bound = neg_limit c.bound h.bound; label = h.label })

    proper_encodable : Encodable c.from c.to c.bound c.label
    proper_encodable =
        let few = pow_mono {i = Γ.signals} {j = 4} w.signals in
        record {
          from_few = omega (arith, h.from, w.events);
          to_few = omega (arith, h.to, w.events);
          positive_few = omega (arith, h.label.positive);
          negative_few = omega (arith, h.label.negative);
          bound = h.bound;
        }

  pub upper_regular : (c : Constraint) → Proper Γ c → Regular (upper_of c)
  upper_regular c h = record {
    kind = upper_of_either (λ r. r.kind ≡ Max) c refl refl;
    encodable = proper_encodable (upper_of c) (upper-proper c h);
  }

  pub uppers-proper : Each (Proper Γ) (uppers_of Γ) no_constraint
  uppers-proper = uppers_of-each Γ (Proper Γ) (λ i l. upper-proper (constraint Γ i) (w.proper i l))

  pub uppers_regular : Each Regular (uppers_of Γ) no_constraint
  uppers_regular = uppers_of-each Γ Regular (λ i l. upper_regular (constraint Γ i) (w.proper i l))
