-- The stage behind the horizon: all events are to come, and no event, signal, rule, reaction or label is defined.
-- Assumes nothing.
use mathlib.Core.List.{List}
use Prim.Native.Nat.{ℕ, suc, ◌≤◌}
use native.Mathlib.Omega.{arith}
use lib.ListN.{length}
use Rattle.network.specs.Limits as L
use Rattle.network.specs.Build.{empty}
use Rattle.network.proofs.Strategy.{reaction-empty}
use Rattle.line.specs.declared.Section.TheVariants.{Events}
use Rattle.sheet.specs.Stage.{whole, Stage}
use Rattle.sheet.proofs.Arrays.{arrays-empty}
use Rattle.sheet.proofs.LabelStage.{label-empty}

pub stage_empty : (sheet : List ℕ) (h at k : ℕ) → h ≤ L.horizon → at ≤ length sheet → k ≤ suc at
    → Stage sheet (whole Events) (empty h) at k
stage_empty sheet h at k b i l = record {
  forming = record {
    horizon = b;
    some_event = omega arith;
    events = omega arith;
    signals = omega arith;
    rules = omega arith;
    arrays = arrays-empty h;
    observed = λ p q. absurd (omega arith);
    one_signal = λ p q a c e. absurd (omega arith);
    proper = λ c q. absurd (omega arith);
    in_range_lem = λ p. omega (arith, reaction-empty h p);
    lettered = λ u. rw (label-empty h u) (record { positive = omega arith; negative = omega arith });
    labels = label-empty h;
  };
  named = record { inside = λ u q. absurd (omega arith); short = λ u q. absurd (omega arith) };
  inside = i;
  line = l;
}
