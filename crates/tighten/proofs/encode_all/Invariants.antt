-- Each turn lists the number of one rule's upper bound. The invariant: those of the rules so far are listed. Assumes
-- nothing.
use mathlib.Core.Path.{◌≡◌}
use mathlib.Core.List.{map}
use Rattle.counted.specs.Values.{values}
use Rattle.prelude.specs.Bounded.{tabulate}
use Rattle.network.specs.Build.{constraint}
use Rattle.tighten.specs.Upper.{upper_of}
use Rattle.tighten.specs.Encoding.{encoded}
use Rattle.tighten.proofs.encode_all.Given as goal

abbrev pub invariant-loop-rule : goal.invariant-loop-rule
invariant-loop-rule l =
    values l.encodings ≡ map encoded (tabulate l.rule-index (λ i. upper_of (constraint l.formed.network i)))
