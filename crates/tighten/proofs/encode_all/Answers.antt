use mathlib.Core.Path.{◌≡◌, sym, ◌∙◌, ap}
use mathlib.Core.List.{List, [], ◌∷◌, ◌++◌, map}
use native.Mathlib.Numerals.{add-one}
use native.Mathlib.Omega.{arith}
use Prim.Native.Nat.{ℕ, ◌+◌, ◌<◌}
use lib.ListN.{length, length-map}
use Rattle.std.proofs.lemmas.List.{get_or-take, length-take, map-append}
use Rattle.prelude.specs.Bounded.{tabulate}
use Rattle.prelude.proofs.Bounded.{length-tabulate, tabulate-more}
use Rattle.network.specs.Build.{no_constraint, constraint}
use Rattle.network.specs.declared.Constraint.{Constraint}
use Rattle.tighten.specs.Upper.{upper_of}
use Rattle.tighten.specs.Encoding.{encoded}
use Rattle.tighten.proofs.Regular.{upper_regular}
use Rattle.tighten.proofs.encode_all.Goals as goal

one-more : (at : ℕ → Constraint) (i : ℕ)
    → map encoded (tabulate i at) ++ encoded (at i) ∷ [] ≡ map encoded (tabulate (i + 1) at)
one-more at i =
    rw (add-one i)
    (sym (ap (map encoded) (tabulate-more at i) ∙ map-append encoded (tabulate i at) (at i ∷ [])))

pub encode-requires : goal.encode-requires
encode-requires c =
    let formed = c.args.formed.now in
    let Γ = formed.network in
    let i = c.loop-rule.rule-index in
    let within : i < Γ.rules = omega (arith, length-take Γ.rules Γ.constraints, c.loop-rule-test.true) in
    rw (c.upper_of.ensures, get_or-take Γ.rules Γ.constraints i no_constraint within)
    (upper_regular Γ formed.well_formed (constraint Γ i) (formed.well_formed.proper i within)).encodable

pub push-requires : goal.push-requires
push-requires c =
    let formed = c.args.formed.now in
    let Γ = formed.network in
    let i = c.loop-rule.rule-index in
    let at : ℕ → Constraint = λ i. upper_of (constraint Γ i) in (
      omega arith,
      omega (
        arith,
        ap (λ (l : List ℕ). length l) c.loop-rule.invariant,
        length-map (tabulate i at) encoded,
        length-tabulate at i,
        length-take Γ.rules Γ.constraints,
        c.loop-rule-test.true,
        formed.well_formed.rules,
      ),
    )

pub loop-rule-preserved : goal.loop-rule-preserved
loop-rule-preserved c =
    let Γ = c.args.formed.now.network in
    let i = c.loop-rule.rule-index in
    let within : i < Γ.rules = omega (arith, length-take Γ.rules Γ.constraints, c.loop-rule-test.true) in
    rw (
      c.push.ensures,
      c.encode.ensures,
      c.upper_of.ensures,
      c.loop-rule.invariant,
      get_or-take Γ.rules Γ.constraints i no_constraint within,
    )
    (one-more (λ i. upper_of (constraint Γ i)) i)
