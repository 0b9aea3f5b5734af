-- Each rule's label may be asked, and all pass where the definition says so. Assumes nothing.
use mathlib.Core.Bool.{Bool}
use mathlib.Core.Path.{◌∙◌}
use native.Mathlib.Omega.{arith}
use borrow.Author.Rules.{rules}
use borrow.Author.Tests.{tests}
use Rattle.std.proofs.iter.Serving.{same}
use Rattle.std.proofs.lemmas.Iterator.{YieldsList-from_slice}
use Rattle.std.proofs.lemmas.Iterator.Search.{all_from_yields_List}
use lib.ListN.{take}
use Rattle.prelude.proofs.Chains.{all_in-front, item_in-front}
use Rattle.network.specs.Build.{no_constraint, constraint}
use Rattle.network.specs.WellFormed.{FewLetters}
use Rattle.network.specs.declared.Constraint.{Constraint}
use Rattle.line.specs.Labelling.{lacks_none_lem}
use Rattle.line.proofs.Labelling.{small_of}
use Rattle.line.proofs.whole.rules_include.Goals as goal

pub all-requires-clause-callable : goal.all-requires-clause-callable
all-requires-clause-callable c =
    let Γ = c.args.network.now in
    let read = c.requires.0 in
    record {
      at = λ xs t q x u given kept next.
          let few = item_in-front no_constraint (λ r. FewLetters r.label) Γ.rules Γ.constraints
          (omega (arith, read.rules, read.arrays.constraints))
          (λ k h. small_of Γ (constraint Γ k).label read (read.proper k h).label)
          c.iter.result c.iter.ensures.rest xs t u x given next in
          let here = same _ (λ p y r e. search rules) xs _ q kept in
          λ _ _ _ _ _ _ _ _. (rw here c.requires.1, rw here c.requires.2, few);
    }

pub returns : goal.returns
returns c =
    let Γ = c.args.network.now in
    let read = c.requires.0 in
    let f : Constraint → Bool = λ r. lacks_none_lem c.args.p c.args.needed r.label in
    all_from_yields_List f _ _ c.all.result c.all.ensures.ran
    (YieldsList-from_slice (take Γ.rules Γ.constraints) c.iter.ensures.rest)
    (λ x b q h. search (rules, tests))
    ∙ all_in-front no_constraint f Γ.rules Γ.constraints (omega (arith, read.rules, read.arrays.constraints))
