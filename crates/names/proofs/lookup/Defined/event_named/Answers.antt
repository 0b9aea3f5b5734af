-- The chain compares each name. Assumes nothing.
use mathlib.Core.Bool.{Bool}
use mathlib.Core.Path.{◌≡◌, refl, ◌∙◌}
use Prim.Native.Nat.{ℕ}
use native.Mathlib.Omega.{arith}
use borrow.Author.Rules.{rules}
use borrow.Author.Tests.{tests}
use lib.ListN.{get_or, take, drop}
use mathlib.Core.List.{List}
use Rattle.std.specs.Prelude.{nat_eq}
use Rattle.std.specs.Cmp.Lexicographic.{pointwise}
use Rattle.std.proofs.lemmas.Iterator.{YieldsList-from_range}
use Rattle.std.proofs.lemmas.Iterator.Search.{find_from_yields_List}
use Rattle.prelude.specs.Bytes.{same}
use Rattle.prelude.proofs.Bytes.{equal_is}
use Rattle.prelude.proofs.Finds.{find-answers}
use Rattle.names.proofs.lookup.Defined.event_named.Goals as goal

pub returns : goal.returns
returns c =
    let self = c.args.self.now in
    let Γ = self.network.now in
    let name : ℕ → List ℕ = λ u. take (get_or Γ.lengths u 0) (drop (get_or Γ.starts u 0) self.sheet.now) in
    let f : ℕ → Bool = λ u. same (name u) c.args.f.now in
    find-answers f Γ.events c.find.result
    (find_from_yields_List f _ _ c.find.result c.find.ensures.ran
    (YieldsList-from_range 0 Γ.events Γ.events refl (omega arith))
    (λ x b q h.
    let told : (q ≡ _) × (b ≡ pointwise nat_eq (name x) c.args.f.now) = search (rules, tests) in
    (told.0, told.1 ∙ equal_is (name x) c.args.f.now)))
