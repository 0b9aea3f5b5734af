-- Each byte is asked with what stands behind it. Assumes nothing.
use mathlib.Core.Path.{◌≡◌, ◌∙◌, sym, ap}
use mathlib.Core.Bool.{Bool, ◌||◌, not}
use Prim.Native.Nat.{◌+◌, ◌-◌}
use native.Mathlib.Omega.{arith}
use borrow.Author.Rules.{rules}
use borrow.Author.Tests.{tests}
use lib.Dec.{eqb}
use lib.ListN.{length, take, drop}
use Rattle.std.specs.List.{list_any}
use Rattle.std.proofs.lemmas.Iterator.{YieldsList-from_slice}
use Rattle.std.proofs.lemmas.Iterator.Consumers.{YieldsList-from_enumerate}
use Rattle.std.proofs.lemmas.Iterator.Search.{all_from_yields_List}
use Rattle.prelude.proofs.Bytes.{contains_is}
use Rattle.text.proofs.Lines.{take-drop}
use Rattle.names.proofs.Tokens.{once, distinct-each}
use Rattle.names.proofs.label.is_distinct.Goals as goal

pub returns : goal.returns
returns c =
    let t = c.args.t.now in
    all_from_yields_List (once t) _ _ c.all.result c.all.ensures.ran
    (YieldsList-from_enumerate (YieldsList-from_slice t (cc)) (cc))
    (λ x b q h.
    let told : (q ≡ _)
    × (b ≡ eqb x.1.now 33
    || not (list_any (λ y. eqb y x.1.now) (take (length t - (x.0 + 1)) (drop (x.0 + 1) t)))) =
    search (rules, tests) in (
      told.0,
      told.1 ∙ ap (λ (z : Bool). eqb x.1.now 33 || not z)
          (ap (list_any (λ y. eqb y x.1.now)) (take-drop t (x.0 + 1)) ∙ contains_is x.1.now (drop (x.0 + 1) t)),
    ))
    ∙ sym (distinct-each t (length t) 0 (omega arith))
