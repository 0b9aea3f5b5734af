-- `of` meets its contract: each record is added as the definition adds it. Assumes nothing.
use mathlib.Core.Path.{◌≡◌, refl, ◌∙◌, ap}
use mathlib.Core.List.{List, [], ◌∷◌}
use borrow.Author.Rules.{rules}
use borrow.Author.Tests.{tests}
use Rattle.std.specs.List.{fold}
use Rattle.std.proofs.lemmas.Iterator.{YieldsList-from_slice}
use Rattle.std.proofs.lemmas.Iterator.Consumers.{fold_from_yields_List}
use Rattle.dispatch.specs.Said.{with_heard, said_from}
use Rattle.dispatch.specs.declared.Heard.{Heard}
use Rattle.dispatch.specs.declared.Said.{Said}
use Rattle.dispatch.proofs.Said.of.Goals as goal

-- one record more, of the code's masks
abbrev adding : Said → Heard → Said
adding said heard = record { mask = with_heard said.mask heard }

added-all : (said : Said) (hs : List Heard) → (fold adding said hs).mask ≡ said_from said.mask hs
added-all said [] = refl
added-all said (h ∷ hs) = added-all (adding said h) hs

pub returns : goal.returns
returns c =
    let hs = c.args.heard.now in
    let none : Said = record { mask = 0 } in
    ap (λ (said : Said). said.mask) (fold_from_yields_List _ adding none c.fold.result c.fold.ensures.ran
    (YieldsList-from_slice hs cc)
    (λ a x b q h. search (rules, tests)))
    ∙ added-all none hs
