-- A line of the events: it is passed exactly where it is a name that has not been given. Assumes nothing.
use mathlib.Core.Path.{◌≡◌, refl, ◌∙◌, ap}
use mathlib.Core.Bool.{not}
use mathlib.Core.Option.{none}
use mathlib.Core.List.{List, [], ◌∷◌, ◌++◌, append_assoc}
use Prim.Native.Nat.{ℕ, ◌<◌}
use borrow.Author.Tests.{eqb-true, not-true}
use lib.ListN.{length, take, drop}
use lib.Seq.{take-append_seam}
use Rattle.prelude.specs.Checks.{first_failing_lem}
use Rattle.prelude.proofs.Checks.{◌&◌, hold, none_fails}
use Rattle.prelude.specs.Search.{answers}
use Rattle.prelude.proofs.Tests.{clash, false_of_not-true}
use Rattle.text.specs.Lines.{line_feed, field, line}
use Rattle.network.specs.Limits as L
use Rattle.network.specs.declared.Network.{Network}
use Rattle.line.specs.Tests.{event_of, event_tests}
use Rattle.line.specs.Sections.{with_line}
use Rattle.line.specs.declared.Section.TheVariants.{Events}
use Rattle.prelude.proofs.Lists.{all_of}
use Rattle.layout.proofs.Plain.{plain-name}
use Rattle.layout.proofs.Kept.{KeptNames, NewName, may_name}
use Rattle.layout.proofs.Extends.{contents}
use Rattle.layout.proofs.Stands.{Stands, event-added}
use Rattle.layout.proofs.Finds.{event_in, event-answers}
use Rattle.layout.proofs.Entries.{Understood}

module _ (sheet : List ℕ) (h : ℕ) where
  module _ {Γ : Network} {ns : List (List ℕ)} (c : Stands sheet Γ (contents h ns [] [])) where
    name-read : (fs : List (List ℕ)) → first_failing_lem (event_tests sheet Γ fs) ≡ none → (n : List ℕ) × (fs ≡ n ∷ [])
        × NewName ns n
    unfolding event_tests
    name-read fs e =
        let t = hold (event_tests sheet Γ fs) e in
        let unknown = not-true (answers (event_of sheet Γ (field 0 fs))) t.1.1.0 in (
          field 0 fs,
          all_of [] 1 fs (eqb-true (length fs) 1 t.0),
          record {
            is = t.1.0;
            new = λ w. clash (answers (event_of sheet Γ (field 0 fs))) (event-answers c.holds (field 0 fs) w) unknown;
          },
        )

    name-passes : (n : List ℕ) → NewName ns n → first_failing_lem (event_tests sheet Γ (n ∷ [])) ≡ none
    unfolding event_tests
    name-passes n m =
        let unknown = false_of_not-true (answers (event_of sheet Γ n)) (λ e. m.new (event_in c.holds n e)) in
        none_fails (event_tests sheet Γ (n ∷ [])) (refl & m.is & ap not unknown & tt)

    name-adds : (n : List ℕ) → NewName ns n → length ns < L.events → (at : ℕ) (rest : List ℕ) → drop at sheet
        ≡ line n [] ++ rest
        → Stands sheet (with_line sheet Events Γ at (n ∷ [])) (contents h (ns ++ n ∷ []) [] [])
    name-adds n m few at rest e =
        let part = ap (take (length n)) (e ∙ append_assoc n (line_feed ∷ []) rest)
        ∙ take-append_seam n (line_feed ∷ rest) in
        event-added c n at m few part

  pub events-understood :
      Understood sheet Events (λ n. n) (λ n. [])
      (λ m Γ ns. Stands sheet Γ (contents h ns [] [])) KeptNames (λ m. NewName)
  events-understood = record {
    may = may_name;
    reads = λ m c fs e. name-read c fs e;
    passes = λ j c n m. name-passes c n m;
    plain = λ c n m. plain-name n m.is & tt;
    adds = λ i j c n m few at rest e. name-adds c n m few at rest e;
  }
