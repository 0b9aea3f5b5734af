-- A line of the signals: it is passed exactly where it is a letter that has not been given and an event that gives
-- none yet. Assumes nothing.
use mathlib.Core.Path.{◌≡◌, refl, ◌∙◌, ap}
use mathlib.Core.Bool.{Bool, true, ◌||◌, not}
use mathlib.Core.Option.{none}
use mathlib.Core.List.{List, [], ◌∷◌, ◌++◌}
use Prim.Native.Nat.{ℕ, ◌<◌}
use borrow.Author.Tests.{eqb-true, not-true}
use lib.ListN.{length, get_or}
use Rattle.prelude.specs.Checks.{first_failing_lem}
use Rattle.prelude.proofs.Checks.{◌&◌, hold, none_fails}
use Rattle.prelude.specs.Search.{answers}
use Rattle.prelude.proofs.Tests.{clash, false_of_not-true, and-true, and_both, or-false, or_neither}
use Rattle.text.specs.Lines.{field, plain}
use Rattle.network.specs.Limits as L
use Rattle.network.specs.declared.Network.{Network}
use Rattle.names.specs.Names.{is_name_lem, is_letter_lem, is_one_letter_lem}
use Rattle.names.specs.Defined.{place_of}
use Rattle.line.specs.Tests.{event_of, is_observation, signal_tests}
use Rattle.line.specs.Sections.{with_line}
use Rattle.line.specs.declared.Section.TheVariants.{Signals}
use Rattle.prelude.specs.Lists.{In}
use Rattle.layout.specs.Contents.{Signal, signal_events}
use Rattle.prelude.proofs.Lists.{all_of, each_in}
use Rattle.layout.proofs.Plain.{plain-name, plain-letter, one_letter}
use Rattle.layout.proofs.Kept.{KeptSignals, NewSignal, may_signal}
use Rattle.layout.proofs.Extends.{contents}
use Rattle.layout.proofs.Stands.{Stands, signal-added}
use Rattle.layout.proofs.Finds.{
  event_in,
  event-found,
  event-named,
  letter_in,
  letter-answers,
  observed_in,
  observed_test,
}
use Rattle.layout.proofs.Entries.{Understood}

module _ (sheet : List ℕ) (h : ℕ) (names : List (List ℕ)) where
  module _ {Γ : Network} {xs : List Signal} (c : Stands sheet Γ (contents h names xs [])) where
    abbrev known : ℕ → Bool
    known b = answers (place_of Γ.signals Γ.letters b)

    abbrev given : List ℕ → Bool
    given f = is_observation Γ (event_of sheet Γ f)

    -- whether the event of that name gives a signal
    given_in : (f : List ℕ) → In f names [] → given f ≡ true → In f (signal_events xs) []
    given_in f i e =
        let w = event-found c.holds f i in
        let p = event-named c.holds f w.0 w.1 in
        rw p.name at (observed_in c.holds w.0 (rw w.1 at e))

    given_test : (f : List ℕ) → In f names [] → In f (signal_events xs) [] → given f ≡ true
    given_test f i e =
        let w = event-found c.holds f i in
        let p = event-named c.holds f w.0 w.1 in
        rw w.1 (observed_test c.holds w.0 c.names.once p.defined (rw p.name e))

    signal-read : (fs : List (List ℕ)) → first_failing_lem (signal_tests sheet Γ fs) ≡ none
        → (x : Signal) × (fs ≡ (x.letter ∷ []) ∷ x.event ∷ []) × NewSignal names xs x
    unfolding signal_tests
    signal-read fs e =
        let t = hold (signal_tests sheet Γ fs) e in
        let b = get_or (field 0 fs) 0 0 in
        let f = field 1 fs in
        let l = and-true (is_one_letter_lem (field 0 fs)) (is_name_lem f) t.1.0 in
        let o = one_letter (field 0 fs) l.0 in
        let d = or-false (known b) (given f) (not-true (known b || given f) t.1.1.0) in
        let i = event_in c.holds f t.1.1.1.0 in (
          record { letter = b; event = f },
          all_of [] 2 fs (eqb-true (length fs) 2 t.0) ∙ ap (λ (g : List ℕ). g ∷ f ∷ []) o.0,
          record {
            keeps = record { letter = o.1; event = i };
            new_letter = λ w. clash (known b) (letter-answers c.holds b w) d.0;
            new_event = λ w. clash (given f) (given_test f i w) d.1;
          },
        )

    signal-passes : (x : Signal) → NewSignal names xs x
        → first_failing_lem (signal_tests sheet Γ ((x.letter ∷ []) ∷ x.event ∷ [])) ≡ none
    unfolding signal_tests
    signal-passes x m =
        let b = x.letter in
        let f = x.event in
        let i = m.keeps.event in
        let unknown = false_of_not-true (known b) (λ e. m.new_letter (letter_in c.holds b e)) in
        let free = false_of_not-true (given f) (λ e. m.new_event (given_in f i e)) in
        none_fails (signal_tests sheet Γ ((b ∷ []) ∷ f ∷ []))
        (refl
        & and_both (is_letter_lem b) (is_name_lem f) m.keeps.letter (each_in (λ n. is_name_lem n ≡ true) c.names.each i)
        & ap not (or_neither (known b) (given f) unknown free)
        & ap answers (event-found c.holds f i).1
        & tt)

    signal-adds : (x : Signal) → NewSignal names xs x → length xs < L.signals → (at : ℕ)
        → Stands sheet (with_line sheet Signals Γ at ((x.letter ∷ []) ∷ x.event ∷ []))
        (contents h names (xs ++ x ∷ []) [])
    signal-adds x m few at =
        let w = event-found c.holds x.event m.keeps.event in
        rw w.1
        (signal-added c x w.0 m few (event-named c.holds x.event w.0 w.1))

  pub signals-understood :
      Understood sheet Signals (λ x. x.letter ∷ []) (λ x. x.event ∷ [])
      (λ m Γ xs. Stands sheet Γ (contents h names xs [])) (KeptSignals names) (λ m. NewSignal names)
  signals-understood = record {
    may = may_signal names;
    reads = λ m c fs e. signal-read c fs e;
    passes = λ j c x m. signal-passes c x m;
    plain = λ c x m.
        and_both (plain x.letter) true (plain-letter x.letter m.keeps.letter) refl
        & plain-name x.event (each_in (λ n. is_name_lem n ≡ true) c.names.each m.keeps.event)
        & tt;
    adds = λ i j c x m few at rest e. signal-adds c x m few at;
  }
