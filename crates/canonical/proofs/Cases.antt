-- What the form says of events' labels keeps the layout's rules: an event has its name, a label letters of signals,
-- each once; no event is listed twice, and the start has no label. Assumes nothing.
use mathlib.Core.Path.{◌≡◌, sym, ◌∙◌, ap}
use mathlib.Core.List.{List, [], map}
use Prim.Native.Nat.{ℕ, ◌<◌}
use native.Mathlib.Omega.{arith}
use lib.ListN.{length, get_or, length-map}
use Rattle.prelude.specs.Lists.{In, Distinct, Each}
use Rattle.prelude.proofs.Bounded.{length-tabulate, get_d_tabulate}
use Rattle.prelude.proofs.Lists.{each_mono}
use Rattle.prelude.proofs.Mapped.{get_d_map, each_map}
use Rattle.prelude.proofs.Tests.{clash}
use Rattle.network.specs.Build.{name_of_lem, event_label}
use Rattle.network.specs.declared.Label.{Label}
use Rattle.network.specs.declared.Network.{Network}
use Rattle.line.specs.Labelling.{is_none_lem}
use Rattle.line.proofs.Labelling.{is_none_iff}
use Rattle.layout.specs.Contents.{Case, no_case, signal_letters, case_events}
use Rattle.layout.specs.Keeps.{KeepsLabel, KeepsCase}
use Rattle.canonical.specs.Listed.{labelled_of}
use Rattle.canonical.specs.House.{literals_of, names_of, signals_of, as_case}
use Rattle.canonical.proofs.Signs.{letters-known, letters_once}
use Rattle.canonical.proofs.Labelled.{IsLabelled, each-labelled, labelled-once}
use Rattle.canonical.proofs.Faithful.{Faithful, letters-held, event-tells}

module _ {sheet : List ℕ} {Γ : Network} (t : Faithful sheet Γ) where
  pub name_in : (u : ℕ) → u < Γ.events → In (name_of_lem Γ sheet u) (names_of sheet Γ) []
  name_in u h = record {
    place = u;
    place_lt = omega (arith, length-tabulate (name_of_lem Γ sheet) Γ.events);
    is = get_d_tabulate (name_of_lem Γ sheet) Γ.events u [] h;
  }

  abbrev pub letters : List ℕ
  letters = signal_letters (signals_of sheet Γ)

  pub label-keeps : (ℓ : Label) → KeepsLabel letters (literals_of Γ ℓ)
  label-keeps ℓ =
      let k = length (signals_of sheet Γ) in
      record {
        known = letters-known Γ ℓ k letters (letters-held t);
        once = letters_once Γ ℓ k letters (letters-held t);
      }

  -- the lines of events with a label
  abbrev pub cases : List Case
  cases = map (as_case sheet Γ) (labelled_of Γ)

  pub each_case : (P : Case → Type 0) → ((u : ℕ) → IsLabelled Γ u → P (as_case sheet Γ u)) → Each P cases no_case
  each_case P f = each_map (as_case sheet Γ) P 0 no_case (labelled_of Γ) (each_mono f (each-labelled Γ))

  pub cases-keep : Each (KeepsCase (names_of sheet Γ) letters) cases no_case
  cases-keep =
      each_case (KeepsCase (names_of sheet Γ) letters)
      (λ u w. record { event = name_in u w.event; label = label-keeps (event_label Γ u) })

  -- the event of a line
  pub case_event : (i : ℕ) → i < length (labelled_of Γ)
      → get_or (case_events cases) i [] ≡ name_of_lem Γ sheet (get_or (labelled_of Γ) i 0)
  case_event i h =
      let l : i < length cases = omega (arith, length-map (labelled_of Γ) (as_case sheet Γ)) in
      get_d_map (λ k. k.event) no_case [] cases i l
      ∙ ap (λ (k : Case). k.event) (get_d_map (as_case sheet Γ) 0 no_case (labelled_of Γ) i h)

  pub cases_once : Distinct (case_events cases) []
  cases_once = record {
    once = λ i j h l e.
        let us = labelled_of Γ in
        let few = length-map cases (λ k. k.event) in
        let all = length-map us (as_case sheet Γ) in
        let a : i < length us = omega arith in
        let b : j < length us = omega arith in
        let v = ((each-labelled Γ).each i a).event in
        let w = ((each-labelled Γ).each j b).event in
        (labelled-once Γ).once i j a b
        (event-tells t (get_or us i 0) (get_or us j 0) w
        (get_d_tabulate (name_of_lem Γ sheet) Γ.events (get_or us i 0) [] v ∙ sym (case_event i a) ∙ e
        ∙ case_event j b));
  }

  -- no 20
  pub start_plain : (u : ℕ) → IsLabelled Γ u → name_of_lem Γ sheet u ≡ get_or (names_of sheet Γ) 0 []
      → literals_of Γ (event_label Γ u) ≡ []
  start_plain u w e =
      let start = event-tells t 0 u w.event (sym e) in
      clash (is_none_lem (event_label Γ u))
      ((is_none_iff (event_label Γ u)).1 (ap (event_label Γ) (sym start) ∙ t.formed.labels.start)) w.labelled
