-- What is known of the network of an accepted sheet, in the words of the form: its event list and signal list are the
-- layout's, so they keep the layout's rules; a name tells its event; no label of an upper bound or of an event asks a
-- letter to be both true and false; and behind the last event there is no label. Assumes nothing.
use mathlib.Core.Path.{◌≡◌, sym, ◌∙◌, ap}
use mathlib.Core.Logic.{inl, inr}
use mathlib.Core.Bool.{true}
use mathlib.Core.List.{List, []}
use Prim.Native.Nat.{ℕ, ◌≤◌, ◌<◌}
use native.Mathlib.Omega.{arith}
use lib.ListN.{length, get_or, length-map, get_or-eq_default}
use Rattle.prelude.specs.Lists.{In, Distinct, Each}
use Rattle.prelude.proofs.Bounded.{length-tabulate, get_d_tabulate}
use Rattle.prelude.proofs.Lists.{test_of_distinct, tabulate-is}
use Rattle.prelude.proofs.Mapped.{get_d_map}
use Rattle.prelude.proofs.Tests.{clash, false_of_not-true, lt_or_ge}
use Rattle.network.specs.Build.{no_label, name_of_lem, observation, event_label, constraint, no_constraint}
use Rattle.network.specs.Scenario.{truth}
use Rattle.network.specs.WellFormed.{WellFormed}
use Rattle.network.specs.declared.Label.{Label}
use Rattle.network.specs.declared.Network.{Network}
use Rattle.network.proofs.Labels.{truth-none}
use Rattle.names.specs.Names.{is_name_lem, Literal, letters_of}
use Rattle.names.specs.Defined.{mask_of}
use Rattle.names.proofs.Apart.{Apart, mask-apart}
use Rattle.sheet.specs.Reading.{Accepts, network_of}
use Rattle.sheet.proofs.WellFormed.{accepted_well_formed}
use Rattle.layout.specs.Contents.{Signal, Contents, no_signal, no_rule, no_case, signal_letters, case_events}
use Rattle.layout.specs.Contents.{listed_cases}
use Rattle.layout.specs.Keeps.{KeepsLabel, Keeps}
use Rattle.layout.specs.Contains.{Contains}
use Rattle.layout.proofs.Finds.{letter_is, mask_is}
use Rattle.layout.proofs.KindWords.{defined-passes}
use Rattle.layout.proofs.Accepted.{accepted_iff, network-contains}
use Rattle.tighten.specs.Upper.{uppers_of}
use Rattle.tighten.proofs.Rules.{upper_of_either, uppers_of-each}
use Rattle.canonical.specs.House.{names_of, signal_at, signals_of}
use Rattle.canonical.proofs.Keyed.{LettersAre}

-- the network is that of the sheet, which keeps the layout's rules
pub record Faithful (sheet : List ℕ) (Γ : Network) : Type 0 where
  pub contents : Contents
  pub keeps : Keeps contents
  pub held : Contains sheet Γ contents
  pub formed : WellFormed Γ

pub faithful : (sheet : List ℕ) → Accepts sheet → Faithful sheet (network_of sheet)
faithful sheet a =
    let l = (accepted_iff sheet).0 a in
    record {
      contents = l.contents;
      keeps = l.keeps;
      held = network-contains sheet l;
      formed = (accepted_well_formed sheet a).0;
    }

module _ {sheet : List ℕ} {Γ : Network} {c : Contents} (h : Contains sheet Γ c) where
  pub names-held : names_of sheet Γ ≡ c.names
  names-held = tabulate-is (name_of_lem Γ sheet) [] Γ.events c.names h.events h.named

  signal-held : (p : ℕ) → p < length c.signals → signal_at sheet Γ p ≡ get_or c.signals p no_signal
  signal-held p l =
      let e = h.observed p l in
      let name : name_of_lem Γ sheet (observation Γ p) ≡ (get_or c.signals p no_signal).event =
      h.named (observation Γ p) e.defined ∙ e.name in
      λ i. record { letter = h.lettered p l i; event = name i }

  pub signals-held : signals_of sheet Γ ≡ c.signals
  signals-held = tabulate-is (signal_at sheet Γ) no_signal Γ.signals c.signals h.signals signal-held

-- among names that stand once, a name tells its place; behind the last there is none
pub name-tells : {ns : List (List ℕ)} → Each (λ n. is_name_lem n ≡ true) ns [] → Distinct ns [] → (u v : ℕ)
    → v < length ns
    → get_or ns u [] ≡ get_or ns v [] → u ≡ v
name-tells {ns} names once u v h e =
    elim (lt_or_ge u (length ns)) [
      | inl l ↦ once.once u v l h e
      | inr l ↦
          let none : get_or ns v [] ≡ [] = sym e ∙ get_or-eq_default ns [] {n = u} l in
          clash (is_name_lem (get_or ns v [])) (names.each v h) (ap is_name_lem none)
    ]

module _ {sheet : List ℕ} {Γ : Network} (t : Faithful sheet Γ) where
  -- an event is told by its name
  pub event-tells : (u v : ℕ) → v < Γ.events → get_or (names_of sheet Γ) u [] ≡ name_of_lem Γ sheet v → u ≡ v
  event-tells u v h e =
      let names : Each (λ n. is_name_lem n ≡ true) (names_of sheet Γ) [] = rw (names-held t.held) t.keeps.names in
      let once : Distinct (names_of sheet Γ) [] = rw (names-held t.held) t.keeps.names_once in
      let all = length-tabulate (name_of_lem Γ sheet) Γ.events in
      name-tells names once u v (omega arith) (e ∙ sym (get_d_tabulate (name_of_lem Γ sheet) Γ.events v [] h))

  abbrev xs : List Signal
  xs = t.contents.signals

  pub letters-held : LettersAre Γ (length (signals_of sheet Γ)) (signal_letters (signals_of sheet Γ))
  letters-held =
      rw (signals-held t.held) (record {
        count = t.held.signals;
        sized = length-map xs (λ x. x.letter);
        few = t.keeps.few_signals;
        are = letter_is t.held;
        once = t.keeps.letters_once;
      })

  -- a label is read from distinct letters
  letters-apart : (ls : List Literal) → KeepsLabel (signal_letters xs) ls
      → Apart (mask_of (length xs) (signal_letters xs) ls)
  letters-apart ls keeps =
      rw (← mask_is t.held ls) (mask-apart Γ.signals Γ.letters ls t.formed.signals
      (defined-passes t.held (letters_of ls) keeps.known)
      (test_of_distinct (letters_of ls) keeps.once))

  label-apart : (i : ℕ) → i < Γ.rules → Apart (constraint Γ i).label
  label-apart i h =
      let l : i < length t.contents.rules = omega (arith, t.held.rules) in
      rw (t.held.means i l).label
      (letters-apart (get_or t.contents.rules i no_rule).label (t.keeps.rules.each i l).label)

  pub uppers-apart : Each (λ r. Apart r.label) (uppers_of Γ) no_constraint
  uppers-apart =
      uppers_of-each Γ (λ r. Apart r.label) (λ i h.
      upper_of_either (λ r. Apart r.label) (constraint Γ i) (label-apart i h) (label-apart i h))

  -- what is said of a line holds of the label of an event that has it; where there is none, the label is `-`
  abbrev Lined : ℕ → Type 0
  Lined u = In (get_or t.contents.names u []) (case_events (listed_cases t.contents)) []

  lined_apart : (u : ℕ) → Lined u → Apart (event_label Γ u)
  lined_apart u i =
      let ks = listed_cases t.contents in
      let h : i.place < length ks = omega (arith, i.place_lt, length-map ks (λ k. k.event)) in
      let name = sym i.is ∙ get_d_map (λ k. k.event) no_case [] ks i.place h in
      rw (t.held.labelled u i.place h name)
      (letters-apart (get_or ks i.place no_case).label (t.keeps.cases.each i.place h).label)

  pub event-apart : (u : ℕ) → Apart (event_label Γ u)
  event-apart u = record {
    apart = λ p h e.
        false_of_not-true (truth (event_label Γ u).negative p) (λ n.
        let none = t.held.unlabelled u (λ i. clash _ n ((lined_apart u i).apart p h e)) in
        truth-none p (ap (λ (ℓ : Label). truth ℓ.negative p) (sym none) ∙ n));
  }

  pub none-behind : (u : ℕ) → Γ.events ≤ u → event_label Γ u ≡ no_label
  none-behind u l =
      t.held.unlabelled u (λ i.
      let ks = listed_cases t.contents in
      let h : i.place < length ks = omega (arith, i.place_lt, length-map ks (λ k. k.event)) in
      let event = (t.keeps.cases.each i.place h).event in
      let same = name-tells t.keeps.names t.keeps.names_once u event.place event.place_lt
      (sym i.is ∙ get_d_map (λ k. k.event) no_case [] ks i.place h ∙ sym event.is) in
      omega (arith, event.place_lt, t.held.events))
