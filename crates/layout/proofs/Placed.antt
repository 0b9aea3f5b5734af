-- One event's label more holds one line more of the section of cases, and its event is marked. Assumes nothing.
use mathlib.Core.Path.{◌≡◌, sym, ◌∙◌, ap}
use mathlib.Core.Logic.{inl, inr}
use mathlib.Core.Bool.{true, false}
use mathlib.Core.Option.{Option, some}
use mathlib.Core.List.{List, [], ◌∷◌, ◌++◌, map-append}
use Prim.Native.Nat.{ℕ, ◌<◌}
use lib.ListN.{length, get_or, get_or-eq_default}
use lib.Seq.{get_or-set_same, get_or-set_other}
use Rattle.prelude.specs.Lists.{In, Distinct}
use Rattle.prelude.proofs.Lists.{by_place}
use Rattle.prelude.proofs.Parts.{in_before, in_last}
use Rattle.prelude.proofs.Tests.{clash, lt_or_ge, eq_or_ne}
use Rattle.network.specs.Build.{no_label, with_label, event_label, is_labelled}
use Rattle.network.specs.declared.Label.{Label}
use Rattle.network.specs.declared.Network.{Network}
use Rattle.names.specs.Names.{is_name_lem}
use Rattle.names.specs.Defined.{mask_of}
use Rattle.layout.specs.Contents.{Signal, Rule, Reaction, Case, no_case, signal_letters, case_events}
use Rattle.layout.specs.Contains.{Bears, Contains}
use Rattle.layout.proofs.Keyed.{said_with, unsaid_with}
use Rattle.layout.proofs.Extends.{contents_of}

-- one label more, of the event u, whose name has no line yet
module _ {sheet : List ℕ} {Γ : Network} {h : ℕ} {ns : List (List ℕ)} {xs : List Signal} {rs : List Rule}
    {o : Option (List Reaction)} {ks : List Case} (c : Contains sheet Γ (contents_of h ns xs rs o (some ks)))
    (k : Case) (u : ℕ) (its : Bears ns u k.event) (name : is_name_lem k.event ≡ true) (once : Distinct ns [])
    (new : In k.event (case_events ks) [] → ⊥) where
  abbrev mask : List ℕ → Case → Label
  mask bs j = mask_of (length xs) bs j.label

  abbrev grown : Network
  grown = with_label Γ u (mask (signal_letters xs) k)

  -- no other event has the name
  same-event : (v : ℕ) → get_or ns v [] ≡ k.event → v ≡ u
  same-event v e =
      elim (lt_or_ge v (length ns)) [
        | inl l ↦ once.once v u l its.defined (e ∙ sym its.name)
        | inr l ↦
            let none : k.event ≡ [] = sym e ∙ get_or-eq_default ns [] {n = v} l in
            clash (is_name_lem k.event) name (ap is_name_lem none)
      ]

  names : (v : ℕ) → v ≡ u → get_or ns v [] ≡ k.event
  names v s = rw s its.name

  -- what stands in the longer list
  events-are : case_events (ks ++ k ∷ []) ≡ case_events ks ++ k.event ∷ []
  events-are = map-append (λ (j : Case). j.event) ks (k ∷ [])

  last_in : In (get_or ns u []) (case_events (ks ++ k ∷ [])) []
  last_in = rw (events-are, its.name) (in_last [] (case_events ks) k.event)

  earlier_in : (v : ℕ) → In (get_or ns v []) (case_events ks) [] → In (get_or ns v []) (case_events (ks ++ k ∷ [])) []
  earlier_in v i = rw events-are (in_before [] (case_events ks) (k.event ∷ []) i)

  module _ (room : u < length Γ.labels) where
    other : (v : ℕ) → (v ≡ u → ⊥) → event_label grown v ≡ event_label Γ v
    other v n = get_or-set_other Γ.labels u v (mask (signal_letters xs) k) no_label n

    pub case_contains : Contains sheet grown (contents_of h ns xs rs o (some (ks ++ k ∷ [])))
    case_contains = record {
      horizon = c.horizon;
      events = c.events;
      named = c.named;
      signals = c.signals;
      lettered = c.lettered;
      observed = c.observed;
      rules = c.rules;
      means = c.means;
      reacts = c.reacts;
      unsaid = c.unsaid;
      labelled = λ v i l.
          said_with (λ j. j.event) (mask (signal_letters xs)) no_case ks k u new v (get_or ns v []) (same-event v)
          (names v) (other v) (λ s. rw s (get_or-set_same Γ.labels u (mask (signal_letters xs) k) no_label room))
          (λ i. c.labelled v i) i l;
      unlabelled = λ v.
          unsaid_with (λ j. j.event) (mask (signal_letters xs)) no_case ks k u new v (get_or ns v []) (same-event v)
          (names v) (other v) no_label (c.unlabelled v);
    }

  -- the events that have a line are marked, and no others
  pub case_listed : ((v : ℕ) → is_labelled Γ v ≡ true → In (get_or ns v []) (case_events ks) [])
      → (v : ℕ) → is_labelled grown v ≡ true → In (get_or ns v []) (case_events (ks ++ k ∷ [])) []
  case_listed listed v e =
      elim (eq_or_ne v u) [
        | inl s ↦ rw s last_in
        | inr n ↦ earlier_in v (listed v (sym (get_or-set_other Γ.labelled u v true false n) ∙ e))
      ]

  pub case_marks : u < length Γ.labelled → ((v : ℕ) → In (get_or ns v []) (case_events ks) [] → is_labelled Γ v ≡ true)
      → (v : ℕ) → In (get_or ns v []) (case_events (ks ++ k ∷ [])) [] → is_labelled grown v ≡ true
  case_marks room marks v i =
      elim (eq_or_ne v u) [
        | inl s ↦ rw s (get_or-set_same Γ.labelled u true false room)
        | inr n ↦
            let w : In (get_or ns v []) (case_events ks ++ k.event ∷ []) [] = rw events-are at i in
            let before = by_place [] (case_events ks) k.event
            (λ j f. f ≡ get_or ns v [] → In (get_or ns v []) (case_events ks) [])
            (λ j l e. record { place = j; place_lt = l; is = e })
            (λ e. absurd (n (same-event v (sym e))))
            w.place w.place_lt w.is in
            get_or-set_other Γ.labelled u v true false n ∙ marks v before
      ]
