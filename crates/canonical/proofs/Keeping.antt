-- What the form contains keeps the layout's rules: the events and signals are those of a sheet; no more upper bounds
-- remain than it has rules, and each has events of it for its ends, a limit in range, and letters of it, each once, for
-- its label; the reactions are those of signals, and the labels those of events (`Cases`), which lack nothing
-- (`Whole`). Assumes nothing.
use mathlib.Core.Path.{◌≡◌}
use mathlib.Core.List.{List, []}
use Prim.Native.Nat.{ℕ}
use native.Mathlib.Omega.{arith}
use lib.ListN.{length, get_or, length-map}
use Rattle.prelude.specs.Lists.{Each}
use Rattle.prelude.proofs.Bounded.{length-tabulate}
use Rattle.prelude.proofs.Lists.{each_mono}
use Rattle.prelude.proofs.Mapped.{each_map}
use Rattle.network.specs.Build.{name_of_lem, event_label, constraint, no_constraint}
use Rattle.network.specs.Complete as N
use Rattle.network.specs.WellFormed.{Proper}
use Rattle.network.specs.declared.Kind.TheVariants.{Max}
use Rattle.network.specs.declared.Constraint.{Constraint}
use Rattle.network.specs.declared.Network.{Network}
use Rattle.names.proofs.Apart.{Apart}
use Rattle.layout.specs.Contents.{no_rule}
use Rattle.layout.specs.Labelled.{Complete, Labelled}
use Rattle.layout.specs.Keeps.{KeepsRule, Keeps}
use Rattle.tighten.specs.Upper.{uppers_of}
use Rattle.tighten.specs.Tightest.{remaining_of}
use Rattle.tighten.proofs.Regular.{uppers_regular}
use Rattle.tighten.proofs.Rules.{upper_of_either, uppers_of-each}
use Rattle.tighten.proofs.Remains.{remaining-each, remaining_regular, remaining-proper}
use Rattle.tighten.proofs.Few.{remaining_of-few}
use Rattle.canonical.specs.Listed.{slow_of, labelled_of}
use Rattle.canonical.specs.House.{names_of, as_rule, as_case, house_of}
use Rattle.canonical.proofs.Listed.{listed-section, listed-before, labels-follow}
use Rattle.canonical.proofs.Slow.{slow_few, slow_keep, slow_once}
use Rattle.canonical.proofs.Labelled.{labelled-few}
use Rattle.canonical.proofs.Faithful.{Faithful, names-held, signals-held, letters-held}
use Rattle.canonical.proofs.Faithful.{uppers-apart, event-apart}
use Rattle.canonical.proofs.Cases.{letters, cases, name_in, label-keeps, each_case, cases-keep}
use Rattle.canonical.proofs.Cases.{cases_once, start_plain}
use Rattle.canonical.proofs.Whole.{label-complete}

-- an upper bound that remains
pub record Remains (Γ : Network) (r : Constraint) : Type 0 where
  pub kind : r.kind ≡ Max
  pub proper : Proper Γ r
  pub apart : Apart r.label
  pub complete : N.Complete Γ r.label

module _ {sheet : List ℕ} {Γ : Network} (t : Faithful sheet Γ) where
  uppers-complete : Each (λ r. N.Complete Γ r.label) (uppers_of Γ) no_constraint
  uppers-complete =
      uppers_of-each Γ (λ r. N.Complete Γ r.label) (λ i h.
      let whole = t.formed.labels.complete.rule i h in
      upper_of_either (λ r. N.Complete Γ r.label) (constraint Γ i) whole whole)

  pub each_remains : Each (Remains Γ) (remaining_of Γ) no_constraint
  each_remains =
      let regular = uppers_regular Γ t.formed in
      record {
        each = λ i h. record {
          kind = ((remaining_regular regular).each i h).kind;
          proper = (remaining-proper Γ t.formed).each i h;
          apart = (remaining-each regular (uppers-apart t)).each i h;
          complete = (remaining-each regular uppers-complete).each i h;
        };
      }

  rule-keeps : (r : Constraint) → Remains Γ r → KeepsRule (names_of sheet Γ) (letters t) (as_rule sheet Γ r)
  rule-keeps r w = record {
    from = name_in t r.from w.proper.from;
    to = name_in t r.to w.proper.to;
    limit = w.proper.bound;
    label = label-keeps t r.label;
  }

  -- no 20 and no 21
  labels-whole : Labelled (house_of sheet Γ)
  labels-whole = record {
    start = rw (listed-section (cases t))
        (each_case t (λ k. k.event ≡ get_or (names_of sheet Γ) 0 [] → k.label ≡ []) (start_plain t));
    events = rw (listed-section (cases t))
        (each_case t (λ k. Complete (house_of sheet Γ) k.label) (λ u w.
        label-complete t (event_label Γ u) (event-apart t u) (t.formed.labels.complete.event u w.event)));
    rules =
        each_map (as_rule sheet Γ) (λ r. Complete (house_of sheet Γ) r.label) no_constraint no_rule (remaining_of Γ)
        (each_mono (λ r w. label-complete t r.label w.apart w.complete) each_remains);
  }

  pub house-keeps : Keeps (house_of sheet Γ)
  house-keeps =
      let k = t.keeps in
      let names = names-held t.held in
      let signals = signals-held t.held in
      let n = length (labelled_of Γ) in
      let ys = slow_of Γ in
      let all = length-tabulate (name_of_lem Γ sheet) Γ.events in
      record {
        horizon = t.formed.horizon;
        some_event = rw names k.some_event;
        events = rw names k.events;
        names = rw names k.names;
        names_once = rw names k.names_once;
        few_signals = rw signals k.few_signals;
        signals = rw (names, signals) k.signals;
        letters_once = rw signals k.letters_once;
        events_once = rw signals k.events_once;
        few_rules = omega (arith, length-map (remaining_of Γ) (as_rule sheet Γ), remaining_of-few Γ t.formed);
        rules =
            each_map (as_rule sheet Γ) (KeepsRule (names_of sheet Γ) (letters t))
            no_constraint no_rule (remaining_of Γ) (each_mono rule-keeps each_remains);
        few_reactions = rw (listed-before n ys) (omega (arith, slow_few Γ, t.formed.signals));
        reactions = rw (listed-before n ys) (slow_keep Γ (letters-held t) t.formed);
        reactions_once = rw (listed-before n ys) (slow_once Γ (letters-held t));
        cases_follow = labels-follow (as_case sheet Γ) (labelled_of Γ) ys;
        few_cases = rw (listed-section (cases t))
            (omega (arith, length-map (labelled_of Γ) (as_case sheet Γ), labelled-few Γ, all));
        cases = rw (listed-section (cases t)) (cases-keep t);
        cases_once = rw (listed-section (cases t)) (cases_once t);
        labelled = labels-whole;
      }
