-- What each line keeps: the stage of the sheet before a line that passes gives the stage behind it. Here: what stays
-- where a network grows, and a section's line. Assumes nothing.
use mathlib.Core.Path.{◌≡◌, refl, sym}
use mathlib.Core.Bool.{Bool, true}
use mathlib.Core.List.{List}
use Prim.Native.Nat.{ℕ, zero, suc, ◌+◌, ◌≤◌}
use native.Mathlib.Nat.{add-zero}
use native.Mathlib.Omega.{arith}
use lib.ListN.{length}
use Rattle.text.specs.Lines.{ends_at, after_line}
use Rattle.text.proofs.Lines.{line-inside}
use Rattle.network.specs.Limits as L
use Rattle.network.specs.Build.{event_label, scenarios}
use Rattle.network.specs.Strategy.{reaction}
use Rattle.network.specs.WellFormed.{Arrays, Forming, Labels, Labelling, Lettered, Proper, ToCome, and_more}
use Rattle.network.specs.declared.Constraint.{Constraint}
use Rattle.network.specs.declared.Label.{Label}
use Rattle.network.specs.declared.Network.{Network}
use Rattle.network.proofs.Labels.{unlabelled_well}
use Rattle.line.specs.Sections.{heading_of_lem}
use Rattle.line.specs.declared.Section.{Section}
use Rattle.line.specs.declared.Section.TheVariants.{Events, Signals, Rules, Reactions, Cases}
use Rattle.sheet.specs.Stage.{to_come, whole, Stage}

pub and_more-is : (n m : ℕ) → and_more n m ≡ n + m
and_more-is n zero = sym (add-zero n)
and_more-is n (suc m) = refl

-- with fewer to come there is still room
fewer : (n i j k : ℕ) → i ≤ j → and_more n j ≤ k → and_more n i ≤ k
fewer n i j k h l = omega (arith, and_more-is n i, and_more-is n j)

-- of n and one more to come, one more has come
pub came_le : (n m k : ℕ) → and_more n (suc m) ≤ k → and_more (n + 1) m ≤ k
came_le n m k l = omega (arith, and_more-is (n + 1) m)

-- the letters of labels and the ends of rules stay in range where signals and events only grow
module _ {Γ Δ : Network} (more : scenarios Γ ≤ scenarios Δ) where
  pub lettered_on : {ℓ : Label} → Lettered Γ ℓ → Lettered Δ ℓ
  lettered_on x = record { positive = omega (arith, x.positive); negative = omega (arith, x.negative) }

  pub proper_on : Γ.events ≤ Δ.events → {c : Constraint} → Proper Γ c → Proper Δ c
  proper_on e x = record {
    from = omega (arith, x.from);
    to = omega (arith, x.to);
    bound = x.bound;
    label = lettered_on x.label;
  }

-- no event, signal or rule is to come
abbrev pub read_to : Labelling → ToCome
read_to l = record { events = 0; signals = 0; rules = 0; labels = l }

-- the same network with other reactions and labels
module _ (Γ : Network) (reactions : List ℕ) (labels : List Label) (labelled : List Bool) where
  abbrev instead : Network
  instead = record Γ { reactions = reactions; labels = labels; labelled = labelled }

  pub forming_instead : {l r : Labelling} → Forming (read_to l) Γ → Arrays instead
      → ((p : ℕ) → reaction instead p ≤ L.slowest) → ((u : ℕ) → Lettered Γ (event_label instead u))
      → Labels r instead → Forming (read_to r) instead
  forming_instead w a in_range letters ls = record {
    horizon = w.horizon;
    some_event = w.some_event;
    events = w.events;
    signals = w.signals;
    rules = w.rules;
    arrays = a;
    observed = w.observed;
    one_signal = w.one_signal;
    proper = λ c h. proper_on (omega arith) (omega arith) (w.proper c h);
    in_range_lem = in_range;
    lettered = λ u. lettered_on (omega arith) (letters u);
    labels = ls;
  }

module _ (sheet : List ℕ) {Γ : Network} {at k : ℕ} where
  -- further on, with fewer lines to come
  stage_on : {t u : ToCome} {b j : ℕ} → u.events ≤ t.events → u.signals ≤ t.signals → u.rules ≤ t.rules
      → (Labels t.labels Γ → Labels u.labels Γ) → 1 ≤ and_more Γ.events u.events → b ≤ length sheet
      → j ≤ suc b → Stage sheet t Γ at k → Stage sheet u Γ b j
  stage_on {t} {u} e s r ls h i l g =
      let w = g.forming in
      record {
        forming = record {
          horizon = w.horizon;
          some_event = h;
          events = fewer Γ.events u.events t.events L.events e w.events;
          signals = fewer Γ.signals u.signals t.signals L.signals s w.signals;
          rules = fewer Γ.rules u.rules t.rules L.rules r w.rules;
          arrays = w.arrays;
          observed = w.observed;
          one_signal = w.one_signal;
          proper = w.proper;
          in_range_lem = w.in_range_lem;
          lettered = w.lettered;
          labels = ls w.labels;
        };
        named = g.named;
        inside = i;
        line = l;
      }

  -- a section's line, which says that m lines follow; behind `cases,0` every label is `-`
  pub stage_section : (s : Section) (m : ℕ) → ends_at sheet at ≡ true → (heading_of_lem Γ.events s).least ≤ m
      → m ≤ (heading_of_lem Γ.events s).most
      → Stage sheet (whole s) Γ at k → Stage sheet (to_come s m) Γ (after_line sheet at) (suc k)
  stage_section s m p lo hi g = by-section s m lo hi g
    where
      on : suc k ≤ suc (after_line sheet at)
      on = omega (arith, g.line)

      by-section : (s : Section) (m : ℕ) → (heading_of_lem Γ.events s).least ≤ m → m ≤ (heading_of_lem Γ.events s).most
          → Stage sheet (whole s) Γ at k → Stage sheet (to_come s m) Γ (after_line sheet at) (suc k)
      by-section Events m lo hi g =
          stage_on hi (omega arith) (omega arith) (λ ls. ls) (omega (arith, and_more-is Γ.events m))
          (line-inside sheet at p) on g
      by-section Signals m lo hi g = stage_on (omega arith) hi (omega arith) (λ ls. ls) g.forming.some_event
          (line-inside sheet at p) on g
      by-section Rules m lo hi g = stage_on (omega arith) (omega arith) hi (λ ls. ls) g.forming.some_event
          (line-inside sheet at p) on g
      by-section Reactions m lo hi g = stage_on (omega arith) (omega arith) (omega arith) (λ ls. ls)
          g.forming.some_event (line-inside sheet at p) on g
      by-section Cases zero lo hi g = stage_on (omega arith) (omega arith) (omega arith) (unlabelled_well Γ)
          g.forming.some_event (line-inside sheet at p) on g
      by-section Cases (suc m) lo hi g = stage_on (omega arith) (omega arith) (omega arith) (λ ls. tt)
          g.forming.some_event (line-inside sheet at p) on g

  -- no section `cases`, so that no event has a label
  pub stage_absent : Stage sheet (whole Cases) Γ at k → Stage sheet (to_come Cases 0) Γ at k
  stage_absent g = stage_on (omega arith) (omega arith) (omega arith) (unlabelled_well Γ) g.forming.some_event
      g.inside g.line g
