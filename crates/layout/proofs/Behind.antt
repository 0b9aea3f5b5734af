-- What stands behind the rules: the section of reactions begins and has one line more, and so has the section of cases.
-- Assumes nothing.
use mathlib.Core.Path.{◌≡◌, refl}
use mathlib.Core.Bool.{true}
use mathlib.Core.Option
use mathlib.Core.Option.{Option, some}
use mathlib.Core.List.{List, [], ◌∷◌, ◌++◌}
use Prim.Native.Nat.{ℕ, ◌≤◌, ◌<◌}
use native.Mathlib.Omega.{arith}
use lib.ListN.{length}
use Rattle.prelude.proofs.Lists.{each_in}
use Rattle.prelude.proofs.Search.{some-not-none}
use Rattle.network.specs.Limits as L
use Rattle.network.specs.Build.{with_reaction, with_label, letter}
use Rattle.network.specs.declared.Network.{Network}
use Rattle.sheet.proofs.Arrays.{arrays-reaction, arrays-label}
use Rattle.names.specs.Names.{is_name_lem}
use Rattle.names.specs.Defined.{mask_of}
use Rattle.layout.specs.Contents.{Signal, Rule, Reaction, Case, signal_letters}
use Rattle.layout.specs.Contains.{Bears, Contains}
use Rattle.layout.proofs.Kept.{NewReaction, reaction-kept, NewCase, case_kept}
use Rattle.layout.proofs.Extends.{contents, contents_with, contents_of}
use Rattle.layout.proofs.Reacts.{reaction-contains}
use Rattle.layout.proofs.Placed.{case_contains, case_listed, case_marks}
use Rattle.layout.proofs.Stands.{Stands}

-- what lists the same: a section that begins lists nothing, as where it is absent
as_listed : {sheet : List ℕ} {Γ : Network} {h : ℕ} {ns : List (List ℕ)} {xs : List Signal} {rs : List Rule}
    {o r : Option (List Reaction)} {q t : Option (List Case)} → Option.get_or o [] ≡ Option.get_or r []
    → Option.get_or q [] ≡ Option.get_or t [] → Contains sheet Γ (contents_of h ns xs rs o q)
    → Contains sheet Γ (contents_of h ns xs rs r t)
as_listed e f c = record {
  horizon = c.horizon;
  events = c.events;
  named = c.named;
  signals = c.signals;
  lettered = c.lettered;
  observed = c.observed;
  rules = c.rules;
  means = c.means;
  reacts = rw (← e) c.reacts;
  unsaid = rw (← e) c.unsaid;
  labelled = rw (← f) c.labelled;
  unlabelled = rw (← f) c.unlabelled;
}

module _ {sheet : List ℕ} {Γ : Network} {h : ℕ} {ns : List (List ℕ)} {xs : List Signal} {rs : List Rule} where
  pub reactions_begin : Stands sheet Γ (contents h ns xs rs) → Stands sheet Γ (contents_with h ns xs rs (some []))
  reactions_begin c = record {
    holds = as_listed refl refl c.holds;
    arrays = c.arrays;
    names = c.names;
    signals = c.signals;
    rules = c.rules;
    reactions = c.reactions;
    quiet = λ e. some-not-none [] e;
    cases = c.cases;
    listed = c.listed;
    marks = c.marks;
  }

  pub reaction-added : {ys : List Reaction} → Stands sheet Γ (contents_with h ns xs rs (some ys)) → (y : Reaction)
      (p : ℕ) → NewReaction xs ys y → p < length xs → length xs ≤ L.signals → letter Γ p ≡ y.letter
      → Stands sheet (with_reaction Γ p y.minutes) (contents_with h ns xs rs (some (ys ++ y ∷ [])))
  reaction-added {ys} c y p m signal few its = record {
    holds = reaction-contains c.holds y p signal (omega (arith, c.arrays.reactions)) its
        c.signals.letters_once m.new;
    arrays = arrays-reaction c.arrays p y.minutes;
    names = c.names;
    signals = c.signals;
    rules = c.rules;
    reactions = reaction-kept xs ys y c.reactions m;
    quiet = λ e. some-not-none (ys ++ y ∷ []) e;
    cases = c.cases;
    listed = c.listed;
    marks = c.marks;
  }

  -- the section of cases begins, and one label more
  module _ {o : Option (List Reaction)} where
    pub cases_begin : Stands sheet Γ (contents_with h ns xs rs o) → Stands sheet Γ (contents_of h ns xs rs o (some []))
    cases_begin c = record {
      holds = as_listed refl refl c.holds;
      arrays = c.arrays;
      names = c.names;
      signals = c.signals;
      rules = c.rules;
      reactions = c.reactions;
      quiet = c.quiet;
      cases = c.cases;
      listed = c.listed;
      marks = c.marks;
    }

    pub case_added : {ks : List Case} → Stands sheet Γ (contents_of h ns xs rs o (some ks)) → (k : Case) (u : ℕ)
        → NewCase ns xs ks k → length ns ≤ L.events → Bears ns u k.event
        → Stands sheet (with_label Γ u (mask_of (length xs) (signal_letters xs) k.label))
        (contents_of h ns xs rs o (some (ks ++ k ∷ [])))
    case_added {ks} c k u m few its =
        let name = each_in (λ n. is_name_lem n ≡ true) c.names.each m.keeps.event in
        let once = c.names.once in
        let here = its.defined in
        record {
          holds = case_contains c.holds k u its name once m.new (omega (arith, here, c.arrays.labels));
          arrays = arrays-label c.arrays u (mask_of (length xs) (signal_letters xs) k.label);
          names = c.names;
          signals = c.signals;
          rules = c.rules;
          reactions = c.reactions;
          quiet = c.quiet;
          cases = case_kept ns xs ks k c.cases m;
          listed = case_listed c.holds k u its name once m.new c.listed;
          marks = case_marks c.holds k u its name once m.new (omega (arith, here, c.arrays.labelled))
              c.marks;
        }
