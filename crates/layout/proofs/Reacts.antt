-- One reaction more holds one line more of the section of reactions. Assumes nothing.
use mathlib.Core.Path.{◌≡◌, sym, ◌∙◌}
use mathlib.Core.Option.{some}
use mathlib.Core.List.{List, [], ◌∷◌, ◌++◌}
use Prim.Native.Nat.{ℕ, ◌<◌}
use native.Mathlib.Omega.{arith}
use lib.ListN.{length, get_or, length-map, get_or-map}
use lib.Seq.{get_or-set_same, get_or-set_other}
use Rattle.prelude.specs.Lists.{In, Distinct}
use Rattle.network.specs.Build.{with_reaction, letter, reaction_stated}
use Rattle.network.specs.declared.Network.{Network}
use Rattle.layout.specs.Contents.{Signal, Rule, Reaction, no_signal, no_reaction, signal_letters, reaction_letters}
use Rattle.layout.specs.Contains.{Contains}
use Rattle.layout.proofs.Keyed.{said_with, unsaid_with}
use Rattle.layout.proofs.Extends.{contents_with}

-- one reaction more, of the signal p, whose letter has no line yet
module _ {sheet : List ℕ} {Γ : Network} {h : ℕ} {ns : List (List ℕ)} {xs : List Signal} {rs : List Rule}
    {ys : List Reaction} (c : Contains sheet Γ (contents_with h ns xs rs (some ys))) (y : Reaction) (p : ℕ)
    (signal : p < length xs) (room : p < length Γ.reactions) (its : letter Γ p ≡ y.letter)
    (once : Distinct (signal_letters xs) 0) (new : In y.letter (reaction_letters ys) 0 → ⊥) where
  abbrev grown : Network
  grown = with_reaction Γ p y.minutes

  -- no other signal has the letter
  same-signal : (q : ℕ) → q < length xs → letter Γ q ≡ y.letter → q ≡ p
  same-signal q l e =
      let lettered : (r : ℕ) → r < length xs → get_or (signal_letters xs) r 0 ≡ letter Γ r =
      λ r m. get_or-map (λ x. x.letter) xs r no_signal ∙ sym (c.lettered r m) in
      once.once q p (omega (arith, length-map xs (λ x. x.letter))) (omega (arith, length-map xs (λ x. x.letter)))
      (lettered q l ∙ e ∙ sym its ∙ sym (lettered p signal))

  signed : (q : ℕ) → q ≡ p → letter Γ q ≡ y.letter
  signed q s = rw s its

  other : (q : ℕ) → (q ≡ p → ⊥) → reaction_stated grown q ≡ reaction_stated Γ q
  other q n = get_or-set_other Γ.reactions p q y.minutes 0 n

  pub reaction-contains : Contains sheet grown (contents_with h ns xs rs (some (ys ++ y ∷ [])))
  reaction-contains = record {
    horizon = c.horizon;
    events = c.events;
    named = c.named;
    signals = c.signals;
    lettered = c.lettered;
    observed = c.observed;
    rules = c.rules;
    means = c.means;
    reacts = λ q i l.
        said_with (λ z. z.letter) (λ z. z.minutes) no_reaction ys y p new q (letter Γ q) (same-signal q l) (signed q)
        (other q) (λ s. rw s (get_or-set_same Γ.reactions p y.minutes 0 room)) (λ i. c.reacts q i l) i;
    unsaid = λ q l.
        unsaid_with (λ z. z.letter) (λ z. z.minutes) no_reaction ys y p new q (letter Γ q) (same-signal q l) (signed q)
        (other q) 0 (c.unsaid q l);
    labelled = c.labelled;
    unlabelled = c.unlabelled;
  }
