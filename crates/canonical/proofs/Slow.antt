-- The reactions that a form lists: one for each signal that reacts otherwise than after a minute, told by its letter;
-- so they keep the layout's rules, and what is read from them is what each signal had. Assumes nothing.
use mathlib.Core.Path.{◌≡◌, refl, sym, ◌∙◌, ap}
use mathlib.Core.Logic.{inl, inr}
use mathlib.Core.Bool.{Bool, true, false}
use mathlib.Core.Option.{some}
use mathlib.Core.List.{List}
use Prim.Native.Nat.{ℕ, ◌≤◌, ◌<◌}
use native.Mathlib.Omega.{arith}
use borrow.Author.Tests.{eqb-false, ne_eqb}
use lib.Dec.{eqb}
use lib.ListN.{length, get_or, length-map}
use Rattle.prelude.specs.Lists.{In, Distinct, Each}
use Rattle.prelude.specs.Search.{unless}
use Rattle.prelude.proofs.Bounded.{length-tabulate, get_d_tabulate}
use Rattle.prelude.proofs.Gather.{gather-answer, in_gather, length-gather}
use Rattle.prelude.proofs.Mapped.{get_d_map}
use Rattle.prelude.proofs.Search.{none-not-some}
use Rattle.prelude.proofs.Tests.{eq_or_ne}
use Rattle.network.specs.Limits as L
use Rattle.network.specs.Build.{letter, reaction_stated}
use Rattle.network.specs.Strategy.{reaction_of_lem, reaction}
use Rattle.network.specs.WellFormed.{WellFormed}
use Rattle.network.specs.declared.Network.{Network}
use Rattle.network.proofs.Strategy.{reaction_of_stated, reaction_of-least, reaction-some}
use Rattle.layout.specs.Contents.{Signal, Reaction, no_signal, no_reaction, reaction_letters}
use Rattle.layout.specs.Keeps.{KeepsReaction}
use Rattle.layout.specs.Contains.{Contains}
use Rattle.canonical.specs.Listed.{slow_by, slow_at, slow_of, labelled_of}
use Rattle.canonical.specs.House.{signal_at, signals_of, house_of}
use Rattle.canonical.proofs.Keyed.{LettersAre, letter-tells, keys_known, keys_once}
use Rattle.canonical.proofs.Listed.{listed-before}

-- a reaction that is listed has its signal's letter and its minutes, which are other than 1
pub record IsSlow (b x : ℕ) (y : Reaction) : Type 0 where
  pub letter_is : y.letter ≡ b
  pub minutes_are : y.minutes ≡ x
  pub slow : x ≡ L.fastest → ⊥

is_slow : (b x : ℕ) (y : Reaction) → slow_by b x ≡ some y → IsSlow b x y
is_slow b x y e = by_test (eqb x L.fastest) refl e
  where
    by_test : (t : Bool) → eqb x L.fastest ≡ t → unless t (record { letter = b; minutes = x }) ≡ some y → IsSlow b x y
    by_test true h e = none-not-some y e
    by_test false h e =
        let same : record { letter = b; minutes = x } ≡ y = cc in
        record {
          letter_is = ap (λ (z : Reaction). z.letter) (sym same);
          minutes_are = ap (λ (z : Reaction). z.minutes) (sym same);
          slow = eqb-false x L.fastest h;
        }

module _ (Γ : Network) where
  abbrev ys : List Reaction
  ys = slow_of Γ

  abbrev OfSignal : ℕ → Type 0
  OfSignal i = (p : ℕ) × (p < Γ.signals) × IsSlow (letter Γ p) (reaction Γ p) (get_or ys i no_reaction)

  slow_at_lem : (i : ℕ) → i < length ys → OfSignal i
  slow_at_lem i h =
      let a = gather-answer (slow_at Γ) no_reaction 0 Γ.signals i h in
      (a.number, omega (arith, a.below), is_slow (letter Γ a.number) (reaction Γ a.number) _ a.is)

  -- the letter of each
  slow_letter : (p : ℕ) (y : Reaction) → slow_at Γ p ≡ some y → y.letter ≡ letter Γ p
  slow_letter p y e = (is_slow (letter Γ p) (reaction Γ p) y e).letter_is

  pub slow_few : length ys ≤ Γ.signals
  slow_few = length-gather (slow_at Γ) 0 Γ.signals

  module _ {k : ℕ} {bs : List ℕ} (w : LettersAre Γ k bs) where
    pub slow_once : Distinct (reaction_letters ys) 0
    slow_once = keys_once w (slow_at Γ) no_reaction (λ y. y.letter) slow_letter

    pub slow_keep : WellFormed Γ → Each (KeepsReaction bs) ys no_reaction
    slow_keep f = record {
      each = λ i h.
          let s = slow_at_lem i h in
          let known = keys_known w (slow_at Γ) no_reaction (λ y. y.letter) slow_letter in
          record {
            signal = rw (get_d_map (λ y. y.letter) no_reaction 0 ys i h) at
                (known.each i (omega (arith, length-map ys (λ y. y.letter))));
            least = omega (arith, s.2.minutes_are, reaction-some Γ s.0);
            most = omega (arith, s.2.minutes_are, f.in_range_lem s.0);
          };
    }

-- what is read from a form that lists them is what each signal had
module _ (sheet : List ℕ) {Γ : Network} {k : ℕ} {bs : List ℕ} (w : LettersAre Γ k bs) {form : List ℕ} {Δ : Network}
    (h : Contains form Δ (house_of sheet Γ)) (p : ℕ) (l : p < Γ.signals) where
  inside : p < length (signals_of sheet Γ)
  inside = omega (arith, length-tabulate (signal_at sheet Γ) Γ.signals)

  same-letter : letter Δ p ≡ letter Γ p
  same-letter = h.lettered p inside
      ∙ ap (λ (x : Signal). x.letter) (get_d_tabulate (signal_at sheet Γ) Γ.signals p no_signal l)

  unlisted : reaction Γ p ≡ L.fastest → In (letter Δ p) (reaction_letters (slow_of Γ)) 0 → ⊥
  unlisted e i =
      let at : i.place < length (slow_of Γ) = omega (arith, i.place_lt, length-map (slow_of Γ) (λ y. y.letter)) in
      let s = slow_at_lem Γ i.place at in
      let its = sym (get_d_map (λ y. y.letter) no_reaction 0 (slow_of Γ) i.place at) ∙ i.is ∙ same-letter in
      s.2.slow (ap (reaction Γ) (letter-tells w s.0 p s.1 l (sym s.2.letter_is ∙ its)) ∙ e)

  listed : (reaction Γ p ≡ L.fastest → ⊥)
      → In (record { letter = letter Γ p; minutes = reaction Γ p }) (slow_of Γ) no_reaction
  listed n =
      in_gather (slow_at Γ) no_reaction 0 Γ.signals _
      (record { number = p; from = omega arith; below = omega arith; is = rw (ne_eqb (reaction Γ p) L.fastest n) })

  pub reaction-back : reaction Δ p ≡ reaction Γ p
  reaction-back =
      elim (eq_or_ne (reaction Γ p) L.fastest) [
        | inl e ↦
            let none = (rw (listed-before (length (labelled_of Γ)) (slow_of Γ)) at h.unsaid) p inside (unlisted e) in
            reaction_of-least (reaction_stated Δ p) (omega arith) ∙ sym e
        | inr n ↦
            let i = listed n in
            let reacts = rw (listed-before (length (labelled_of Γ)) (slow_of Γ)) at h.reacts in
            let given = reacts p i.place inside i.place_lt
            (same-letter ∙ ap (λ (y : Reaction). y.letter) (sym i.is))
            ∙ ap (λ (y : Reaction). y.minutes) i.is in
            ap reaction_of_lem given ∙ reaction_of_stated (reaction Γ p) (reaction-some Γ p)
      ]
