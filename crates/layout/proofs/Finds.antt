-- What the network's searches find: an event by its name, a signal by its letter and by its event, a label's weights.
-- Assumes nothing.
use mathlib.Core.Path.{◌≡◌, refl, sym, ◌∙◌, ap, ap₂}
use mathlib.Core.Bool.{Bool, true, false, beq, cond}
use mathlib.Core.Option.{Option, none, some}
use mathlib.Core.List.{List, [], ◌∷◌}
use Prim.Native.Nat.{ℕ, ◌+◌, ◌^◌, ◌<◌}
use native.Mathlib.Omega.{arith}
use borrow.Author.Tests.{eqb-true, eq-eqb}
use lib.Dec.{eqb}
use lib.ListN.{length, get_or, length-map, get_or-map}
use Rattle.prelude.specs.Search.{first_below, when, answers}
use Rattle.prelude.specs.Bytes.{same}
use Rattle.prelude.proofs.Bytes.{same_true, same_of_eq}
use Rattle.prelude.proofs.Search.{answered, first_below-same}
use Rattle.network.specs.Build.{name_of_lem, letter, observation}
use Rattle.network.specs.declared.Network.{Network}
use Rattle.names.specs.Names.{Literal}
use Rattle.names.specs.Defined.{place_of, gives_signal_lem, weight, weights, mask_of}
use Rattle.names.proofs.Sums.{place_of_lem}
use Rattle.line.specs.Tests.{event_of}
use Rattle.prelude.specs.Lists.{In, Distinct}
use Rattle.layout.specs.Contents.{Signal, Contents, no_signal, signal_letters, signal_events}
use Rattle.layout.specs.Contains.{Bears, Contains}
use Rattle.layout.proofs.Search.{found, finds}

module _ {sheet : List ℕ} {Γ : Network} {c : Contents} (s : Contains sheet Γ c) where
  abbrev xs : List Signal
  xs = c.signals

  -- an event is found by its name
  module _ (f : List ℕ) where
    abbrev is_named : ℕ → Bool
    is_named u = same (name_of_lem Γ sheet u) f

    pub event-named : (u : ℕ) → event_of sheet Γ f ≡ some u → Bears c.names u f
    event-named u e =
        let p = found is_named Γ.events u e in
        let h : u < length c.names = omega (arith, p.0, s.events) in
        record { defined = h; name = sym (s.named u h) ∙ same_true (name_of_lem Γ sheet u) f p.1 }

    pub event_in : answers (event_of sheet Γ f) ≡ true → In f c.names []
    event_in e =
        let w = answered (event_of sheet Γ f) e in
        let p = event-named w.0 w.1 in
        record { place = w.0; place_lt = p.defined; is = p.name }

    pub event-found : In f c.names [] → (u : ℕ) × (event_of sheet Γ f ≡ some u)
    event-found w =
        finds is_named Γ.events w.place (omega (arith, w.place_lt, s.events))
        (same_of_eq (name_of_lem Γ sheet w.place) f (s.named w.place w.place_lt ∙ w.is))

    pub event-answers : In f c.names [] → answers (event_of sheet Γ f) ≡ true
    event-answers w = ap answers (event-found w).1

  -- a signal is found by its letter
  pub letter_is : (p : ℕ) → p < length xs → letter Γ p ≡ get_or (signal_letters xs) p 0
  letter_is p h = s.lettered p h ∙ sym (get_or-map (λ x. x.letter) xs p no_signal)

  module _ (b : ℕ) where
    abbrev has_letter : ℕ → Bool
    has_letter p = eqb (letter Γ p) b

    pub letter-place : (p : ℕ) → place_of Γ.signals Γ.letters b ≡ some p → (p < length xs) × (letter Γ p ≡ b)
    letter-place p e =
        let w = found has_letter Γ.signals p e in
        (omega (arith, w.0, s.signals), eqb-true (letter Γ p) b w.1)

    pub letter_in : answers (place_of Γ.signals Γ.letters b) ≡ true → In b (signal_letters xs) 0
    letter_in e =
        let w = answered (place_of Γ.signals Γ.letters b) e in
        let p = letter-place w.0 w.1 in
        record {
          place = w.0;
          place_lt = omega (arith, p.0, length-map xs (λ x. x.letter));
          is = sym (letter_is w.0 p.0) ∙ p.1;
        }

    pub letter-found : In b (signal_letters xs) 0 → (p : ℕ) × (place_of Γ.signals Γ.letters b ≡ some p)
    letter-found w =
        let h : w.place < length xs = omega (arith, w.place_lt, length-map xs (λ x. x.letter)) in
        finds has_letter Γ.signals w.place (omega (arith, s.signals))
        (eq-eqb (letter Γ w.place) b (letter_is w.place h ∙ w.is))

    pub letter-answers : In b (signal_letters xs) 0 → answers (place_of Γ.signals Γ.letters b) ≡ true
    letter-answers w = ap answers (letter-found w).1

  -- whether an event gives a signal
  module _ (u : ℕ) where
    abbrev given_by : ℕ → Bool
    given_by p = eqb (observation Γ p) u

    pub observed_in : gives_signal_lem Γ.signals Γ.observations u ≡ true
        → In (get_or c.names u []) (signal_events xs) []
    observed_in e =
        let w = answered (first_below Γ.signals (λ p. when (given_by p) p)) e in
        let p = found given_by Γ.signals w.0 w.1 in
        let h : w.0 < length xs = omega (arith, p.0, s.signals) in
        record {
          place = w.0;
          place_lt = omega (arith, length-map xs (λ x. x.event));
          is =
              get_or-map (λ x. x.event) xs w.0 no_signal
              ∙ sym (s.observed w.0 h).name
              ∙ ap (λ (v : ℕ). get_or c.names v []) (eqb-true (observation Γ w.0) u p.1);
        }

    pub observed_test : Distinct c.names [] → u < length c.names → In (get_or c.names u []) (signal_events xs) []
        → gives_signal_lem Γ.signals Γ.observations u ≡ true
    observed_test o l w =
        let h : w.place < length xs = omega (arith, w.place_lt, length-map xs (λ x. x.event)) in
        let e = (s.observed w.place h).name ∙ sym (get_or-map (λ x. x.event) xs w.place no_signal) ∙ w.is in
        let v = o.once (observation Γ w.place) u (s.observed w.place h).defined l e in
        ap answers (finds given_by Γ.signals w.place (omega (arith, s.signals))
        (eq-eqb (observation Γ w.place) u v)).1

  -- a label's weights are those of the letters
  pub place_is : (b : ℕ) → place_of Γ.signals Γ.letters b ≡ place_of (length xs) (signal_letters xs) b
  place_is b =
      ap (λ (n : ℕ). place_of n Γ.letters b) s.signals
      ∙ first_below-same (λ p. when (eqb (letter Γ p) b) p) (λ p. when (eqb (get_or (signal_letters xs) p 0) b) p)
      (length xs) (λ p h. ap (λ (a : ℕ). when (eqb a b) p) (letter_is p h))

  -- a signal stands where its letter is found
  pub place_at : Distinct (signal_letters xs) 0 → (p : ℕ) → p < length xs
      → place_of Γ.signals Γ.letters (letter Γ p) ≡ some p
  place_at once p h =
      let n = length-map xs (λ x. x.letter) in
      let bs = signal_letters xs in
      place_is (letter Γ p)
      ∙ ap (λ (b : ℕ). place_of (length xs) bs b) (letter_is p h)
      ∙ ap (λ (k : ℕ). place_of k bs (get_or bs p 0)) (sym n)
      ∙ place_of_lem bs once p (omega (arith, n))

  weight_is : (b : ℕ) → weight Γ.signals Γ.letters b ≡ weight (length xs) (signal_letters xs) b
  weight_is b = ap (λ (o : Option ℕ). elim o as (λ x. ℕ) [ none ↦ 0 | some p ↦ 2 ^ p ]) (place_is b)

  weights-are : (v : Bool) (ls : List Literal)
      → weights Γ.signals Γ.letters v ls ≡ weights (length xs) (signal_letters xs) v ls
  weights-are v [] = refl
  weights-are v (l ∷ ls) =
      ap₂ (λ (w r : ℕ). cond (beq v l.value) w 0 + r) (weight_is l.letter) (weights-are v ls)

  pub mask_is : (ls : List Literal) → mask_of Γ.signals Γ.letters ls ≡ mask_of (length xs) (signal_letters xs) ls
  mask_is ls = ap₂ (λ (a b : ℕ). record { positive = a; negative = b }) (weights-are true ls) (weights-are false ls)
