-- A line of the reactions: it is passed exactly where it is a signal's letter that has no line yet and a number of
-- minutes from 1 to 60. Assumes nothing.
use mathlib.Core.Path.{◌≡◌, refl, sym, ◌∙◌, ap, ap₂}
use mathlib.Core.Bool.{true, false, not}
use mathlib.Core.Option.{none, some}
use mathlib.Core.List.{List, [], ◌∷◌, ◌++◌}
use Prim.Native.Nat.{ℕ, ◌≤◌, ◌<◌}
use native.Mathlib.Omega.{arith}
use borrow.Author.Tests.{eqb-true, ltb-false, not-true}
use lib.Dec.{ltb}
use lib.ListN.{length, get_or, length-map, get_or-map}
use Rattle.prelude.specs.Checks.{first_failing_lem}
use Rattle.prelude.proofs.Checks.{◌&◌, hold, none_fails}
use Rattle.prelude.specs.Lists.{In}
use Rattle.prelude.proofs.Lists.{all_of}
use Rattle.prelude.specs.Search.{answers}
use Rattle.prelude.proofs.Search.{answered}
use Rattle.prelude.proofs.Tests.{and_both}
use Rattle.text.specs.Lines.{field, plain}
use Rattle.text.specs.Number.{magnitude}
use Rattle.text.specs.Decimal.{decimal}
use Rattle.text.proofs.Numbers.{is_number_decimal, magnitude-decimal, in_range-decimal, plain-decimal}
use Rattle.text.proofs.Numbers.{decimal-magnitude}
use Rattle.network.specs.Limits as L
use Rattle.network.specs.Build.{reaction_stated}
use Rattle.network.specs.declared.Network.{Network}
use Rattle.line.specs.Tests.{signal_of, has_line, letter_tests, reaction_tests}
use Rattle.line.specs.Sections.{with_line}
use Rattle.line.specs.declared.Section.TheVariants.{Reactions}
use Rattle.layout.specs.Contents.{Signal, Rule, Reaction, no_reaction, reaction_letters}
use Rattle.layout.proofs.Plain.{plain-letter, one_letter}
use Rattle.layout.proofs.Kept.{KeptReactions, NewReaction, may_reaction, letter_is}
use Rattle.layout.proofs.Extends.{contents_with}
use Rattle.layout.proofs.Stands.{Stands}
use Rattle.layout.proofs.Behind.{reaction-added}
use Rattle.layout.proofs.Finds.{letter-place, letter_in, letter-found}
use Rattle.layout.proofs.Entries.{Understood}

module _ (sheet : List ℕ) (h : ℕ) (names : List (List ℕ)) (xs : List Signal) (rs : List Rule)
    (few : length xs ≤ L.signals) where
  module _ {Γ : Network} {ys : List Reaction} (c : Stands sheet Γ (contents_with h names xs rs (some ys))) where
    -- a signal of which nothing was said has a letter without a line
    unlisted : (b p : ℕ) → signal_of Γ (b ∷ []) ≡ some p → ltb 0 (reaction_stated Γ p) ≡ false
        → In b (reaction_letters ys) 0 → ⊥
    unlisted b p e n w =
        let l : w.place < length ys = omega (arith, w.place_lt, length-map ys (λ y. y.letter)) in
        let q = letter-place c.holds b p e in
        let its = sym (get_or-map (λ y. y.letter) ys w.place no_reaction) ∙ w.is in
        let given = c.holds.reacts p w.place q.0 l (q.1 ∙ sym its) in
        omega (arith, given, (c.reactions.each.each w.place l).least, ltb-false 0 (reaction_stated Γ p) n)

    reaction-read : (fs : List (List ℕ)) → first_failing_lem (reaction_tests Γ fs) ≡ none
        → (y : Reaction) × (fs ≡ (y.letter ∷ []) ∷ decimal y.minutes ∷ []) × NewReaction xs ys y
    unfolding letter_tests reaction_tests
    reaction-read fs e =
        let t = hold (reaction_tests Γ fs) e in
        let b = get_or (field 0 fs) 0 0 in
        let f = field 1 fs in
        let d = decimal-magnitude L.fastest L.slowest f t.1.0 t.1.1.0 in
        let o = one_letter (field 0 fs) t.1.1.1.0 in
        let s = answered (signal_of Γ (field 0 fs)) t.1.1.1.1.1.0 in
        let unsaid : has_line Γ (signal_of Γ (field 0 fs)) ≡ false =
        not-true (has_line Γ (signal_of Γ (field 0 fs))) t.1.1.1.1.0 in (
          record { letter = b; minutes = magnitude f },
          all_of [] 2 fs (eqb-true (length fs) 2 t.0) ∙ ap₂ (λ (g k : List ℕ). g ∷ k ∷ []) o.0 (sym d.0),
          record {
            keeps = record {
              signal = letter_in c.holds b t.1.1.1.1.1.0;
              least = d.1;
              most = d.2;
            };
            new = unlisted b s.0 s.1 (rw s.1 at unsaid);
          },
        )

    reaction-passes : (y : Reaction) → NewReaction xs ys y
        → first_failing_lem (reaction_tests Γ ((y.letter ∷ []) ∷ decimal y.minutes ∷ [])) ≡ none
    unfolding letter_tests reaction_tests
    reaction-passes y m =
        let b = y.letter in
        let k = m.keeps in
        let w = letter-found c.holds b k.signal in
        let p = letter-place c.holds b w.0 w.1 in
        let quiet : reaction_stated Γ w.0 ≡ 0 = c.holds.unsaid w.0 p.0 (λ i. m.new (rw p.1 at i)) in
        let unsaid-passes : not (has_line Γ (signal_of Γ (b ∷ []))) ≡ true = rw (w.1, quiet) refl in
        none_fails (reaction_tests Γ ((b ∷ []) ∷ decimal y.minutes ∷ []))
        (refl
        & is_number_decimal y.minutes
        & in_range-decimal y.minutes L.fastest L.slowest k.least k.most
        & letter_is c.signals b k.signal
        & unsaid-passes
        & ap answers w.1
        & tt)

    reaction-adds : (y : Reaction) → NewReaction xs ys y → (at : ℕ)
        → Stands sheet (with_line sheet Reactions Γ at ((y.letter ∷ []) ∷ decimal y.minutes ∷ []))
        (contents_with h names xs rs (some (ys ++ y ∷ [])))
    reaction-adds y m at =
        let w = letter-found c.holds y.letter m.keeps.signal in
        let p = letter-place c.holds y.letter w.0 w.1 in
        rw (w.1, magnitude-decimal y.minutes) (reaction-added c y w.0 m p.0 few p.1)

  pub reactions-understood :
      Understood sheet Reactions (λ y. y.letter ∷ []) (λ y. decimal y.minutes ∷ [])
      (λ m Γ ys. Stands sheet Γ (contents_with h names xs rs (some ys))) (KeptReactions xs) (λ m. NewReaction xs)
  reactions-understood = record {
    may = may_reaction xs;
    reads = λ m c fs e. reaction-read c fs e;
    passes = λ j c y m. reaction-passes c y m;
    plain = λ c y m.
        and_both (plain y.letter) true
        (plain-letter y.letter (letter_is c.signals y.letter m.keeps.signal)) refl
        & plain-decimal y.minutes
        & tt;
    adds = λ i j c y m few at rest e. reaction-adds c y m at;
  }
