-- The mask of a list says what the list says (`due-said`), and a mask is well named where it is that of a list that is
-- (`well_named_on_iff`). A defined letter is one of a to z, so that a list that is well named fits the empty mask. The
-- records that a mask names are well named, and those of the mask of such a list make it again; and of two lists with
-- one mask both are well named or neither, since the letters that stand are those of either (`well_named_same`). So a
-- list is well named where its mask is, and then the two searches for a case that has heard it are one (`hearer-same`
-- in Answers.antt). Assumes nothing.
use mathlib.Core.Path.{◌≡◌, refl, sym, ◌∙◌, ap}
use mathlib.Core.Logic.{◌↔◌, inl, inr}
use mathlib.Core.Bool.{Bool, true, false, not}
use mathlib.Core.List.{List}
use Prim.Native.Nat.{ℕ}
use native.Mathlib.Omega.{arith}
use borrow.Author.Tests.{eqb-true, eq-eqb}
use Rattle.prelude.specs.Bytes.{is_in, every, distinct}
use Rattle.prelude.proofs.Tests.{either, false_of_not-true, and-true, and_both, same_tests}
use Rattle.prelude.proofs.Bytes.{true_of_every, every_true}
use Rattle.network.specs.Build.{letter}
use Rattle.network.specs.Scenario.{truth}
use Rattle.network.specs.declared.Network.{Network}
use Rattle.names.specs.Names.{is_letter_lem}
use Rattle.names.specs.Defined.{all_defined_lem}
use Rattle.names.proofs.Labels.{all_defined-every}
use Rattle.dispatch.specs.Heard.{letters_of, WellNamed, is_well_named, says, Lettered}
use Rattle.dispatch.specs.Due.{due_for, due_by, due}
use Rattle.dispatch.specs.Said.{misnamed, said_on, stands_on, said_from, records_on, well_named_on, due_on}
use Rattle.dispatch.specs.declared.Heard.{Heard}
use Rattle.std.proofs.Common.{Err}
use Rattle.dispatch.specs.declared.Unanswered.TheVariants.{Misnamed}
use Rattle.dispatch.proofs.Letters.{nothing_said}
use Rattle.dispatch.proofs.History.{is_defined, found-defined, well_named}
use Rattle.dispatch.proofs.Answers.{hearer-same, due-misnamed}
use Rattle.dispatch.proofs.Records.{records_named}
use Rattle.dispatch.proofs.Fold.{free, fits, free_letter, named-said, said-says, stands-said}
use Rattle.dispatch.proofs.Again.{said-weights, named-nothing, named_again}
use Rattle.dispatch.proofs.Core.{misnamed-on}

module _ (Γ : Network) (lettered : Lettered Γ) where
  letter_of_defined : (b : ℕ) → is_defined Γ b ≡ true → is_letter_lem b ≡ true
  letter_of_defined b e = let d = found-defined Γ b e in rw d.is at (lettered.lower d.signal d.below)

  abbrev all-defined : List ℕ → Bool
  all-defined = all_defined_lem Γ.signals Γ.letters

  -- each letter of a list that is well named is defined, and so fits
  module _ (hs : List Heard) (e : is_well_named Γ hs ≡ true) where
    abbrev ls : List ℕ
    ls = letters_of hs

    parts : (all-defined ls ≡ true) × (distinct ls ≡ true)
    parts = and-true (all-defined ls) (distinct ls) e

    each-defined : (b : ℕ) → is_in b ls ≡ true → is_defined Γ b ≡ true
    each-defined = true_of_every (is_defined Γ) ls (sym (all_defined-every Γ.signals Γ.letters ls) ∙ parts.0)

    each_free : (b : ℕ) → is_in b ls ≡ true → free 0 b ≡ true
    each_free b i =
        rw (nothing_said b true, nothing_said b false)
        (and_both (is_letter_lem b) true (letter_of_defined b (each-defined b i)) refl)

    fits_of_well_named : fits 0 ls ≡ true
    fits_of_well_named = and_both (every (free 0) ls) (distinct ls) (every_true (free 0) ls each_free) parts.1

  -- the records that a mask names are well named, and those of its own mask make it again
  records_well : (x : ℕ) → is_well_named Γ (records_on Γ x) ≡ true
  records_well x = records_named Γ lettered (λ p. stands_on x (letter Γ p)) (λ p. said_on x (letter Γ p) true)

  again : (hs : List Heard) → is_well_named Γ hs ≡ true → said_from 0 (records_on Γ (said_from 0 hs)) ≡ said_from 0 hs
  again hs e =
      let rs = records_on Γ (said_from 0 hs) in
      omega (
        arith,
        said-weights 0 rs (fits_of_well_named rs (records_well (said_from 0 hs))),
        named_again Γ lettered 0 hs (parts hs e).0 (fits_of_well_named hs e) (named-nothing Γ 0 Γ.signals),
      )

  -- a list that has its mask fits too, and its letters are those that stand
  module _ (hs rs : List Heard) (e : is_well_named Γ hs ≡ true) (same : said_from 0 hs ≡ said_from 0 rs) where
    fits-same : fits 0 (letters_of rs) ≡ true
    fits-same =
        let named = named-said 0 hs ∙ fits_of_well_named hs e in
        sym (named-said 0 rs) ∙ (ap (λ (x : ℕ). not (truth x misnamed)) (sym same) ∙ named)

    fitting : (every (free 0) (letters_of rs) ≡ true) × (distinct (letters_of rs) ≡ true)
    fitting = and-true (every (free 0) (letters_of rs)) (distinct (letters_of rs)) fits-same

    each-known : (b : ℕ) → is_in b (letters_of rs) ≡ true → is_defined Γ b ≡ true
    each-known b i =
        let f = true_of_every (free 0) (letters_of rs) fitting.0 b i in
        let a = free_letter 0 b f in
        let stands = ap (λ (x : ℕ). stands_on x b) same ∙ (stands-said rs fits-same b a ∙ i) in
        each-defined hs e b (sym (stands-said hs (fits_of_well_named hs e) b a) ∙ stands)

    well_named_same : is_well_named Γ rs ≡ true
    well_named_same =
        let known = every_true (is_defined Γ) (letters_of rs) each-known in
        and_both (all-defined (letters_of rs)) (distinct (letters_of rs))
        (all_defined-every Γ.signals Γ.letters (letters_of rs) ∙ known) fitting.1

  -- a mask is well named where it is that of a list that is
  pub well_named_on_iff : (x : ℕ) → (well_named_on Γ x ≡ true)
      ↔ ((hs : List Heard) × (said_from 0 hs ≡ x) × WellNamed Γ hs)
  well_named_on_iff x = (
    λ e. (
      records_on Γ x,
      eqb-true (said_from 0 (records_on Γ x)) x e,
      (well_named Γ (records_on Γ x)).0
          (records_well x),
    ),
    λ w. rw (← w.1) (eq-eqb _ (said_from 0 w.0) (again w.0 ((well_named Γ w.0).1 w.2))),
  )

  well_named_said : (hs : List Heard) → well_named_on Γ (said_from 0 hs) ≡ is_well_named Γ hs
  well_named_said hs =
      same_tests (well_named_on Γ (said_from 0 hs)) (is_well_named Γ hs)
      (λ e.
      let w = (well_named_on_iff (said_from 0 hs)).0 e in
      well_named_same w.0 hs ((well_named Γ w.0).1 w.2) w.1)
      (λ e. (well_named_on_iff (said_from 0 hs)).1 (hs, refl, (well_named Γ hs).0 e))

-- what is due by the mask of a list is what is due by the list
pub due-said : (Γ : Network) (σ : List ℕ) (m : ℕ) (hs : List Heard) → Lettered Γ → due_on Γ σ m (said_from 0 hs)
    ≡ due Γ σ m hs
unfolding due_on due
due-said Γ σ m hs lettered =
    ap (λ (b : Bool). due_by Γ σ m b (said_on (said_from 0 hs))) (well_named_said Γ lettered hs)
    ∙ elim (either (is_well_named Γ hs)) [
      | inl e ↦
          let said = said-says hs (fits_of_well_named Γ lettered hs e) in
          rw e (ap (due_for Γ σ m) (hearer-same Γ lettered σ m (said_on (said_from 0 hs)) (says hs) said))
      | inr e ↦ rw e
    ]

-- a mask is misnamed where no list that is well named has it
pub due-on-misnamed : (Γ : Network) (σ : List ℕ) (m x : ℕ) → Lettered Γ
    → (due_on Γ σ m x ≡ Err Misnamed) ↔ ((hs : List Heard) → said_from 0 hs ≡ x → WellNamed Γ hs → ⊥)
due-on-misnamed Γ σ m x lettered = (
  λ e hs s. (due-misnamed Γ σ m lettered hs).0 (sym (due-said Γ σ m hs lettered) ∙ rw s e),
  λ n.
      sym (misnamed-on Γ σ m x (false_of_not-true (well_named_on Γ x) (λ e.
      let w = (well_named_on_iff Γ lettered x).0 e in n w.0 w.1 w.2))),
)
