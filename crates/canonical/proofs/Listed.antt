-- Laws of the last two sections: when there is one; that the labels' comes behind the reactions'; and that what is
-- listed is listed, whether or not there is a section. Assumes nothing.
use mathlib.Core.Path.{◌≡◌, refl}
use mathlib.Core.Option.{none, some, get_or}
use mathlib.Core.List.{List, [], ◌∷◌, map}
use Prim.Native.Nat.{ℕ, zero, suc}
use lib.ListN.{length}
use Rattle.prelude.proofs.Search.{some-not-none}
use Rattle.layout.specs.Contents.{Reaction}
use Rattle.canonical.specs.Listed.{section_of, before_labels}

module _ {A : Type 0} where
  pub listed-section : (xs : List A) → get_or (section_of xs) [] ≡ xs
  listed-section [] = refl
  listed-section (x ∷ xs) = refl

  pub section-some : (xs : List A) → (length xs ≡ 0 → ⊥) → section_of xs ≡ some xs
  section-some [] h = absurd (h refl)
  section-some (x ∷ xs) h = refl

pub before-some : (n : ℕ) (ys : List Reaction) → (length ys ≡ 0 → n ≡ 0 → ⊥) → before_labels n ys ≡ some ys
before-some zero ys h = section-some ys (λ e. h e refl)
before-some (suc n) ys h = refl

-- where there is no section of reactions, there is none of labels
pub labels-follow : {A B : Type 0} (f : A → B) (xs : List A) (ys : List Reaction) → before_labels (length xs) ys ≡ none
    → section_of (map f xs) ≡ none
labels-follow f [] ys e = refl
labels-follow f (x ∷ xs) ys e = some-not-none ys e

pub listed-before : (n : ℕ) (ys : List Reaction) → get_or (before_labels n ys) [] ≡ ys
listed-before zero ys = listed-section ys
listed-before (suc n) ys = refl
