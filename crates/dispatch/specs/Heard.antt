-- What has been heard so far, as the caller lends it: "a list of records, each a letter and its truth" (02, point 1).
use Rattle.std.specs.Prelude.{◌≡◌, Bool, true, false, ◌&&◌, ◌||◌, cond, List, [], ◌∷◌, map, ℕ, zero, suc, ◌<◌, eqb}
use Rattle.std.specs.Bool.{beq}
use Rattle.prelude.specs.Bytes.{distinct}
use Rattle.prelude.specs.Lists.{Distinct, Each}
use Rattle.network.specs.Build.{letter}
use Rattle.network.specs.declared.Network.{Network}
use Rattle.names.specs.Names.{is_letter_lem}
use Rattle.names.specs.Defined.{all_defined_lem}
use Rattle.dispatch.specs.declared.Heard.{Heard}

abbrev pub letters_of : List Heard → List ℕ
letters_of hs = map (λ h. h.letter) hs

-- what stands behind the end of a list
abbrev pub no_heard : Heard
no_heard = record { letter = 0; truth = false }

module _ (Γ : Network) where
  -- the letter l is that of a signal
  pub record Defined (l : ℕ) : Type 0 where
    pub signal : ℕ
    pub below : signal < Γ.signals
    pub is : letter Γ signal ≡ l

  -- no "letter in the list is undefined or stands twice", with either truth
  pub record WellNamed (hs : List Heard) : Type 0 where
    pub defined : Each Defined (letters_of hs) 0
    pub once : Distinct (letters_of hs) 0

  -- the test for it
  abbrev pub is_well_named : List Heard → Bool
  is_well_named hs = all_defined_lem Γ.signals Γ.letters (letters_of hs) && distinct (letters_of hs)

  -- what the network of every sheet keeps: "The letter is one of a to z", and none is defined a second time
  pub record Lettered : Type 0 where
    pub lower : (p : ℕ) → p < Γ.signals → is_letter_lem (letter Γ p) ≡ true
    pub once : (p q : ℕ) → p < Γ.signals → q < Γ.signals → letter Γ p ≡ letter Γ q → p ≡ q

  -- the records of those of the n signals from i on that are known, with their truths, in the order of the signals
  abbrev pub records_from : (ℕ → Bool) → (ℕ → Bool) → ℕ → ℕ → List Heard
  records_from known truth i zero = []
  records_from known truth i (suc n) =
      let rest = records_from known truth (suc i) n in
      cond (known i) (record { letter = letter Γ i; truth = truth i } ∷ rest) rest

  abbrev pub records_of : (ℕ → Bool) → (ℕ → Bool) → List Heard
  records_of known truth = records_from known truth 0 Γ.signals

-- whether the list says that the letter l is v
abbrev pub says : List Heard → ℕ → Bool → Bool
says [] l v = false
says (h ∷ hs) l v = (eqb h.letter l && beq h.truth v) || says hs l v
