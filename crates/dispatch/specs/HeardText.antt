-- What has been heard so far, as text: the letters, each with `!` before it where the signal said false, in any order.
-- It is written as a label is (01, The sheet), or not at all: nothing has been heard where it is `-`, or empty.
use Rattle.std.specs.Prelude.{◌≡◌, Bool, true, ◌||◌, cond, List, map, ℕ, eqb, length, Result, Err}
use Rattle.network.specs.declared.Network.{Network}
use Rattle.names.specs.Names.{Literal, is_label_lem, label_of}
use Rattle.dispatch.specs.Heard.{WellNamed}
use Rattle.dispatch.specs.Due.{due}
use Rattle.dispatch.specs.Said.{misnamed, with_bit, said_from}
use Rattle.dispatch.specs.declared.Heard.{Heard}
use Rattle.dispatch.specs.declared.Unanswered.{Unanswered}
use Rattle.dispatch.specs.declared.Unanswered.TheVariants.{Misnamed}

-- whether a text is of this form
abbrev pub is_heard_lem : List ℕ → Bool
is_heard_lem text = eqb (length text) 0 || is_label_lem text

-- the truth that a label asks of a letter is here the one that was heard
abbrev pub record_of : Literal → Heard
record_of l = record { letter = l.letter; truth = l.value }

-- the records of a text of this form
abbrev pub heard_in : List ℕ → List Heard
heard_in text = map record_of (label_of text)

-- it is of this form, and no letter in it is undefined or stands twice
pub record WellWritten (Γ : Network) (text : List ℕ) : Type 0 where
  pub formed : is_heard_lem text ≡ true
  pub named : WellNamed Γ (heard_in text)

-- what is due for those who have heard the text; one of another form counts as misnamed, as a letter that is undefined
-- or stands twice does
unfoldable pub due_text : Network → List ℕ → ℕ → List ℕ → Result ℕ Unanswered
due_text Γ σ m text = cond (is_heard_lem text) (due Γ σ m (heard_in text)) (Err Misnamed)

-- the text as a mask: that of its records, or the bit `misnamed` alone, which no list that is well named has
unfoldable pub said_text : List ℕ → ℕ
said_text text = cond (is_heard_lem text) (said_from 0 (heard_in text)) (with_bit 0 misnamed)
