-- What the calls that write leave in lent memory: laws of all of them, and of those that write text, by what the writer
-- did. Assumes nothing.
use mathlib.Core.Path.{◌≡◌, refl, ◌∙◌, ap}
use mathlib.Core.Logic.{inl, inr}
use mathlib.Core.Bool.{Bool, true, false}
use mathlib.Core.List.{List, [], ◌∷◌}
use Prim.Native.Nat.{ℕ}
use lib.ListN.{length}
use Rattle.std.specs.Prelude.{Option, Some, None, Result, Ok, Err, ok_or, MatchResult, IsErrAnd}
use Rattle.prelude.specs.Checks.{Hold, FirstFails}
use Rattle.page.specs.HandedOut.{is_room, count_of, memory_after, HandedOut}
use Rattle.refusal.specs.declared.Cause.TheVariants.{BufferTooShort, TooManyRows}
use Rattle.refusal.specs.declared.Refusal.{Refusal}
use Rattle.network.specs.declared.Network.{Network}
use Rattle.sheet.specs.Reading.{read}
use Rattle.listing.specs.Listing.{listing}
use Rattle.canonical.specs.House.{house_text}
use Rattle.conversion.specs.FormerRules.{read_as_max_lem}
use Rattle.conversion.specs.Converted.{resulting, converted}
use Rattle.heaviest.specs.RingText.{ring_text}
use Rattle.heaviest.specs.Reading.{reading}
use Rattle.calls.specs.Values.{OrRefusal}
use Rattle.calls.specs.Call.{without_line_lem, call, Left, Leaves, Tests}
use Rattle.calls.specs.Lent.{in_place_lem}
use Rattle.calls.specs.Calls.{enough, writing, refusing, listed, fit}
use Rattle.calls.specs.Calls.{house_tests, housed, convert_tests, converting, ringing}
use Rattle.calls.proofs.Call.{call-refused, call_fails, call_works}
use Rattle.opening.specs.Prologue.{handed_in_lem}
use Rattle.opening.proofs.Prologue.{length_test, opened-refused, opened_fails, opened_works}

-- the answer of a part of a call, with its refusal as the call's
abbrev pub refused_by : {E : Type 0} → (E → Refusal) → Result ℕ E → OrRefusal ℕ
refused_by of (Ok n) = Ok n
refused_by of (Err e) = Err (of e)

-- `map_err` answers so
pub mapped : {E : Type 0} (of : E → Refusal) (d : Result ℕ E) (answer : OrRefusal ℕ)
    → MatchResult d (λ n. answer ≡ Ok n) (λ e. IsErrAnd answer (λ x. x ≡ of e)) → answer ≡ refused_by of d
mapped of (Ok n) answer h = h
mapped of (Err e) (Ok n) h = absurd h
mapped of (Err e) (Err x) h = ap (λ (y : Refusal). Err y) h

-- what was promised of one definition is promised of an equal one
pub leaves_as : {l k : Left (OrRefusal ℕ)} {r : OrRefusal ℕ} {m : List ℕ} → l ≡ k → Leaves l r m → Leaves k r m
leaves_as e h = rw (← e) h

-- a refusal leaves the memory as it was
pub kept : {l : Left (OrRefusal ℕ)} (m : List ℕ) (r : Refusal) → refusing (in_place_lem m) r ≡ l → Leaves l (Err r) m
kept m r e = leaves_as e (record { answer = refl; memory = refl })

-- how a writer answers that has no room
abbrev pub or_short : Option ℕ → OrRefusal ℕ
or_short w = ok_or w (without_line_lem BufferTooShort)

-- a writer wrote the text, or had no room for it
pub written-by : {l : Left (OrRefusal ℕ)} (text m x : List ℕ) (w : Option ℕ) → HandedOut text m x w
    → (is_room text m ≡ true → writing (in_place_lem m) text ≡ l)
    → (is_room text m ≡ false → refusing (in_place_lem m) (without_line_lem BufferTooShort) ≡ l)
    → Leaves l (or_short w) x
unfolding count_of memory_after
written-by {l} text m x w is wrote short = by-room (is_room text m) refl
  where
    by-room : (b : Bool) → is_room text m ≡ b → Leaves l (or_short w) x
    by-room true r =
        let done : w ≡ Some (length text) = is.answer ∙ rw r in
        leaves_as (wrote r) (rw done (record { answer = refl; memory = is.memory ∙ rw r }))
    by-room false r =
        let done : w ≡ None = is.answer ∙ rw r in
        leaves_as (short r) (rw done (record { answer = refl; memory = is.memory ∙ rw r }))

-- the listing of a table that is handed in
module _ (sheet t m : List ℕ) where
  abbrev text : Network → List ℕ
  text Γ = listing sheet Γ t

  abbrev rest : Network → Tests
  rest Γ = enough (in_place_lem m) (length (text Γ)) ∷ []

  abbrev work : Network → Left (OrRefusal ℕ)
  work Γ = writing (in_place_lem m) (text Γ)

  pub listing-refused : (r : Refusal) → handed_in_lem sheet (length t) ≡ Err r → Leaves (listed sheet t m) (Err r) m
  listing-refused r p =
      kept m r (opened-refused sheet (length_test t) (refusing (in_place_lem m)) rest work r p)

  pub listing-written : (Γ : Network) → handed_in_lem sheet (length t) ≡ Ok Γ → (x : List ℕ) (w : Option ℕ)
      → HandedOut (text Γ) m x w → Leaves (listed sheet t m) (or_short w) x
  listing-written Γ q x w is =
      written-by (text Γ) m x w is
      (λ room. opened_works sheet (length_test t) (refusing (in_place_lem m)) rest work Γ q (room, tt))
      (λ short. opened_fails sheet (length_test t) (refusing (in_place_lem m)) rest work Γ q _ (inl (short, refl)))

-- a text of what the sheet is read into: a house form, or a converted sheet
module _ (sheet m : List ℕ) (tests : Network → Tests) (text : Network → List ℕ) where
  abbrev left : Left (OrRefusal ℕ)
  left = call (refusing (in_place_lem m)) sheet tests (λ Γ. writing (in_place_lem m) (text Γ))

  pub text-refused : (r : Refusal) → read sheet ≡ Err r → Leaves left (Err r) m
  text-refused r p =
      kept m r (call-refused (refusing (in_place_lem m)) sheet tests (λ Γ. writing (in_place_lem m) (text Γ)) r p)

  module _ (Γ : Network) (a : read sheet ≡ Ok Γ) where
    pub text_fails : (r : Refusal) → FirstFails (tests Γ) r → Leaves left (Err r) m
    text_fails r f =
        kept m r
        (call_fails (refusing (in_place_lem m)) sheet tests (λ Δ. writing (in_place_lem m) (text Δ)) Γ a r f)

    pub text-written : (x : List ℕ) (w : Option ℕ) → HandedOut (text Γ) m x w
        → (is_room (text Γ) m ≡ true → Hold (tests Γ))
        → (is_room (text Γ) m ≡ false → FirstFails (tests Γ) (without_line_lem BufferTooShort))
        → Leaves left (or_short w) x
    text-written x w is room short =
        written-by (text Γ) m x w is
        (λ r. call_works (refusing (in_place_lem m)) sheet tests (λ Δ. writing (in_place_lem m) (text Δ)) Γ a (room r))
        (λ s.
        call_fails (refusing (in_place_lem m)) sheet tests (λ Δ. writing (in_place_lem m) (text Δ)) Γ a _ (short s))

-- the house form
module _ (sheet m : List ℕ) where
  pub house_refused : (r : Refusal) → read sheet ≡ Err r → Leaves (housed sheet m) (Err r) m
  house_refused = text-refused sheet m (house_tests sheet (in_place_lem m)) (house_text sheet)

  pub house-written : (Γ : Network) → read sheet ≡ Ok Γ → (x : List ℕ) (w : Option ℕ)
      → HandedOut (house_text sheet Γ) m x w → Leaves (housed sheet m) (or_short w) x
  house-written Γ a x w is =
      text-written sheet m (house_tests sheet (in_place_lem m)) (house_text sheet) Γ a x w is
      (λ room. (room, tt)) (λ short. inl (short, refl))

-- the converted sheet
module _ (sheet m : List ℕ) where
  pub convert_refused : (r : Refusal) → read (read_as_max_lem sheet) ≡ Err r → Leaves (converting sheet m) (Err r) m
  convert_refused = text-refused (read_as_max_lem sheet) m (convert_tests sheet (in_place_lem m)) (converted sheet)

  module _ (Γ : Network) (a : read (read_as_max_lem sheet) ≡ Ok Γ) where
    pub convert-many : fit (resulting sheet Γ) ≡ false
        → Leaves (converting sheet m) (Err (without_line_lem TooManyRows)) m
    convert-many h =
        text_fails (read_as_max_lem sheet) m (convert_tests sheet (in_place_lem m)) (converted sheet) Γ a _
        (inl (h, refl))

    pub convert-written : fit (resulting sheet Γ) ≡ true → (x : List ℕ) (w : Option ℕ)
        → HandedOut (converted sheet Γ) m x w → Leaves (converting sheet m) (or_short w) x
    convert-written few x w is =
        text-written (read_as_max_lem sheet) m (convert_tests sheet (in_place_lem m)) (converted sheet) Γ a x w is
        (λ room. (few, (room, tt))) (λ short. inr (few, inl (short, refl)))

-- the sheet that a line asks for
module _ (line m : List ℕ) where
  pub ring_refused : (r : Refusal) → reading line ≡ Err r → Leaves (ringing line m) (Err r) m
  ring_refused r e = kept m r (rw e refl)

  pub ring-written : (n h : ℕ) → reading line ≡ Ok (n, h) → (x : List ℕ) (w : Option ℕ)
      → HandedOut (ring_text n h) m x w → Leaves (ringing line m) (or_short w) x
  ring-written n h e x w is =
      written-by (ring_text n h) m x w is (λ room. rw (e, room) refl) (λ short. rw (e, short) refl)
