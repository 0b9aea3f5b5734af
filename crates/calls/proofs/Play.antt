-- The letters of an accepted sheet's signals are those of its layout, which is what the player asks for; so playing by
-- the mask of a list is playing by the list. Assumes nothing.
use mathlib.Core.Path.{◌≡◌, sym, ◌∙◌}
use mathlib.Core.List.{List}
use Prim.Native.Nat.{ℕ, ◌<◌}
use native.Mathlib.Omega.{arith}
use lib.ListN.{length, length-map}
use Rattle.sheet.specs.Reading.{network_of, Accepts}
use Rattle.layout.specs.Contents.{signal_letters}
use Rattle.layout.proofs.Finds.{letter_is}
use Rattle.layout.proofs.Accepted.{accepted_iff, network-contains}
use Rattle.dispatch.specs.Heard.{Lettered}
use Rattle.dispatch.specs.Said.{said_from, due_on}
use Rattle.dispatch.specs.Due.{due}
use Rattle.dispatch.specs.declared.Heard.{Heard}
use Rattle.dispatch.proofs.Mask.{due-said}
use Rattle.calls.specs.Lent.{as_minutes}
use Rattle.calls.specs.Play.{events_due_lem, events_due_on_lem}
use Rattle.calls.proofs.Alike.{playing-alike, itself}

pub lettered : (sheet : List ℕ) → Accepts sheet → Lettered (network_of sheet)
lettered sheet a =
    let l = (accepted_iff sheet).0 a in
    let xs = l.contents.signals in
    let c = network-contains sheet l in
    let inside : (p : ℕ) → p < (network_of sheet).signals → p < length xs = λ p h. omega (arith, c.signals) in
    let mapped : (p : ℕ) → p < length xs → p < length (signal_letters xs) =
    λ p h. omega (arith, length-map xs (λ x. x.letter)) in
    record {
      lower = λ p h. rw (c.lettered p (inside p h)) (l.keeps.signals.each p (inside p h)).letter;
      once = λ p q h k e.
          l.keeps.letters_once.once p q (mapped p (inside p h)) (mapped q (inside q k))
          (sym (letter_is c p (inside p h)) ∙ e ∙ letter_is c q (inside q k));
    }

-- by the mask of a list is by the list
pub events-due-said : (sheet t : List ℕ) (m : ℕ) (hs : List Heard)
    → events_due_on_lem sheet t m (said_from 0 hs) ≡ events_due_lem sheet t m hs
unfolding events_due_lem events_due_on_lem
events-due-said sheet t m hs =
    playing-alike sheet (as_minutes t) (as_minutes t) (λ _. itself (as_minutes t) _)
    (λ Γ. due_on Γ t m (said_from 0 hs))
    (λ Γ. due Γ t m hs)
    (λ a _. due-said (network_of sheet) t m hs (lettered sheet a))
