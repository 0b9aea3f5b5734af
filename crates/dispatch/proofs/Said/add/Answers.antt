-- `add` meets its contract: its two tests are the definition's.
use mathlib.Core.Path.{◌≡◌, sym, ◌∙◌, ap}
use mathlib.Core.Bool.{false, and-false}
use Rattle.dispatch.specs.Said.{with_bit}
use Rattle.dispatch.proofs.Fold.{free, with_heard_free, with_heard-other}
use Rattle.dispatch.proofs.Said.add.Goals.{then-not-is_letter-via-then-not-is_letter}
use Rattle.dispatch.proofs.Said.add.Goals.{then-not-is_letter-via-else-not-is_letter+then-stands}
use Rattle.dispatch.proofs.Said.add.Goals as goal

pub returns-then-not-is_letter : goal.returns-then-not-is_letter
returns-then-not-is_letter c =
    let a = c.args in
    let letter = sym c.is_letter.ensures in
    let taken : free a.self.mask a.heard.letter ≡ false = elim c.then-not-is_letter.branch [
      | then-not-is_letter-via-then-not-is_letter w ↦ rw (letter ∙ w.if-not-is_letter.true)
      | then-not-is_letter-via-else-not-is_letter+then-stands w ↦
          rw (sym w.stands.ensures ∙ w.if-stands.true, and-false)
    ] in
    c.with.ensures ∙ sym (with_heard-other a.self.mask a.heard taken)

pub returns : goal.returns
returns c =
    let a = c.args in
    let lettered = sym c.is_letter.ensures ∙ c.if-not-is_letter.false in
    let stood = sym c.stands.ensures ∙ c.if-stands.false in
    c.with-2.ensures ∙ ap (with_bit a.self.mask) c.bit_of.ensures
    ∙ sym (with_heard_free a.self.mask a.heard (rw (lettered, stood)))
