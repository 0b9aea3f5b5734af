-- A turn's write puts what follows in the text behind what is written.
use Rattle.std.proofs.Common.{arith, sym, ap, ◌∙◌, ◌++◌, subst, length, take, le_refl}
use Rattle.std.proofs.lemmas.Slice.{between_to_end}
use Rattle.std.specs.Io.KnownBytes.{Appends}
use Rattle.std.proofs.KnownBytes.{Appends-trans}
use lib.Seq.{take-add}
use Rattle.files.proofs.write_full.Goals as goal

pub loop-done-preserved : goal.loop-done-preserved
loop-done-preserved g c =
    let text = c.args.text.now in
    let done = c.loop-done.done in
    let n = c.in_ok-n.n in
    let both = Appends-trans _ _ _ _ _ c.loop-done.invariant.1 c.in_ok-n.ensures.bytes in
    let rest = between_to_end text done (length text) (le_refl _) in
    let joined = ap (λ l. take done text ++ take n l) rest ∙ sym (take-add done n text) in
    (omega (arith, c.in_ok-n.ensures.bound, c.loop-done-test.true), subst (Appends _ _) joined both)
