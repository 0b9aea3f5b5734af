-- The letters of m that stand in n are those of m. Assumes nothing.
use Rattle.line.proofs.Bits.{part-bits}
use Rattle.line.proofs.whole.is_part.Goals as goal

pub returns : goal.returns
returns c =
    part-bits c.args.m c.args.n c.requires.0 c.requires.1
