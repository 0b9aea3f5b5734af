use Rattle.calls.proofs.Playing.{playing}
use Rattle.calls.proofs.theorems.playing_holds.Goals as goal

pub returns : goal.returns
returns c = playing
