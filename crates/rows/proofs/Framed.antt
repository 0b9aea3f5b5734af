-- What a frame keeps of its network, as the code needs it: at most sixteen scenarios, labels of four letters, and which
-- events happen. Assumes nothing.
use mathlib.Core.Path.{◌≡◌}
use mathlib.Core.Bool.{false, true}
use Prim.Native.Nat.{ℕ, ◌≤◌}
use native.Mathlib.Omega.{arith}
use Rattle.network.specs.Build.{event_label}
use Rattle.network.specs.Happens.{happens}
use Rattle.network.specs.WellFormed.{FewLetters}
use Rattle.network.proofs.Labels.{happens-unlabelled}
use Rattle.rows.specs.declared.frame.Frame.{Frame}
use Rattle.rows.proofs.Gapless.{sixteen}

module _ (frame : Frame) where
  pub scenarios_few : frame.scenarios ≤ 16
  scenarios_few = rw frame.scenarios_are (sixteen frame.network.signals frame.formed.signals)

  pub sums : (u : ℕ) → FewLetters (event_label frame.network u)
  sums u =
      let few = sixteen frame.network.signals frame.formed.signals in
      let letters = frame.formed.lettered u in
      record { positive = omega (arith, letters.positive); negative = omega (arith, letters.negative) }

  pub all_happen : frame.labelled ≡ false → (s u : ℕ) → happens frame.network s u ≡ true
  all_happen e s u = happens-unlabelled frame.network s u (frame.unlabelled e u)
