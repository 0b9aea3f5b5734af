-- The text of a ring is the heaviest sheet: accepted, its network a negative cycle, and so exactly (n - 1) * h + 1
-- rounds, the most. Assumes nothing.
use mathlib.Core.Path.{◌≡◌, refl, ap}
use Prim.Native.Nat.{ℕ, suc, ◌+◌, ◌-◌, ◌*◌, ◌≤◌}
use native.Mathlib.Omega.{arith}
use Rattle.network.specs.Limits as L
use Rattle.sheet.specs.Reading.{network_of}
use Rattle.sheet.proofs.WellFormed.{accepted_well_formed}
use Rattle.layout.specs.Layout.{Layout}
use Rattle.layout.proofs.Accepted.{accepted_iff, network-contains}
use Rattle.layout.proofs.Short.{length-text}
use Rattle.heaviest.specs.RingText.{ring_contents, ring_text}
use Rattle.heaviest.specs.Heaviest.{Heaviest}
use Rattle.heaviest.proofs.NegativeCycle.{NegativeCycle}
use Rattle.heaviest.proofs.Rounds.{cycle_takes, cycle_inconsistent, rounds_most}
use Rattle.heaviest.proofs.Kept.{ring_keeps}
use Rattle.heaviest.proofs.Cycle.{negative_cycle}

pub ring_heaviest : (n h : ℕ) → 2 ≤ n → n ≤ L.events → h ≤ L.horizon → Heaviest n h (ring_text n h)
unfolding ring_text
ring_heaviest n h some few low =
    let sheet = ring_text n h in
    let Γ = network_of sheet in
    let keeps = ring_keeps n h some few low in
    let layout : Layout sheet = record {
      contents = ring_contents n h;
      keeps = keeps;
      written = refl;
      short = omega (arith, length-text (ring_contents n h) keeps);
    } in
    let C = network-contains sheet layout in
    let cycle : NegativeCycle (n - 1) Γ = negative_cycle some C in
    let count : suc ((n - 1) * Γ.horizon) ≡ (n - 1) * h + 1 =
    omega (arith, ap (λ (x : ℕ). (n - 1) * x) C.horizon) in
    record {
      layout = layout;
      contents = refl;
      takes = rw count at (cycle_takes cycle);
      most = λ other k _ events none horizon t.
          let Δ = network_of other in
          rw (events, horizon) at (rounds_most Δ k none t);
      no_table = cycle_inconsistent cycle (accepted_well_formed sheet ((accepted_iff sheet).1 layout)).0;
    }
