-- The reading accepts exactly the byte strings that the layout describes, and its network holds what they contain.
-- Assumes nothing.
use mathlib.Core.Path.{◌≡◌, refl, ◌∙◌}
use mathlib.Core.Logic.{◌↔◌}
use mathlib.Core.List.{List}
use Prim.Native.Nat.{ℕ}
use Rattle.std.specs.Prelude.{Ok, Err}
use Rattle.prelude.proofs.Tests.{zero-is-one}
use Rattle.network.specs.declared.Network.{Network}
use Rattle.sheet.specs.Reading.{Progress, Go, progress, answered, network_in, network_of, Accepts}
use Rattle.layout.specs.Layout.{Layout}
use Rattle.layout.specs.Contains.{Contains}
use Rattle.layout.proofs.Written.{layout_of}
use Rattle.sheet.proofs.Whole.{in_length}
use Rattle.layout.specs.Contents.{Contents}
use Rattle.layout.proofs.Read.{sections_read}

-- the reading comes to its end with a network that holds the contents
record IsRead (sheet : List ℕ) (c : Contents) : Type 0 where
  pub network : Network
  pub at : ℕ
  pub number : ℕ
  pub goes : progress sheet ≡ Go network at number
  pub held : Contains sheet network c

layout_read : (sheet : List ℕ) (l : Layout sheet) → IsRead sheet l.contents
layout_read sheet l =
    let c = l.contents in
    let r =
    sections_read sheet c.horizon c.names c.signals c.rules c.reactions c.cases l.keeps
    l.written in
    record {
      network = r.network;
      at = r.at;
      number = r.number;
      goes = in_length sheet l.short ∙ r.goes;
      held = r.held.holds;
    }

-- what is accepted is a reading that has come to its end
by-accepted : {A : Type 0} (p : Progress) → answered p ≡ Ok (network_in (answered p))
    → ((Γ : Network) (at k : ℕ) → p ≡ Go Γ at k → A) → A
by-accepted (Err r) e f = zero-is-one cc
by-accepted (Ok p) e f = f p.network p.at p.line refl

pub accepted_iff : (sheet : List ℕ) → Accepts sheet ↔ Layout sheet
accepted_iff sheet = (
  λ e. by-accepted (progress sheet) e (layout_of sheet),
  λ l. let r = layout_read sheet l in rw r.goes refl,
)

-- whichever contents the sheet is the text of
pub network-contains : (sheet : List ℕ) (l : Layout sheet) → Contains sheet (network_of sheet) l.contents
network-contains sheet l = let r = layout_read sheet l in rw r.goes r.held
