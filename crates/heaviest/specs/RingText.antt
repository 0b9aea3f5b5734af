-- The sheet that is written for n events and the horizon h. Its events are a, b, c and so on, and it has no signals;
-- its rules are `min` rows labelled `-`, of 0 from b on to each next event, and then of 1 from the last back to b. They
-- make a ring whose lower bounds add up to 1, a negative cycle of the distance graph: each round moves one of its
-- events by one minute.
use Rattle.std.specs.Prelude.{cond, List, [], ◌∷◌, ℕ, suc, ◌+◌, ◌-◌, eqb, pos}
use Rattle.std.proofs.Math.Option.{none}
use Prim.Native.Char.{code}
use Rattle.prelude.specs.Bounded.{tabulate}
use Rattle.network.specs.declared.Kind.TheVariants.{Min}
use Rattle.layout.specs.Contents.{Rule, Contents}
use Rattle.layout.specs.Layout.{text_of}

-- event u: a, b, c and so on
abbrev pub letter_name : ℕ → List ℕ
letter_name u = (code "a" + u) ∷ []

-- event v comes no sooner than w minutes behind event u
abbrev pub no_sooner_row : ℕ → ℕ → ℕ → Rule
no_sooner_row u v w = record { kind = Min; from = letter_name u; to = letter_name v; limit = pos w; label = [] }

-- row i of m: the last closes the ring
abbrev pub ring_row : ℕ → ℕ → Rule
ring_row m i = cond (eqb (suc i) m) (no_sooner_row m 1 1) (no_sooner_row (suc i) (suc (suc i)) 0)

-- there are as many rows as events behind the start
abbrev pub ring_contents : ℕ → ℕ → Contents
ring_contents n h = record {
  horizon = h;
  names = tabulate n letter_name;
  signals = [];
  rules = tabulate (n - 1) (ring_row (n - 1));
  reactions = none;
  cases = none;
}

unfoldable pub ring_text : ℕ → ℕ → List ℕ
ring_text n h = text_of (ring_contents n h)
