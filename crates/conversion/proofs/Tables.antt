-- The good tables of the converted sheet are those of the former sheet (`same_tables`): the networks agree in all but
-- their rules, and in a case the rules that result hold exactly where those of the sheet as it is read do and each
-- `fix` row's difference equals its limit. Assumes nothing.
use mathlib.Core.Path.{refl, sym, ◌∙◌, ap}
use mathlib.Core.Logic.{◌↔◌}
use mathlib.Core.List.{List}
use Prim.Native.Nat.{ℕ, ◌<◌}
use native.Mathlib.Omega.{arith}
use lib.ListN.{get_or}
use Rattle.network.specs.Build.{constraint, scenarios}
use Rattle.network.specs.Strategy.{reaction_of_lem}
use Rattle.network.specs.Solution.{Holds, Solution}
use Rattle.network.specs.declared.Network.{Network}
use Rattle.layout.specs.Contents.{Rule, Contents, no_rule}
use Rattle.layout.specs.Contains.{Contains}
use Rattle.layout.proofs.Framed.{Framed, observed-same, labels-same, reactions-same}
use Rattle.tighten.proofs.Agree.{Agree, agree-sym, scenarios-agree}
use Rattle.tighten.proofs.Tables.{holds_agree, solution_by-rules}
use Rattle.conversion.specs.FormerTables.{FormerSolution}
use Rattle.conversion.proofs.Results.{Both, to_results, of_results}
use Rattle.conversion.proofs.Given.{Given, now, kept, rows, length-rows}
use Rattle.conversion.proofs.Text.{results, becomes}
use Rattle.conversion.proofs.RuleHolds.{rule, row, inside, means, Hold, hold, as_held, by_held, both, limits_of}

-- Δ holds the contents that result
module _ {sheet new : List ℕ} {Γ Δ : Network} (g : Given sheet Γ) (d : Contains new Δ (becomes g)) where
  abbrev c : Contents
  c = now g

  framed : Framed c (becomes g)
  framed = record { names = refl; signals = refl; cases = refl }

  pub agrees : Agree Γ Δ
  agrees = record {
    horizon = g.holds.horizon ∙ sym d.horizon;
    events = g.holds.events ∙ sym d.events;
    signals = g.holds.signals ∙ sym d.signals;
    observations = observed-same g.holds d framed (kept g).names_once;
    reactions = λ p l. ap reaction_of_lem (reactions-same g.holds d framed refl p l);
    labels = labels-same g.holds d framed;
  }

  -- a rule holds in a case
  abbrev Held : List ℕ → ℕ → Rule → Type 0
  Held = Hold g

  pub same_tables : (σ : List ℕ) → FormerSolution g.contents Γ σ ↔ Solution Δ σ
  same_tables σ = (to, from)
    where
      -- a good table of the former sheet is one of the network that holds it
      good : FormerSolution g.contents Γ σ → Solution Γ σ
      good f = record {
        sized = f.sized;
        on_time = f.on_time;
        viable = λ s i l m. (as_held g σ s i m (f.viable s i l m)).0;
        dynamic = f.dynamic;
      }

      to : FormerSolution g.contents Γ σ → Solution Δ σ
      to f =
          solution_by-rules agrees σ (good f) (λ s j l m.
          let there : s < scenarios Γ = omega (arith, scenarios-agree agrees) in
          let each = to_results (Held σ s) (rows g) c.rules (λ i n.
          let v : i < Γ.rules = omega (arith, g.holds.rules) in
          let w = as_held g σ s i v (f.viable s i there v) in
          both g σ s i v w.0 w.1) in
          holds_agree agrees σ s (constraint Δ j)
          (each.each j (omega (arith, d.rules)) (constraint Δ j) (d.means j (omega (arith, d.rules)))))

      from : Solution Δ σ → FormerSolution g.contents Γ σ
      from f =
          let back = agree-sym agrees in
          let there : (s : ℕ) → s < scenarios Γ → s < scenarios Δ = λ s l. omega (arith, scenarios-agree agrees) in
          let all : (s : ℕ) → s < scenarios Γ → (i : ℕ) → i < Γ.rules → Both (Held σ s) (row g i) (rule g i) =
          λ s l i m.
          of_results (Held σ s) (rows g) c.rules (length-rows g) (record {
            each = λ j n.
                hold g σ s (constraint Δ j) (get_or (results g) j no_rule) (d.means j n)
                (holds_agree back σ s (constraint Δ j) (f.viable s j (there s l) (omega (arith, d.rules))));
          }) i (inside g i m) in
          let viable : (s i : ℕ) → s < scenarios Γ → i < Γ.rules → Holds Γ σ s (constraint Γ i) =
          λ s i l m. (all s l i m).one (constraint Γ i) (means g i m) in
          let w = solution_by-rules back σ f viable in
          record {
            sized = w.sized;
            on_time = w.on_time;
            viable = λ s i l m. by_held g σ s i m (viable s i l m) (limits_of g σ s i m (all s l i m));
            dynamic = w.dynamic;
          }
