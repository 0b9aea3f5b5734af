-- The solver's answer: with room it has written the least good table, or there is none and it refuses. One argument for
-- memory that is lent as minutes and as bytes. Assumes nothing.
use mathlib.Core.Path.{◌≡◌, refl, sym, ◌∙◌, ap}
use mathlib.Core.Logic.{inl, inr, ◌↔◌}
use mathlib.Core.Bool.{Bool, true, false}
use mathlib.Core.List.{List}
use Prim.Native.Nat.{ℕ, ◌≤◌}
use borrow.Author.Tests.{leb-false, le-leb, lt-leb}
use lib.Dec.{leb}
use Rattle.prelude.proofs.Tests.{zero-is-one}
use Rattle.refusal.specs.declared.Cause.TheVariants.{Inconsistent}
use Rattle.fixpoint.specs.Run.{End, Rests, Passes, Spent}
use Rattle.network.specs.Build.{cells}
use Rattle.network.specs.Least.{Least}
use Rattle.network.specs.Least as L
use Rattle.network.specs.WellFormed.{WellFormed}
use Rattle.network.specs.declared.Network.{Network}
use Rattle.sheet.specs.Reading.{network_of, Accepts}
use Rattle.sheet.proofs.WellFormed.{accepted_well_formed}
use Rattle.solver.specs.Solve.{solve, found}
use Rattle.solver.proofs.Least.{solve-least, solve-none}
use Rattle.calls.specs.Values.{OrRefusal, refused_as, number_values}
use Rattle.calls.specs.Call.{without_line_lem, Left}
use Rattle.calls.specs.Lent.{Lent}
use Rattle.calls.specs.Calls.{writing, refusing, rests, solving_tests, solving_into}
use Rattle.calls.specs.Answers.{Writes}
use Rattle.calls.specs.Numbers.{solves}
use Rattle.calls.proofs.Call.{call_fails, call_works}
use Rattle.calls.proofs.Settled.{number_of}
use Rattle.calls.proofs.Matched.{unlined, writes_call}

-- the run rests where its end says so
pub rests-true : (end : End) → (rests end ≡ true) ↔ (end ≡ Rests)
rests-true Rests = (λ e. refl, λ e. refl)
rests-true Passes = (λ e. zero-is-one cc, λ e. zero-is-one cc)
rests-true Spent = (λ e. zero-is-one cc, λ e. zero-is-one cc)

rests-false : (end : End) → (rests end ≡ false) ↔ (end ≡ Rests → ⊥)
rests-false Rests = (λ e. zero-is-one cc, λ n. absurd (n refl))
rests-false Passes = (λ e q. zero-is-one cc, λ n. refl)
rests-false Spent = (λ e q. zero-is-one cc, λ n. refl)

module _ (sheet : List ℕ) (m : Lent) where
  abbrev net : Network
  net = network_of sheet

  abbrev work : Network → Left (OrRefusal ℕ)
  work Γ = writing m (found Γ)

  module _ (a : Accepts sheet) where
    wf : WellFormed net
    wf = (accepted_well_formed sheet a).0

    -- the run does not rest exactly where no good table exists, and where it rests it has reached the least
    pub unrested : (rests (solve net).end ≡ false) ↔ L.Inconsistent net
    unrested = (
      λ e. solve-none net wf ((rests-false (solve net).end).0 e),
      λ i. (rests-false (solve net).end).1 (λ r. i.none (found net) (solve-least net wf r).solves),
    )

    pub rested : rests (solve net).end ≡ true → Least net (found net)
    rested e = solve-least net wf ((rests-true (solve net).end).0 e)

    module _ (room : cells net ≤ m.room) where
      has_room : leb (cells net) m.room ≡ true
      has_room = le-leb (cells net) m.room room

      -- it refuses, or has written what the run reached
      pub refuses_none : L.Inconsistent net → solving_into sheet m ≡ refusing m (without_line_lem Inconsistent)
      refuses_none i =
          sym (call_fails (refusing m) sheet (solving_tests m) work (network_of sheet) a (without_line_lem Inconsistent)
          (inr (has_room, inl (unrested.1 i, refl))))

      pub reached : rests (solve net).end ≡ true → Least net (found net)
          × (solving_into sheet m ≡ writing m (found net))
      reached e = (
        rested e,
        sym (call_works (refusing m) sheet (solving_tests m) work (network_of sheet) a (has_room, (e, tt))),
      )

      pub solves-least : (L.Inconsistent net → ⊥)
          → (σ : List ℕ) × Least net σ × (solving_into sheet m ≡ writing m σ)
      solves-least n = by-rest (rests (solve net).end) refl
        where
          by-rest : (b : Bool) → rests (solve net).end ≡ b
              → (σ : List ℕ) × Least net σ × (solving_into sheet m ≡ writing m σ)
          by-rest true e = let s = reached e in (found net, s.0, s.1)
          by-rest false e = absurd (n (unrested.0 e))

      -- 13 comes exactly where no good table exists
      pub refuses_13 : (number_values (solving_into sheet m).answer ≡ refused_as 13) ↔ L.Inconsistent net
      refuses_13 = (
        by-rest (rests (solve net).end) refl,
        λ i. ap (λ (l : Left (OrRefusal ℕ)). number_values l.answer) (refuses_none i),
      )
        where
          by-rest : (b : Bool) → rests (solve net).end ≡ b
              → number_values (solving_into sheet m).answer ≡ refused_as 13 → L.Inconsistent net
          by-rest true e q =
              let z : ◌≡◌ {A = ℕ} 0 13 =
              sym (ap (λ (l : Left (OrRefusal ℕ)). (number_values l.answer).number) (reached e).1) ∙ ap number_of q in
              zero-is-one cc
          by-rest false e q = unrested.0 e

  pub solver_writes : Writes sheet (solves m.room) (solving_into sheet m) m.before
  solver_writes =
      writes_call m sheet (solving_tests m) work
      (solves m.room) refl
      (λ a. (
        λ _. unlined refl refl,
        (leb-false (cells net) m.room, lt-leb (cells net) m.room),
        λ _. (λ _. unlined refl refl, unrested a, λ _. tt),
      ))
      (λ Γ. (refl, refl))
