-- The rounds that are counted are those that the network takes; with a refusal other than 13 there are none; and their
-- count fits three bytes but for their highest bit. Assumes nothing.
use mathlib.Core.Path.{◌≡◌, refl, sym, ◌∙◌, ap}
use mathlib.Core.Logic.{inl, inr}
use mathlib.Core.List.{List, [], ◌∷◌}
use Prim.Native.Nat.{ℕ, ◌-◌, ◌*◌, ◌≤◌, ◌<◌}
use native.Mathlib.Nat.{mul-le-mul}
use native.Mathlib.Omega.{arith}
use borrow.Author.Tests.{leb-true, le-leb}
use Rattle.std.specs.Prelude.{Ok, Err}
use Rattle.prelude.proofs.Tests.{either}
use Rattle.network.specs.Build.{scenarios, cells}
use Rattle.network.specs.WellFormed.{WellFormed}
use Rattle.network.specs.declared.Network.{Network}
use Rattle.sheet.specs.Reading.{read, network_of, Accepts}
use Rattle.sheet.proofs.WellFormed.{accepted_well_formed}
use Rattle.solver.specs.Solve.{solve}
use Rattle.solver.specs.Rounds.{moving}
use Rattle.solver.proofs.Rounds.{counted, moving_most}
use Rattle.calls.specs.Values.{OrRefusal, number_values}
use Rattle.calls.specs.Call.{Tests, Leaves}
use Rattle.calls.specs.Lent.{Lent}
use Rattle.calls.specs.Calls.{enough, rests, solving_into}
use Rattle.calls.specs.Counting.{OrUnsolved, answer_of, rounds_of, counted_as, rounds_taken, counting_into}
use Rattle.calls.specs.Solves.{CountsRounds}
use Rattle.calls.proofs.Call.{Ends, faulty, failed, worked, ends, call_works}
use Rattle.calls.proofs.Small.{scenarios_few}
use Rattle.calls.proofs.Solving.{unrested, refuses_none, reached}

-- what goes in with a count comes out of it
pub answer-counted : (k : ℕ) (a : OrRefusal ℕ) → answer_of (counted_as k a) ≡ a
answer-counted k (Ok n) = refl
answer-counted k (Err r) = refl

pub rounds-counted : (k : ℕ) (a : OrRefusal ℕ) → rounds_of (counted_as k a) ≡ k
rounds-counted k (Ok n) = refl
rounds-counted k (Err r) = refl

-- what a call with a count leaves it leaves without one
module _ (sheet : List ℕ) (m : Lent) {r : OrUnsolved} {x : List ℕ} (h : Leaves (counting_into sheet m) r x) where
  pub uncounted : Leaves (solving_into sheet m) (answer_of r) x
  uncounted = record {
    answer = ap answer_of h.answer ∙ answer-counted (rounds_taken sheet m) (solving_into sheet m).answer;
    memory = h.memory;
  }

  pub rounds-left : rounds_of r ≡ rounds_taken sheet m
  rounds-left = ap rounds_of h.answer ∙ rounds-counted (rounds_taken sheet m) (solving_into sheet m).answer

-- 240 cells move at most, and none beyond 10,080
pub rise_few : (Γ : Network) → WellFormed Γ → moving Γ * Γ.horizon ≤ 2419200
rise_few Γ w =
    let others : Γ.events - 1 ≤ 15 = omega (arith, w.events) in
    let few : (Γ.events - 1) * scenarios Γ ≤ 15 * 16 = mul-le-mul others (scenarios_few w) in
    let move : moving Γ ≤ 240 = omega (arith, moving_most Γ, few) in
    let most : moving Γ * Γ.horizon ≤ 240 * 10080 = mul-le-mul move w.horizon in
    omega (arith, most)

pub rounds_few : (Γ : Network) → WellFormed Γ → (solve Γ).rounds < 8388608
rounds_few Γ w = omega (arith, (counted Γ).most, rise_few Γ w)

module _ (sheet : List ℕ) (m : Lent) where
  abbrev net : Network
  net = network_of sheet

  abbrev tests : Network → Tests
  tests Γ = enough m (cells Γ) ∷ []

  abbrev work : Network → ℕ
  work Γ = (solve Γ).rounds

  module _ (Γ : Network) (a : read sheet ≡ Ok Γ) where
    pub rounds-solved : cells Γ ≤ m.room → rounds_taken sheet m ≡ (solve Γ).rounds
    rounds-solved h = sym (call_works (λ _. 0) sheet tests work Γ a (le-leb (cells Γ) m.room h, tt))

  -- with room, the call succeeds or refuses with 13
  pub answered : Accepts sheet → cells net ≤ m.room → ((number_values (solving_into sheet m).answer).number ≡ 0 → ⊥)
      → ((number_values (solving_into sheet m).answer).number ≡ 13 → ⊥) → ⊥
  answered a room n none =
      elim (either (rests (solve net).end)) [
        | inl e ↦ n (ap (λ (l : _). (number_values l.answer).number) (reached sheet m a room e).1)
        | inr e ↦
            none
            (ap (λ (l : _). (number_values l.answer).number) (refuses_none sheet m a room ((unrested sheet m a).0 e)))
      ]

  pub counts_rounds : CountsRounds sheet m (number_values (solving_into sheet m).answer) (rounds_taken sheet m)
  counts_rounds = record {
    counted = λ Γ r room.
        let here : read sheet ≡ Ok Γ = rw r.network at r.accepted in
        rw (rounds-solved Γ here room) (counted Γ);
    none = λ n none. by_end n none (ends (λ _. 0) sheet tests work);
  }
    where
      by_end : ((number_values (solving_into sheet m).answer).number ≡ 0 → ⊥)
          → ((number_values (solving_into sheet m).answer).number ≡ 13 → ⊥)
          → Ends (λ _. 0) sheet tests work → rounds_taken sheet m ≡ 0
      by_end n none (faulty r p e) = sym e
      by_end n none (failed a r f e) = sym e
      by_end n none (worked a h e) = absurd (answered a (leb-true (cells net) m.room h.0) n none)

  pub taken_few : rounds_taken sheet m < 8388608
  taken_few = by_end (ends (λ _. 0) sheet tests work)
    where
      by_end : Ends (λ _. 0) sheet tests work → rounds_taken sheet m < 8388608
      by_end (faulty r p e) = omega (arith, e)
      by_end (failed a r f e) = omega (arith, e)
      by_end (worked a h e) = omega (arith, e, rounds_few net (accepted_well_formed sheet a).0)
