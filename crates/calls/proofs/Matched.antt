-- From a call's tests to the numbers that it can answer: where each test fails exactly with the cause of one of the
-- call's own refusals, the call answers by these. Assumes nothing.
use mathlib.Core.Path.{◌≡◌, refl, sym, ◌∙◌, ap}
use mathlib.Core.Logic.{inl, inr, ◌↔◌}
use mathlib.Core.Bool.{true, false}
use mathlib.Core.List.{List, [], ◌∷◌}
use Prim.Native.Nat.{ℕ, suc, ◌≤◌}
use native.Mathlib.Omega.{arith}
use Rattle.prelude.specs.Checks.{Hold, FirstFails}
use Rattle.prelude.proofs.Tests.{either, clash}
use Rattle.refusal.specs.Refusal.{number_of}
use Rattle.refusal.specs.declared.Cause.{Cause}
use Rattle.refusal.specs.declared.Refusal.{Refusal}
use Rattle.network.specs.declared.Network.{Network}
use Rattle.sheet.specs.Reading.{longest, network_of, Accepts}
use Rattle.calls.specs.Values.{OrRefusal, Values, turned_away, number_values}
use Rattle.calls.specs.Call.{without_line_lem, Tests, call, Left}
use Rattle.calls.specs.Lent.{Lent}
use Rattle.calls.specs.Calls.{refusing}
use Rattle.calls.specs.Answers.{names_line, Own, Answers, Writes}
use Rattle.calls.proofs.Call.{Ends, faulty, failed, worked, ends, call-refused, call_fails, call_works}
use Rattle.calls.proofs.Settled.{are_own, Turned, Settles}
use Rattle.calls.proofs.Answers.{answers_by}

-- a refusal has this number, and a line where the number has one
pub record Refuses (r : Refusal) (n : ℕ) : Type 0 where
  pub number : number_of r.cause ≡ n
  pub line : (1 ≤ r.line) ↔ (names_line n ≡ true)
  pub near : r.line ≤ suc longest

pub unlined : {c : Cause} {n : ℕ} → number_of c ≡ n → names_line n ≡ false → Refuses (without_line_lem c) n
unlined {c} {n} e h = record {
  number = e;
  line = (λ l. absurd (omega arith), λ g. clash (names_line n) g h);
  near = omega arith;
}

-- each test that fails refuses with the number of its refusal, and where those before it hold it fails exactly with its
-- cause
abbrev pub Matches : Tests → List Own → Network → Type 0
Matches [] [] Γ = Unit {0}
Matches [] (o ∷ os) Γ = ⊥
Matches (t ∷ ts) [] Γ = ⊥
Matches (t ∷ ts) (o ∷ os) Γ =
    (t.0 ≡ false → Refuses t.1 o.number) × ((t.0 ≡ false) ↔ o.cause Γ) × (t.0 ≡ true → Matches ts os Γ)

module _ {B : Type 0} (nothing : B) (Γ : Network) (v : Values B) where
  turned_by : (r : Refusal) (n : ℕ) → Refuses r n → v ≡ turned_away nothing r → Turned nothing n v
  turned_by r n f e = rw e (record { number = f.number; line = f.line; near = f.near; empty = refl })

  settles : (ts : Tests) (own : List Own) → Matches ts own Γ → (Hold ts → (v.number ≡ 0) × (v.line ≡ 0))
      → ((r : Refusal) → FirstFails ts r → v ≡ turned_away nothing r) → Settles nothing own Γ v
  settles [] [] m w f = w tt
  settles [] (o ∷ os) m w f = absurd m
  settles (t ∷ ts) [] m w f = absurd m
  settles (t ∷ ts) (o ∷ os) m w f =
      elim (either t.0) [
        | inl p ↦
            inr (
              λ c. clash t.0 p (m.1.1 c),
              settles ts os (m.2 p) (λ h. w (p, h)) (λ r g. f r (inr (p, g))),
            )
        | inr p ↦ inl (m.1.0 p, turned_by t.1 o.number (m.0 p) (f t.1 (inl (p, refl))))
      ]

-- a call whose answers have these values
module _ {A B : Type 0} (values : A → Values B) (nothing : B) (refuse : Refusal → A)
    (turned : (r : Refusal) → values (refuse r) ≡ turned_away nothing r) (sheet : List ℕ) (tests : Network → Tests)
    (work : Network → A) (own : List Own) (above : are_own own ≡ true)
    (matches : Accepts sheet → Matches (tests (network_of sheet)) own (network_of sheet))
    (done : (Γ : Network) → ((values (work Γ)).number ≡ 0) × ((values (work Γ)).line ≡ 0)) where
  abbrev answer : A
  answer = call refuse sheet tests work

  abbrev net : Network
  net = network_of sheet

  pub answers-call : Answers sheet own nothing (values answer)
  answers-call =
      answers_by nothing sheet own (values answer) above
      (λ r e. sym (ap values (call-refused refuse sheet tests work r e)) ∙ turned r)
      (λ a. settles nothing net (values answer) (tests net) own (matches a)
      (λ h. rw (← call_works refuse sheet tests work (network_of sheet) a h) (done net))
      (λ r f. sym (ap values (call_fails refuse sheet tests work (network_of sheet) a r f)) ∙ turned r))

-- one that writes
module _ (m : Lent) (sheet : List ℕ) (tests : Network → Tests) (work : Network → Left (OrRefusal ℕ)) (own : List Own)
    (above : are_own own ≡ true)
    (matches : Accepts sheet → Matches (tests (network_of sheet)) own (network_of sheet))
    (done : (Γ : Network) → ((number_values (work Γ).answer).number ≡ 0)
    × ((number_values (work Γ).answer).line ≡ 0)) where
  abbrev left : Left (OrRefusal ℕ)
  left = call (refusing m) sheet tests work

  keeps-by : Ends (refusing m) sheet tests work → ((number_values left.answer).number ≡ 0 → ⊥)
      → left.memory ≡ m.before
  keeps-by (faulty r p e) n = rw (← e) refl
  keeps-by (failed a r f e) n = rw (← e) refl
  keeps-by (worked a h e) n = absurd (n (rw (← e) (done (network_of sheet)).0))

  pub writes_call : Writes sheet own left m.before
  writes_call = record {
    answers = answers-call (λ (l : Left (OrRefusal ℕ)). number_values l.answer) 0 (refusing m) (λ r. refl) sheet
        tests work own above matches done;
    keeps = keeps-by (ends (refusing m) sheet tests work);
  }
