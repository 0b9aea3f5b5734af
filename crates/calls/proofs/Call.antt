-- How a call ends: it is refused with its sheet, or at the first of its tests that fails, or its work is done. Each law
-- takes what the sheet was read into. Assumes nothing.
use mathlib.Core.Path.{◌≡◌, refl, sym, ◌∙◌, ap}
use mathlib.Core.Option.{Option, none, some}
use mathlib.Core.List.{List}
use Prim.Native.Nat.{ℕ}
use Rattle.std.specs.Prelude.{Result, Ok, Err}
use Rattle.prelude.specs.Checks.{first_failing_lem, Hold, FirstFails}
use Rattle.prelude.proofs.Checks.{hold, none_fails, first_fails, some_fails}
use Rattle.refusal.specs.declared.Refusal.{Refusal}
use Rattle.network.specs.WellFormed.{WellFormed}
use Rattle.network.specs.declared.Network.{Network}
use Rattle.sheet.specs.Reading.{read, network_of, Accepts}
use Rattle.sheet.proofs.WellFormed.{accepts, accepted_well_formed}
use Rattle.calls.specs.Call.{Tests, answer_by, call_on, call}
use Rattle.calls.specs.Answers.{Reads}

module _ {A : Type 0} (refuse : Refusal → A) (sheet : List ℕ) (tests : Network → Tests) (work : Network → A) where
  by_reading : (g : Result Network Refusal) → read sheet ≡ g
      → call_on refuse tests work g ≡ call refuse sheet tests work
  by_reading g e = ap (call_on refuse tests work) (sym e)

  pub call-refused : (r : Refusal) → read sheet ≡ Err r → refuse r ≡ call refuse sheet tests work
  call-refused r p = by_reading (Err r) p

  module _ (Γ : Network) (a : read sheet ≡ Ok Γ) where
    by_tests : (o : Option Refusal) → first_failing_lem (tests Γ) ≡ o
        → answer_by refuse o (work Γ) ≡ call refuse sheet tests work
    by_tests o p = ap (λ (x : Option Refusal). answer_by refuse x (work Γ)) (sym p) ∙ by_reading (Ok Γ) a

    pub call_fails : (r : Refusal) → FirstFails (tests Γ) r → refuse r ≡ call refuse sheet tests work
    call_fails r f = by_tests (some r) (some_fails (tests Γ) r f)

    pub call_works : Hold (tests Γ) → work Γ ≡ call refuse sheet tests work
    call_works h = by_tests none (none_fails (tests Γ) h)

  -- and there is no other end
  pub data Ends : Type 0 where
    faulty : (r : Refusal) → read sheet ≡ Err r → refuse r ≡ call refuse sheet tests work → Ends
    failed : Accepts sheet → (r : Refusal) → FirstFails (tests (network_of sheet)) r
        → refuse r ≡ call refuse sheet tests work → Ends
    worked : Accepts sheet → Hold (tests (network_of sheet))
        → work (network_of sheet) ≡ call refuse sheet tests work → Ends

  pub ends : Ends
  ends = by_read (read sheet) refl
    where
      net : Network
      net = network_of sheet

      by_first : Accepts sheet → (o : Option Refusal) → first_failing_lem (tests net) ≡ o → Ends
      by_first a none p = let h = hold (tests net) p in worked a h (call_works net a h)
      by_first a (some r) p = let f = first_fails (tests net) r p in failed a r f (call_fails net a r f)

      by_read : (g : Result Network Refusal) → read sheet ≡ g → Ends
      by_read (Ok Γ) e = by_first (accepts sheet Γ e).0 (first_failing_lem (tests net)) refl
      by_read (Err r) p = faulty r p (call-refused r p)

-- calls of two accepted sheets that fail alike, and whose work is alike where no test fails
pub calls_alike : {A : Type 0} (refuse : Refusal → A) (sheet other : List ℕ) (tests tests' : Network → Tests)
    (work work' : Network → A) → Accepts sheet → Accepts other
    → first_failing_lem (tests (network_of sheet)) ≡ first_failing_lem (tests' (network_of other))
    → (Hold (tests (network_of sheet)) → work (network_of sheet) ≡ work' (network_of other))
    → call refuse sheet tests work ≡ call refuse other tests' work'
calls_alike refuse sheet other tests tests' work work' a b e works = by_first (first_failing_lem (tests Γ)) refl
  where
    Γ : Network
    Γ = network_of sheet

    Δ : Network
    Δ = network_of other

    by_first : (o : Option Refusal) → first_failing_lem (tests Γ) ≡ o
        → call refuse sheet tests work ≡ call refuse other tests' work'
    by_first (some r) p =
        sym (call_fails refuse sheet tests work Γ a r (first_fails (tests Γ) r p))
        ∙ call_fails refuse other tests' work' Δ b r (first_fails (tests' Δ) r (sym e ∙ p))
    by_first none p =
        sym (call_works refuse sheet tests work Γ a (hold (tests Γ) p))
        ∙ works (hold (tests Γ) p)
        ∙ call_works refuse other tests' work' Δ b (hold (tests' Δ) (sym e ∙ p))

-- two calls of one sheet
pub call-alike : {A : Type 0} (refuse : Refusal → A) (sheet : List ℕ) (tests tests' : Network → Tests)
    (work work' : Network → A)
    → (Accepts sheet
    → first_failing_lem (tests (network_of sheet)) ≡ first_failing_lem (tests' (network_of sheet)))
    → (Accepts sheet → Hold (tests (network_of sheet))
    → work (network_of sheet) ≡ work' (network_of sheet))
    → call refuse sheet tests work ≡ call refuse sheet tests' work'
call-alike refuse sheet tests tests' work work' same works = by_read (read sheet) refl
  where
    by_read : (g : Result Network Refusal) → read sheet ≡ g
        → call refuse sheet tests work ≡ call refuse sheet tests' work'
    by_read (Ok Γ) e =
        let a = (accepts sheet Γ e).0 in
        calls_alike refuse sheet sheet tests tests' work work' a a (same a) (works a)
    by_read (Err r) p =
        sym (call-refused refuse sheet tests work r p) ∙ call-refused refuse sheet tests' work' r p

pub reads_well_formed : {sheet : List ℕ} {Γ : Network} → Reads sheet Γ → WellFormed Γ
reads_well_formed {sheet} r = rw (← r.network) (accepted_well_formed sheet r.accepted).0
