-- What the sheet of a call that is handed a table, or lent one, tells of the call: it is refused with the sheet, or for
-- the table's length, or both passed. Assumes nothing.
use mathlib.Core.Path.{◌≡◌, refl, sym, ◌∙◌, ap}
use mathlib.Core.Logic.{inl, inr}
use mathlib.Core.Bool.{Bool, true}
use mathlib.Core.List.{List, [], ◌∷◌}
use Prim.Native.Nat.{ℕ, ◌≤◌}
use borrow.Author.Tests.{eqb-true, leb-true}
use lib.Dec.{leb}
use lib.ListN.{length}
use Rattle.std.specs.Prelude.{Result, Ok, Err, IsErrAnd}
use Rattle.prelude.specs.Checks.{Hold, FirstFails}
use Rattle.prelude.proofs.Tests.{zero-is-one}
use Rattle.refusal.specs.declared.Cause.TheVariants as C
use Rattle.refusal.specs.declared.Refusal.{Refusal}
use Rattle.network.specs.Build.{cells}
use Rattle.network.specs.declared.Network.{Network}
use Rattle.sheet.specs.Reading.{read, network_of}
use Rattle.sheet.proofs.WellFormed.{accepts}
use Rattle.dispatch.specs.Heard.{Lettered}
use Rattle.calls.specs.declared.Unsolved.{Unsolved}
use Rattle.calls.specs.Values.{OrRefusal}
use Rattle.calls.specs.Call.{without_line_lem, call, Tests}
use Rattle.calls.specs.Lent.{as_minutes}
use Rattle.calls.specs.Calls.{right_length}
use Rattle.calls.proofs.Call.{Ends, faulty, failed, worked, ends, call-refused, call_fails, call_works}
use Rattle.calls.proofs.Play.{lettered as letters}
use Rattle.opening.specs.Prologue.{opened, handed_in_lem, lent_for_lem}

-- a refusal is no network
err-not-ok : {A : Type 0} (r : Refusal) (a : A) → ◌≡◌ {A = OrRefusal A} (Err r) (Ok a) → ⊥
err-not-ok r a e = zero-is-one cc

module _ (sheet : List ℕ) (first : Network → Bool × Refusal) where
  abbrev Opening : Type 0
  Opening = Ends {A = OrRefusal Network} Err sheet (λ Γ. first Γ ∷ []) (λ Γ. Ok Γ)

  opening : Opening
  opening = ends Err sheet (λ Γ. first Γ ∷ []) (λ Γ. Ok Γ)

  -- the sheet is accepted, and the test passed
  pub passed : (Γ : Network) → opened sheet first ≡ Ok Γ → (read sheet ≡ Ok Γ) × ((first Γ).0 ≡ true)
  passed Γ q = by_end opening
    where
      by_end : Opening → (read sheet ≡ Ok Γ) × ((first Γ).0 ≡ true)
      by_end (faulty r p e) = absurd (err-not-ok r Γ (e ∙ q))
      by_end (failed a r f e) = absurd (err-not-ok r Γ (e ∙ q))
      by_end (worked a h e) =
          let same : network_of sheet ≡ Γ = let z = e ∙ q in cc in
          (a ∙ ap (λ (Δ : Network). Ok Δ) same, ap (λ (Δ : Network). (first Δ).0) (sym same) ∙ h.0)

  -- one of the two did not, and the call is refused with it
  module _ {A : Type 0} (refuse : Refusal → A) (rest : Network → Tests) (work : Network → A) where
    abbrev tests : Network → Tests
    tests Γ = first Γ ∷ rest Γ

    pub opened-refused : (r : Refusal) → opened sheet first ≡ Err r → refuse r ≡ call refuse sheet tests work
    opened-refused r q = by_end opening
      where
        by_end : Opening → refuse r ≡ call refuse sheet tests work
        by_end (faulty x p e) =
            let same : x ≡ r = let z = e ∙ q in cc in
            ap refuse (sym same) ∙ call-refused refuse sheet tests work x p
        by_end (failed a x (inl f) e) =
            let same : x ≡ r = let z = e ∙ q in cc in
            ap refuse (sym same) ∙ call_fails refuse sheet tests work (network_of sheet) a x (inl f)
        by_end (failed a x (inr f) e) = absurd f.1
        by_end (worked a h e) = absurd (err-not-ok r (network_of sheet) (sym q ∙ sym e))

    -- and the other tests of the call
    module _ (Γ : Network) (q : opened sheet first ≡ Ok Γ) where
      pub opened_fails : (r : Refusal) → FirstFails (rest Γ) r → refuse r ≡ call refuse sheet tests work
      opened_fails r f = call_fails refuse sheet tests work Γ (passed Γ q).0 r (inr ((passed Γ q).1, f))

      pub opened_works : Hold (rest Γ) → work Γ ≡ call refuse sheet tests work
      opened_works h = call_works refuse sheet tests work Γ (passed Γ q).0 ((passed Γ q).1, h)

-- a table that is handed in has the right length
abbrev pub length_test : List ℕ → Network → Bool × Refusal
length_test t = right_length (as_minutes t)

pub right : (sheet t : List ℕ) (Γ : Network) → handed_in_lem sheet (length t) ≡ Ok Γ
    → (read sheet ≡ Ok Γ) × (length t ≡ cells Γ)
right sheet t Γ q =
    let p = passed sheet (length_test t) Γ q in (p.0, eqb-true (length t) (cells Γ) p.1)

-- memory that is lent has room for the table
pub roomy : (sheet : List ℕ) (n : ℕ) (Γ : Network) → lent_for_lem sheet n ≡ Ok Γ → cells Γ ≤ n
roomy sheet n Γ q =
    leb-true (cells Γ) n (passed sheet (λ Δ. (leb (cells Δ) n, without_line_lem C.BufferTooShort)) Γ q).1

-- what the player asks of the network of a sheet
pub lettered-read : (sheet : List ℕ) (Γ : Network) → read sheet ≡ Ok Γ → Lettered Γ
lettered-read sheet Γ e = let a = accepts sheet Γ e in rw (← a.1) (letters sheet a.0)

-- `?` hands a refusal on as it is
pub handed_on : {A : Type 0} (answer : OrRefusal A) (r : Refusal) → IsErrAnd answer (λ x. x ≡ r) → answer ≡ Err r
handed_on (Ok a) r h = absurd h
handed_on (Err x) r h = ap (λ (y : Refusal). Err y) h

-- and where the call has a count of rounds, beside 0
pub handed_unrun : {A : Type 0} (answer : Result A Unsolved) (r : Refusal)
    → IsErrAnd answer (λ u. (u.refusal ≡ r) × (u.rounds ≡ 0)) → answer ≡ Err (record { refusal = r; rounds = 0 })
handed_unrun (Ok a) r h = absurd h
handed_unrun (Err u) r h = rw (← h.0, ← h.1) refl
