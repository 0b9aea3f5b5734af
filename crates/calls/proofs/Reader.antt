-- The call that reads a sheet accepts what keeps the layout, refuses with the sheet's fault, and counts what is
-- contained. Assumes nothing.
use mathlib.Core.Path.{◌≡◌, refl, sym, ◌∙◌, ap}
use mathlib.Core.List.{List}
use Prim.Native.Nat.{ℕ}
use Rattle.std.specs.Prelude.{Result, Ok, Err, IsOk}
use Rattle.prelude.proofs.Tests.{zero-is-one}
use Rattle.refusal.specs.declared.Refusal.{Refusal}
use Rattle.network.specs.declared.Network.{Network}
use Rattle.sheet.specs.Reading.{read, network_of}
use Rattle.sheet.proofs.Fault.{refused_iff}
use Rattle.sheet.proofs.WellFormed.{accepts}
use Rattle.layout.proofs.Accepted.{accepted_iff, network-contains}
use Rattle.calls.specs.Values.{OrRefusal}
use Rattle.calls.specs.Calls.{counts_of, summary}
use Rattle.calls.specs.Reader.{AcceptsLayout, RefusesFault, CountsContents}
use Rattle.calls.specs.declared.Counts.{Counts}

ok-is : (a : OrRefusal Counts) (n : Counts) → a ≡ Ok n → IsOk a
ok-is (Ok m) n q = refl
ok-is (Err r) n q = zero-is-one cc

err-not-ok : (a : OrRefusal Counts) (r : Refusal) → a ≡ Err r → IsOk a → ⊥
err-not-ok (Ok n) r q ok = zero-is-one cc
err-not-ok (Err x) r q ok = zero-is-one cc

module _ (sheet : List ℕ) where
  -- what it answers, by what the sheet is read into
  summary-read : (Γ : Network) → read sheet ≡ Ok Γ → summary sheet ≡ Ok (counts_of Γ)
  summary-read Γ e = rw e refl

  summary-refused : (r : Refusal) → read sheet ≡ Err r → summary sheet ≡ Err r
  summary-refused r e = rw e refl

  not-both : {A : Type 0} (n : Counts) (r : Refusal) → summary sheet ≡ Ok n → summary sheet ≡ Err r → A
  not-both n r p q = let z : ◌≡◌ {A = OrRefusal Counts} (Ok n) (Err r) = sym p ∙ q in zero-is-one cc

  pub summary_ok : AcceptsLayout sheet (summary sheet)
  summary_ok = by_read (read sheet) refl
    where
      by_read : (g : Result Network Refusal) → read sheet ≡ g → AcceptsLayout sheet (summary sheet)
      by_read (Ok Γ) e =
          let a = accepts sheet Γ e in
          (λ _. (accepted_iff sheet).0 a.0, λ _. ok-is (summary sheet) _ (summary-read Γ e))
      by_read (Err r) e = (
        λ ok. absurd (err-not-ok (summary sheet) r (summary-refused r e) ok),
        λ l.
            ok-is (summary sheet) (counts_of (network_of sheet))
            (summary-read (network_of sheet) ((accepted_iff sheet).1 l)),
      )

  pub summary_err : RefusesFault sheet (summary sheet)
  summary_err r = (
    λ q. (refused_iff sheet r).0 (of_read (read sheet) refl q),
    λ f. summary-refused r ((refused_iff sheet r).1 f),
  )
    where
      of_read : (g : Result Network Refusal) → read sheet ≡ g → summary sheet ≡ Err r → read sheet ≡ Err r
      of_read (Ok Γ) e q = not-both _ r (summary-read Γ e) q
      of_read (Err x) e q =
          let same : x ≡ r = let z : ◌≡◌ {A = OrRefusal Counts} (Err x) (Err r) = sym (summary-refused x e) ∙ q in cc in
          e ∙ ap (λ (y : Refusal). Err y) same

  pub summary_counts : CountsContents sheet (summary sheet)
  summary_counts l =
      let held = network-contains sheet l in
      summary-read (network_of sheet) ((accepted_iff sheet).1 l)
      ∙ ap (λ (n : Counts). Ok n) (counts-are _ _ _ _ _ _ _ _ held.horizon held.events held.signals held.rules)
    where
      counts-are : (h n k m h' n' k' m' : ℕ) → h ≡ h' → n ≡ n' → k ≡ k' → m ≡ m'
          → ◌≡◌ {A = Counts} (record { horizon = h; events = n; signals = k; rules = m })
          (record { horizon = h'; events = n'; signals = k'; rules = m' })
      counts-are h n k m h' n' k' m' p q r s = rw (p, q, r, s) refl
