-- Two ways to hand in one table: a call that is told the same minutes, or refuses both, answers the same. Assumes
-- nothing.
use mathlib.Core.Path.{◌≡◌, refl, sym, ◌∙◌, ap}
use mathlib.Core.Logic.{inl, inr}
use mathlib.Core.Bool.{true, false}
use mathlib.Core.List.{List, [], ◌∷◌}
use Prim.Native.Nat.{ℕ}
use lib.ListN.{length}
use Rattle.std.specs.Prelude.{Ok, Err, Result}
use Rattle.prelude.specs.Checks.{first_failing_lem}
use Rattle.prelude.proofs.Tests.{either}
use Rattle.refusal.specs.declared.Cause.TheVariants as C
use Rattle.network.specs.Build.{cells}
use Rattle.network.specs.declared.Network.{Network}
use Rattle.sheet.specs.Reading.{network_of, Accepts}
use Rattle.checker.specs.Verdict.{verdict}
use Rattle.dispatch.specs.declared.Unanswered.{Unanswered}
use Rattle.listing.specs.Listing.{listing}
use Rattle.calls.specs.Call.{without_line_lem, Tests}
use Rattle.calls.specs.Lent.{Handed, in_place_lem}
use Rattle.calls.specs.Calls.{judging_tests, judging, enough, writing, refusing, listing_tests, listing_of}
use Rattle.calls.specs.Play.{named, ever_heard, events_of, is_pass, playing_tests, playing}
use Rattle.calls.proofs.Call.{call-alike}

-- both have n minutes, and the same, or neither has
pub record Alike (t t' : Handed) (n : ℕ) : Type 0 where
  pub has : t.has n ≡ t'.has n
  pub minutes : t.has n ≡ true → t.minutes ≡ t'.minutes

module _ (sheet : List ℕ) (t t' : Handed)
    (alike : Accepts sheet → Alike t t' (cells (network_of sheet))) where
  abbrev net : Network
  net = network_of sheet

  -- a list of tests that begins with that of the length
  same_tests : Accepts sheet → (rest rest' : Tests) → (t.has (cells net) ≡ true → rest ≡ rest')
      → first_failing_lem ((t.has (cells net), without_line_lem C.WrongTableLength) ∷ rest)
      ≡ first_failing_lem ((t'.has (cells net), without_line_lem C.WrongTableLength) ∷ rest')
  same_tests a rest rest' same =
      elim (either (t.has (cells net))) [
        | inl e ↦ let e' : t'.has (cells net) ≡ true = sym (alike a).has ∙ e in rw (e, e', same e)
        | inr e ↦ let e' : t'.has (cells net) ≡ false = sym (alike a).has ∙ e in rw (e, e')
      ]

  pub judging-alike : judging sheet t ≡ judging sheet t'
  judging-alike =
      call-alike Err sheet (judging_tests t) (judging_tests t') (λ Γ. Ok (verdict Γ t.minutes))
      (λ Γ. Ok (verdict Γ t'.minutes)) (λ a. same_tests a [] [] (λ _. refl))
      (λ a h. ap (λ (σ : List ℕ). Ok (verdict net σ)) ((alike a).minutes h.0))

  pub listing-alike : (m : List ℕ) → listing_of sheet t m ≡ listing_of sheet t' m
  listing-alike m =
      let rest : List ℕ → Tests = λ σ. enough (in_place_lem m) (length (listing sheet net σ)) ∷ [] in
      call-alike (refusing (in_place_lem m)) sheet (listing_tests sheet t (in_place_lem m))
      (listing_tests sheet t' (in_place_lem m))
      (λ Γ. writing (in_place_lem m) (listing sheet Γ t.minutes))
      (λ Γ. writing (in_place_lem m) (listing sheet Γ t'.minutes))
      (λ a. same_tests a (rest t.minutes) (rest t'.minutes) (λ e. ap rest ((alike a).minutes e)))
      (λ a h. ap (λ (σ : List ℕ). writing (in_place_lem m) (listing sheet net σ)) ((alike a).minutes h.0))

  pub playing-alike : (said said' : Network → Result ℕ Unanswered)
      → (Accepts sheet → t.has (cells net) ≡ true → said net ≡ said' net)
      → playing sheet t said ≡ playing sheet t' said'
  playing-alike said said' same =
      call-alike Err sheet (playing_tests t said) (playing_tests t' said') (λ Γ. Ok (events_of (said Γ)))
      (λ Γ. Ok (events_of (said' Γ)))
      (λ a. same_tests a (rest t.minutes (said net)) (rest t'.minutes (said' net))
      (λ e. ap (λ (σ : List ℕ). rest σ (said net)) ((alike a).minutes e) ∙ ap (rest t'.minutes) (same a e)))
      (λ a h. ap (λ (d : Result ℕ Unanswered). Ok (events_of d)) (same a h.0))
    where
      rest : List ℕ → Result ℕ Unanswered → Tests
      rest σ d =
          (is_pass (verdict net σ), without_line_lem C.TableFails)
          ∷ (named d, without_line_lem C.MisnamedSignal)
          ∷ (ever_heard d, without_line_lem C.NeverHeard)
          ∷ []

pub itself : (t : Handed) (n : ℕ) → Alike t t n
itself t n = record { has = refl; minutes = λ _. refl }
