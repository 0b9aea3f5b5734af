-- Every number of an answer fits its bytes: a breach names cells of a network, a table has at most 256 minutes, texts
-- are short, and there are at most sixteen events. Assumes nothing.
use mathlib.Core.Path.{◌≡◌, refl, sym, ◌∙◌, ap}
use mathlib.Core.Bool.{Bool, true, false, cond}
use mathlib.Core.Option.{Option, none, some}
use mathlib.Core.List.{List}
use Prim.Native.Nat.{ℕ, ◌+◌, ◌*◌, ◌^◌, ◌≤◌, ◌<◌}
use native.Mathlib.Omega.{arith}
use lib.Pow.{pow_mono}
use Rattle.std.specs.Prelude.{Ok, Err, Result}
use Rattle.prelude.specs.Checks.{Hold}
use Rattle.pairs.specs.Pairs.{Short}
use Rattle.refusal.specs.declared.Refusal.{Refusal}
use Rattle.network.specs.Build.{scenarios, cells}
use Rattle.network.specs.WellFormed.{WellFormed}
use Rattle.network.specs.declared.Network.{Network}
use Rattle.sheet.specs.Reading.{network_of, Accepts}
use Rattle.sheet.proofs.WellFormed.{accepted_well_formed}
use Rattle.checker.specs.Verdict.{verdict}
use Rattle.checker.specs.First.{First}
use Rattle.checker.specs.declared.Breach.{Breach}
use Rattle.checker.specs.declared.Breach.TheVariants.{Late, Rule, Unheard}
use Rattle.checker.specs.declared.Verdict.{Verdict}
use Rattle.checker.specs.declared.Verdict.TheVariants.{Pass, Breach as Breached}
use Rattle.checker.proofs.Judged.{breach_first}
use Rattle.solver.specs.Solve.{solve, found}
use Rattle.solver.proofs.Least.{solve-least}
use Rattle.dispatch.specs.Heard.{is_well_named, says}
use Rattle.dispatch.specs.Due.{is_due_lem, hearer, due_for, due}
use Rattle.dispatch.specs.HeardText.{is_heard_lem, heard_in, due_text}
use Rattle.dispatch.specs.declared.Unanswered.{Unanswered}
use Rattle.dispatch.specs.declared.Unanswered.TheVariants.{Misnamed}
use Rattle.dispatch.proofs.Bits.{mask_small}
use Rattle.listing.specs.Listing.{header, listing}
use Rattle.listing.proofs.Short.{listing-short}
use Rattle.readback.proofs.RoundTrip.{length-recovered}
use Rattle.canonical.specs.House.{house_text}
use Rattle.conversion.specs.FormerRules.{read_as_max_lem}
use Rattle.conversion.specs.Converted.{resulting, converted}
use Rattle.conversion.proofs.Accepted.{converted-short}
use Rattle.canonical.proofs.Again.{form-short}
use Rattle.calls.specs.Values.{OrRefusal, Values, turned_away, number_values}
use Rattle.calls.specs.Call.{Tests, call, Left}
use Rattle.calls.specs.Lent.{Handed, Lent, in_place_lem}
use Rattle.calls.specs.Calls.{writing, refusing, solving_tests, solving_into}
use Rattle.calls.specs.Calls.{listing_tests, listing_of, house_tests, housed, convert_tests, converting}
use Rattle.calls.specs.Play.{events_of, playing_tests, playing}
use Rattle.calls.specs.Recover.{recovered_in, recovering_tests, recovering_into}
use Rattle.calls.specs.Bench.{Small, verdict_values, breach_values}
use Rattle.calls.proofs.Call.{Ends, faulty, failed, worked, ends}
use Rattle.calls.proofs.Handed.{cells-few}
use Rattle.calls.proofs.Fit.{fit-few}
use Rattle.calls.proofs.Solving.{rests-true}

pub scenarios_few : {Γ : Network} → WellFormed Γ → scenarios Γ ≤ 16
scenarios_few {Γ} w = pow_mono {i = Γ.signals} {j = 4} w.signals

module _ (Γ : Network) (σ : List ℕ) (w : WellFormed Γ) where
  breach_small : (b : Breach) → First Γ σ b → Small (breach_values b)
  breach_small (Late s u) f = omega (arith, f.scenario, f.event, w.events, scenarios_few w)
  breach_small (Rule s c) f = omega (arith, f.scenario, f.place, w.rules, scenarios_few w)
  breach_small (Unheard s r u) f = omega (arith, f.scenario, f.other, f.event, w.events, scenarios_few w)

  pub verdict_small : Small (verdict_values (verdict Γ σ))
  verdict_small = by-verdict (verdict Γ σ) refl
    where
      by-verdict : (v : Verdict) → verdict Γ σ ≡ v → Small (verdict_values v)
      by-verdict Pass e = omega arith
      by-verdict (Breached b) e = breach_small b (breach_first Γ σ b e)

-- a call that tells a number tells a small one, where its work does
module _ {A : Type 0} (values : A → Values ℕ) (refuse : Refusal → A)
    (turned : (r : Refusal) → values (refuse r) ≡ turned_away 0 r) (sheet : List ℕ) (tests : Network → Tests)
    (work : Network → A)
    (small : Accepts sheet → Hold (tests (network_of sheet))
    → (values (work (network_of sheet))).value < 65536) where
  value_small : (values (call refuse sheet tests work)).value < 65536
  value_small = by_end (ends refuse sheet tests work)
    where
      refused : (r : Refusal) → refuse r ≡ call refuse sheet tests work
          → (values (call refuse sheet tests work)).value < 65536
      refused r e =
          let zero : (values (call refuse sheet tests work)).value ≡ 0 =
          ap (λ (v : Values ℕ). v.value) (sym (ap values e) ∙ turned r) in
          omega arith

      by_end : Ends refuse sheet tests work → (values (call refuse sheet tests work)).value < 65536
      by_end (faulty r p e) = refused r e
      by_end (failed a r f e) = refused r e
      by_end (worked a h e) = rw (← e) (small a h)

-- how much a call has written
abbrev count : Left (OrRefusal ℕ) → Values ℕ
count l = number_values l.answer

module _ (sheet : List ℕ) where
  abbrev net : Network
  net = network_of sheet

  pub solving_small : (m : Lent) → (count (solving_into sheet m)).value < 65536
  solving_small m =
      value_small count (refusing m) (λ r. refl) sheet
      (solving_tests m) (λ Γ. writing m (found Γ))
      (λ a h.
      let w = (accepted_well_formed sheet a).0 in
      let least = solve-least net w ((rests-true (solve net).end).0 h.1.0) in
      omega (arith, least.solves.sized, cells-few w))

  pub listing_small : (t : Handed) (m : List ℕ)
      → (Accepts sheet → t.has (cells net) ≡ true → Short t.minutes)
      → (count (listing_of sheet t m)).value < 65536
  listing_small t m times =
      value_small count (refusing (in_place_lem m)) (λ r. refl) sheet (listing_tests sheet t (in_place_lem m))
      (λ Γ. writing (in_place_lem m) (listing sheet Γ t.minutes))
      (λ a h.
      let w = accepted_well_formed sheet a in
      omega (
        arith,
        listing-short sheet net t.minutes w.0 w.1 (λ s u _ _. times a h.0 (s * net.events + u)),
      ))

  pub recovering_small : (bytes : List ℕ) (m : Lent) → (count (recovering_into sheet bytes m)).value < 65536
  recovering_small bytes m =
      value_small count (refusing m) (λ r. refl) sheet (recovering_tests sheet bytes m)
      (λ Γ. writing m (recovered_in sheet bytes Γ))
      (λ a h.
      omega (
        arith,
        length-recovered (header sheet net) net.signals net.events bytes,
        cells-few (accepted_well_formed sheet a).0,
      ))

  pub house_small : (m : List ℕ) → (count (housed sheet m)).value < 65536
  house_small m =
      value_small count (refusing (in_place_lem m)) (λ r. refl) sheet
      (house_tests sheet (in_place_lem m))
      (λ Γ. writing (in_place_lem m) (house_text sheet Γ))
      (λ a h. omega (arith, form-short sheet a))

  pub converting_small : (m : List ℕ) → (count (converting sheet m)).value < 65536
  converting_small m =
      value_small count (refusing (in_place_lem m)) (λ r. refl) (read_as_max_lem sheet)
      (convert_tests sheet (in_place_lem m))
      (λ Γ. writing (in_place_lem m) (converted sheet Γ))
      (λ a h.
      let former = network_of (read_as_max_lem sheet) in
      omega (arith, converted-short sheet former a (fit-few (resulting sheet former) h.0)))

  pub playing_small : (t : Handed) (said : Network → Result ℕ Unanswered)
      → (Accepts sheet → events_of (said net) < 65536) → (number_values (playing sheet t said)).value <
      65536
  playing_small t said few =
      value_small number_values Err (λ r. refl) sheet
      (playing_tests t said)
      (λ Γ. Ok (events_of (said Γ))) (λ a _. few a)

-- of at most sixteen events the sum of bits is small
pub text_small : (Γ : Network) → WellFormed Γ → (σ : List ℕ) (m : ℕ) (text : List ℕ)
    → events_of (due_text Γ σ m text) < 65536
unfolding due_text due
text_small Γ w σ m text =
    by_form (is_heard_lem text) (is_well_named Γ (heard_in text)) (hearer Γ σ m (says (heard_in text)))
  where
    of_case : (o : Option ℕ) → events_of (due_for Γ σ m o) < 65536
    of_case none = omega arith
    of_case (some s) =
        let few : 2 ^ Γ.events ≤ 65536 = pow_mono {i = Γ.events} {j = 16} w.events in
        omega (arith, mask_small (is_due_lem Γ σ m s) Γ.events)

    by_form : (formed well : Bool) (o : Option ℕ)
        → events_of (cond formed (cond well (due_for Γ σ m o) (Err Misnamed)) (Err Misnamed)) < 65536
    by_form true true o = of_case o
    by_form true false o = omega arith
    by_form false well o = omega arith
