-- What the header's functions shift out of an answer is what was packed: each value fits its bytes. Assumes nothing.
use mathlib.Core.Path.{◌≡◌, refl, ap}
use mathlib.Core.Logic.{◌⊎◌, inl, inr}
use mathlib.Core.Bool.{Bool, true, ◌&&◌}
use mathlib.Core.List.{List, [], ◌∷◌}
use Prim.Native.Nat.{ℕ, ◌<◌}
use native.Mathlib.Omega.{arith}
use borrow.Author.Tests.{ltb-true}
use lib.Dec.{ltb}
use lib.ListN.{length}
use Rattle.std.specs.Prelude.{Ok, Err}
use Rattle.prelude.proofs.Tests.{and-true}
use Rattle.pairs.specs.Pairs.{minutes_of, Short}
use Rattle.refusal.specs.declared.Refusal.{Refusal}
use Rattle.network.specs.declared.Network.{Network}
use Rattle.sheet.specs.Reading.{network_of}
use Rattle.sheet.proofs.WellFormed.{accepted_well_formed}
use Rattle.checker.specs.declared.Verdict.{Verdict}
use Rattle.checker.specs.Verdict.{verdict}
use Rattle.dispatch.specs.HeardText.{heard_in, due_text}
use Rattle.calls.specs.Values.{OrRefusal, Values, number_values}
use Rattle.calls.specs.Lent.{as_bytes, in_pairs}
use Rattle.calls.specs.Calls.{judging_tests, housed, converting, ringing}
use Rattle.calls.specs.Counting.{solved_values, rounds_of, rounds_taken}
use Rattle.calls.specs.Bench.{bench_judgement, bench_solving, bench_counting, bench_listed, bench_due}
use Rattle.calls.specs.Bench.{bench_recovering}
use Rattle.calls.specs.Bench.{Finding, finding, no_finding}
use Rattle.calls.specs.Bench.{judgement_values, refused, packed, Small, packed_count_lem, packed_rounds_lem}
use Rattle.calls.specs.Answers.{OfSheet, Own, OneOf, AnswersBy, Answers}
use Rattle.calls.specs.Numbers.{bytes, judges, solves, lists, houses, converts, recovers, plays}
use Rattle.calls.specs.Numbers.{misnamed_in, unheard_by}
use Rattle.calls.specs.Ringing.{rings}
use Rattle.calls.specs.Header.{bits, opening_number, opening_line, opening_rounds, told}
use Rattle.calls.specs.Header.{JudgeHolds, CountHolds, SolverHolds}
use Rattle.calls.proofs.Call.{Ends, faulty, failed, worked, ends}
use Rattle.calls.proofs.Small.{verdict_small, solving_small, listing_small, house_small, playing_small}
use Rattle.calls.proofs.Small.{recovering_small, converting_small, text_small}
use Rattle.calls.proofs.Counting.{answer-counted, rounds-counted, taken_few}
use Rattle.calls.proofs.Numbers.{numbers}
use Rattle.calls.proofs.Ringing.{ring-answers, ringing_small}

-- the numbers of a call's own refusals fit a byte
abbrev are_few : List Own → Bool
are_few [] = true
are_few (o ∷ os) = ltb o.number 256 && are_few os

one_few : (own : List Own) (n : ℕ) → are_few own ≡ true → OneOf own n → n < 256
one_few [] n f m = absurd m
one_few (o ∷ os) n f (inl e) = omega (arith, ltb-true o.number 256 (and-true (ltb o.number 256) (are_few os) f).0)
one_few (o ∷ os) n f (inr m) = one_few os n (and-true (ltb o.number 256) (are_few os) f).1 m

module _ {A : Type 0} {nothing : A} {Faulty : Refusal → Type 0} {ReadAs : Network → Type 0} (own : List Own)
    (v : Values A) (few : are_few own ≡ true) (a : AnswersBy Faulty ReadAs own nothing v) where
  number-few : v.number < 256
  number-few = by_number a.numbers
    where
      by_number : OfSheet v.number ⊎ OneOf own v.number → v.number < 256
      by_number (inl (inl l)) = omega arith
      by_number (inl (inr l)) = omega (arith, l.1)
      by_number (inr m) = one_few own v.number few m

  line-few : v.line < 65536
  line-few = omega (arith, a.near)

-- values that are equal one by one
values_are : {A : Type 0} (v : Values A) (n l : ℕ) (x : A) → n ≡ v.number → l ≡ v.line → x ≡ v.value
    → ◌≡◌ {A = Values A} (record { number = n; line = l; value = x }) v
values_are v n l x p q r = rw (p, q, r) refl

finding_is : (y : Finding) (w a b c : ℕ) → w ≡ y.word → a ≡ y.first → b ≡ y.second → c ≡ y.third
    → finding w a b c ≡ y
finding_is y w a b c p q r s = rw (p, q, r, s) refl

judge_holds : (v : Values Finding) → Small v → JudgeHolds (packed v) v
judge_holds v s = record {
  values = values_are v _ _ _ (omega (arith, s.number)) (omega (arith, s.number, s.line))
      (finding_is v.value _ _ _ _ (omega (arith, s.number, s.line, s.word))
      (omega (arith, s.number, s.line, s.word, s.first))
      (omega (arith, s.number, s.line, s.word, s.first, s.second))
      (omega (arith, s.number, s.line, s.word, s.first, s.second, s.third)));
  rest = omega (arith, s.number, s.line, s.word, s.first, s.second, s.third);
}

pub count-holds : {Faulty : Refusal → Type 0} {ReadAs : Network → Type 0} (own : List Own) (v : Values ℕ)
    → are_few own ≡ true → AnswersBy Faulty ReadAs own 0 v → v.value < 65536 → CountHolds (packed_count_lem v) v
count-holds own v few a c =
    let n = number-few own v few a in
    let l = line-few own v few a in
    record {
      values = values_are v _ _ _ (omega arith) (omega arith) (omega arith);
      bytes = omega arith;
      events = omega arith;
      rest = omega arith;
    }

-- the values stand below the last three bytes, whatever stands there
pub values_below : (v : Values ℕ) (k : ℕ) → CountHolds (packed_count_lem v) v → k < 16777216
    → told (packed_rounds_lem v k) ≡ v
values_below v k h few =
    let low : packed_count_lem v < 1099511627776 = omega (arith, h.rest) in
    let number : opening_number (packed_count_lem v) ≡ v.number = ap (λ (x : Values ℕ). x.number) h.values in
    let line : opening_line (packed_count_lem v) ≡ v.line = ap (λ (x : Values ℕ). x.line) h.values in
    values_are v _ _ _ (omega (arith, low, number)) (omega (arith, low, line)) (omega (arith, low, h.bytes))

-- and a count of rounds, under their highest bit
pub rounds_above : (v : Values ℕ) (k : ℕ) → CountHolds (packed_count_lem v) v → k < 8388608
    → opening_rounds (packed_rounds_lem v k) ≡ k
rounds_above v k h few =
    let low : packed_count_lem v < 1099511627776 = omega (arith, h.rest) in
    let clear : bits (packed_rounds_lem v k) 63 1 ≡ 0 = omega (arith, low) in
    let value : bits (packed_rounds_lem v k) 40 23 ≡ k = omega (arith, low) in
    rw (clear, value) (omega arith)

rounds-hold : (v : Values ℕ) (k : ℕ) → CountHolds (packed_count_lem v) v → k < 8388608
    → SolverHolds (packed_rounds_lem v k) v k
rounds-hold v k h few = record {
  values = values_below v k h (omega arith);
  rounds = rounds_above v k h few;
  rest = omega (arith, few, h.rest);
}

module _ (sheet b : List ℕ) where
  abbrev answer : OrRefusal Verdict
  answer = bench_judgement sheet b

  refused_small : (r : _) → Err r ≡ answer → Small (judgement_values answer)
  refused_small r e =
      let a : Answers sheet (judges (bytes b)) no_finding (refused r) = rw (← e) at (numbers.bench_judge sheet b) in
      rw (← e)
      (omega (
        arith,
        number-few (judges (bytes b)) (refused r) refl a,
        line-few (judges (bytes b)) (refused r) refl a,
      ))

  pub header-judge : let v = judgement_values (bench_judgement sheet b) in JudgeHolds (packed v) v
  header-judge = judge_holds (judgement_values answer)
      (by_end (ends Err sheet (judging_tests (as_bytes b)) (λ Γ. Ok (verdict Γ (minutes_of b)))))
    where
      by_end : Ends Err sheet (judging_tests (as_bytes b)) (λ Γ. Ok (verdict Γ (minutes_of b)))
          → Small (judgement_values answer)
      by_end (faulty r p e) = refused_small r e
      by_end (failed p c f e) = refused_small _ e
      by_end (worked p h e) =
          rw (← e) (verdict_small (network_of sheet) (minutes_of b) (accepted_well_formed sheet p).0)

  -- the solver's answer without its count
  pub solver_count : let v = number_values (bench_solving sheet b).answer in CountHolds (packed_count_lem v) v
  solver_count =
      count-holds (solves _) (number_values (bench_solving sheet b).answer) refl
      (numbers.bench_solver sheet b).answers (solving_small sheet (in_pairs b))

  pub header-solver : let r = (bench_counting sheet b).answer in
      SolverHolds (packed_rounds_lem (solved_values r) (rounds_of r)) (solved_values r) (rounds_of r)
  header-solver =
      let a = (bench_solving sheet b).answer in
      let k = rounds_taken sheet (in_pairs b) in
      rw (answer-counted k a, rounds-counted k a)
      (rounds-hold (number_values a) k solver_count (taken_few sheet (in_pairs b)))

  pub header-lister : (m : List ℕ) → Short (minutes_of b)
      → let v = number_values (bench_listed sheet b m).answer in CountHolds (packed_count_lem v) v
  header-lister m times =
      count-holds (lists (bytes b) sheet (minutes_of b) m) (number_values (bench_listed sheet b m).answer)
      refl
      (numbers.bench_lister sheet b m).answers (listing_small sheet (as_bytes b) m (λ _ _. times))

  pub header-player : (m : ℕ) (text : List ℕ)
      → let v = number_values (bench_due sheet b m text) in CountHolds (packed_count_lem v) v
  unfolding bench_due
  header-player m text =
      count-holds (plays (bytes b) (minutes_of b) (misnamed_in text) (unheard_by (minutes_of b) m
      (heard_in text)))
      (number_values (bench_due sheet b m text)) refl (numbers.bench_player sheet b m text)
      (playing_small sheet (as_bytes b) (λ Γ. due_text Γ (minutes_of b) m text)
      (λ a. text_small (network_of sheet) (accepted_well_formed sheet a).0 (minutes_of b) m text))

pub header-recoverer : (sheet bytes b : List ℕ)
    → let v = number_values (bench_recovering sheet bytes b).answer in CountHolds (packed_count_lem v) v
header-recoverer sheet bytes b =
    count-holds (recovers sheet bytes _) (number_values (bench_recovering sheet bytes b).answer) refl
    (numbers.bench_recoverer sheet bytes b).answers (recovering_small sheet bytes (in_pairs b))

pub header-house : (sheet m : List ℕ)
    → let v = number_values (housed sheet m).answer in CountHolds (packed_count_lem v) v
header-house sheet m =
    count-holds (houses sheet m) (number_values (housed sheet m).answer) refl
    (numbers.house_writer sheet m).answers (house_small sheet m)

pub header-converter : (sheet m : List ℕ)
    → let v = number_values (converting sheet m).answer in CountHolds (packed_count_lem v) v
header-converter sheet m =
    count-holds (converts sheet m) (number_values (converting sheet m).answer) refl
    (numbers.converter sheet m).answers (converting_small sheet m)

pub header-ring : (line m : List ℕ) → let v = number_values (ringing line m).answer in CountHolds (packed_count_lem v) v
header-ring line m =
    count-holds (rings (length m)) (number_values (ringing line m).answer) refl (ring-answers line m).answers
    (ringing_small line m)
