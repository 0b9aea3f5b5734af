-- `opening_judge` meets its contract: the table is judged as its bytes are. Assumes nothing.
use mathlib.Core.Path.{◌≡◌, ◌∙◌, ap}
use Prim.Native.Nat.{ℕ}
use native.Mathlib.Omega.{arith}
use Rattle.std.specs.Prelude.{Ok, Err, MatchResult, IsOkAnd}
use Rattle.sheet.specs.Reading.{network_of}
use Rattle.checker.specs.declared.Verdict.{Verdict}
use Rattle.calls.specs.Values.{OrRefusal, done, number_values}
use Rattle.calls.specs.Lent.{as_bytes}
use Rattle.calls.specs.Calls.{judgement}
use Rattle.calls.specs.Bench.{verdict_values, packed_count_lem, packed, judgement_values}
use Rattle.calls.specs.Header.{found, shifted}
use Rattle.calls.specs.Numbers.{bytes}
use Rattle.calls.proofs.Benched.{benched}
use Rattle.calls.proofs.Clauses.{judge-clauses}
use Rattle.calls.proofs.Handed.{bytes_rightly}
use Rattle.opening_c.proofs.Taken.{taken_judged}
use Rattle.opening_c.proofs.opening_judge.Goals as goal

-- a verdict's word, as the verdict
worded : (judged : OrRefusal Verdict) (answer : OrRefusal ℕ)
    → MatchResult judged (λ v. IsOkAnd answer (λ x. packed_count_lem (done x) ≡ packed (verdict_values v)))
    (λ r. answer ≡ Err r)
    → packed_count_lem (number_values answer) ≡ packed (judgement_values judged)
worded (Ok v) (Ok x) h = h
worded (Ok v) (Err r) h = absurd h
worded (Err r) answer h = rw h (omega arith)

pub returns : goal.returns
returns c =
    let sheet = c.args.sheet.now in
    let b = c.args.table.now in
    let judged = c.judge_table.ensures.outcome
    ∙ ap (judgement sheet) (c.as_slice.ensures ∙ c.table_of-minutes.ensures) ∙ taken_judged b sheet in
    let is = c.packed.ensures ∙ worded c.judge_table.result c.map.result c.map.ensures.cases
    ∙ ap (λ (j : OrRefusal Verdict). packed (judgement_values j)) judged in
    let holds = benched.judge_holds sheet b in
    let w = judge-clauses sheet (as_bytes b) (bytes b) (bytes_rightly b (network_of sheet)) _
    (ap found is ∙ holds.values) in
    record {
      outcome = is;
      refusals = w.refusals;
      passes = w.passes;
      breaches = w.breaches;
      unused = ap (λ (a : ℕ). shifted a 56) is ∙ holds.rest;
    }
