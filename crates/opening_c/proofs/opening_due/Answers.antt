-- `opening_due` meets its contract: the table is played as its bytes are, for the text as for its mask. Assumes
-- nothing.
use mathlib.Core.Path.{◌≡◌, ◌∙◌, ap}
use mathlib.Core.List.{List}
use Prim.Native.Nat.{ℕ}
use Rattle.std.specs.Prelude.{Ok, Err, MatchResult, IsOkAnd}
use Rattle.calls.specs.Values.{OrRefusal, number_values}
use Rattle.calls.specs.Play.{events_due_on_lem}
use Rattle.calls.specs.Bench.{packed_count_lem, bench_due}
use Rattle.calls.proofs.Benched.{benched}
use Rattle.calls.proofs.Clauses.{play-clauses}
use Rattle.opening_c.proofs.Taken.{taken_played}
use Rattle.opening_c.proofs.Told.{tells}
use Rattle.opening_c.proofs.opening_due.Goals as goal

-- a mask of two bytes, as one of eight
widened : (due answer : OrRefusal ℕ) → MatchResult due (λ n. IsOkAnd answer (λ x. x ≡ n)) (λ r. answer ≡ Err r)
    → answer ≡ due
widened (Ok n) (Ok x) h = ap (λ (y : ℕ). Ok y) h
widened (Ok n) (Err r) h = absurd h
widened (Err r) answer h = h

pub returns : goal.returns
returns c =
    let sheet = c.args.sheet.now in
    let b = c.args.table.now in
    let m = c.args.minute in
    let text = c.args.heard.now in
    let minutes = c.as_slice.ensures ∙ c.table_of-minutes.ensures in
    let due = c.events_due_on-due.ensures.outcome
    ∙ ap (λ (t : List ℕ). events_due_on_lem sheet t m c.said-said.result.mask) minutes
    ∙ ap (events_due_on_lem sheet _ m) c.said-said.ensures ∙ taken_played b sheet m text in
    let is = c.packed.ensures ∙ ap (λ (d : OrRefusal ℕ). packed_count_lem (number_values d))
    (widened c.events_due_on-due.result c.map.result c.map.ensures.cases ∙ due) in
    let t = tells c.packed.result (number_values (bench_due sheet b m text)) is (benched.player_holds sheet b m text) in
    let w = play-clauses sheet b m text _ t.values in
    record { outcome = is; refusals = w.refusals; row = w.row; unused = t.unused }
