-- The demands on the bench's calls hold: each is one of the laws on how a table is handed in and memory is lent, as
-- bytes. Assumes nothing.
use mathlib.Core.Path.{◌≡◌, refl, sym, ◌∙◌}
use mathlib.Core.Bool.{true}
use mathlib.Core.List.{List}
use Prim.Native.Nat.{ℕ, ◌*◌}
use borrow.Author.Tests.{eq-eqb}
use lib.ListN.{length}
use Rattle.pairs.specs.Pairs.{minutes_of}
use Rattle.network.specs.Build.{cells}
use Rattle.network.specs.declared.Network.{Network}
use Rattle.sheet.specs.Reading.{network_of, Accepts}
use Rattle.dispatch.specs.Due.{due}
use Rattle.dispatch.specs.HeardText.{is_heard_lem, heard_in, due_text}
use Rattle.dispatch.proofs.HeardText.{due-heard}
use Rattle.calls.specs.Values.{number_values}
use Rattle.calls.specs.Lent.{as_minutes, as_bytes}
use Rattle.calls.specs.Play.{events_due_lem}
use Rattle.calls.specs.Bench.{bench_due}
use Rattle.calls.specs.Numbers.{bytes}
use Rattle.calls.specs.Answers.{Reads}
use Rattle.calls.specs.Playing.{TellsRow}
use Rattle.calls.specs.Benched.{Benched}
use Rattle.calls.proofs.Handed.{bytes_rightly}
use Rattle.calls.proofs.Judging.{judge_passes, judge-breaches}
use Rattle.calls.proofs.Writing.{listing-wrote}
use Rattle.calls.proofs.Alike.{playing-alike}
use Rattle.calls.proofs.Play.{lettered}
use Rattle.calls.proofs.Playing.{playing}
use Rattle.calls.proofs.ReachFits.{header-within, reach_told_by}
use Rattle.calls.proofs.Header.{header-judge, header-solver, header-lister, header-house, header-player}
use Rattle.calls.proofs.Header.{header-converter, header-recoverer, header-ring}

module _ (sheet : List ℕ) (a : Accepts sheet) (b : List ℕ) where
  abbrev net : Network
  net = network_of sheet

  -- a table of bytes that has the right length is played as its minutes are
  played : length b ≡ 2 * cells net → (m : ℕ) (text : List ℕ) → is_heard_lem text ≡ true
      → bench_due sheet b m text ≡ events_due_lem sheet (minutes_of b) m (heard_in text)
  unfolding bench_due events_due_lem
  played e m text h =
      let t = minutes_of b in
      let right : (as_bytes b).has (cells net) ≡ (as_minutes t).has (cells net) =
      eq-eqb (length b) (2 * cells net) e
      ∙ sym (eq-eqb (length t) (cells net) ((bytes_rightly b net).sized e)) in
      playing-alike sheet (as_bytes b) (as_minutes t) (λ _. record { has = right; minutes = λ _. refl })
      (λ Γ. due_text Γ t m text)
      (λ Γ. due Γ t m (heard_in text)) (λ _ _. due-heard net t m (lettered sheet a) text h)

played_as : (sheet b : List ℕ) (Γ : Network) (m : ℕ) (text : List ℕ) → Reads sheet Γ → length b ≡ 2 * cells Γ
    → is_heard_lem text ≡ true → bench_due sheet b m text ≡ events_due_lem sheet (minutes_of b) m (heard_in text)
played_as sheet b Γ m text r = rw (← r.network) (λ e. played sheet r.accepted b e m text)

-- so it tells the row that the list has
row_told : (sheet b : List ℕ) (m : ℕ) (text : List ℕ) → is_heard_lem text ≡ true
    → TellsRow sheet (bytes b) (minutes_of b) m (heard_in text) (number_values (bench_due sheet b m text))
row_told sheet b m text formed Γ r right good s h l =
    rw (played_as sheet b Γ m text r right formed)
    (playing.due sheet (minutes_of b) m (heard_in text) Γ r good.sized good s h l)

pub benched : Benched
benched = record {
  passes = λ sheet b Γ r. rw (← r.network)
      (judge_passes sheet (as_bytes b) (bytes b) r.accepted (bytes_rightly b (network_of sheet)));
  breaches = λ sheet b Γ x r. rw (← r.network)
      (λ e. judge-breaches sheet (as_bytes b) (bytes b) r.accepted (bytes_rightly b (network_of sheet)) e x);
  lists = λ sheet b m Γ r. rw (← r.network)
      (λ e. listing-wrote sheet (as_bytes b) (bytes b) m r.accepted (bytes_rightly b (network_of sheet)) e);
  due = row_told;
  plays = played_as;
  judge_holds = header-judge;
  solver_holds = header-solver;
  within_holds = header-within;
  reach_holds = reach_told_by;
  lister_holds = header-lister;
  recoverer_holds = header-recoverer;
  house_holds = header-house;
  converter_holds = header-converter;
  ring_holds = header-ring;
  player_holds = header-player;
}
