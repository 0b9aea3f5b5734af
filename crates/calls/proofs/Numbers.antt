-- Each public call answers by its own refusals, in checking order. Assumes nothing.
use mathlib.Core.Path.{refl}
use mathlib.Core.List.{List, []}
use Prim.Native.Nat.{ℕ}
use Rattle.std.specs.Prelude.{Ok, Err}
use Rattle.pairs.specs.Pairs.{minutes_of}
use Rattle.network.specs.declared.Network.{Network}
use Rattle.sheet.specs.Reading.{network_of}
use Rattle.dispatch.specs.Due.{due}
use Rattle.dispatch.specs.Said.{due_on}
use Rattle.dispatch.specs.HeardText.{heard_in, due_text}
use Rattle.dispatch.specs.declared.Heard.{Heard}
use Rattle.calls.specs.Values.{number_values}
use Rattle.calls.specs.Lent.{as_minutes, as_bytes, in_place_lem, in_pairs}
use Rattle.calls.specs.Calls.{no_counts, counts_of, summary_values}
use Rattle.calls.specs.Play.{events_due_lem, events_due_on_lem}
use Rattle.calls.specs.Bench.{bench_due}
use Rattle.calls.specs.Answers.{Answers}
use Rattle.calls.specs.Numbers.{minutes, bytes, plays, misnamed_by, unheard_by, misnamed_on, unheard_on, misnamed_in}
use Rattle.calls.specs.Numbers.{Numbers}
use Rattle.calls.proofs.Matched.{answers-call}
use Rattle.calls.proofs.Handed.{minutes_rightly, bytes_rightly}
use Rattle.calls.proofs.Judging.{judge-answers}
use Rattle.calls.proofs.Solving.{solver_writes}
use Rattle.calls.proofs.StopsEarly.{within_writes}
use Rattle.calls.proofs.Writing.{lister_writes, house_writes, converter_writes}
use Rattle.calls.proofs.Recovering.{recoverer-writes}
use Rattle.calls.proofs.Player.{player-answers, list-says, mask-says, text_says}
use Rattle.calls.proofs.Play.{lettered}

module _ (sheet : List ℕ) where
  abbrev net : Network
  net = network_of sheet

  player : (t : List ℕ) (m : ℕ) (hs : List Heard)
      → Answers sheet (plays (minutes t) t (misnamed_by hs) (unheard_by t m hs)) 0
      (number_values (events_due_lem sheet t m hs))
  unfolding events_due_lem
  player t m hs =
      player-answers sheet (as_minutes t) (minutes t) (λ Γ. due Γ t m hs) (misnamed_by hs) (unheard_by t m hs)
      (λ _. minutes_rightly t net) (λ a. list-says net (lettered sheet a) t m hs)

  player_on : (t : List ℕ) (m x : ℕ)
      → Answers sheet (plays (minutes t) t (misnamed_on x) (unheard_on t m x)) 0
      (number_values (events_due_on_lem sheet t m x))
  unfolding events_due_on_lem
  player_on t m x =
      player-answers sheet (as_minutes t) (minutes t) (λ Γ. due_on Γ t m x) (misnamed_on x) (unheard_on t m x)
      (λ _. minutes_rightly t net) (λ a. mask-says net (lettered sheet a) t m x)

  bench_player : (b : List ℕ) (m : ℕ) (text : List ℕ)
      → let t = minutes_of b in
      Answers sheet (plays (bytes b) t (misnamed_in text) (unheard_by t m (heard_in text))) 0
      (number_values (bench_due sheet b m text))
  unfolding bench_due
  bench_player b m text =
      player-answers sheet (as_bytes b) (bytes b) (λ Γ. due_text Γ (minutes_of b) m text) (misnamed_in text)
      (unheard_by (minutes_of b) m (heard_in text)) (λ _. bytes_rightly b net)
      (λ a. text_says net (lettered sheet a) (minutes_of b) m text)

pub numbers : Numbers
numbers = record {
  reader = λ sheet.
      answers-call summary_values no_counts Err (λ r. refl) sheet (λ _. []) (λ Γ. Ok (counts_of Γ)) []
      refl
      (λ a. tt) (λ Γ. (refl, refl));
  judge = λ sheet t. judge-answers sheet (as_minutes t) (minutes t) (λ _. minutes_rightly t (network_of sheet));
  solver = λ sheet m. solver_writes sheet (in_place_lem m);
  within = within_writes;
  lister = λ sheet t m. lister_writes sheet (as_minutes t) (minutes t) m (λ _. minutes_rightly t (network_of sheet));
  house_writer = house_writes;
  converter = converter_writes;
  recoverer = λ sheet bytes m. recoverer-writes sheet bytes (in_place_lem m);
  player = player;
  player_on = player_on;
  bench_judge = λ sheet b. judge-answers sheet (as_bytes b) (bytes b) (λ _. bytes_rightly b (network_of sheet));
  bench_solver = λ sheet b. solver_writes sheet (in_pairs b);
  bench_lister = λ sheet b m. lister_writes sheet (as_bytes b) (bytes b) m (λ _. bytes_rightly b (network_of sheet));
  bench_recoverer = λ sheet bytes b. recoverer-writes sheet bytes (in_pairs b);
  bench_player = bench_player;
}
