-- The functions of include/opening.h, which shift the values of an answer out of its eight bytes, and what it means
-- that they give back the values that went in (01, The judge's verdict: the workshop bench).
use Rattle.std.specs.Prelude.{◌≡◌, cond, ℕ, ◌-◌, ◌*◌, ◌/◌, ◌%◌, ◌^◌, min, eqb}
use Rattle.calls.specs.Values.{Values}
use Rattle.calls.specs.Within.{Reach, NoRound, Finishes, Stops}
use Rattle.calls.specs.Bench.{Finding, finding}

-- `answer >> s`, and its n lowest bits
abbrev pub shifted : ℕ → ℕ → ℕ
shifted a s = a / 2 ^ s

abbrev pub bits : ℕ → ℕ → ℕ → ℕ
bits a s n = shifted a s % 2 ^ n

abbrev pub opening_number : ℕ → ℕ
opening_number a = bits a 0 8

abbrev pub opening_line : ℕ → ℕ
opening_line a = bits a 8 16

abbrev pub opening_minutes : ℕ → ℕ
opening_minutes a = bits a 24 16

abbrev pub opening_bytes : ℕ → ℕ
opening_bytes a = bits a 24 16

abbrev pub opening_events : ℕ → ℕ
opening_events a = bits a 24 16

abbrev pub opening_word : ℕ → ℕ
opening_word a = bits a 24 8

abbrev pub opening_first : ℕ → ℕ
opening_first a = bits a 32 8

abbrev pub opening_second : ℕ → ℕ
opening_second a = bits a 40 8

abbrev pub opening_third : ℕ → ℕ
opening_third a = bits a 48 8

-- the last three bytes hold a count of rounds or, where their highest bit is set, what is left
abbrev pub opening_rounds : ℕ → ℕ
opening_rounds a = (1 - bits a 63 1) * bits a 40 23

abbrev pub opening_left : ℕ → ℕ
opening_left a = bits a 63 1 * bits a 40 23

abbrev pub opening_finished : ℕ → ℕ
opening_finished a = min 1 (opening_rounds a)

-- what these functions tell of an answer: the number, the line, and what a call tells
abbrev pub told : ℕ → Values ℕ
told a = record { number = opening_number a; line = opening_line a; value = opening_minutes a }

-- of the judge's answer
abbrev pub found : ℕ → Values Finding
found a = record {
  number = opening_number a;
  line = opening_line a;
  value = finding (opening_word a) (opening_first a) (opening_second a) (opening_third a);
}

-- how far a run came, as the last three bytes have it
abbrev pub reach_told : ℕ → Reach
reach_told a =
    cond (eqb (bits a 63 1) 1) (Stops (bits a 40 23))
    (cond (eqb (bits a 40 23) 0) NoRound (Finishes (bits a 40 23)))

-- which the functions of the header tell: whether it finished, in how many rounds, and what is left
abbrev pub finished_in : Reach → ℕ
finished_in NoRound = 0
finished_in (Finishes k) = 1
finished_in (Stops l) = 0

abbrev pub rounds_in : Reach → ℕ
rounds_in NoRound = 0
rounds_in (Finishes k) = k
rounds_in (Stops l) = 0

abbrev pub left_in : Reach → ℕ
left_in NoRound = 0
left_in (Finishes k) = 0
left_in (Stops l) = l

pub record ReachTold (a : ℕ) : Type 0 where
  pub finished : opening_finished a ≡ finished_in (reach_told a)
  pub rounds : opening_rounds a ≡ rounds_in (reach_told a)
  pub left : opening_left a ≡ left_in (reach_told a)

-- the answer a of a call other than the judge and the two that solve tells v, whichever of the three functions a caller
-- asks, and its last three bytes are 0
pub record CountHolds (a : ℕ) (v : Values ℕ) : Type 0 where
  pub values : told a ≡ v
  pub bytes : opening_bytes a ≡ v.value
  pub events : opening_events a ≡ v.value
  pub rest : shifted a 40 ≡ 0

-- the judge's, whose last byte is 0
pub record JudgeHolds (a : ℕ) (v : Values Finding) : Type 0 where
  pub values : found a ≡ v
  pub rest : shifted a 56 ≡ 0

-- the solver's, with its count of rounds k; its highest bit is 0
pub record SolverHolds (a : ℕ) (v : Values ℕ) (k : ℕ) : Type 0 where
  pub values : told a ≡ v
  pub rounds : opening_rounds a ≡ k
  pub rest : shifted a 63 ≡ 0

-- that of solving within so many rounds, with how far the run came
pub record ReachHolds (a : ℕ) (v : Values ℕ) (c : Reach) : Type 0 where
  pub values : told a ≡ v
  pub reach : reach_told a ≡ c
