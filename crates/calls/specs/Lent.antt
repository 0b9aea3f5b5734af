-- How a table is handed in, and how memory is lent: as it is, or by the bench's C program, where "a table travels as
-- two bytes a minute, low byte first. For the judge an odd number of bytes is refusal 11; the solver counts the whole
-- pairs it is lent" (01, The judge's verdict).
use Rattle.std.specs.Prelude.{Bool, List, ◌++◌, ℕ, ◌*◌, ◌/◌, eqb, length, drop}
use Rattle.pairs.specs.Pairs.{minutes_of, bytes_of}

-- a table that is handed in: its minutes, and whether it has exactly so many
pub record Handed : Type 0 where
  pub minutes : List ℕ
  pub has : ℕ → Bool

abbrev pub as_minutes : List ℕ → Handed
as_minutes t = record { minutes = t; has = λ n. eqb (length t) n }

abbrev pub as_bytes : List ℕ → Handed
as_bytes b = record { minutes = minutes_of b; has = λ n. eqb (length b) (2 * n) }

-- memory that is lent: what stands in it, for how many numbers it has room, and what it is once they are written: "the
-- written part has exactly its stated contents and everything behind it is unaltered"
pub record Lent : Type 0 where
  pub before : List ℕ
  pub room : ℕ
  pub after : List ℕ → List ℕ

abbrev pub in_place_lem : List ℕ → Lent
in_place_lem m = record { before = m; room = length m; after = λ text. text ++ drop (length text) m }

abbrev pub in_pairs : List ℕ → Lent
in_pairs b = record { before = b; room = length b / 2; after = λ σ. bytes_of σ ++ drop (2 * length σ) b }
