-- Where the fields of a line stand: "a field is handed back as the part of the sheet between its commas" (01, The
-- sheet).
use Rattle.std.specs.Prelude.{◌≡◌, List, [], ◌∷◌, ℕ, zero, suc, ◌+◌, ◌-◌, ◌<◌, length, get_or, take, drop}
use Rattle.text.specs.Lines.{fields, field}

-- where field k ends in its line: behind its own bytes, and the bytes and the comma of each field before it
abbrev pub end_of : ℕ → List (List ℕ) → ℕ
end_of k [] = 0
end_of zero (f ∷ fs) = length f
end_of (suc k) (f ∷ fs) = suc (length f + end_of k fs)

-- where it begins: at the front, or one past the end of the field before
abbrev pub start_of : ℕ → List (List ℕ) → ℕ
start_of zero fs = 0
start_of (suc k) fs = end_of k fs + 1

-- l has n fields, and they end there
pub record EndsAre (n : ℕ) (l ends : List ℕ) : Type 0 where
  pub counted : length (fields l) ≡ n
  pub sized : length ends ≡ n
  pub ended : (k : ℕ) → k < n → get_or ends k 0 ≡ end_of k (fields l)

-- r is field k of l, as the part of l from its start to its end
pub record FieldIs (l : List ℕ) (k : ℕ) (r : List ℕ) : Type 0 where
  pub is : r ≡ field k (fields l)
  pub part : r ≡ take (end_of k (fields l) - start_of k (fields l)) (drop (start_of k (fields l)) l)
