-- What a list in fixed memory holds: the first of its array, so many as its count says.
use Rattle.std.specs.Prelude.{List, ℕ, take}
use Rattle.counted.specs.declared.Counted.{Counted}

abbrev pub values : {T : Type 0} {N : ℕ} → Counted T N → List T
values c = take c.count c.array
