-- Laws of the verdict: each test decides its point; a nested search finds the first pair; a pass is a solution, and a
-- breach is the first; and examples at the edges, then of events that only some cases have.
pub mod Points
pub mod Nested
pub mod Judged
pub mod First
pub mod Examples
pub mod SomeCases
-- Laws of the code's own parts: signed differences, points 1 and 3 by times from which on propositions are known,
-- labelled loops.
pub mod Differences
pub mod Placed
pub mod Plain
pub mod Seeking
