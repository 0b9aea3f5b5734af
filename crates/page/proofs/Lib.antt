-- Laws of `specs/`, for the proofs of whatever writes: of texts one behind the other, of what is written behind, of a
-- loop that writes, and of lent memory.
pub mod Join
pub mod Pushed
pub mod Pushing
pub mod HandedOut
