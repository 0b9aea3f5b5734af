-- The values of a list in fixed memory.
pub mod Values
