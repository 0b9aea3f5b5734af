-- In reading order: what lists of bounds ask of a row; lists, one bound longer; the weight of a limit negated; weights
-- at their edges.
pub mod Asked
pub mod Listed
pub mod Weights
pub mod Examples
