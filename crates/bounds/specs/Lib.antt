-- Read in this order: the weight of a bound; lists of bounds.
pub mod Weight
pub mod Listed
