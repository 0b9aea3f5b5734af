-- Read in this order: a rule as an upper bound; which of them remain; how these are computed; a bound as a number.
pub mod Upper
pub mod Remaining
pub mod Tightest
pub mod Encoding
