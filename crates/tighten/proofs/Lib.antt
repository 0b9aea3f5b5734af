-- Laws of `specs/`, in reading order: the upper bounds of the rules; the order of limits; upper bounds that have a
-- number; the tightest of a key; keys as numbers; what remains, that it is what is computed, and that it fits a sheet;
-- where the upper bounds hold; networks that agree, and which tables keep the upper bounds. Then the laws that the
-- code's proofs cite: the least of numbers; the next upper bound, by its number; those collected one after the other.
pub mod Rules
pub mod Order
pub mod Regular
pub mod Tight
pub mod Keys
pub mod Stays
pub mod Remains
pub mod Few
pub mod Kept
pub mod Agree
pub mod Tables
pub mod Least
pub mod Next
pub mod Collected
pub mod Examples
