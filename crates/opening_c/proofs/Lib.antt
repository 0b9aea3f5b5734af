-- Tables that come as bytes; calls that fill a table, as minutes and as pairs of bytes; and what the header tells.
pub mod Taken
pub mod Fills
pub mod Pairs
pub mod WithinPairs
pub mod Told
