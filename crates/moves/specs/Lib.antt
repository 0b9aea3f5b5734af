-- Read in this order: tables moved on by parts of their rises; the levels of rises.
pub mod Moves
pub mod Levels
