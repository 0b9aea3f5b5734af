-- Tables that rounds may go from; the next level; what is found of slices of tables.
pub mod Moves
pub mod Levels
pub mod Fronts
