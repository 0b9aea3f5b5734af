-- Read in this order: the round, point 3 and the hyperarcs, the limit of each cell; and how the code compiles
-- constraints, and makes a round.
pub mod Propagate
pub mod Hyperarcs
pub mod Cap
pub mod Compiled
pub mod Rounds
