-- Read in this order: strategies with one number where events do not happen; the run from all zeros, and what it
-- finds; how many rounds it takes; what a run reaches that is stopped sooner; what the solver answers, and what it does
-- within so many rounds; a run with a budget, from any floor.
pub mod Masked
pub mod Solve
pub mod Rounds
pub mod Stopped
pub mod Solved
pub mod Within
pub mod Run
