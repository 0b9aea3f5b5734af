-- In reading order: a run of rounds ends at the least solution, or there is none; how many rounds it takes, and what a
-- run reaches that is stopped sooner; examples; what the loop of `run` keeps and where it ends; and what a run from all
-- zeros finds, whatever its budget.
pub mod Masked
pub mod Least
pub mod Rounds
pub mod Stopped
pub mod Examples
pub mod Underway
pub mod Solving
pub mod Within
