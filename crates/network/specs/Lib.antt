-- The model. Read in this order: the limits, how a network is built, scenarios, which events happen in them,
-- constraints, strategies, what makes a strategy a solution, the least one; labels that lack nothing, and what every
-- network that was read keeps. Then for the code: one label for a constraint and its events, and limits plus 10,080.
pub mod Limits
pub mod Build
pub mod Scenario
pub mod Happens
pub mod Constraint
pub mod Strategy
pub mod Solution
pub mod Least
pub mod Complete
pub mod WellFormed
pub mod Once
pub mod Joint
pub mod Biased
