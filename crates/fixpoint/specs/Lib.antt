-- Read in this order: the order of lists, steps, runs of a step; iterates, and how many rounds a run takes; and how a
-- run is known some rounds on: steps under which no difference grows, lists moved on, what leads where.
pub mod Order
pub mod Step
pub mod Run
pub mod Iterate
pub mod Takes
pub mod Near
pub mod Straight
pub mod Leads
