-- Laws of `specs/`, in reading order: the order of lists, what is within a cap, the turns of a run, where it ends, how
-- many rounds it takes, budgets; iterates, runs that their budget stops; lists moved on, what far lists tell of those
-- between, runs that go on; and the two that pass over rounds.
pub mod Order
pub mod Within
pub mod Turns
pub mod Run
pub mod Takes
pub mod Budget
pub mod Iterate
pub mod Stopped
pub mod Moved
pub mod Straight
pub mod Leads
pub mod Leap
pub mod Examples
