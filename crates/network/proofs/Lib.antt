-- Laws of `specs/`, in reading order: scenarios, labels, constraints, strategies, what tells scenarios apart, the least
-- solution; names as parts of the sheet.
pub mod Scenario
pub mod Masks
pub mod Labels
pub mod Jointly
pub mod Signed
pub mod Bounds
pub mod Reach
pub mod Strategy
pub mod Told
pub mod Least
pub mod Names
pub mod Examples
