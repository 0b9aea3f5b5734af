-- Read in this order: where rounds from a table lead; what is tested of the cells of one rise; in which round a limit
-- is passed.
pub mod Tables
pub mod Levels
pub mod Passing
