-- In reading order: what holds of tables' cells holds of the strategies that they hold; where rounds from tables
-- lead; what is tested level by level is what the definitions ask; how a test goes from level to level; the leap; in
-- which round a limit is passed.
pub mod Strategies
pub mod Tables
pub mod Levels
pub mod Tested
pub mod Climbed
pub mod Hop
pub mod Passing
