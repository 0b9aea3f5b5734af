-- Read in this order: searching, counting, gathering, tests in order, bytes, lists.
pub mod Search
pub mod Options
pub mod Bounded
pub mod Gather
pub mod Checks
pub mod Bytes
pub mod Lists
