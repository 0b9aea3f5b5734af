-- Read in this order: texts one behind the other; what a function does that writes a text; what a call does with the
-- memory that it is lent.
pub mod Joined
pub mod Pushed
pub mod HandedOut
