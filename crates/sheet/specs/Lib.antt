-- The sheet. Read in this order: the whole; what is expected on each line, and the first line at fault; what holds
-- at every line; and a line's turn in the reader's loop.
pub mod Reading
pub mod Place
pub mod Fault
pub mod Stage
pub mod Turn
