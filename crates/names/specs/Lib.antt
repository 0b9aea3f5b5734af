-- Read in this order: names, letters and labels as they are written; what they refer to; a place that was looked for;
-- and a label byte by byte.
pub mod Names
pub mod Defined
pub mod Found
pub mod Scan
