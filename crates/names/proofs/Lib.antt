-- Laws in reading order: searches; names, letters and labels byte by byte; labels as sums of weights, what a label
-- means, that it asks no letter both ways, and which signals a sum has.
pub mod Finds
pub mod Tokens
pub mod Labels
pub mod Satisfies
pub mod Apart
pub mod Sums
