-- Laws, in reading order. Of the sheet: how far events have come after so many rounds, as numbers; a network that is a
-- negative cycle, one round of it, and all; that the contents of a ring keep the layout's rules, and that their network
-- is such a cycle; so the sheet is the heaviest; and how long it is at most. Of the line: that reading it answers its
-- two numbers or its fault; by its first line, which; and that it answers each exactly where it is so. Of the writer:
-- the rows of a ring, and the whole text. And examples.
pub mod Raised
pub mod NegativeCycle
pub mod Round
pub mod Rounds
pub mod Kept
pub mod Cycle
pub mod Heaviest
pub mod Length
pub mod Answers
pub mod ByLine
pub mod Exactly
pub mod Rows
pub mod Written
pub mod Examples
