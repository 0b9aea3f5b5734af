-- A line of the sheet. Read in this order: the tests of a line, by its fields; those of all labels of a sheet; the
-- sections as the code has them, and their words; what the readers of a line answer; and the same of a line of two
-- counts.
pub mod Tests
pub mod Labelling
pub mod Sections
pub mod Words
pub mod Answers
pub mod TwoCounts
