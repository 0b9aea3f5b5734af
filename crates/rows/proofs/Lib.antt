-- In reading order: numbers that are written; rows and tables; frames; first known times; the
-- greatest of a row.
pub mod Wrote
pub mod Gapless
pub mod Framed
pub mod FirstKnown
pub mod Greatest
