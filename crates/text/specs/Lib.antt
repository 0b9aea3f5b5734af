-- Read in this order: lines and fields, where fields stand in their line, numbers as they are read, what reading one
-- answers, numbers as they are written, digits that are such a number, and how they are counted off.
pub mod Lines
pub mod Cuts
pub mod Number
pub mod ReadNumber
pub mod Decimal
pub mod Spelled
pub mod Places
