-- Read in this order: what a former sheet contains and how it is written; its good tables; the lines of a sheet, and
-- which of them are `fix` rows; how the converter reads a former sheet; why one is refused; the converted sheet.
pub mod FormerSheet
pub mod FormerTables
pub mod Rows
pub mod FormerRules
pub mod FormerFault
pub mod Converted
