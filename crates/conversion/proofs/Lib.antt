-- Laws of lines; of the sheet with `fix` read as `max`; the lines of a sheet by its contents, of which only those of
-- rules have five fields; a rule's line, and what results of rows; a former rule's row; that exactly the former sheets
-- are read; a former sheet and the one that is read, line by line: they have the same fault; the lines of a former
-- sheet; the converted sheet by its bytes, as the text of contents, and by its good tables; sheets without `fix`; a
-- former sheet and what it becomes; which rows are refused with 22, that no former sheet is as it is read, and that as
-- it stands one with `fix` is, at its first such row; how the code writes lines; and examples.
pub mod Lines
pub mod AsMax
pub mod Sections
pub mod FiveFields
pub mod TextLines
pub mod Written
pub mod Fixes
pub mod Length
pub mod Others
pub mod Expanded
pub mod FormerRow
pub mod Held
pub mod Divided
pub mod FormerLayout
pub mod LineRead
pub mod FixFields
pub mod NamesSame
pub mod LinesAlike
pub mod LineOn
pub mod Alongside
pub mod ReadInto
pub mod Given
pub mod Assembled
pub mod Bytes
pub mod Text
pub mod Results
pub mod FormerKinds
pub mod RuleHolds
pub mod Tables
pub mod Unchanged
pub mod NoFix
pub mod Accepted
pub mod Retired
pub mod Never
pub mod BeforeRules
pub mod RowsStop
pub mod Refused
pub mod Writing
pub mod Examples
