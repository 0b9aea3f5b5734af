-- Laws of the sheet's definitions, in reading order: a line's tests; what is left of the sheet behind a line; the
-- reading by lines and sections; what each line keeps; the lines of a section; the whole sheet; its first line at
-- fault; and examples.
pub mod Passing
pub mod Left
pub mod ReadLine
pub mod Whole
pub mod Arrays
pub mod Stages
pub mod EventStage
pub mod SignalStage
pub mod RuleStage
pub mod ReactionStage
pub mod LabelStage
pub mod FirstStage
pub mod EntriesLeft
pub mod Held
pub mod Lines
pub mod WellFormed
pub mod Sections
pub mod Order
pub mod Over
pub mod Comes
pub mod Answers
pub mod Fault
pub mod ExampleSheets
pub mod Examples
pub mod LaterExamples
