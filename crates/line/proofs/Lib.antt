-- Laws of a line's definitions, in reading order: the words of the sections; tests; where a line ends; numbers; a
-- line's refusal, a rule's, a reaction's and a label's; all labels of a sheet, and labels as bits; what a line's reader
-- answers; a line of two counts; and examples.
pub mod Words
pub mod Checks
pub mod Ends
pub mod Numbers
pub mod Refusals
pub mod RuleRefusals
pub mod ReactionRefusals
pub mod LabelRefusals
pub mod Labelling
pub mod WholeFails
pub mod Bits
pub mod Answered
pub mod TwoCounts
pub mod Examples
