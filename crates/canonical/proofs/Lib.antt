-- Laws of the form, in reading order: what is told by signals' letters, as a label, letter by letter, and the
-- reactions; the events with a label; what is known of an accepted sheet's network; the form keeps the layout's rules,
-- also in its labels; what is read back from it. Then the theorems: `Again` of one sheet and its form, and `Forms` of
-- two sheets. Behind them the laws that the writer's proofs cite: a section of what is gathered; a label, the
-- reactions, the labels of events and a line; the upper bounds that remain; the form.
pub mod Keyed
pub mod Signs
pub mod Listed
pub mod Slow
pub mod Labelled
pub mod Faithful
pub mod Cases
pub mod Whole
pub mod Keeping
pub mod Back
pub mod Likeness
pub mod Again
pub mod Forms
pub mod Gathered
pub mod Literals
pub mod SlowLines
pub mod CaseLines
pub mod RuleLine
pub mod Remaining
pub mod House
pub mod Examples
