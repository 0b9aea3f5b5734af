-- Laws of the definitions, for the proofs of this crate and of those above: lines and scans; fields in their line,
-- and the pass that finds them; numbers as they are read; numbers as they are written, by us and by std; the
-- round trips; digits that are counted off; lines as they are written and as they are read; fields by their number;
-- examples.
pub mod Lines
pub mod Fields
pub mod Splitting
pub mod ReadNumber
pub mod ReadAs
pub mod Decimal
pub mod Displayed
pub mod RoundTrip
pub mod Counting
pub mod Numbers
pub mod Written
pub mod Tabulated
pub mod Examples
