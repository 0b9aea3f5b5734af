-- Laws of what is due: what a list tells; cases that differ only in what is not heard yet are alike; what is known was
-- due; what each list is answered; records in the order of the signals, and the list of what a case has heard;
-- examples. Then the list as a mask: bits, the bits of letters, one record at a time, the records that a mask names;
-- the code's loops; and what all this says of masks. Then the list as text, with examples.
pub mod History
pub mod Alike
pub mod WasDue
pub mod Answers
pub mod Records
pub mod HistoryOf
pub mod Examples
pub mod Bits
pub mod Letters
pub mod Fold
pub mod Again
pub mod Core
pub mod Mask
pub mod HeardText
pub mod Texts
