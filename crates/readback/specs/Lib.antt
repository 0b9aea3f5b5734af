-- Read in this order: the text of a minute; which bytes are a listing, and which line is the first at fault; the lines
-- of any bytes, as the code reads them; what its functions answer.
pub mod Minute
pub mod Form
pub mod Rows
pub mod Answers
