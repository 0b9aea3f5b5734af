-- Read in this order: what has been heard as a list, what a case has heard, what is due. Then the list as a mask, for
-- the code, and as text.
pub mod Heard
pub mod History
pub mod Due
pub mod Said
pub mod HeardText
