-- Read in this order: the listing; a line by its row of the table; how long each part is at most.
pub mod Listing
pub mod Line
pub mod Most
