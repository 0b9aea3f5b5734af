-- How a call that writes minutes answers C.
pub mod Packed
