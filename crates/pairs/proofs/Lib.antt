-- Laws of pairs of bytes and minutes.
pub mod Packing
pub mod Examples
