-- Laws of `specs/`, for the proofs of this crate and of those above: marks; what cells hold; lines as lines of text;
-- the listing of its two parts; its length; examples; what it says of a network. No contract cites them.
pub mod Truths
pub mod Times
pub mod Fields
pub mod Listed
pub mod Short
pub mod Examples
pub mod Same
