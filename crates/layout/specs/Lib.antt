-- Read in this order: what a sheet contains; what its labels have; the rules that it keeps; how it is written, and how
-- long each part is at most; and what it means that a network holds it.
pub mod Contents
pub mod Labelled
pub mod Keeps
pub mod Layout
pub mod Most
pub mod Contains
