-- Read in this order: what the last sections list; what a label asks of a signal; the form; when two are the same.
pub mod Listed
pub mod Asked
pub mod House
pub mod Same
